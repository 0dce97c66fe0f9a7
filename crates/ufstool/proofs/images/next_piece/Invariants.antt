use Rattle.std.specs.Io.KnownBytes.{Keeps}
use Rattle.ufstool.proofs.images.next_piece.Given as goal

-- nothing was read so far
abbrev pub invariant-loop : goal.invariant-loop
invariant-loop g l = Keeps (g.R.Read.remaining l.fn.image) (g.R.Read.remaining l.image)
