use Rattle.std.specs.Io.KnownBytes.{Appends}
use Rattle.ufsim.specs.Images.{blocks_bytes}
use Rattle.ufsim.proofs.image.write_die.Given as goal

-- the blocks so far are written
abbrev pub invariant-loop-block : goal.invariant-loop-block
invariant-loop-block g l =
    Appends (g.W.Write.contents l.fn.image) (g.W.Write.contents l.image) (blocks_bytes l.die l.block)
