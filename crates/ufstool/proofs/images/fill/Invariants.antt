use Rattle.std.proofs.Common.{◌≡◌, length, take}
use Rattle.std.specs.Io.KnownBytes.{Consumes}
use Rattle.ufstool.proofs.images.fill.Given as goal

-- the bytes up to the place were read
abbrev pub invariant-loop-place : goal.invariant-loop-place
invariant-loop-place g l =
    Consumes (g.R.Read.remaining l.fn.image) (g.R.Read.remaining l.image) (take l.place l.head)
    × (length l.head ≡ 14)
