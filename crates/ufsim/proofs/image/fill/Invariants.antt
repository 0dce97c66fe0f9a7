use Rattle.std.proofs.Common.{◌≡◌, ◌≤◌, length, take}
use Rattle.std.specs.Io.KnownBytes.{Consumes}
use Rattle.ufsim.proofs.image.fill.Given as goal

-- what was read so far stands at the front
abbrev pub invariant-loop : goal.invariant-loop
invariant-loop g l =
    (length l.into ≡ length l.fn.into) × (l.at ≤ length l.into)
    × Consumes (g.R.Read.remaining l.fn.image) (g.R.Read.remaining l.image) (take l.at l.into)
