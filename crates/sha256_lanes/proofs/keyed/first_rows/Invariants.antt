use Rattle.std.proofs.Common.{ℕ, ◌<◌}
use Rattle.sha256_lanes.specs.Keyed.{IsFirstTo, part}
use Rattle.sha256_lanes.proofs.keyed.first_rows.Given as goal

-- there are the rows so far
abbrev pub invariant-places : goal.invariant-places
invariant-places l = (j : ℕ) → j < 4 → IsFirstTo (part l.bytes j) j l.rows l.window l.place
