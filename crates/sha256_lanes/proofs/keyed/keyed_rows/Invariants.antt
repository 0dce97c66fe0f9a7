use Rattle.std.proofs.Common.{ℕ, ◌<◌, ◌*◌}
use Rattle.sha256_lanes.specs.Keyed.{IsKeyedTo, part}
use Rattle.sha256_lanes.proofs.keyed.keyed_rows.Given as goal

-- there are the rows of the turns so far
abbrev pub invariant-turns : goal.invariant-turns
invariant-turns l = (j : ℕ) → j < 4 → IsKeyedTo (part l.bytes j) j l.rows l.window (16 * l.turn)
