use Rattle.std.proofs.Common.{◌≡◌, ℕ, ◌*◌, List}
use Rattle.sha2.specs.Sha256.{rounds, schedule}
use Rattle.sha256_lanes.specs.Keyed.{AreKeyed}
use Rattle.sha256_lanes.proofs.scalar.compress.Given as goal

-- the working variables have had the rounds of the turns so far
abbrev pub invariant-turns : goal.invariant-turns
invariant-turns l =
    (b : List ℕ) → AreKeyed b l.rows l.lane → l.v ≡ rounds l.state (schedule b 48) (16 * l.turn)
