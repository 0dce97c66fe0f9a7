use Rattle.std.proofs.Common.{◌≡◌, ℕ, ◌<◌, ◌*◌, List}
use Rattle.sha2.specs.Sha256.{rounds, schedule}
use Rattle.sha256_lanes.specs.Keyed.{AreKeyed, IsFirstTo, part}
use Rattle.sha256_lanes.proofs.beside.compress_first.Given as goal

-- the working variables have had four rounds for each row so far
abbrev pub invariant-places : goal.invariant-places
invariant-places l =
    ((b : List ℕ) → AreKeyed b l.rows 0 → l.v ≡ rounds l.state (schedule b 48) (4 * l.place))
    × ((j : ℕ) → j < 4 → IsFirstTo (part l.bytes j) j l.next l.window l.place)
