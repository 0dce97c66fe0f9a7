use Rattle.std.proofs.Common.{◌≡◌, ℕ, ◌<◌, ◌*◌, List}
use Rattle.sha2.specs.Sha256.{hash_after}
use Rattle.sha256_lanes.specs.Keyed.{AreFour, IsKeyedTo, part}
use Rattle.sha256_lanes.proofs.beside.absorb_beside.Given as goal

-- the hash value has the blocks so far, and there are sixteen rows to come for each
abbrev pub invariant-lanes : goal.invariant-lanes
invariant-lanes l =
    ((p : List ℕ) → AreFour p l.rows → l.state ≡ hash_after l.fn.state p l.lane)
    × ((j : ℕ) → j < 4 → IsKeyedTo (part l.bytes j) j l.next l.window (16 * l.lane))
