use Rattle.std.proofs.Common.{◌≡◌, ℕ, ◌<◌, List}
use Rattle.sha2.specs.Sha256.{hash_after}
use Rattle.sha256_lanes.specs.Keyed.{AreKeyed, part}
use Rattle.sha256_lanes.proofs.one.absorb_rows.Given as goal

-- the hash value has the blocks so far
abbrev pub invariant-lanes : goal.invariant-lanes
invariant-lanes l =
    (p : List ℕ) → ((j : ℕ) → j < l.count → AreKeyed (part p j) l.rows j)
    → l.state ≡ hash_after l.fn.state p l.lane
