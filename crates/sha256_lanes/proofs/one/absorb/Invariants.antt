use Rattle.std.proofs.Common.{◌≡◌, ◌≤◌, ◌*◌, ◌-◌, ◌%◌, drop}
use Rattle.sha2.specs.Sha256.{hash_after}
use Rattle.sha256_lanes.specs.Keyed.{AreFour}
use Rattle.sha256_lanes.proofs.one.absorb.Given as goal

-- the hash value has all blocks but four of those so far, and one of the two rooms has the rows of these
abbrev pub invariant-fours : goal.invariant-fours
invariant-fours l =
    (1 ≤ l.i) × (l.state ≡ hash_after l.fn.state l.bytes (4 * (l.i - 1)))
    × (l.i % 2 ≡ 1 → AreFour (drop (4 * (l.i - 1) * 64) l.bytes) l.odd)
    × (l.i % 2 ≡ 0 → AreFour (drop (4 * (l.i - 1) * 64) l.bytes) l.even)
