use Rattle.std.proofs.Common.{◌≡◌, ℕ, ◌<◌}
use Rattle.sha2.specs.Sha256.{hash_after}
use Rattle.sha256_lanes.specs.Lanes.{lane, of_four}
use Rattle.sha256_lanes.proofs.blocks.absorb.Given as goal

-- each hash value has the blocks so far
abbrev pub invariant-whole : goal.invariant-whole
invariant-whole l = (j : ℕ) → j < 4
    → lane j l.state ≡ hash_after (lane j l.fn.state) (of_four l.a l.b l.c l.d j) l.i
