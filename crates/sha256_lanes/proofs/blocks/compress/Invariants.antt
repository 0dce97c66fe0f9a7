use Rattle.std.proofs.Common.{ℕ, ◌<◌, ◌*◌}
use Rattle.sha2.specs.Sha256.{IsRoundsAt}
use Rattle.sha256_lanes.specs.Lanes.{lane, of_four, window_lane}
use Rattle.sha256_lanes.proofs.blocks.compress.Given as goal

-- each message has had the rounds of the turns so far
abbrev pub invariant-turns : goal.invariant-turns
invariant-turns l = (j : ℕ) → j < 4
    → IsRoundsAt (of_four l.a l.b l.c l.d j) (lane j l.state) (window_lane j l.window) (lane j l.v) (16 * l.turn)
