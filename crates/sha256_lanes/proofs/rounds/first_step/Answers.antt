use Rattle.std.proofs.Common.{refl, sym}
use Rattle.sha2.proofs.Schedule256.{rounds_first}
use Rattle.sha256_lanes.specs.Lanes.{lane, window_lane}
use Rattle.sha256_lanes.proofs.LaneByLane.{window_lane_at}
use Rattle.sha256_lanes.proofs.rounds.first_step.Goals as goal

pub returns : goal.returns
returns c = λ j h b first window held.
    rounds_first b first (window_lane j c.args.window.now) (lane j c.args.v) c.args.t _ _ _ c.requires window held refl
    (sym (window_lane_at j c.args.window.now c.args.t)) (c.round.ensures j h)
