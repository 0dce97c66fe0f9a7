use Rattle.std.proofs.Common.{◌≡◌, ◌+◌, ◌%◌, arith, refl}
use Rattle.sha256_lanes.proofs.LaneByLane.{window_lane_at}
use Rattle.sha256_lanes.proofs.schedule.next_word.Goals as goal

pub returns-clause-value : goal.returns-clause-value
returns-clause-value c = λ j h.
    let at : c.args.place % 16 ≡ c.args.place = omega arith in
    rw (
      at,
      c.add-word.ensures j h,
      c.add-2.ensures j h,
      c.add.ensures j h,
      c.small_sigma1.ensures j h,
      c.small_sigma0.ensures j h,
      window_lane_at j c.args.window.now ((c.args.place + 14) % 16),
      window_lane_at j c.args.window.now ((c.args.place + 9) % 16),
      window_lane_at j c.args.window.now ((c.args.place + 1) % 16),
      window_lane_at j c.args.window.now c.args.place,
    ) refl
