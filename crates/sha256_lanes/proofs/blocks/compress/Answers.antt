use Rattle.std.proofs.Common.{◌≡◌, ℕ, List, ◌*◌, ◌∙◌, ap, arith, refl, slice_index}
use Rattle.std.proofs.lemmas.List.{length-map}
use Rattle.sha2.specs.Sha256.{add_state, compress, rounds}
use Rattle.sha2.proofs.Schedule256.{IsRoundsAt_at, IsWindow_first}
use Rattle.sha256_lanes.specs.Lanes.{lane, of_four, window_lane}
use Rattle.sha256_lanes.proofs.LaneByLane.{window_lane_at}
use Rattle.sha256_lanes.proofs.blocks.compress.Goals as goal

pub turns-init : goal.turns-init
unfolding rounds
turns-init c = λ j h.
    let b = of_four c.args.a.now c.args.b.now c.args.c.now c.args.d.now j in
    let first = lane j c.args.state.now in
    let rows = c.first_words-window.result in
    let window = IsWindow_first b (window_lane j rows)
    (omega (arith, length-map rows (λ (row : List ℕ). slice_index row j)))
    (λ k lt. window_lane_at j rows k ∙ c.first_words-window.ensures k lt j h) in
    let s1 = c.first_four_steps-v.ensures j h b first window refl in
    let s2 = c.first_four_steps-v-2.ensures j h b first window s1 in
    let s3 = c.first_four_steps-v-3.ensures j h b first window s2 in
    (window, c.first_four_steps-v-4.ensures j h b first window s3)

pub turns-preserved : goal.turns-preserved
turns-preserved c = λ j h.
    let b = of_four c.args.a.now c.args.b.now c.args.c.now c.args.d.now j in
    let first = lane j c.args.state.now in
    let s1 = c.four_steps-v.ensures j h b first (IsRoundsAt_at b first _ _ _ _ (omega arith) (c.turns.invariant j h)) in
    let s2 = c.four_steps-v-in-turns.ensures j h b first s1 in
    let s3 = c.four_steps-v-in-turns-2.ensures j h b first s2 in
    let s4 = c.four_steps-v-in-turns-3.ensures j h b first s3 in
    IsRoundsAt_at b first _ _ _ _ (omega arith) s4

pub returns : goal.returns
unfolding compress
returns c = λ j h.
    let done : 16 * c.turns.turn ≡ 64 = omega (arith, c.turns.auto.turn-end (omega arith)) in
    rw (
      c.add.ensures j h,
      c.add-2.ensures j h,
      c.add-3.ensures j h,
      c.add-4.ensures j h,
      c.add-5.ensures j h,
      c.add-6.ensures j h,
      c.add-7.ensures j h,
      c.add-8.ensures j h,
    )
    (ap (add_state (lane j c.args.state.now)) (rw done at (c.turns.invariant j h).1))
