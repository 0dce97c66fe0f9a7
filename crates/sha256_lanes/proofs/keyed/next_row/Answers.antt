use Rattle.std.proofs.Common.{◌≡◌, ◌+◌, ◌*◌, ◌∙◌, ap, arith, slice_index}
use Rattle.sha2.specs.Sha256.{add32, round_constants, schedule}
use Rattle.sha2.proofs.Schedule256.{window_word_at, window_word_place}
use Rattle.sha256_lanes.specs.Keyed.{keyed}
use Rattle.sha256_lanes.specs.Lanes.{window_lane}
use Rattle.sha256_lanes.proofs.KeyedRows.{keyed_at, rows_next, window_at_next}
use Rattle.sha256_lanes.proofs.LaneByLane.{window_lane-set}
use Rattle.sha256_lanes.proofs.keyed.next_row.Goals as goal

pub returns : goal.returns
returns c = λ j h b held.
    let turn = c.args.turn in
    let place = c.args.place in
    let t = 16 * turn + place in
    let ws = schedule b 48 in
    let w = window_lane j c.args.window.now in
    let words = c.next_word.result in
    let word : slice_index words j ≡ slice_index ws t =
    c.next_word.ensures.value j h ∙ window_word_place w turn place
    ∙ window_word_at b w t (omega arith) (omega arith) held.0 in
    let moved = ap (window_lane j) c.next_word.ensures.window ∙ window_lane-set j c.args.window.now place words in
    let row = c.row.ensures j h ∙ ap (λ x. add32 x (slice_index round_constants t)) word in (
      window_at_next b w (window_lane j c.next_word.new.window) turn place (slice_index words j)
          (omega arith) (omega arith) (omega arith) held.0 word moved,
      keyed_at b _ j (t + 1) _ (omega arith) (rows_next (keyed b) c.args.rows.now j t c.row.result (omega arith) held.1 row),
    )
