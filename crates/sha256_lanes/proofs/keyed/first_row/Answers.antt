use Rattle.std.proofs.Common.{◌≡◌, ◌*◌, ◌∙◌, ap, arith, slice_index, sym}
use Rattle.sha2.specs.Sha256.{add32, round_constants, word_at}
use Rattle.sha2.proofs.Schedule256.{slice_index-schedule_first}
use Rattle.sha256_lanes.specs.Keyed.{keyed, part}
use Rattle.sha256_lanes.proofs.KeyedRows.{of_parts, rows_next}
use Rattle.sha256_lanes.proofs.keyed.first_row.Goals as goal

pub returns : goal.returns
returns c = λ j h held.
    let n = c.args.place in
    let b = part c.args.bytes.now j in
    let words = c.words_at-words.result in
    let same = of_parts c.args.bytes.now _ _ _ _ c.block.ensures.bytes c.block-2.ensures.bytes c.block-3.ensures.bytes
    c.block-4.ensures.bytes j h in
    let word : slice_index words j ≡ word_at b (4 * n) =
    c.words_at-words.ensures j h ∙ ap (λ p. word_at p (4 * n)) same in
    let row =
    c.row.ensures j h ∙ ap (λ x. add32 x (slice_index round_constants n))
    (word ∙ sym (slice_index-schedule_first b 48 n c.requires.place)) in (
      rows_next (λ k. word_at b (4 * k)) c.args.window.now j n words (omega arith) held.0 word,
      rows_next (keyed b) c.args.rows.now j n c.row.result (omega arith) held.1 row,
    )
