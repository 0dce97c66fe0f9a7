use Rattle.block_table.proofs.Common.{Blocks, ap, ◌%◌, ◌*◌, ◌+◌, ◌/◌, ◌∙◌}
use Rattle.block_table.proofs.States.{word_more}
use Rattle.block_table.proofs.BlockTable.word_by_states.Goals as goal

pub loop-place-preserved : goal.loop-place-preserved
loop-place-preserved c =
    word_more c.args.self.now c.args.sizes c.args.state c.args.number c.loop-place.place c.loop-place.word
    c.with_bit-word.result c.other_index-index.result c.is_so.result c.loop-place-test.true c.loop-place.invariant
    (λ some. c.other_index-index.ensures some
    ∙ ap (λ (t : Blocks). (c.args.number * 64 + c.loop-place.place) / c.args.sizes.blocks * t.sizes.blocks
    + (c.args.number * 64 + c.loop-place.place) % c.args.sizes.blocks) c.self.view_is)
    c.is_so.ensures c.with_bit-word.ensures
