use Rattle.block_table.proofs.Common.{IsWord, Lives, bit_and, bit_not, is_bad_at, lives_of, subst, w64}
use Rattle.block_table.proofs.VictimWords.{bad_bits}
use Rattle.block_table.proofs.live.LivePages.bad_with_live.Goals as goal

pub returns : goal.returns
returns c =
    subst (λ (l : Lives). IsWord (is_bad_at l c.args.blocks.now) c.args.number
    (bit_and (bit_and c.word-bad.result c.word-unpinned.result) (bit_not w64 c.word.result))) c.self.view_is
    (bad_bits (lives_of c.self.inside) c.args.blocks.now c.self.inside.counts.items c.self.inside.unpinned_with
    c.self.inside.unpinned c.args.number c.word-bad.result c.word-unpinned.result c.word.result
    c.self.invariant.whole c.self.invariant.counted c.self.invariant.by_count c.self.invariant.unpinned
    c.word.type_inv c.word-bad.ensures c.word-unpinned.ensures c.word.ensures)
