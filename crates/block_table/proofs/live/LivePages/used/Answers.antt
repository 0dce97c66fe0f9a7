use Rattle.block_table.proofs.Common.{IsWord, Lives, is_used_from, lives_of, subst}
use Rattle.block_table.proofs.LowestWords.{used_bits}
use Rattle.block_table.proofs.live.LivePages.used.Goals as goal

pub returns : goal.returns
returns c =
    subst (λ (l : Lives). IsWord (is_used_from l c.args.blocks.now c.args.state c.args.start) c.args.number
    c.from_bit.result) c.self.view_is
    (used_bits (lives_of c.self.inside) c.args.blocks.now c.self.inside.unpinned c.args.state c.args.start c.args.number
    c.word-so.result c.word-unpinned.result c.from_bit.result _ c.self.invariant.whole c.self.invariant.unpinned
    c.word-so.ensures c.word-unpinned.ensures c.saturating_sub.ensures c.from_bit.ensures)
