use Rattle.block_table.proofs.Common.{Bool, IsWord, Lives, ap, bit_and, bit_or, is_victim_at, lives_of, not, subst, sym}
use Rattle.block_table.proofs.Common.{◌&&◌, ◌∙◌, ◌≤◌}
use Rattle.block_table.proofs.VictimWords.{victim_bits}
use Rattle.block_table.proofs.live.LivePages.victims.Goals as goal

pub returns : goal.returns
returns c =
    subst (λ (l : Lives). IsWord (is_victim_at l c.args.blocks.now c.args.scarce c.args.count) c.args.number
    (bit_and c.word.result (bit_or c.only_if-frees.result c.only_if-saves.result))) c.self.view_is
    (victim_bits (lives_of c.self.inside) c.args.blocks.now c.args.scarce c.self.inside.counts.items
    c.self.inside.unpinned_with
    c.args.count c.args.number c.word-closed.result c.word-bad.result c.only_if-frees.result c.only_if-saves.result
    c.word.result (subst (λ (l : Lives). c.args.count ≤ l.sizes.pages) (sym c.self.view_is) c.requires.count_there)
    c.self.invariant.whole c.self.invariant.counted c.self.invariant.by_count c.word-closed.ensures c.word-bad.ensures
    (λ j. c.only_if-frees.ensures j ∙ ap (λ (b : Bool). c.args.scarce && b) (c.only_if.ensures j))
    (λ j. c.only_if-saves.ensures j ∙ ap (λ (b : Bool). not c.args.scarce && b) (c.only_if-2.ensures j)) c.word.ensures)
