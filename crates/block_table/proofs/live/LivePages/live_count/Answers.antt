use Rattle.block_table.proofs.Common.{arith, lives_of, spot, sym, ◌∙◌}
use Rattle.block_table.proofs.LiveCounts.{counts_none, count_inside, count_read}
use Rattle.block_table.proofs.live.LivePages.live_count.Goals as goal

pub returns-then-not-has_block : goal.returns-then-not-has_block
returns-then-not-has_block c =
    sym (counts_none c.args.self.now (spot c.args.die c.args.block) (sym c.has_block.ensures ∙ c.if-not-has_block.true))

pub index-requires : goal.index-requires
index-requires c =
    let h = count_inside (lives_of c.self.inside) c.args.self.now c.self.inside.counts.items
    (spot c.args.die c.args.block) c.block_place.result c.self.view_is c.self.invariant.counted
    (sym c.has_block.ensures ∙ c.if-not-has_block.false) c.block_place.ensures in
    omega (arith, c.self.inside.counts.ok.0)

pub returns : goal.returns
returns c =
    count_read (lives_of c.self.inside) c.args.self.now c.self.inside.counts.items
    (spot c.args.die c.args.block) c.block_place.result c.index.result.now c.self.view_is c.self.invariant.counted
    (sym c.has_block.ensures ∙ c.if-not-has_block.false) c.block_place.ensures c.index.ensures
