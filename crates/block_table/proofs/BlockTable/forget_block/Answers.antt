use Rattle.block_table.proofs.Common.{rules}
use Rattle.std.proofs.lemmas.List.{get_or_default}
use Rattle.std.proofs.lemmas.List.Edits.{map_over_more}
use Rattle.block_table.specs.Rows.{without_block}
use Rattle.block_table.proofs.BlockTable.forget_block.Goals as goal

pub loop-row-preserved : goal.loop-row-preserved
loop-row-preserved c =
    let before = c.deref_mut-row-items.result.now in
    let step = without_block c.args.reader c.args.index in
    let more = map_over_more step before c.loop-row.row-items c.loop-row.row-index in
    search (rules, more, get_or_default)
