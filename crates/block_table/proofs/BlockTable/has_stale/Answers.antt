use Rattle.block_table.proofs.Common.{rules}
use Rattle.block_table.specs.Blocks.{is_stale}
use Rattle.block_table.proofs.Counts.{counted_any}
use Rattle.block_table.proofs.BlockTable.has_stale.Goals as goal

pub returns : goal.returns
returns c =
    let any = counted_any is_stale c.args.self.now.states in
    search (rules, any)
