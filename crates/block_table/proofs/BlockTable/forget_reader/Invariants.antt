use Rattle.block_table.proofs.Common.{◌++◌, ◌≡◌}
use Rattle.std.proofs.Common.{drop, map, take}
use Rattle.block_table.specs.Rows.{without_reader}
use Rattle.block_table.proofs.BlockTable.forget_reader.Given as goal

abbrev pub invariant-loop-row : goal.invariant-loop-row
invariant-loop-row l =
    l.row-items ≡ map (without_reader l.reader) (take l.row-index l.initial.row-items)
    ++ drop l.row-index l.initial.row-items
