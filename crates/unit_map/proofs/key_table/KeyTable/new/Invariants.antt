use Rattle.unit_map.specs.Tables.{IsTableOf}
use Rattle.unit_map.proofs.key_table.KeyTable.new.Given as goal

abbrev pub invariant-loop-index : goal.invariant-loop-index
invariant-loop-index l = IsTableOf l.numbers l.places l.index l.table
