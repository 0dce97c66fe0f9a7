use Rattle.row_messages.specs.RowShape.{HasRowShape}
use Rattle.test_lower.proofs.plain_rows.after_writes.Given as goal

abbrev pub invariant-loop-address : goal.invariant-loop-address
invariant-loop-address g l = HasRowShape l.plain
