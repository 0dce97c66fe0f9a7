use Rattle.recovery.proofs.Common.{key_total, length, shape_of_numbers, ◌≡◌}
use Rattle.recovery.proofs.key_order.LostKeys.{MarksLost}
use Rattle.recovery.proofs.keys.lost_marks.Given as goal

abbrev pub invariant-loop-page : goal.invariant-loop-page
invariant-loop-page l = record {
  long : length l.marked.items ≡ key_total (shape_of_numbers l.numbers);
  lost : MarksLost (shape_of_numbers l.numbers) l.pages l.low l.page-index l.marked.items;
}
