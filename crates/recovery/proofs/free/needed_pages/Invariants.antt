use Rattle.recovery.proofs.Common.{AreNeeded, length, shape_of_numbers, ◌≡◌}
use Rattle.recovery.proofs.free.needed_pages.Given as goal

abbrev pub invariant-loop-page : goal.invariant-loop-page
invariant-loop-page l = record {
  long : length l.needed.items ≡ l.page-index;
  told : AreNeeded (shape_of_numbers l.numbers) l.fence l.contents l.pages l.page-index l.needed.items;
}
