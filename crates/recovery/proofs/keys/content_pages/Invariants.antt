use Rattle.recovery.proofs.Common.{key_total, length, shape_of_numbers, ◌≡◌}
use Rattle.recovery.proofs.key_order.Entries.{AreNewest}
use Rattle.recovery.proofs.keys.content_pages.Given as goal

abbrev pub invariant-loop-page : goal.invariant-loop-page
invariant-loop-page l = record {
  long : length l.entries.items ≡ key_total (shape_of_numbers l.numbers);
  newest : AreNewest (shape_of_numbers l.numbers) l.pages l.fence l.kept l.page-index l.entries.items;
}
