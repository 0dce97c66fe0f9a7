use Rattle.recovery.proofs.Common.{AreGreatest, PagesRecord, length, ◌≡◌}
use Rattle.recovery.proofs.free.latest_of_pages.Given as goal

abbrev pub invariant-loop-page : goal.invariant-loop-page
invariant-loop-page l = record {
  long : length l.latests.items ≡ l.count;
  greatest : AreGreatest (PagesRecord l.blocks l.pages l.page-index) l.latests.items;
}
