use Rattle.recovery.proofs.Common.{AreGreatest, FoundPage, List, PagesRecord, RecordsUpTo, length, ◌≡◌}
use Rattle.recovery.proofs.free.raise_by_marks.Given as goal

abbrev pub invariant-loop-mark : goal.invariant-loop-mark
invariant-loop-mark l = record {
  long : length l.latests.items ≡ length l.fn.latests.items;
  greatest : (pages : List FoundPage) → AreGreatest (PagesRecord l.blocks pages (length pages)) l.fn.latests.items →
      AreGreatest (RecordsUpTo l.blocks pages l.marks l.mark-index) l.latests.items;
}
