use Rattle.recovery.proofs.Common.{length, ◌≡◌}
use Rattle.recovery.specs.Frees.{AreOpening}
use Rattle.recovery.proofs.free.opening_blocks.Given as goal

abbrev pub invariant-loop-page : goal.invariant-loop-page
invariant-loop-page l = record {
  long : length l.opening.items ≡ l.count;
  opening : AreOpening l.blocks l.pages l.page-index l.marks 0 l.opening.items;
}

abbrev pub invariant-loop-mark : goal.invariant-loop-mark
invariant-loop-mark l = record {
  long : length l.opening.items ≡ l.count;
  opening : AreOpening l.blocks l.pages (length l.pages) l.marks l.mark-index l.opening.items;
}
