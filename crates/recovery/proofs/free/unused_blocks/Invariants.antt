use Rattle.recovery.specs.Frees.{AreUnused}
use Rattle.recovery.proofs.free.unused_blocks.Given as goal

abbrev pub invariant-loop-page : goal.invariant-loop-page
invariant-loop-page l = AreUnused l.blocks l.bad l.pages l.page-index l.free.items
