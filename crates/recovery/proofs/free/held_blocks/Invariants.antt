use Rattle.recovery.proofs.Common.{AreHeld}
use Rattle.recovery.proofs.free.held_blocks.Given as goal

abbrev pub invariant-loop-mark : goal.invariant-loop-mark
invariant-loop-mark l = AreHeld l.blocks l.bad l.marks l.mark-index l.number l.held.items
