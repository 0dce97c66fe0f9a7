use Rattle.recovery.proofs.Common.{AreMarked, shape_of_numbers}
use Rattle.recovery.proofs.keys.marked_keys.Given as goal

abbrev pub invariant-loop-index : goal.invariant-loop-index
invariant-loop-index l = AreMarked (shape_of_numbers l.numbers) l.marked l.index l.keys.items
