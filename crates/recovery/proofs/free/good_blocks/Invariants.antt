use Rattle.recovery.proofs.Common.{map, not, take, ◌≡◌}
use Rattle.recovery.proofs.free.good_blocks.Given as goal

abbrev pub invariant-loop-is_bad : goal.invariant-loop-is_bad
invariant-loop-is_bad l = l.good.items ≡ map not (take l.is_bad-index l.bad)
