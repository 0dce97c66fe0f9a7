use Rattle.recovery.proofs.Common.{None, replicate, ◌≡◌}
use Rattle.recovery.proofs.keys.nowhere.Given as goal

abbrev pub invariant-loop : goal.invariant-loop
invariant-loop l = l.all.items ≡ replicate l.counter None
