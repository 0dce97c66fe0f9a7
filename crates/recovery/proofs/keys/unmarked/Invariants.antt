use Rattle.recovery.proofs.Common.{false, replicate, ◌≡◌}
use Rattle.recovery.proofs.keys.unmarked.Given as goal

abbrev pub invariant-loop : goal.invariant-loop
invariant-loop l = l.all.items ≡ replicate l.counter false
