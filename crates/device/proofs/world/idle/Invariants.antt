use Rattle.device.proofs.Common.{None, replicate, ◌≡◌}
use Rattle.device.proofs.world.idle.Given as goal

abbrev pub invariant-loop : goal.invariant-loop
invariant-loop l = l.all.items ≡ replicate l.counter None
