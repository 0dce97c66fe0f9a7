use Rattle.std.proofs.Common.{◌≡◌, length, vec_capacity}
use Rattle.task_set.proofs.set.spare_bodies.Given as goal
use Rattle.ufs_spec.specs.Exchanges.{most_tasks}

abbrev pub invariant-loop : goal.invariant-loop
invariant-loop l = (length l.bodies.items ≡ l.counter) × (vec_capacity l.bodies ≡ most_tasks)
