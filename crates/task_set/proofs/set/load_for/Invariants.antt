use Rattle.std.proofs.Common.{◌≡◌, ◌++◌, map, take, drop}
use Rattle.task_set.specs.Tasks.{after_read}
use Rattle.task_set.proofs.set.load_for.Given as goal

abbrev pub invariant-loop-task : goal.invariant-loop-task
invariant-loop-task l =
    l.tasks ≡ map (after_read l.tag l.index l.block) (take l.task-index l.initial.tasks) ++ drop l.task-index l.initial.tasks
