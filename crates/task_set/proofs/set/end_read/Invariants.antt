use Rattle.std.proofs.Common.{◌≡◌, ◌++◌, map, take, drop}
use Rattle.task_set.specs.Tasks.{after_lost_read}
use Rattle.task_set.proofs.set.end_read.Given as goal

abbrev pub invariant-loop-task : goal.invariant-loop-task
invariant-loop-task l =
    l.tasks ≡ map (after_lost_read l.tag l.index) (take l.task-index l.initial.tasks) ++ drop l.task-index l.initial.tasks
