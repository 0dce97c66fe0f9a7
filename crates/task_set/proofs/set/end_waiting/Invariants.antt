use Rattle.std.proofs.Common.{◌≡◌, ◌++◌, map, take, drop}
use Rattle.task_set.specs.declared.tasks.TaskEvent.TheVariants as event
use Rattle.task_set.specs.Tasks.{task_after}
use Rattle.task_set.proofs.set.end_waiting.Given as goal

abbrev pub invariant-loop-task : goal.invariant-loop-task
invariant-loop-task l =
    l.tasks ≡ map (task_after (event.Locked l.frontier)) (take l.task-index l.initial.tasks) ++ drop l.task-index l.initial.tasks
