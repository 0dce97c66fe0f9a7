use Rattle.std.proofs.Common.{◌≡◌, ◌<◌, ◌∙◌, ap, arith, get_or, length, slice_set}
use Rattle.std.proofs.lemmas.List.{get_or_default}
use Rattle.std.proofs.lemmas.List.Edits.{map_over_more}
use Rattle.task_set.specs.Tasks.{after_lost_read}
use Rattle.task_set.proofs.set.end_read.Goals as goal

pub loop-task-preserved : goal.loop-task-preserved
loop-task-preserved c =
    let i = c.loop-task.task-index in
    let f = after_lost_read c.args.tag c.args.index in
    let less : i < length c.loop-task.tasks = omega arith in
    let new = c.lose_for.new.self in
    let x = get_or c.loop-task.tasks i new in
    let is : new ≡ f x = c.lose_for.ensures
    ∙ ap f (get_or_default c.loop-task.tasks i _ new less) in
    ap (slice_set c.loop-task.tasks i) is ∙ map_over_more f c.args.tasks.now c.loop-task.tasks i x (omega arith)
    c.loop-task.invariant (get_or_default c.loop-task.tasks i new x less)
