use Rattle.device.proofs.Common.{DeviceCore, ap, is_task_meant, means, position, refl, subst, sym, task_at, ◌∙◌}
use Rattle.device.proofs.managed.AllAborted.{IsOnTheWay, all_gone, begins, goes_on, not_found, rest_stays}
use Rattle.device.proofs.device.Device.abort_all.Goals as goal

pub loop-index-init : goal.loop-index-init
loop-index-init c = (refl, λ s h. begins c.args.self.now s (means c.args.meant) h)

pub loop-index-preserved : goal.loop-index-preserved
loop-index-preserved c =
    let was = c.loop-index.invariant in (
      rest_stays c.args.self.now c.loop-index.self c.abort.new.self c.in-Some.index c.task-task.result.frames c.task-task.result.region was.0
          c.abort.ensures.left,
      λ s h.
          subst (λ (d : DeviceCore). IsOnTheWay d s (means c.args.meant)) (sym c.abort.ensures.left)
          (goes_on c.loop-index.self s c.args.meant c.in-Some.index c.task-task.result c.abort.new.self.ftl (was.1 s h)
          (sym (ap (λ (d : DeviceCore). position (is_task_meant c.args.meant) d.tasks) c.self.view_is)
          ∙ sym c.in-Some.ensures.first)
          (sym (ap (λ (d : DeviceCore). task_at d.tasks c.in-Some.index) c.self.view_is) ∙ c.task-task.ensures)
          c.abort.ensures.layer),
    )

pub returns-clause-aborted : goal.returns-clause-aborted
returns-clause-aborted c =
    λ s h.
    all_gone c.loop-index.self s c.args.meant (c.loop-index.invariant.1 s h)
    (sym (ap (λ (d : DeviceCore). position (is_task_meant c.args.meant) d.tasks) c.self.view_is)
    ∙ (sym c.find.ensures.first ∙ not_found c.find.result c.in_default.not-Some))
