use Rattle.device.proofs.Common.{AreClaimed, Core, DeviceCore, IsLayerWith, LetGoAll, Some, Task, ap, moved, subst, sym}
use Rattle.device.proofs.Common.{task_at, ℕ, ◌∙◌, ◌≡◌}
use Rattle.device.proofs.described.SameDevice.{same_layer}
use Rattle.device.proofs.open_tasks.OpenTasks.{stands_there}
use Rattle.device.proofs.device.Device.end_request.Goals as goal

pub returns-clause-layer : goal.returns-clause-layer
returns-clause-layer c =
    λ t claims task h at.
    let there : task_at c.args.self.now.tasks c.args.index ≡ Some c.task-task.result =
    sym (ap (λ (d : DeviceCore). task_at d.tasks c.args.index) c.self.view_is) ∙ c.task-task.ensures in
    let tag : c.task-task.result.tag ≡ task.tag =
    ap (λ (x : Task). x.tag) (stands_there c.args.self.now.tasks c.args.index c.task-task.result task there at).0 in
    let layer : IsLayerWith c.unpin.new.self (moved t (LetGoAll c.task-task.result.tag)) claims = (
      c.unpin.ensures.described t (same_layer _ _ t c.self.view_is h.0),
      c.unpin.ensures.claims claims (subst (λ (d : DeviceCore). AreClaimed d.ftl claims) (sym c.self.view_is) h.1),
    ) in
    subst (λ (x : Core). IsLayerWith x (moved t (LetGoAll task.tag)) claims)
    (sym (ap (λ (d : DeviceCore). d.ftl) c.happen.ensures))
    (subst (λ (n : ℕ). IsLayerWith c.unpin.new.self (moved t (LetGoAll n)) claims) tag layer)
