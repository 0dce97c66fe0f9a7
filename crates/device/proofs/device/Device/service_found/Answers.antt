use Rattle.device.proofs.Common.{DeviceCore, ap, is_some, is_task_meant, list_any, ◌∙◌}
use Rattle.ufs_spec.specs.Management.{service_found}
use Rattle.device.proofs.managed.FirstMeant.{any_found}
use Rattle.device.proofs.device.Device.service_found.Goals as goal

pub returns-in-Some : goal.returns-in-Some
returns-in-Some c =
    ap service_found
    (ap is_some c.in-Some.ensures.first
    ∙ (any_found (is_task_meant c.args.asked) c.self.inside.set.tasks
    ∙ ap (λ (d : DeviceCore). list_any (is_task_meant c.args.asked) d.tasks) c.self.view_is))

pub returns-in-None : goal.returns-in-None
returns-in-None c =
    ap service_found
    (ap is_some c.in-None.ensures.first
    ∙ (any_found (is_task_meant c.args.asked) c.self.inside.set.tasks
    ∙ ap (λ (d : DeviceCore). list_any (is_task_meant c.args.asked) d.tasks) c.self.view_is))
