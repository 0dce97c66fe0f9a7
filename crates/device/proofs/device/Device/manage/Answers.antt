use Rattle.device.proofs.Common.{Volatile, ap, with_short, ◌∙◌}
use Rattle.task_set.specs.declared.tasks.Short.{Short}
use Rattle.device.proofs.managed.ManagedRight.{managing_taken}
use Rattle.device.proofs.device.Device.manage.Goals as goal

pub returns-clause-taken : goal.returns-clause-taken
returns-clause-taken c =
    λ s h.
    managing_taken c.args.self.now s c.args.lun c.args.tag c.args.function c.args.meant h c.note_reset.new.self
    c.carry_out.new.self c.push_short.new.self c.function_on-managing.result c.service-service.result
    (c.function_on-managing.ensures s.translation h.kept.layer_kept) c.service-service.ensures
    (c.note_reset.ensures.left ∙ ap (λ (v : Volatile). record c.args.self.now { volatile = v })
    (c.note_reset.ensures.noted s.translation h.kept.layer_kept)) c.carry_out.ensures.carried
    (c.push_short.ensures ∙ ap (λ (x : Short). with_short c.carry_out.new.self x) c.at_once.ensures)
