use Rattle.device.proofs.Common.{DeviceCore, IsBehind, subst, sym}
use Rattle.ufs_spec.specs.Machine.{link_reset}
use Rattle.device.proofs.host_messages.EventsRight.{code_told, none_told, reset_behind}
use Rattle.device.proofs.device.Device.link_event.Goals as goal

pub returns-then-is_of_profile_0-clause-answer : goal.returns-then-is_of_profile_0-clause-answer
returns-then-is_of_profile_0-clause-answer c =
    λ t layer.
    code_told t.numbers c.is_of_profile_0.result (c.is_of_profile_0.ensures t layer) c.if-is_of_profile_0.true

pub returns-clause-answer : goal.returns-clause-answer
returns-clause-answer c =
    λ t layer.
    none_told t.numbers c.is_of_profile_0.result (c.is_of_profile_0.ensures t layer) c.if-is_of_profile_0.false

pub returns-clause-taken : goal.returns-clause-taken
returns-clause-taken c =
    λ s h.
    subst (λ (d : DeviceCore). IsBehind d (link_reset s c.args.kind)) (sym c.forget_open.ensures)
    (reset_behind c.abort_all.new.self s c.args.kind (c.abort_all.ensures.aborted s h))
