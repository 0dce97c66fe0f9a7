use Rattle.device.proofs.Common.{DeviceCore, IsLayerWith, ap, subst, sym, ◌∙◌, ◌≡◌}
use Rattle.task_set.specs.declared.tasks.Phase.TheVariants as phase
use Rattle.device.proofs.host_messages.SlotsClaimed.{asks_or_busy, slots_claimed}
use Rattle.device.proofs.device.Device.begin_gather.Goals as goal
use Rattle.device.proofs.device.Device.begin_gather.Goals.{then-reserve, else-reserve}

pub returns-clause-begun : goal.returns-clause-begun
returns-clause-begun c =
    λ t claims h.
    let layer = subst (λ (d : DeviceCore). IsLayerWith d.ftl t claims) (sym c.self.view_is) h in
    let asks = phase.Ask c.args.wanted in
    let phase : c.if-reserve.result ≡ asks_or_busy asks c.reserve.result = elim c.if-reserve.branch [
      | then-reserve w ↦ w.result-is ∙ sym (ap (asks_or_busy asks) w.if-reserve.true)
      | else-reserve w ↦ w.result-is ∙ sym (ap (asks_or_busy asks) w.if-reserve.false)
    ] in
    slots_claimed c.reserve.new.self t claims c.args.tag c.args.slots asks c.if-reserve.result c.reserve.result
    (c.reserve.ensures.described_found t layer.0) phase
    (λ none. (c.reserve.ensures.described t layer.0, c.reserve.ensures.claims claims layer.1 none))
