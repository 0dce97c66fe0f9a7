use Rattle.device.proofs.Common.{DeviceCore, IsLayerWith, ap, subst, sym, ◌∙◌, ◌≡◌}
use Rattle.device.proofs.host_messages.SlotsClaimed.{asks_or_busy}
use Rattle.device.proofs.host_messages.VerifyBegins.{all_kept, verifying}
use Rattle.device.proofs.device.Device.begin_verify.Goals as goal
use Rattle.device.proofs.device.Device.begin_verify.Goals.{then-keep_area, else-keep_area}

pub returns-clause-begun : goal.returns-clause-begun
returns-clause-begun c =
    λ t claims h.
    let layer = subst (λ (d : DeviceCore). IsLayerWith d.ftl t claims) (sym c.self.view_is) h in
    let phase : c.if-keep_area.result ≡ asks_or_busy (verifying c.args.blocks) c.keep_area.result =
    elim c.if-keep_area.branch [
      | then-keep_area w ↦ w.result-is ∙ sym (ap (asks_or_busy (verifying c.args.blocks)) w.if-keep_area.true)
      | else-keep_area w ↦ w.result-is ∙ sym (ap (asks_or_busy (verifying c.args.blocks)) w.if-keep_area.false)
    ] in
    all_kept c.keep_area.new.self t claims c.args.tag c.args.key c.args.blocks c.if-keep_area.result
    c.keep_area.result (c.keep_area.ensures.described_found t layer.0)
    (c.keep_area.ensures.described_differ t layer.0) phase (c.keep_area.ensures.described t layer.0)
    (c.keep_area.ensures.claims claims layer.1)
