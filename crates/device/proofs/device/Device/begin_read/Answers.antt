use Rattle.device.proofs.Common.{DeviceCore, IsLayerWith, ap, subst, sym, ◌∙◌, ◌≡◌}
use Rattle.device.proofs.host_messages.SlotsClaimed.{asks_or_busy, blocks_kept}
use Rattle.device.proofs.device.Device.begin_read.Goals as goal
use Rattle.device.proofs.device.Device.begin_read.Goals.{then-keep, else-keep}

pub returns-clause-begun : goal.returns-clause-begun
returns-clause-begun c =
    λ t claims h.
    let layer = subst (λ (d : DeviceCore). IsLayerWith d.ftl t claims) (sym c.self.view_is) h in
    let phase : c.if-keep.result ≡ asks_or_busy c.args.first c.keep.result = elim c.if-keep.branch [
      | then-keep w ↦ w.result-is ∙ sym (ap (asks_or_busy c.args.first) w.if-keep.true)
      | else-keep w ↦ w.result-is ∙ sym (ap (asks_or_busy c.args.first) w.if-keep.false)
    ] in
    blocks_kept c.keep.new.self t claims c.args.tag c.args.key c.args.blocks c.args.first c.if-keep.result c.keep.result
    (c.keep.ensures.described_found t layer.0) (c.keep.ensures.described_differ t layer.0) phase
    (c.keep.ensures.described t layer.0) (c.keep.ensures.claims claims layer.1)
