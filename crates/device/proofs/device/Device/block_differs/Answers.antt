use Rattle.device.proofs.Common.{DeviceCore, IsLayerWith, LetGoAll, moved, subst, sym}
use Rattle.device.proofs.device.Device.block_differs.Goals as goal

pub returns-clause-layer : goal.returns-clause-layer
returns-clause-layer c =
    λ t claims h.
    let its = subst (λ (d : DeviceCore). IsLayerWith d.ftl t claims) (sym c.self.view_is) h in
    subst (λ (d : DeviceCore). IsLayerWith d.ftl (moved t (LetGoAll c.args.tag)) claims) (sym c.happen.ensures)
    (c.unpin.ensures.described t its.0, c.unpin.ensures.claims claims its.1)
