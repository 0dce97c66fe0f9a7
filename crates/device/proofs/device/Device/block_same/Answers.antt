use Rattle.device.proofs.Common.{DeviceCore, IsLayerWith, LetGo, WantPage, moved, subst, sym, ◌+◌}
use Rattle.device.proofs.device.Device.block_same.Goals as goal

pub returns-clause-layer : goal.returns-clause-layer
returns-clause-layer c =
    λ t claims h.
    let its = subst (λ (d : DeviceCore). IsLayerWith d.ftl t claims) (sym c.self.view_is) h in
    subst
    (λ (d : DeviceCore). IsLayerWith d.ftl
    (moved (moved t (LetGo c.args.tag c.args.compared)) (WantPage c.args.tag (c.args.compared + 1))) claims)
    (sym c.happen.ensures) (c.want_next.ensures.described t its.0, c.want_next.ensures.claims claims its.1)
