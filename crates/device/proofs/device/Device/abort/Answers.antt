use Rattle.device.proofs.Common.{DeviceCore, HasLetGo, IsLayerWith, subst, sym}
use Rattle.device.proofs.device.Device.abort.Goals as goal

pub returns-clause-layer : goal.returns-clause-layer
returns-clause-layer c =
    λ t claims h.
    subst (λ (d : DeviceCore). HasLetGo d.ftl t claims c.args.task.tag) (sym c.forget_request.ensures)
    (c.let_go.ensures.layer t claims
    (subst (λ (d : DeviceCore). IsLayerWith d.ftl t claims) (sym c.self.view_is) h))
