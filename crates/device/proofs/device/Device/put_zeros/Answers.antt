use Rattle.device.proofs.Common.{DeviceCore, IsLayerWith, subst, sym}
use Rattle.device.proofs.host_messages.ZerosPut.{zeros_put}
use Rattle.device.proofs.device.Device.put_zeros.Goals as goal

pub returns-clause-put : goal.returns-clause-put
returns-clause-put c = λ t claims h.
    let its = subst (λ (d : DeviceCore). IsLayerWith d.ftl t claims) (sym c.self.view_is) h in
    zeros_put c.release_behind.new.self c.accept.new.self t claims c.args.tag c.args.key c.args.count
    (c.release_behind.ensures.described t (claims c.args.tag) its.0 (its.1 c.args.tag))
    (c.release_behind.ensures.claims claims its.1) c.accept.ensures.described c.accept.ensures.claims
