use Rattle.device.proofs.Common.{AreClaimed, DeviceCore, subst, sym}
use Rattle.device.proofs.described.SameDevice.{same_layer}
use Rattle.device.proofs.device.Device.let_go.Goals as goal

pub returns-clause-layer : goal.returns-clause-layer
returns-clause-layer c =
    λ t claims h.
    let claimed = subst (λ (d : DeviceCore). AreClaimed d.ftl claims) (sym c.self.view_is) h.1 in (
      c.unpin.ensures.described _
          (c.release.ensures.described_blocks t (claims c.args.tag) (same_layer _ _ t c.self.view_is h.0)
          (claimed c.args.tag)),
      c.unpin.ensures.claims _ (c.release.ensures.claims claims claimed),
    )
