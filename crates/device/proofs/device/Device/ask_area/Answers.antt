use Rattle.device.proofs.Common.{Claims, DeviceCore, IsLayerWith, Translation, subst}
use Rattle.device.specs.Frames.{HasKeptArea}
use Rattle.device.proofs.described.AreaKept.{pages_kept}
use Rattle.device.proofs.device.Device.ask_area.Goals as goal

pub returns-clause-kept : goal.returns-clause-kept
returns-clause-kept c =
    subst
    (λ (d : DeviceCore). (t : Translation) (claims : Claims) → IsLayerWith d.ftl t claims →
    HasKeptArea c.keep_area.new.self t claims c.args.tag c.args.region c.args.asked) c.self.view_is
    (λ t claims h f at many may. (
      pages_kept c.keep_area.new.self t c.args.tag c.args.region c.pages_of.result c.area_key-key.result c.args.asked c.keep_area.result
          c.area_key-key.ensures c.pages_of.ensures.named c.pages_of.ensures.few (c.keep_area.ensures.described_differ t h.0)
          (c.keep_area.ensures.described_found t h.0)
          (c.keep_area.ensures.described t h.0) f at many may,
      c.keep_area.ensures.claims claims h.1,
    ))
