use Rattle.device.proofs.Common.{DeviceCore, subst}
use Rattle.device.specs.Frames.{HasRefused}
use Rattle.device.proofs.device.Device.refuse_frames.Goals as goal

pub returns : goal.returns
returns c =
    subst (λ (d : DeviceCore). HasRefused d c.happen.new.self c.args.tag c.args.index c.args.sense) c.self.view_is
    (record {
      layer = c.release.new.self;
      released = λ t claims h. (
        c.release.ensures.described_blocks t (claims c.args.tag) h.0 (h.1 c.args.tag),
        c.release.ensures.claims claims h.1,
      );
      after_is = c.happen.ensures;
    })
