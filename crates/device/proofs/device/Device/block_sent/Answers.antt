use Rattle.device.proofs.described.SameDevice.{same_layer}
use Rattle.device.proofs.device.Device.block_sent.Goals as goal

pub returns-clause-one : goal.returns-clause-one
returns-clause-one c =
    λ t h. same_layer c.happen.new.self _ _ c.happen.ensures
    (c.want_next.ensures.described t (same_layer _ _ t c.self.view_is h))
