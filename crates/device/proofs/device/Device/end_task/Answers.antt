use Rattle.device.proofs.described.SameDevice.{same_layer}
use Rattle.device.proofs.device.Device.end_task.Goals as goal

pub returns-clause-all : goal.returns-clause-all
returns-clause-all c = λ t h. c.unpin.ensures.described t (same_layer _ _ t c.self.view_is h)

pub returns-clause-told : goal.returns-clause-told
returns-clause-told c =
    λ t count h allowed. c.unpin.ensures.described_told t count (same_layer _ _ t c.self.view_is h) allowed
