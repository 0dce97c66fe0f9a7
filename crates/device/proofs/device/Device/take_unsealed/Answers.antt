use Rattle.device.proofs.described.SameDevice.{same_core}
use Rattle.device.proofs.die_calls.CallsRight.{gives_right}
use Rattle.device.proofs.device.Device.take_unsealed.Goals as goal

pub returns-clause-given : goal.returns-clause-given
returns-clause-given c =
    λ s h.
    let d = same_core _ _ s c.self.view_is h in
    gives_right _ s c.args.die c.take_unsealed.result c.take_unsealed.new.self d
    (c.take_unsealed.ensures.described s.translation d.kept.layer_kept) (c.take_unsealed.ensures.claims _ d.kept.claims)
