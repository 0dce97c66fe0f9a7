use Rattle.device.proofs.described.SameDevice.{same_core}
use Rattle.device.proofs.die_calls.CallsRight.{gives_right}
use Rattle.device.proofs.device.Device.take.Goals as goal

pub returns-clause-given : goal.returns-clause-given
returns-clause-given c =
    λ s h.
    let d = same_core _ _ s c.self.view_is h in
    gives_right _ s c.args.die c.take.result c.take.new.self d
    (c.take.ensures.described s.translation d.kept.layer_kept) (c.take.ensures.claims _ d.kept.claims)
