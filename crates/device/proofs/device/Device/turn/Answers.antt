use Rattle.device.proofs.die_calls.CallsRight.{turns_right}
use Rattle.device.proofs.described.SameDevice.{same_core}
use Rattle.device.proofs.device.Device.turn.Goals as goal

pub returns-clause-stepped : goal.returns-clause-stepped
returns-clause-stepped c =
    λ s h.
    let d = same_core _ _ s c.self.view_is h in
    turns_right _ s c.turn.result c.turn.new.self d (c.turn.ensures.described_due s.translation d.kept.layer_kept)
    (c.turn.ensures.described s.translation d.kept.layer_kept) (c.turn.ensures.claims _ d.kept.claims)
