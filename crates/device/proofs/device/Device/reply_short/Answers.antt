use Rattle.device.proofs.Common.{Acknowledge, DeviceCore, ap, is_short_due, moved, position, sym, ◌∙◌}
use Rattle.device.proofs.described.SameDevice.{same_layer}
use Rattle.device.proofs.due_replies.ShortsDue.{hands_out}
use Rattle.device.proofs.device.Device.reply_short.Goals as goal

pub returns-clause-replied : goal.returns-clause-replied
returns-clause-replied c =
    λ yes.
    hands_out c.args.self.now c.hand_out_short.new.self _ c.frontier-frontier.result c.in-Some.index
    (λ t layer. c.frontier-frontier.ensures.described t (same_layer _ _ t c.self.view_is layer))
    (λ t count layer low. same_layer _ _ (moved t (Acknowledge count)) (sym c.self.view_is)
    (c.frontier-frontier.ensures.told t count (same_layer _ _ t c.self.view_is layer) low))
    (ap (λ (d : DeviceCore). position (is_short_due c.frontier-frontier.result) d.shorts) (sym c.self.view_is)
    ∙ (sym c.due_short.ensures.first ∙ c.in-Some.is)) c.hand_out_short.ensures.after c.hand_out_short.ensures.said
