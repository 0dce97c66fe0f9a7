use Rattle.device.proofs.host_messages.FaultsHeard.{code_right, read_right}
use Rattle.device.proofs.device.Device.told.Goals as goal

pub returns-then-is_unknown : goal.returns-then-is_unknown
returns-then-is_unknown c =
    λ s h.
    let event = c.is_unknown.ensures.event c.if-is_unknown.true in
    code_right c.args.self.now s c.args.bytes.now h c.args.fault
    (c.is_unknown.ensures.zero s.translation h.kept.layer_kept c.if-is_unknown.true) event.0 event.1
    c.requires.reserved

pub returns : goal.returns
returns c =
    λ s h.
    read_right c.args.self.now s c.args.bytes.now h c.args.fault c.requires.first c.requires.reserved
    (λ none is. c.is_unknown.ensures.other s.translation h.kept.layer_kept c.if-is_unknown.false none is)
