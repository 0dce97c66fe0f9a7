use Rattle.device.proofs.Common.{sym, ◌∙◌}
use Rattle.device.proofs.host_messages.CommandsRight.{full_right, opened_right, reserved_right, used_right}
use Rattle.device.proofs.device.Device.command.Goals as goal

pub returns-then-has_attribute-clause-heard : goal.returns-then-has_attribute-clause-heard
returns-then-has_attribute-clause-heard c =
    λ s bytes h spells none.
    reserved_right c.args.self.now s c.args.flags c.args.lun c.args.tag c.args.expected c.args.cdb.now bytes h spells
    none (sym (c.has_attribute.ensures s.translation h.kept.layer_kept) ∙ c.if-has_attribute.true)

pub returns-then-is_full-clause-heard : goal.returns-then-is_full-clause-heard
returns-then-is_full-clause-heard c =
    λ s bytes h spells none.
    full_right c.args.self.now s c.args.flags c.args.lun c.args.tag c.args.expected c.args.cdb.now bytes h spells none
    _ _ (sym (c.has_attribute.ensures s.translation h.kept.layer_kept) ∙ c.if-has_attribute.false)
    (sym c.is_full.ensures ∙ c.if-is_full.true) (c.open_short.ensures.answer s.translation h.kept.layer_kept)
    c.open_short.ensures.refused
    c.open_short.ensures.after

pub returns-then-uses-clause-heard : goal.returns-then-uses-clause-heard
returns-then-uses-clause-heard c =
    λ s bytes h spells none.
    used_right c.args.self.now s c.args.flags c.args.lun c.args.tag c.args.expected c.args.cdb.now bytes h spells none
    (sym (c.has_attribute.ensures s.translation h.kept.layer_kept) ∙ c.if-has_attribute.false)
    (sym c.is_full.ensures ∙ c.if-is_full.false)
    (sym (c.uses.ensures s.translation h.kept.layer_kept) ∙ c.if-uses.true)

pub returns-clause-heard : goal.returns-clause-heard
returns-clause-heard c =
    λ s bytes h spells none.
    opened_right c.args.self.now s c.args.flags c.args.lun c.args.tag c.args.expected c.args.cdb.now bytes h spells
    none _ (sym (c.has_attribute.ensures s.translation h.kept.layer_kept) ∙ c.if-has_attribute.false)
    (sym c.is_full.ensures ∙ c.if-is_full.false)
    (sym (c.uses.ensures s.translation h.kept.layer_kept) ∙ c.if-uses.false) c.open_task.ensures
