use Rattle.device.proofs.Common.{ap, first_line, ℕ}
use Rattle.device.specs.Plans.{lines_now}
use Rattle.device.proofs.Common.{false, numbers_of, refl, sym, true, ◌∙◌}
use Rattle.device.proofs.described.SameDevice.{same_layer}
use Rattle.device.proofs.host_messages.CommandTable.{data_lacking, named_lacking, told_by, told_early}
use Rattle.device.proofs.device.Device.refusal.Goals as goal

pub returns-then-lacks_named-clause-what : goal.returns-then-lacks_named-clause-what
returns-then-lacks_named-clause-what c =
    λ s r h bare spec lun flags expected.
    told_early s r c.args.target.spec c.args.cdb.now spec true _ _ _ _ _ refl
    (named_lacking _ (numbers_of s) r c.args.target.lun c.args.cdb.now true
    (c.numbers-numbers.ensures.described s.translation (same_layer _ _ s.translation c.self.view_is h)) lun
    (sym c.lacks_named.ensures ∙ c.if-lacks_named.true)) refl refl refl refl refl

pub returns-then-wants_saved-clause-what : goal.returns-then-wants_saved-clause-what
returns-then-wants_saved-clause-what c =
    λ s r h bare spec lun flags expected.
    told_early s r c.args.target.spec c.args.cdb.now spec false true _ _ _ _ refl
    (named_lacking _ (numbers_of s) r c.args.target.lun c.args.cdb.now false
    (c.numbers-numbers.ensures.described s.translation (same_layer _ _ s.translation c.self.view_is h)) lun
    (sym c.lacks_named.ensures ∙ c.if-lacks_named.false))
    (sym c.wants_saved.ensures ∙ c.if-wants_saved.true) refl refl refl refl

pub returns-then-is_too_long-clause-what : goal.returns-then-is_too_long-clause-what
returns-then-is_too_long-clause-what c =
    λ s r h bare spec lun flags expected.
    told_early s r c.args.target.spec c.args.cdb.now spec false false true _ _ _ refl
    (named_lacking _ (numbers_of s) r c.args.target.lun c.args.cdb.now false
    (c.numbers-numbers.ensures.described s.translation (same_layer _ _ s.translation c.self.view_is h)) lun
    (sym c.lacks_named.ensures ∙ c.if-lacks_named.false))
    (sym c.wants_saved.ensures ∙ c.if-wants_saved.false)
    (sym (c.is_too_long.ensures.what (numbers_of s) (c.command_blocks.ensures.is s.translation h)) ∙ c.if-is_too_long.true) refl refl refl

pub returns-then-has_wrong_list-clause-what : goal.returns-then-has_wrong_list-clause-what
returns-then-has_wrong_list-clause-what c =
    λ s r h bare spec lun flags expected.
    told_early s r c.args.target.spec c.args.cdb.now spec false false false true _ _ refl
    (named_lacking _ (numbers_of s) r c.args.target.lun c.args.cdb.now false
    (c.numbers-numbers.ensures.described s.translation (same_layer _ _ s.translation c.self.view_is h)) lun
    (sym c.lacks_named.ensures ∙ c.if-lacks_named.false))
    (sym c.wants_saved.ensures ∙ c.if-wants_saved.false)
    (sym (c.is_too_long.ensures.what (numbers_of s) (c.command_blocks.ensures.is s.translation h)) ∙ c.if-is_too_long.false)
    (sym c.has_wrong_list.ensures ∙ c.if-has_wrong_list.true) refl refl

pub returns-then-lacks_data-clause-what : goal.returns-then-lacks_data-clause-what
returns-then-lacks_data-clause-what c =
    λ s r h bare spec lun flags expected.
    told_early s r c.args.target.spec c.args.cdb.now spec false false false false true _ refl
    (named_lacking _ (numbers_of s) r c.args.target.lun c.args.cdb.now false
    (c.numbers-numbers.ensures.described s.translation (same_layer _ _ s.translation c.self.view_is h)) lun
    (sym c.lacks_named.ensures ∙ c.if-lacks_named.false))
    (sym c.wants_saved.ensures ∙ c.if-wants_saved.false)
    (sym (c.is_too_long.ensures.what (numbers_of s) (c.command_blocks.ensures.is s.translation h)) ∙ c.if-is_too_long.false)
    (sym c.has_wrong_list.ensures ∙ c.if-has_wrong_list.false)
    (data_lacking s r c.args.cdb.now c.numbers-numbers.result.now c.args.target.lun c.told_count-told.result c.may_be_cut.result true
    (c.numbers-numbers.ensures.described s.translation (same_layer _ _ s.translation c.self.view_is h)) lun
    c.told_count-told.ensures c.may_be_cut.ensures (sym (c.lacks_data.ensures r flags expected) ∙ c.if-lacks_data.true)) refl

pub returns-then-is_out_of_range-clause-what : goal.returns-then-is_out_of_range-clause-what
returns-then-is_out_of_range-clause-what c =
    λ s r h bare spec lun flags expected.
    told_early s r c.args.target.spec c.args.cdb.now spec false false false false false true refl
    (named_lacking _ (numbers_of s) r c.args.target.lun c.args.cdb.now false
    (c.numbers-numbers.ensures.described s.translation (same_layer _ _ s.translation c.self.view_is h)) lun
    (sym c.lacks_named.ensures ∙ c.if-lacks_named.false))
    (sym c.wants_saved.ensures ∙ c.if-wants_saved.false)
    (sym (c.is_too_long.ensures.what (numbers_of s) (c.command_blocks.ensures.is s.translation h)) ∙ c.if-is_too_long.false)
    (sym c.has_wrong_list.ensures ∙ c.if-has_wrong_list.false)
    (data_lacking s r c.args.cdb.now c.numbers-numbers.result.now c.args.target.lun c.told_count-told.result c.may_be_cut.result false
    (c.numbers-numbers.ensures.described s.translation (same_layer _ _ s.translation c.self.view_is h)) lun
    c.told_count-told.ensures c.may_be_cut.ensures (sym (c.lacks_data.ensures r flags expected) ∙ c.if-lacks_data.false))
    (sym c.is_out_of_range.ensures.past ∙ c.if-is_out_of_range.true)

pub returns-clause-what : goal.returns-clause-what
returns-clause-what c =
    λ s r h bare spec lun flags expected.
    told_by s r c.args.target.spec c.args.cdb.now spec false false false false false false c.refusal_now.result
    (named_lacking _ (numbers_of s) r c.args.target.lun c.args.cdb.now false
    (c.numbers-numbers.ensures.described s.translation (same_layer _ _ s.translation c.self.view_is h)) lun
    (sym c.lacks_named.ensures ∙ c.if-lacks_named.false))
    (sym c.wants_saved.ensures ∙ c.if-wants_saved.false)
    (sym (c.is_too_long.ensures.what (numbers_of s) (c.command_blocks.ensures.is s.translation h)) ∙ c.if-is_too_long.false)
    (sym c.has_wrong_list.ensures ∙ c.if-has_wrong_list.false)
    (data_lacking s r c.args.cdb.now c.numbers-numbers.result.now c.args.target.lun c.told_count-told.result c.may_be_cut.result false
    (c.numbers-numbers.ensures.described s.translation (same_layer _ _ s.translation c.self.view_is h)) lun
    c.told_count-told.ensures c.may_be_cut.ensures (sym (c.lacks_data.ensures r flags expected) ∙ c.if-lacks_data.false))
    (sym c.is_out_of_range.ensures.past ∙ c.if-is_out_of_range.false)
    (ap (λ (e : ℕ). first_line (lines_now s c.args.target.spec e c.args.cdb.now)) expected
    ∙ c.refusal_now.ensures s h bare)
