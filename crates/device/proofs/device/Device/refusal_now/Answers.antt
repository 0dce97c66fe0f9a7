use Rattle.device.proofs.Common.{ap}
use Rattle.ufs_spec.specs.Refusals.{is_crowded}
use Rattle.device.proofs.Common.{false, refl, sym, true, ◌∙◌}
use Rattle.device.proofs.host_messages.CommandTable.{now_told}
use Rattle.device.proofs.device.Device.refusal_now.Goals as goal

pub returns-then-is_too_early : goal.returns-then-is_too_early
returns-then-is_too_early c =
    λ s h bare.
    now_told s c.args.unit c.args.expected c.args.cdb.now true _ _ _ _ _
    (sym (c.is_too_early.ensures s h) ∙ c.if-is_too_early.true) refl refl refl refl refl

pub returns-then-is_refused_write : goal.returns-then-is_refused_write
returns-then-is_refused_write c =
    λ s h bare.
    now_told s c.args.unit c.args.expected c.args.cdb.now false true _ _ _ _
    (sym (c.is_too_early.ensures s h) ∙ c.if-is_too_early.false)
    (sym (c.is_refused_write.ensures s h bare) ∙ c.if-is_refused_write.true) refl refl refl refl

pub returns-then-fails_test : goal.returns-then-fails_test
returns-then-fails_test c =
    λ s h bare.
    now_told s c.args.unit c.args.expected c.args.cdb.now false false true _ _ _
    (sym (c.is_too_early.ensures s h) ∙ c.if-is_too_early.false)
    (sym (c.is_refused_write.ensures s h bare) ∙ c.if-is_refused_write.false)
    (sym (c.fails_test.ensures s h) ∙ c.if-fails_test.true) refl refl refl

pub returns-then-lacks_response : goal.returns-then-lacks_response
returns-then-lacks_response c =
    λ s h bare.
    now_told s c.args.unit c.args.expected c.args.cdb.now false false false true _ _
    (sym (c.is_too_early.ensures s h) ∙ c.if-is_too_early.false)
    (sym (c.is_refused_write.ensures s h bare) ∙ c.if-is_refused_write.false)
    (sym (c.fails_test.ensures s h) ∙ c.if-fails_test.false)
    (sym (c.lacks_response.ensures s bare) ∙ c.if-lacks_response.true) refl refl

pub returns-then-has_other_response : goal.returns-then-has_other_response
returns-then-has_other_response c =
    λ s h bare.
    now_told s c.args.unit c.args.expected c.args.cdb.now false false false false true _
    (sym (c.is_too_early.ensures s h) ∙ c.if-is_too_early.false)
    (sym (c.is_refused_write.ensures s h bare) ∙ c.if-is_refused_write.false)
    (sym (c.fails_test.ensures s h) ∙ c.if-fails_test.false)
    (sym (c.lacks_response.ensures s bare) ∙ c.if-lacks_response.false)
    (sym (c.has_other_response.ensures s bare) ∙ c.if-has_other_response.true) refl

pub returns-then-is_crowded : goal.returns-then-is_crowded
returns-then-is_crowded c =
    λ s h bare.
    now_told s c.args.unit c.args.expected c.args.cdb.now false false false false false true
    (sym (c.is_too_early.ensures s h) ∙ c.if-is_too_early.false)
    (sym (c.is_refused_write.ensures s h bare) ∙ c.if-is_refused_write.false)
    (sym (c.fails_test.ensures s h) ∙ c.if-fails_test.false)
    (sym (c.lacks_response.ensures s bare) ∙ c.if-lacks_response.false)
    (sym (c.has_other_response.ensures s bare) ∙ c.if-has_other_response.false)
    (ap (is_crowded s) (sym c.brought.ensures) ∙ sym (c.is_crowded.ensures s h bare) ∙ c.if-is_crowded.true)

pub returns : goal.returns
returns c =
    λ s h bare.
    now_told s c.args.unit c.args.expected c.args.cdb.now false false false false false false
    (sym (c.is_too_early.ensures s h) ∙ c.if-is_too_early.false)
    (sym (c.is_refused_write.ensures s h bare) ∙ c.if-is_refused_write.false)
    (sym (c.fails_test.ensures s h) ∙ c.if-fails_test.false)
    (sym (c.lacks_response.ensures s bare) ∙ c.if-lacks_response.false)
    (sym (c.has_other_response.ensures s bare) ∙ c.if-has_other_response.false)
    (ap (is_crowded s) (sym c.brought.ensures) ∙ sym (c.is_crowded.ensures s h bare) ∙ c.if-is_crowded.false)
