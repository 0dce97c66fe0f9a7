use Rattle.device.proofs.Common.{arith, sym, ◌∙◌}
use Rattle.device.specs.Replies.{is_verified}
use Rattle.device.proofs.due_replies.AllVerified.{all_pass, each_more, one_fails}
use Rattle.device.proofs.device.Device.are_verified.Goals as goal

pub loop-index-init : goal.loop-index-init
loop-index-init c = λ t k h low. absurd (omega arith)

pub loop-index-preserved : goal.loop-index-preserved
loop-index-preserved c =
    λ t k h low.
    each_more (is_verified t c.args.tag) c.loop-index.index (λ j before. c.loop-index.invariant t j h before)
    (sym (c.is_verified.ensures t h) ∙ c.if-not-is_verified.false) k low

pub returns-then-not-is_verified : goal.returns-then-not-is_verified
returns-then-not-is_verified c =
    λ t h.
    sym (one_fails (is_verified t c.args.tag) c.args.blocks c.loop-index.index c.loop-index-test.true
    (sym (c.is_verified.ensures t h) ∙ c.if-not-is_verified.true))

pub returns : goal.returns
returns c =
    λ t h.
    sym (all_pass (is_verified t c.args.tag) c.args.blocks
    (λ k low. let over = c.loop-index-test.false in c.loop-index.invariant t k h (omega arith)))
