use Rattle.std.proofs.Common.{◌∙◌, Some, sym}
use Rattle.page_tag.proofs.MarkRead.{no_fence, some_fence}
use Rattle.page_tag.proofs.mark_read.fence_in.Goals as goal

pub returns-then-last-eq0 : goal.returns-then-last-eq0
returns-then-last-eq0 c = λ fence n h.
    no_fence fence n c.args.body.now h (sym c.read_u64-last.ensures ∙ c.if-last-eq0.true)

pub returns : goal.returns
returns c = λ fence n h.
    (λ i. Some (record { first = c.read_u64-first.ensures i; last = c.read_u64-last.ensures i }))
    ∙ some_fence fence n c.args.body.now h (λ e. c.if-last-eq0.false (c.read_u64-last.ensures ∙ e))
