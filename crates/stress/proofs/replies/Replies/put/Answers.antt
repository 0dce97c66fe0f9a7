use Rattle.std.proofs.Common.{◌≢◌, ◌∙◌, ◌<◌, ◌++◌, ◌∷◌, [], ap, arith, length, map, slice_set, sym, subst}
use Rattle.std.specs.Prelude.{Some, slice_get, slice_index}
use Rattle.stress.proofs.PutBy.{here, other_stays, pushed, was}
use Rattle.stress.proofs.replies.Replies.put.Goals as goal

pub returns-then-is_err-clause-others : goal.returns-then-is_err-clause-others
returns-then-is_err-clause-others c = λ other differs.
    let tag = c.tag_of-tag.ensures ∙ ap (λ bs. slice_index bs 3) c.as_slice.ensures.value in
    other_stays (λ q. q.items) c.self.inside.queues.items c.tag_of-tag.result c.push_back.new.self other
    (subst (λ t. other ≢ t) (sym tag) differs)
    ∙ ap (λ qs. slice_get qs other) c.self.view_is

pub returns-clause-put : goal.returns-clause-put
returns-clause-put c = λ queue is.
    let qs = c.self.inside.queues in
    let tag = c.tag_of-tag.ensures ∙ ap (λ bs. slice_index bs 3) c.as_slice.ensures.value in
    let old = was (λ q. q.items) qs.items c.tag_of-tag.result c.index_mut.result.now queue c.index_mut.ensures.value
    (ap (λ all. slice_get all c.tag_of-tag.result) c.self.view_is
    ∙ ap (λ t. slice_get c.args.self.now t) tag ∙ is) in
    let put = pushed c.push_back.result c.index_mut.result.now.items c.push_back.new.self.items c.args.reply
    c.push_back.ensures.items (sym c.is_err.ensures.value ∙ c.if-is_err.false) in
    let small = c.tag_of-tag.type_inv in
    let all = c.self.invariant in
    let counted = qs.ok.0 in
    let less : c.tag_of-tag.result < length qs.items = omega (small, all, counted, arith) in
    ap (λ t. slice_get (map (λ q. q.items) (slice_set qs.items c.tag_of-tag.result c.push_back.new.self)) t) (sym tag)
    ∙ here (λ q. q.items) qs.items c.tag_of-tag.result c.push_back.new.self less
    ∙ ap Some (put ∙ ap (λ xs. xs ++ c.args.reply ∷ []) old)

pub returns-clause-others : goal.returns-clause-others
returns-clause-others c = λ other differs.
    let tag = c.tag_of-tag.ensures ∙ ap (λ bs. slice_index bs 3) c.as_slice.ensures.value in
    other_stays (λ q. q.items) c.self.inside.queues.items c.tag_of-tag.result c.push_back.new.self other
    (subst (λ t. other ≢ t) (sym tag) differs)
    ∙ ap (λ qs. slice_get qs other) c.self.view_is
