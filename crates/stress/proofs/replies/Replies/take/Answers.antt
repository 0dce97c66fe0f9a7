use Rattle.std.proofs.Common.{◌∙◌, ◌<◌, ap, arith, length}
use Rattle.std.specs.Prelude.{Some, drop, slice_get}
use Rattle.stress.proofs.PutBy.{here, other_stays, taken_first, was}
use Rattle.stress.proofs.replies.Replies.take.Goals as goal

pub returns-clause-taken : goal.returns-clause-taken
returns-clause-taken c = λ queue is.
    let qs = c.self.inside.queues in
    let old = was (λ q. q.items) qs.items c.args.tag c.index_mut.result.now queue c.index_mut.ensures.value
    (ap (λ all. slice_get all c.args.tag) c.self.view_is ∙ is) in
    let first = taken_first c.index_mut.result.now.items c.pop_front.new.self.items c.pop_front.result
    c.pop_front.ensures.items c.pop_front.ensures.rest in
    let small = c.ranges.tag.fits in
    let all = c.self.invariant in
    let counted = qs.ok.0 in
    let less : c.args.tag < length qs.items = omega (small, all, counted, arith) in (
      first.0 ∙ ap (λ xs. slice_get xs 0) old,
      here (λ q. q.items) qs.items c.args.tag c.pop_front.new.self less ∙ ap Some (first.1 ∙ ap (drop 1) old),
    )

pub returns-clause-others : goal.returns-clause-others
returns-clause-others c = λ other differs.
    other_stays (λ q. q.items) c.self.inside.queues.items c.args.tag c.pop_front.new.self other differs
    ∙ ap (λ qs. slice_get qs other) c.self.view_is
