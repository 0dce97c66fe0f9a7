use Rattle.std.proofs.Common.{◌∙◌, ◌<◌, ap, arith, length}
use Rattle.std.specs.Prelude.{Some, slice_get}
use Rattle.stress.proofs.PutBy.{here, other_stays}
use Rattle.stress.proofs.replies.Replies.clear.Goals as goal

pub returns-clause-cleared : goal.returns-clause-cleared
returns-clause-cleared c =
    let qs = c.self.inside.queues in
    let small = c.ranges.tag.fits in
    let all = c.self.invariant in
    let counted = qs.ok.0 in
    let less : c.args.tag < length qs.items = omega (small, all, counted, arith) in
    here (λ q. q.items) qs.items c.args.tag c.clear.new.self less ∙ ap Some c.clear.ensures.items

pub returns-clause-others : goal.returns-clause-others
returns-clause-others c = λ other differs.
    other_stays (λ q. q.items) c.self.inside.queues.items c.args.tag c.clear.new.self other differs
    ∙ ap (λ qs. slice_get qs other) c.self.view_is
