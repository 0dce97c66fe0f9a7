use Rattle.std.proofs.Common.{◌<◌, ◌∙◌, List, ap, length, subst}
use Rattle.ufs_spec.specs.Dies.{DieState}
use Rattle.ufs_handle.specs.Kept.{HeldState}
use Rattle.ufs_handle.proofs.HandleCalls.{not_empty, stops_so}
use Rattle.ufs_handle.proofs.handle.Handle.stop.Goals as goal

pub returns : goal.returns
returns c =
    stops_so c.args.lefts.now c.args.self.now.value c.put-2.new.self.value c.in_ok-held.held.value
    c.deref_mut.result.now c.stop-answer.new.self c.stop-answer.result c.in_ok-held.ensures.some
    c.deref_mut.ensures.value c.put-2.ensures
    (subst (λ (ds : List DieState). 0 < length ds) (c.dies.ensures ∙ ap (λ (h : HeldState). h.dies) c.deref.ensures)
    (not_empty (length c.dies.result.now) c.is_empty.result c.is_empty.ensures c.if-is_empty.false))
    c.stop-answer.ensures.stopped c.stop-answer.ensures.refused c.stop-answer.ensures.off
