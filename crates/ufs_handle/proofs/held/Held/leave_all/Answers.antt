use Rattle.std.proofs.Common.{◌∙◌, ◌<◌, ℕ, ap, length, sym, subst}
use Rattle.ufs_handle.specs.Kept.{HeldState}
use Rattle.ufs_handle.proofs.StoppedDies.{as_many}
use Rattle.ufs_handle.proofs.held.Held.leave_all.Goals as goal

pub leave_on-requires : goal.leave_on-requires
leave_on-requires c =
    let self = c.args.self.now in
    let index = c.loop-index.index in
    subst (λ (n : ℕ). index < n)
    (c.len-index-end.ensures ∙ c.self.inside.dies.ok.0 ∙ ap (λ (h : HeldState). length h.dies) c.self.view_is
    ∙ sym (ap (λ (h : HeldState). length h.dies) c.loop-index.invariant
    ∙ as_many self.config.pages c.args.lefts.now self.jobs index self.dies)) c.loop-index-test.true
