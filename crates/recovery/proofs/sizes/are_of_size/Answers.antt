use Rattle.recovery.proofs.Common.{IsOfSize, ap, arith, length-map, map, slice_index_or, subst, sym, ℕ, ⊎_elim, ◌<◌}
use Rattle.recovery.proofs.Common.{◌∙◌, ◌≡◌, ◌≤◌}
use Rattle.std.proofs.lemmas.Bool.{cases_lt}
use Rattle.std.proofs.lemmas.List.{get_or-map}
use Rattle.recovery.proofs.sizes.are_of_size.Goals as goal

pub loop-die-preserved : goal.loop-die-preserved
loop-die-preserved g c k d h =
    let i = c.loop-die.die-index in
    let die = c.die-item.result in
    let dies = c.args.dies.now in
    let here : slice_index_or (map g.D.Die.state dies) i d ≡ g.D.Die.state die =
    get_or-map g.D.Die.state dies i die d c.loop-die-test.true ∙ ap g.D.Die.state (sym c.die-item.is) in
    ⊎_elim (λ (l : k < i). c.loop-die.invariant k d l)
    (λ (l : i ≤ k). subst
    (λ (j : ℕ). IsOfSize c.args.blocks c.args.pages (slice_index_or (map g.D.Die.state dies) j d))
    (omega (arith, h, l))
    (subst (IsOfSize c.args.blocks c.args.pages) (sym here) (c.is_of_size.ensures.sized c.if-not-is_of_size.false)))
    (cases_lt k i)

pub returns-then-not-is_of_size-clause-not_sized : goal.returns-then-not-is_of_size-clause-not_sized
returns-then-not-is_of_size-clause-not_sized g c = λ some is all.
    let i = c.loop-die.die-index in
    let die = c.die-item.result in
    let dies = c.args.dies.now in
    let state = g.D.Die.state die in
    let here : slice_index_or (map g.D.Die.state dies) i state ≡ state =
    get_or-map g.D.Die.state dies i die state c.loop-die-test.true ∙ ap g.D.Die.state (sym c.die-item.is) in
    c.is_of_size.ensures.not_sized some c.if-not-is_of_size.true
    (subst (IsOfSize c.args.blocks c.args.pages) here
    (all i state (subst (λ (n : ℕ). i < n) (sym (length-map dies g.D.Die.state)) c.loop-die-test.true)))
