use Rattle.recovery.proofs.Common.{Aged, Bool, FoundPage, HasOther, IsDecided, IsNeededIn, List, Some, arith, false}
use Rattle.recovery.proofs.Common.{get_or, length, slice_get, slice_get-get_or, subst, true, ℕ, ◌<◌, ◌∙◌, ◌≡◌, ◌⊎◌}
use Rattle.recovery.proofs.frees.Answered.{IsAnswered}
use Rattle.recovery.proofs.frees.InOrder.{all_decided, gone_now, no_block, one_decided}
use Rattle.recovery.proofs.free.free_in_order.Goals as goal

pub loop-aged-preserved : goal.loop-aged-preserved
loop-aged-preserved c =
    let order = c.args.order.now in
    let i = c.loop-aged.aged-index in
    let a = get_or order i no_block in
    let at = slice_get-get_or order i no_block c.loop-aged-test.true in
    let old = c.loop-aged.free.items in
    let new = c.answer.new.list.items in
    let given = c.is_spare-goes.result in
    let answered : IsAnswered old new a.block given =
    record { long = c.answer.ensures.long; other = c.answer.ensures.other; here = c.answer.ensures.here } in
    record {
      long = c.answer.ensures.long ∙ c.loop-aged.invariant.long;
      gone = gone_now order i a at old new given answered c.loop-aged.invariant.gone;
      decided = λ latests age rising named.
          one_decided c.args.blocks latests c.args.held.now c.args.pages.now c.args.needed.now c.args.named.now order
          age i a at old new given answered c.loop-aged.invariant.gone
          (λ on.
          subst
          (λ (xs : List Bool). (slice_get c.args.held.now a.block ≡ Some false)
          × ((j : ℕ) (e : FoundPage) →
          IsNeededIn c.args.blocks c.args.pages.now c.args.needed.now a.block j e →
          HasOther c.args.blocks c.args.named.now xs e))
          c.as_slice.ensures.value (c.is_spare-goes.ensures.goes on rising named))
          (λ off.
          subst
          (λ (xs : List Bool). (slice_get c.args.held.now a.block ≡ Some true)
          ⊎ ((j : ℕ) × (e : FoundPage)
          × IsNeededIn c.args.blocks c.args.pages.now c.args.needed.now a.block j e
          × (HasOther c.args.blocks c.args.named.now xs e → ⊥)))
          c.as_slice.ensures.value (c.is_spare-goes.ensures.stays off rising named))
          (c.loop-aged.invariant.decided latests age rising named);
    }

pub returns-clause-decided : goal.returns-clause-decided
returns-clause-decided c = λ latests age rising named.
    let order = c.args.order.now in
    let free = c.loop-aged.free.items in
    let end : c.loop-aged.aged-index ≡ length order = omega arith in
    all_decided c.args.blocks latests c.args.held.now c.args.pages.now c.args.needed.now c.args.named.now order free age
    (subst
    (λ (n : ℕ). (j : ℕ) (b : Aged) → j < n → slice_get order j ≡ Some b →
    IsDecided c.args.blocks latests c.args.held.now c.args.pages.now c.args.needed.now c.args.named.now free b.block)
    end (c.loop-aged.invariant.decided latests age rising named))
