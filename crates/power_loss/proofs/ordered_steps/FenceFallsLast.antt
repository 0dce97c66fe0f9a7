-- The mark without a fence is ordered once each lost key has a durable repair, and it ends the mending.
use Rattle.power_loss.proofs.Common.{◌≡◌, ℕ, suc, ◌+◌, ◌==◌, is_none, if◌then◌else◌, true, List, [], ◌∷◌, Option, Some}
use Rattle.power_loss.proofs.Common.{None, refl, sym, ap, ◌∙◌, subst, ⊎_elim, arith, Mark, MarkPage, Programming}
use Rattle.power_loss.proofs.Common.{EndJob, WentWell, end_flight, mending_after, moved, IsFirstFence, MarkStep}
use Rattle.power_loss.proofs.Common.{MayTake, Mended, Mending, OrderMark, Repairing, Step, StepKind, Translation}
use Rattle.power_loss.proofs.Common.{Unmarked, due_order, has_mark_number, is_mended, next_order, stepped, taken}
use Rattle.power_loss.proofs.Common.{turned, Fence, Key, Place, none-some, eqb-self, cond-true, IsPlainMark, book}
use Rattle.power_loss.proofs.Common.{last_number, IsLastRepair, StaleRight, StepKindRight, Valid, ◌&&◌, false, not}
use Rattle.ufs_spec.specs.Translation.{has_stale}
use Rattle.power_loss.proofs.collected_blocks.FewestLivePages.{stale_shown}
use Rattle.power_loss.proofs.stops.LeftCells.{same_mark}
use Rattle.power_loss.proofs.jobs.JobsBegin.{takes_program}
use Rattle.power_loss.proofs.books.LayerParts.{MendingOf}

-- A mark that flies

-- nothing is lost where the first mark has no fence
none_lost : (t : Translation) (fence : Option Fence) {m : Mark} → fence ≡ None → m.fence ≡ None →
    IsFirstFence t.ledger.newest t.ledger.first_lost t.ledger.greatest_seen fence → IsPlainMark (book t) m
none_lost t None e none f =
    record {
      none = none;
      repaired = λ n i page l is. absurd (let x = l.from in let y = l.to in let z = f.1 in
          omega arith);
    }
none_lost t (Some fence) e none f = absurd (none-some fence (sym e))

flying : (t : Translation) (w : Mending) (die : ℕ) (p : Place) (m : Mark) → MendingOf t w →
    t.disk.flights die ≡ Some (Programming p (MarkPage m)) → m.fence ≡ None → IsPlainMark (book t) m
flying t (Unmarked fence lost) die p m u job none =
    let f = u.flies die p (MarkPage m) job in
    none_lost t fence (sym f.2.fence_is ∙ ap (λ (x : Mark). x.fence) (sym (same_mark m f.0 f.1)) ∙ none) none
    u.fence_right
flying t (Repairing left) die p m r job none = (r.right.flies die p m job).plain
flying t Mended die p m r job none = (r.right.flies die p m job).plain

pub given : (t : Translation) (die : ℕ) (p : Place) (m : Mark) → Valid t →
    MayTake t die (Some (Programming p (MarkPage m))) → m.fence ≡ None → IsPlainMark (book t) m
given t die p m v may none = flying (taken t die (Programming p (MarkPage m))) t.work.mending die p m
    (takes_program t die p (MarkPage m) v may).mending
    (cond-true (die == die) (Some (Programming p (MarkPage m))) (t.disk.flights die) (eqb-self die)) none

-- The order of the last mark

pub not_before : (t : Translation) (key : Key) (left : List Key) (number : ℕ) (fence : Option Fence) (step : Step) →
    Valid t → t.work.mending ≡ Repairing (key ∷ left) → t.work.step ≡ Some step → step.kind ≡ MarkStep number fence → ⊥
not_before t key left number fence step v w is kind =
    let r : StepKindRight (book t) t.ledger.marks t.disk.cells (Repairing (key ∷ left)) t.work.plan
    (MarkStep number fence) =
    subst (λ (x : Mending × StepKind). StepKindRight (book t) t.ledger.marks t.disk.cells x.0 t.work.plan x.1)
    (λ j. (w j, kind j)) (v.step.kind step is) in
    some_key key left r.fence_right.1
  where
    some_key : (key : Key) (left : List Key) → key ∷ left ≡ [] → ⊥
    some_key key left e = cc

repairing : {t : Translation} (left : List Key) → Valid t → t.work.mending ≡ Repairing left →
    MendingOf t (Repairing left)
repairing {t} left v w = subst (MendingOf t) w v.mending

pub durable : (t : Translation) → Valid t → t.work.mending ≡ Repairing [] → t.work.step ≡ None →
    t.ledger.frontier ≡ last_number (book t)
durable t v w none = ⊎_elim (λ e. e)
    (λ (e : (suc t.ledger.frontier ≡ last_number (book t)) × IsLastRepair (book t) t.work.step).
    absurd (none-some _ (sym none ∙ e.1.2))) (repairing [] v w).more.under_way

pub ordered : (t : Translation) → Valid t → t.work.mending ≡ Repairing [] → t.work.step ≡ None →
    has_mark_number t ≡ true →
    (turned t).work.step ≡ Some (record { kind = MarkStep (t.ledger.marks + 1) None; there = true })
ordered t v w none more =
    let fresh : has_stale t ≡ false = stale_shown t
    (λ s inside free. subst (StaleRight t.numbers t.disk.blocks t.disk.vacancies t.work.step) w v.stale s inside.die
    inside.block free) in
    let e : due_order t ≡ Some (OrderMark None) =
    (λ j. if is_none (none j) && not (fresh j) then next_order t (w j) t.work.plan else None)
    ∙ cond-true (has_mark_number t) (Some (OrderMark None)) None more in
    ap (λ o. (stepped t o).work.step) e

-- Its program

ended : (t : Translation) (w : Mending) (die : ℕ) (p : Place) (m : Mark) → MendingOf t w →
    t.disk.flights die ≡ Some (Programming p (MarkPage m)) → m.fence ≡ None → is_mended (mending_after w) ≡ true
ended t (Unmarked None lost) die p m u job none = refl
ended t (Unmarked (Some fence) lost) die p m u job none =
    let f = u.flies die p (MarkPage m) job in
    absurd (none-some fence (sym none ∙ ap (λ (x : Mark). x.fence) (same_mark m f.0 f.1) ∙ f.2.fence_is))
ended t (Repairing left) die p m u job none = refl
ended t Mended die p m u job none = refl

pub ends : (t : Translation) (die : ℕ) (p : Place) (m : Mark) → Valid t →
    t.disk.flights die ≡ Some (Programming p (MarkPage m)) → m.fence ≡ None →
    is_mended (moved t (EndJob die WentWell)).work.mending ≡ true
ends t die p m v job none =
    ap (λ f. is_mended (end_flight t die f WentWell).work.mending) job ∙ ended t t.work.mending die p m v.mending job
    none
