-- Until the first mark of a life is finished, exactly what the life wrote is not finished.
use Rattle.power_loss.proofs.Common.{◌≡◌, ℕ, ◌<◌, ◌≤◌, ◌⊎◌, ◌&&◌, is_none, if◌then◌else◌, Bool, true, false, List, []}
use Rattle.power_loss.proofs.Common.{◌∷◌, Option, Some, None, refl, sym, ap, ◌∙◌, inl, inr, ⊎_elim, arith, Cell, Cells}
use Rattle.power_loss.proofs.Common.{GroupPage, Mark, MarkPage, Nothing, Erasing, Flight, ForNobody, ForRest, ForStep}
use Rattle.power_loss.proofs.Common.{ForTask, Programming, Reader, Reading, Spot, erase_failed, erased, program_failed}
use Rattle.power_loss.proofs.Common.{spot_of, IsKept, IsNewestMark, fence_in, recorded_in, EndJob, Ending}
use Rattle.power_loss.proofs.Common.{IsAllowedMove, MayEnd, Move, ReadRight, ReadWrong, TakeStep, WentWell, WentWrong}
use Rattle.power_loss.proofs.Common.{die_idle, end_flight, mark_again, mending_after, moved, read_right, read_wrong}
use Rattle.power_loss.proofs.Common.{IsOpenedTranslation, lost_from, number_of, Mended, Mending, Order, OrderMark}
use Rattle.power_loss.proofs.Common.{OrderPlanMark, OrderRepair, Plan, Repairing, Translation, Unmarked, copy_begun}
use Rattle.power_loss.proofs.Common.{has_mark_number, has_number, live_places, mark_ordered, next_order, plan_order}
use Rattle.power_loss.proofs.Common.{stepped, turned, victim, victim_order, wants_collection, with_plan, Numbers, Fence}
use Rattle.power_loss.proofs.Common.{Key, Place, Tag, false≢true, true≢false, mark_not_nothing, spot_cases}
use Rattle.power_loss.proofs.Common.{at_place_cases, not, Valid}
use Rattle.power_loss.proofs.MachineWords.{IsStartRight, StartsRight, is_marked}
use Rattle.ufs_spec.specs.Translation.{has_stale}
use Rattle.power_loss.proofs.books.LayerParts.{MendingOf}
use Rattle.power_loss.proofs.jobs.StandsSecurely.{erase_left, erased_here, erased_other, program_left}
use Rattle.power_loss.proofs.stops.LeftUnmarked.{opened_below}

-- A life begins so

pub opened_start : (n : Numbers) (c : Cells) (bad : Spot → Bool) (t : Translation) → IsOpenedTranslation n c bad t →
    IsStartRight t
opened_start n c bad t o unmarked = record {
  unfinished = λ p h. absurd (true≢false (sym (o.disk.finished p) ∙ h));
  own = λ p m h newer. absurd (let l = opened_below c t.ledger.newest o.ledger.newest
      (ap (λ x. x p) (sym o.disk.cells) ∙ h) in omega arith);
  fence = λ f e. o.ledger.first_lost ∙ ap (λ z. lost_from z o.ledger.kept) e;
  none = λ e. let l = o.ledger.first_lost ∙ ap (λ z. lost_from z o.ledger.kept) e in let k =
      recorded_under t.ledger.newest o.ledger.newest o.ledger.is_kept in omega arith;
}
  where
    recorded_under : (newest : Option Mark) → IsNewestMark c newest → IsKept c newest o.ledger.kept →
        recorded_in newest ≤ o.ledger.kept
    recorded_under None is k = omega arith
    recorded_under (Some m) is k = let a = k.recorded.marks is.0.0 m is.0.1 in let b = k.above in omega arith

-- Pages may go

-- what is read of a layer
record Begun : Type 0 where
  mending : Mending
  newest : Option Mark
  low : ℕ
  finished : Place → Bool
  cells : Cells

abbrev begun : Translation → Begun
begun t = record {
  mending = t.work.mending;
  newest = t.ledger.newest;
  low = t.ledger.first_lost;
  finished = t.disk.finished;
  cells = t.disk.cells;
}

-- the first mark is no less finished, and pages may be gone
record IsLess (x y : Begun) : Type 0 where
  unmarked : is_marked y.mending ≡ false → is_marked x.mending ≡ false
  newest : y.newest ≡ x.newest
  low : y.low ≡ x.low
  finished : (p : Place) → y.finished p ≡ x.finished p
  cells : (p : Place) → (y.cells p ≡ x.cells p) ⊎ (y.cells p ≡ Nothing)

abbrev IsNotMore : Translation → Translation → Type 0
IsNotMore t u = IsLess (begun t) (begun u)

not_more : {t u : Translation} → IsNotMore t u → IsStartRight t → IsStartRight u
not_more {t} k st unmarked =
    let s = st (k.unmarked unmarked) in
    let number = ap number_of k.newest in
    record {
      unfinished = λ p h. ⊎_elim (λ e. ⊎_elim (λ z. inl (e ∙ z)) (λ z. inr (z.0, e ∙ z.1, let l = z.2 in omega arith))
          (s.unfinished p (sym (k.finished p) ∙ h))) (λ e. inl e) (k.cells p);
      own = λ p m h l. ⊎_elim (λ e. k.finished p ∙ s.own p m (sym e ∙ h) (omega arith))
          (λ e. absurd (mark_not_nothing _ _ (sym e ∙ h) refl)) (k.cells p);
      fence = λ f e. k.low ∙ s.fence f (ap fence_in (sym k.newest) ∙ e);
      none = λ e. let l = s.none (ap fence_in (sym k.newest) ∙ e) in let a = k.low in let b = ap recorded_in k.newest in
          omega arith;
    }

same : (t : Translation) → IsNotMore t t
same t = record { unmarked = λ h. h; newest = refl; low = refl; finished = λ p. refl; cells = λ p. inl refl }

-- Turns

when : (t : Translation) (test : Bool) (o : Option Order) → IsNotMore t (stepped t o) →
    IsNotMore t (stepped t (if test then o else None))
when t true o h = h
when t false o h = same t

copy_same : (t : Translation) (s : Spot) (left : List Place) (p : Place) (cell : Cell) →
    IsNotMore t (copy_begun (with_plan t s left) p cell)
copy_same t s left p Nothing = same t
copy_same t s left p (GroupPage tag body) = same t
copy_same t s left p (MarkPage m) = same t

plan_same : (t : Translation) (s : Spot) (copies : List Place) → IsNotMore t (stepped t (plan_order t s copies))
plan_same t s [] = when t (has_mark_number t) (Some (OrderPlanMark s)) (same t)
plan_same t s (p ∷ ps) = copy_same t s ps p (t.disk.cells p)

victim_same : (t : Translation) (o : Option Spot) → IsNotMore t (stepped t (victim_order t o))
victim_same t None = same t
victim_same t (Some s) = plan_same t s (live_places t s)

repair_same : (t : Translation) (k : Key) {left : List Key} → IsNotMore t (stepped t (Some (OrderRepair k left)))
repair_same t k = record {
  unmarked = λ h. absurd (true≢false h);
  newest = refl;
  low = refl;
  finished = λ p. refl;
  cells = λ p. inl refl;
}

order_same : (t : Translation) (w : Mending) (plan : Option Plan) → IsNotMore t (stepped t (next_order t w plan))
order_same t (Unmarked fence lost) plan = when t (has_mark_number t) (Some (OrderMark fence)) (same t)
order_same t (Repairing []) plan = when t (has_mark_number t) (Some (OrderMark None)) (same t)
order_same t (Repairing (k ∷ ks)) plan = when t (has_number t) (Some (OrderRepair k ks)) (repair_same t k)
order_same t Mended (Some plan) = plan_same t plan.victim plan.copies
order_same t Mended None = when t (wants_collection t && has_mark_number t) (victim_order t (victim t))
    (victim_same t (victim t))

turn_same : (t : Translation) → IsNotMore t (turned t)
turn_same t = when t (is_none t.work.step && not (has_stale t)) (next_order t t.work.mending t.work.plan)
    (order_same t t.work.mending t.work.plan)

-- Endings

right_same : (t : Translation) (die : ℕ) (reader : Reader) → IsNotMore t (read_right (die_idle t die) reader)
right_same t die ForNobody = same t
right_same t die (ForTask tag index) = same t
right_same t die ForStep = same t
right_same t die (ForRest number index) = same t

wrong_same : (t : Translation) (die : ℕ) (reader : Reader) → IsNotMore t (read_wrong (die_idle t die) reader)
wrong_same t die ForNobody = same t
wrong_same t die (ForTask tag index) = same t
wrong_same t die ForStep = same t
wrong_same t die (ForRest number index) = same t

erased_same : (t : Translation) (s : Spot) → IsNotMore t (record t { disk = erased t.disk s })
erased_same t s = record {
  unmarked = λ h. h;
  newest = refl;
  low = refl;
  finished = λ p. refl;
  cells = λ p. ⊎_elim (λ k. inr (erased_here t.disk p k.1)) (λ k. inl (erased_other t.disk s p k.1))
      (spot_cases (spot_of p) s);
}

pub marked_behind : (w : Mending) → is_marked (mending_after w) ≡ true
marked_behind (Unmarked None lost) = refl
marked_behind (Unmarked (Some fence) lost) = refl
marked_behind (Repairing left) = refl
marked_behind Mended = refl

-- before the first mark is finished only marks are written
only_marks : (t : Translation) (w : Mending) {die : ℕ} {p : Place} {cell : Cell} → MendingOf t w → is_marked w ≡ false →
    t.disk.flights die ≡ Some (Programming p cell) → (m : Mark) × (cell ≡ MarkPage m) ×
    (number_of t.ledger.newest < m.number)
only_marks t (Unmarked fence lost) {die} {p} {cell} u h job = let f = u.flies die p cell job in
    (f.0, f.1, f.2.newer)
only_marks t (Repairing left) u h job = cc
only_marks t Mended u h job = cc

-- a program that failed leaves a mark of this life, or nothing
failed_start : (t : Translation) (die : ℕ) (p : Place) {cell : Cell} {left : Cells} → Valid t →
    t.disk.flights die ≡ Some (Programming p cell) →
    ((q : Place) → (left q ≡ t.disk.cells q) ⊎ ((q ≡ p) × ((left q ≡ cell) ⊎ (left q ≡ Nothing)))) → IsStartRight t →
    IsStartRight (record t { disk = program_failed t.disk p left })
failed_start t die p {cell} {left} v job by st unmarked = record {
  unfinished = λ q h. ⊎_elim (λ e. ⊎_elim (λ z. inl (z ∙ ap t.disk.cells e.0 ∙ blank))
      (λ z. ⊎_elim (λ w. inr (mark.0, w ∙ mark.1, mark.2)) (λ w. inl w) z.1) (by q))
      (λ e. ⊎_elim
      (λ z. ⊎_elim (λ w. inl (z ∙ w))
      (λ w. inr (w.0, z ∙ w.1, w.2)) (s.unfinished q (sym e.1 ∙ h))) (λ z. absurd (e.0 z.0)) (by q))
      (at_place_cases t.disk.finished p false q);
  own = λ q m h l. ⊎_elim (λ e. e.1) (λ e. ⊎_elim (λ z. e.1 ∙ s.own q m (sym z ∙ h) l) (λ z. absurd (e.0 z.0)) (by q))
      (at_place_cases t.disk.finished p false q);
  fence = s.fence;
  none = s.none;
}
  where
    s : StartsRight t
    s = st unmarked

    mark : (m : Mark) × (cell ≡ MarkPage m) × (number_of t.ledger.newest < m.number)
    mark = only_marks t t.work.mending v.mending unmarked job

    blank : t.disk.cells p ≡ Nothing
    blank = v.blocks.blank p p.page (v.flights.programs die p cell job).next (omega arith)

again_start : {t : Translation} (fence : Option Fence) → IsStartRight t → IsStartRight (mark_again t fence)
again_start {t} fence st = go (has_mark_number t)
  where
    go : (b : Bool) →
        IsStartRight (if b then mark_ordered t fence else record t { work = record t.work { step = None } })
    go true = not_more (same t) st
    go false = not_more (same t) st

less_start : (t : Translation) {die : ℕ} {s : Spot} {left : Cells} → t.disk.flights die ≡ Some (Erasing s) →
    ((q : Place) → (left q ≡ t.disk.cells q) ⊎ ((spot_of q ≡ s) × (left q ≡ Nothing))) →
    IsNotMore t (record t { disk = erase_failed t.disk s left })
less_start t job by = record {
  unmarked = λ h. h;
  newest = refl;
  low = refl;
  finished = λ p. refl;
  cells = λ p. ⊎_elim (λ e. inl e) (λ e. inr e.1) (by p);
}

end_start : {t : Translation} {die : ℕ} (flight : Option Flight) (ending : Ending) → Valid t →
    t.disk.flights die ≡ flight → MayEnd t.disk die flight ending → IsStartRight t →
    IsStartRight (end_flight t die flight ending)
end_start {t} {die} (Some (Reading reader place)) ReadRight v job may st = not_more (right_same t die reader) st
end_start {t} {die} (Some (Reading reader place)) ReadWrong v job may st = not_more (wrong_same t die reader) st
end_start {die = die} (Some (Programming p Nothing)) ending v job may st = absurd (v.flights.something die p job)
end_start {t} (Some (Programming p (GroupPage tag body))) WentWell v job may st = λ unmarked.
    let m = only_marks t t.work.mending v.mending unmarked job in absurd (page_mark tag body m.0 m.1)
  where
    page_mark : (tag : Tag) (body : List ℕ) (m : Mark) → GroupPage tag body ≡ MarkPage m → ⊥
    page_mark tag body m e = cc
end_start {t} {die} (Some (Programming p (GroupPage tag body))) (WentWrong left) v job may st =
    failed_start t die p v job (program_left t.disk die left job may.1) st
end_start {t} (Some (Programming p (MarkPage m))) WentWell v job may st = λ unmarked.
    absurd (true≢false (sym (marked_behind t.work.mending) ∙ unmarked))
end_start {t} {die} (Some (Programming p (MarkPage m))) (WentWrong left) v job may st = again_start m.fence
    (failed_start t die p v job (program_left t.disk die left job may.1) st)
end_start {t} (Some (Erasing s)) WentWell v job may st = not_more (erased_same t s) st
end_start {t} {die} (Some (Erasing s)) (WentWrong left) v job may st =
    not_more (less_start t job (erase_left t.disk die left job may.1)) st
end_start flight ending v job may st = absurd (false≢true may.0)

pub move_start : (t : Translation) (move : Move) → Valid t → IsAllowedMove t move → IsStartRight t →
    IsStartRight (moved t move)
move_start t (EndJob die ending) v may st = end_start (t.disk.flights die) ending v refl may st
move_start t TakeStep v may st = not_more (turn_same t) st
move_start t move v may st = not_more (same t) st
