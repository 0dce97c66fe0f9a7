-- Each move keeps a life valid.
use Rattle.power_loss.proofs.Common.{Accept, Acknowledge, All, AreNoneStale, Claim, EndJob, Ending, Erasing, Fence}
use Rattle.power_loss.proofs.Common.{FenceRight, Flight, GiveJob, GroupPage, IsAllowedMove, Keep, LetGo, LetGoAll, List}
use Rattle.power_loss.proofs.Common.{MarkPage, MayEnd, MayTake, Mended, Mending, Move, None, Nothing, Option, Order}
use Rattle.power_loss.proofs.Common.{OrderCopy, OrderMark, OrderPlanMark, OrderRepair, Place, Plan, Programming}
use Rattle.power_loss.proofs.Common.{ReadRight, ReadWrong, Reading, Release, Repairing, Some, Spot, TakeStep}
use Rattle.power_loss.proofs.Common.{Translation, Unmarked, Valid, WantPage, WentWell, WentWrong, [], ap, end_flight}
use Rattle.power_loss.proofs.Common.{false≢true, inl, inr, live_places, moved, ordered, refl, subst, sym, taken, turned}
use Rattle.power_loss.proofs.Common.{with_plan, ℕ, ◌∙◌, ◌∷◌, ◌≡◌}
use Rattle.power_loss.proofs.accepted_groups.AcceptedGroup.{accepts}
use Rattle.power_loss.proofs.jobs.JobsBegin.{takes_program, takes_erase}
use Rattle.power_loss.proofs.jobs.EraseEnded.{ends_erase, fails_erase}
use Rattle.power_loss.proofs.jobs.ProgramFailed.{fails_page, fails_mark}
use Rattle.power_loss.proofs.jobs.ReadsAndTasks.{claims, ends_read_right, ends_read_wrong, keeps, lets_go, lets_go_all}
use Rattle.power_loss.proofs.jobs.ReadsAndTasks.{releases, takes_read, tells, wants_page}
use Rattle.power_loss.proofs.jobs.MarkEnded.{ends_mark}
use Rattle.power_loss.proofs.jobs.NoneStale.{none_at_order}
use Rattle.power_loss.proofs.jobs.PageEnded.{ends_page}
use Rattle.power_loss.proofs.books.PagesByName.{none_some, some_is}
use Rattle.power_loss.proofs.collected_blocks.LivePages.{live_needed}
use Rattle.power_loss.proofs.ordered_steps.MarksAndRepairs.{marks_ordered, repairs_ordered}
use Rattle.power_loss.proofs.ordered_steps.PlansAndCopies.{copies_ordered, plan_with, plans}
use Rattle.power_loss.proofs.collected_blocks.VictimPages.{victim_plan}
use Rattle.ufs_laws.proofs.walk.LayerEffects.{IsDue, IsMarkDue, IsPlanned, order_due, turned_if}
use Rattle.power_loss.proofs.books.LayerParts.{NeededOf}

-- A step of mending or of collection that is ordered

-- the plan that is begun, or the next one
pub planned : {t : Translation} (s : Spot) (copies : List Place) → Valid t → t.work.step ≡ None → t.work.mending ≡ Mended →
    IsPlanned t s copies → Valid (with_plan t s copies)
planned {t} s copies v none mended (inl is) =
    subst (λ (o : Option Plan). Valid (record t { work = record t.work { plan = o } })) is v
planned {t} s copies v none mended (inr (no_plan, is, live)) = subst (λ xs. Valid (with_plan t s xs)) (sym live)
    (plans v none mended (victim_plan v none mended is) (record { kind = λ x h. absurd (none_some x (sym none ∙ h)) })
    (record {
      wanted = v.to_read.wanted;
      copied = λ pl e. subst (λ (x : Plan). All (NeededOf t) x.copies)
          (some_is (plan_with s (live_places t s)) pl e) (live_needed s v mended);
    }))

fence_due : (w : Mending) (fence : Option Fence) → IsMarkDue w fence → FenceRight w fence
fence_due (Unmarked first lost) fence h = h
fence_due (Repairing left) fence h = h
fence_due Mended fence h = absurd h

orders : (t : Translation) (o : Order) → Valid t → AreNoneStale t.numbers t.disk.blocks t.disk.vacancies →
    (t.work.step ≡ None) × IsDue t o → Valid (ordered t o)
orders t (OrderMark fence) v fresh (none, (number, due)) =
    marks_ordered fence v none fresh (fence_due t.work.mending fence due)
    (λ pl h. absurd (subst (λ w. IsMarkDue w fence) (v.plan.mended pl h) due))
orders t (OrderRepair k left) v fresh (none, (number, is)) = repairs_ordered k left v none is
orders t (OrderCopy s p left) v fresh (none, (mended, is)) =
    copies_ordered s p left (planned s (p ∷ left) v none mended is) none mended refl
orders t (OrderPlanMark s) v fresh (none, (number, mended, is)) =
    marks_ordered None (planned s [] v none mended is) none fresh
    (subst (λ (z : Mending). FenceRight z None) (sym mended) refl)
    (λ pl h. sym (ap (λ (x : Plan). x.copies) (some_is (plan_with s []) pl h)))

pub turns : (t : Translation) → Valid t → Valid (turned t)
turns t v = turned_if Valid t (λ none. v) (λ o due. orders t o v (none_at_order t o due) (order_due t o due))

-- Jobs, and the other moves

ends : (t : Translation) (die : ℕ) (flight : Option Flight) (ending : Ending) → Valid t → t.disk.flights die ≡ flight →
    MayEnd t.disk die flight ending → Valid (end_flight t die flight ending)
ends t die None ending v e may = v
ends t die (Some (Reading reader place)) ReadRight v e may = ends_read_right die reader place v
ends t die (Some (Reading reader place)) ReadWrong v e may = ends_read_wrong die reader place v
ends t die (Some (Programming p Nothing)) ending v e may = absurd (v.flights.something die p e)
ends t die (Some (Programming p (GroupPage tag body))) WentWell v e may = ends_page die p tag body v e
ends t die (Some (Programming p (GroupPage tag body))) (WentWrong left) v e may =
    fails_page die p tag body left v e may.1
ends t die (Some (Programming p (MarkPage m))) WentWell v e may = ends_mark die p m v e
ends t die (Some (Programming p (MarkPage m))) (WentWrong left) v e may = fails_mark die p m left v e may.1
ends t die (Some (Erasing s)) WentWell v e may = ends_erase die s v e
ends t die (Some (Erasing s)) (WentWrong left) v e may = fails_erase die s left v e may.1
ends t die flight ending v e may = absurd (false≢true may.0)

takes : (t : Translation) (die : ℕ) (flight : Flight) → Valid t → MayTake t die (Some flight) →
    Valid (taken t die flight)
takes t die (Reading reader place) v may = takes_read die reader place v may
takes t die (Programming p cell) v may = takes_program t die p cell v may
takes t die (Erasing s) v may = takes_erase t die s v may

pub all_keep : (t : Translation) (move : Move) → Valid t → IsAllowedMove t move → Valid (moved t move)
all_keep t (Claim count) v may = claims t count may v
all_keep t (Release count) v may = releases t count v
all_keep t (Accept claimed g) v may = accepts claimed g v may
all_keep t (Acknowledge count) v may = tells count v may
all_keep t (Keep key pin) v may = keeps t key pin may.0 may.1 v
all_keep t (WantPage tag index) v may = wants_page tag index v
all_keep t (LetGo tag index) v may = lets_go tag index v
all_keep t (LetGoAll tag) v may = lets_go_all tag v
all_keep t (GiveJob die flight) v may = takes t die flight v may
all_keep t (EndJob die ending) v may = ends t die (t.disk.flights die) ending v refl may
all_keep t TakeStep v may = turns t v
