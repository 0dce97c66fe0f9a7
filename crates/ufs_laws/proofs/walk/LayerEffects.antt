-- What the end of a job, and a step of mending or collection, make of the translation layer: one effect of few kinds.
-- So a law of both is a case for each kind that it looks at, and one for all others (`ended`, `turned_by`).
use Rattle.ufs_laws.proofs.Common.{Bool, Cell, Cells, EndJob, Ending, Erasing, Fence, Flight, ForTask, GroupPage, Key}
use Rattle.ufs_laws.proofs.Common.{Ledger, List, Mark, MarkPage, Mended, Mending, Move, Name, None, Nothing, Option}
use Rattle.ufs_laws.proofs.Common.{Place, Programming, ReadWrong, Reader, Reading, Some, Spot, Tag, TakeStep, Translation}
use Rattle.ufs_laws.proofs.Common.{Unmarked, WentWrong, Work, [], at_die, ending_fits, erased, false, has_stale}
use Rattle.ufs_laws.proofs.Common.{if◌then◌else◌, inl, inr, is_none, map, moved, none-some, not, programmed, refl}
use Rattle.ufs_laws.proofs.Common.{same_Some, subst, sym, true, ℕ, ◌&&◌, ◌∷◌, ◌≡◌, ◌⊎◌}
use Rattle.ufs_spec.specs.Disk.{erase_failed, program_failed}
use Rattle.ufs_spec.specs.Moves.{ReadRight, WentWell, die_idle, end_flight, freed, mark_written, page_written}
use Rattle.ufs_spec.specs.Moves.{read_right, read_wrong, rests_without, step_there, with_wanted}
use Rattle.ufs_spec.specs.Translation.{CopyStep, Order, OrderCopy, OrderMark, OrderPlanMark, OrderRepair, Plan}
use Rattle.ufs_spec.specs.Translation.{Repairing, Step, copy_begun, due_order, has_mark_number, has_number, live_places}
use Rattle.ufs_spec.specs.Translation.{mark_ordered, name_of, next_order, ordered, plan_order, repair_ordered, stepped}
use Rattle.ufs_spec.specs.Translation.{turned, victim, victim_order, wants_collection, with_plan, with_step}
use Rattle.ufs_spec.specs.declared.layer.Reader.TheVariants.{ForNobody, ForRest, ForStep}

-- ## Effects

pub data Effect : Type 0 where
  NoEffect : Effect
  -- a read is over: it was for nobody or is owed again, or it was for a task, the step under way, or a rest
  ReadOver : (die : ℕ) → Effect
  TaskRead : (die tag index : ℕ) → Effect
  StepRead : (die : ℕ) → Effect
  RestRead : (die : ℕ) → (name : Name) → Effect
  -- a page is programmed, and the mark's plan is done
  BlankWritten : (p : Place) → Effect
  PageWritten : (p : Place) → (tag : Tag) → (body : List ℕ) → Effect
  MarkWritten : (p : Place) → (m : Mark) → (plan : Option Plan) → Effect
  -- a program failed; in place of a mark another one is ordered, or no number is left for it
  ProgramFailed : (p : Place) → (left : Cells) → Effect
  MarkAgain : (p : Place) → (left : Cells) → (fence : Option Fence) → Effect
  MarkLost : (p : Place) → (left : Cells) → Effect
  BlockErased : (spot : Spot) → Effect
  EraseFailed : (spot : Spot) → (left : Cells) → Effect
  -- a step is ordered
  MarkOrdered : (fence : Option Fence) → Effect
  RepairOrdered : (key : Key) → (left : List Key) → Effect
  CopyOrdered : (victim : Spot) → (left : List Place) → (name : Name) → (from : Place) → Effect
  NothingCopied : (victim : Spot) → (left : List Place) → Effect
  PlanMarkOrdered : (victim : Spot) → Effect

abbrev pub with_effect : Translation → Effect → Translation
with_effect t NoEffect = t
with_effect t (ReadOver die) = die_idle t die
with_effect t (TaskRead die tag index) = record (die_idle t die) { pins = map (with_wanted tag index false) t.pins }
with_effect t (StepRead die) = record (die_idle t die) { work = record t.work { step = step_there t.work.step } }
with_effect t (RestRead die name) =
    record (die_idle t die) { work = record t.work { rests = rests_without name t.work.rests } }
with_effect t (BlankWritten p) = record t { disk = programmed t.numbers.pages t.disk p Nothing }
with_effect t (PageWritten p tag body) = page_written t p tag body
with_effect t (MarkWritten p m plan) =
    record (mark_written t p m) { disk = freed (programmed t.numbers.pages t.disk p (MarkPage m)) plan }
with_effect t (ProgramFailed p left) = record t { disk = program_failed t.disk p left }
with_effect t (MarkAgain p left fence) = mark_ordered (record t { disk = program_failed t.disk p left }) fence
with_effect t (MarkLost p left) =
    record t { disk = program_failed t.disk p left; work = record t.work { step = None } }
with_effect t (BlockErased spot) = record t { disk = erased t.disk spot }
with_effect t (EraseFailed spot left) = record t { disk = erase_failed t.disk spot left }
with_effect t (MarkOrdered fence) = mark_ordered t fence
with_effect t (RepairOrdered key left) = repair_ordered t key left
with_effect t (CopyOrdered victim left name from) = with_step (with_plan t victim left) (CopyStep name from) false
with_effect t (NothingCopied victim left) = with_plan t victim left
with_effect t (PlanMarkOrdered victim) = mark_ordered (with_plan t victim []) None

-- the numbers of the device stay
effect_numbers : (t : Translation) (e : Effect) → (with_effect t e).numbers ≡ t.numbers
effect_numbers t NoEffect = refl
effect_numbers t e = refl

-- the die that has no job any more
abbrev pub die_freed : Effect → Option ℕ
die_freed (ReadOver die) = Some die
die_freed (TaskRead die tag index) = Some die
die_freed (StepRead die) = Some die
die_freed (RestRead die name) = Some die
die_freed (BlankWritten p) = Some p.die
die_freed (PageWritten p tag body) = Some p.die
die_freed (MarkWritten p m plan) = Some p.die
die_freed (ProgramFailed p left) = Some p.die
die_freed (MarkAgain p left fence) = Some p.die
die_freed (MarkLost p left) = Some p.die
die_freed (BlockErased spot) = Some spot.die
die_freed (EraseFailed spot left) = Some spot.die
die_freed other = None

abbrev pub without_job : (ℕ → Option Flight) → Option ℕ → ℕ → Option Flight
without_job flights None = flights
without_job flights (Some die) = at_die flights die None

pub effect_flights : (t : Translation) (e : Effect) →
    (with_effect t e).disk.flights ≡ without_job t.disk.flights (die_freed e)
effect_flights t (MarkWritten p m None) = refl
effect_flights t (MarkWritten p m (Some plan)) = refl
effect_flights t e = refl

-- ## Orders that are due

-- the mending waits for a mark with this fence
abbrev pub IsMarkDue : Mending → Option Fence → Type 0
IsMarkDue (Unmarked first lost) fence = fence ≡ first
IsMarkDue (Repairing left) fence = (fence ≡ None) × (left ≡ [])
IsMarkDue Mended fence = ⊥

-- the plan that is begun has these pages left to copy, or that of the next victim has
abbrev pub IsPlanned : Translation → Spot → List Place → Type 0
IsPlanned t s copies =
    (t.work.plan ≡ Some (record { victim = s; copies = copies }))
    ⊎ ((t.work.plan ≡ None) × (victim t ≡ Some s) × (copies ≡ live_places t s))

-- why an order comes, where no step is under way
abbrev pub IsDue : Translation → Order → Type 0
IsDue t (OrderMark fence) = (has_mark_number t ≡ true) × IsMarkDue t.work.mending fence
IsDue t (OrderRepair k left) = (has_number t ≡ true) × (t.work.mending ≡ Repairing (k ∷ left))
IsDue t (OrderCopy s p left) = (t.work.mending ≡ Mended) × IsPlanned t s (p ∷ left)
IsDue t (OrderPlanMark s) = (has_mark_number t ≡ true) × (t.work.mending ≡ Mended) × IsPlanned t s []

-- what comes of a test that passes
if_due : (t : Translation) (b : Bool) (x : Option Order) (o : Order) → (if b then x else None) ≡ Some o →
    (b ≡ true → x ≡ Some o → IsDue t o) → IsDue t o
if_due t true x o e h = h refl e
if_due t false x o e h = absurd (none-some o e)

plan_due : (t : Translation) (s : Spot) (copies : List Place) (o : Order) → t.work.mending ≡ Mended →
    IsPlanned t s copies → plan_order t s copies ≡ Some o → IsDue t o
plan_due t s [] o m is e =
    if_due t (has_mark_number t) (Some (OrderPlanMark s)) o e
    (λ number k. subst (IsDue t) (same_Some _ o k) (number, m, is))
plan_due t s (p ∷ ps) o m is e = subst (IsDue t) (same_Some (OrderCopy s p ps) o e) (m, is)

victim_due : (t : Translation) (s : Option Spot) (o : Order) → t.work.mending ≡ Mended → t.work.plan ≡ None →
    victim t ≡ s → victim_order t s ≡ Some o → IsDue t o
victim_due t None o m none is e = absurd (none-some o e)
victim_due t (Some s) o m none is e = plan_due t s (live_places t s) o m (inr (none, is, refl)) e

next_due : (t : Translation) (w : Mending) (plan : Option Plan) (o : Order) → t.work.mending ≡ w → t.work.plan ≡ plan →
    next_order t w plan ≡ Some o → IsDue t o
next_due t (Unmarked fence lost) plan o m pl e =
    if_due t (has_mark_number t) (Some (OrderMark fence)) o e
    (λ number k. subst (IsDue t) (same_Some _ o k) (number, subst (λ w. IsMarkDue w fence) (sym m) refl))
next_due t (Repairing []) plan o m pl e =
    if_due t (has_mark_number t) (Some (OrderMark None)) o e
    (λ number k. subst (IsDue t) (same_Some _ o k) (number, subst (λ w. IsMarkDue w None) (sym m) (refl, refl)))
next_due t (Repairing (k ∷ ks)) plan o m pl e =
    if_due t (has_number t) (Some (OrderRepair k ks)) o e (λ number j. subst (IsDue t) (same_Some _ o j) (number, m))
next_due t Mended (Some plan) o m pl e = plan_due t plan.victim plan.copies o m (inl pl) e
next_due t Mended None o m pl e =
    if_due t (wants_collection t && has_mark_number t) (victim_order t (victim t)) o e
    (λ wanted k. victim_due t (victim t) o m pl refl k)

-- an order comes where no step is under way, for its reason
pub order_due : (t : Translation) (o : Order) → due_order t ≡ Some o → (t.work.step ≡ None) × IsDue t o
order_due t o e = by t.work.step (has_stale t) refl e
  where
    by : (step : Option Step) (stale : Bool) → t.work.step ≡ step →
        (if is_none step && not stale then next_order t t.work.mending t.work.plan else None) ≡ Some o →
        (t.work.step ≡ None) × IsDue t o
    by None false is k = (is, next_due t t.work.mending t.work.plan o refl refl k)
    by None true is k = absurd (none-some o k)
    by (Some step) stale is k = absurd (none-some o k)

-- ## What each comes of

-- of this job an effect comes, and of this order
abbrev pub ComesOf : Translation → Option Flight → Effect → Type 0
ComesOf t flight (BlankWritten p) = flight ≡ Some (Programming p Nothing)
ComesOf t flight (PageWritten p tag body) = flight ≡ Some (Programming p (GroupPage tag body))
ComesOf t flight (MarkWritten p m plan) = (flight ≡ Some (Programming p (MarkPage m))) × (t.work.plan ≡ plan)
ComesOf t flight (ProgramFailed p left) = (cell : Cell) × (flight ≡ Some (Programming p cell))
ComesOf t flight (MarkAgain p left fence) =
    (m : Mark) × (flight ≡ Some (Programming p (MarkPage m))) × (has_mark_number t ≡ true)
ComesOf t flight (MarkLost p left) =
    (m : Mark) × (flight ≡ Some (Programming p (MarkPage m))) × (has_mark_number t ≡ false)
ComesOf t flight (BlockErased spot) = flight ≡ Some (Erasing spot)
ComesOf t flight (EraseFailed spot left) = flight ≡ Some (Erasing spot)
ComesOf t flight (MarkOrdered fence) = (t.work.step ≡ None) × IsDue t (OrderMark fence)
ComesOf t flight (RepairOrdered k left) = (t.work.step ≡ None) × IsDue t (OrderRepair k left)
ComesOf t flight (CopyOrdered s left name from) = (t.work.step ≡ None) × IsDue t (OrderCopy s from left)
ComesOf t flight (PlanMarkOrdered s) = (t.work.step ≡ None) × IsDue t (OrderPlanMark s)
ComesOf t flight other = Unit {0}

-- the die that the end of a job leaves without one, if it is an end that the job can have
abbrev pub die_in : ℕ → Flight → ℕ
die_in die (Reading reader place) = die
die_in die (Programming place cell) = place.die
die_in die (Erasing spot) = spot.die

abbrev pub freed_die : ℕ → Option Flight → Bool → Option ℕ
freed_die die (Some flight) true = Some (die_in die flight)
freed_die die flight fit = None

-- the effect of an end
pub record IsEnd (t : Translation) (die : ℕ) (flight : Option Flight) (fit : Bool) (u : Translation) : Type 0 where
  pub effect : Effect
  pub is : u ≡ with_effect t effect
  pub frees : die_freed effect ≡ freed_die die flight fit
  pub comes : ComesOf t flight effect

read_end : (t : Translation) (die : ℕ) (reader : Reader) (place : Place) →
    IsEnd t die (Some (Reading reader place)) true (read_right (die_idle t die) reader)
read_end t die (ForTask tag index) p = record { effect = TaskRead die tag index; is = refl; frees = refl; comes = tt }
read_end t die ForStep p = record { effect = StepRead die; is = refl; frees = refl; comes = tt }
read_end t die (ForRest number index) p =
    record { effect = RestRead die (record { number = number; index = index }); is = refl; frees = refl; comes = tt }
read_end t die ForNobody p = record { effect = ReadOver die; is = refl; frees = refl; comes = tt }

wrong_end : (t : Translation) (die : ℕ) (reader : Reader) (place : Place) →
    IsEnd t die (Some (Reading reader place)) true (read_wrong (die_idle t die) reader)
wrong_end t die (ForTask tag index) p = record { effect = TaskRead die tag index; is = refl; frees = refl; comes = tt }
wrong_end t die reader p = record { effect = ReadOver die; is = refl; frees = refl; comes = tt }

again_end : (t : Translation) (die : ℕ) (p : Place) (m : Mark) (left : Cells) (b : Bool) → has_mark_number t ≡ b →
    IsEnd t die (Some (Programming p (MarkPage m))) true
    (if b then mark_ordered (record t { disk = program_failed t.disk p left }) m.fence
    else record t { disk = program_failed t.disk p left; work = record t.work { step = None } })
again_end t die p m left true e =
    record { effect = MarkAgain p left m.fence; is = refl; frees = refl; comes = (m, refl, e) }
again_end t die p m left false e = record { effect = MarkLost p left; is = refl; frees = refl; comes = (m, refl, e) }

pub effect_of : (t : Translation) (die : ℕ) (flight : Option Flight) (ending : Ending) →
    IsEnd t die flight (ending_fits flight ending) (end_flight t die flight ending)
effect_of t die (Some (Reading reader place)) ReadRight = read_end t die reader place
effect_of t die (Some (Reading reader place)) ReadWrong = wrong_end t die reader place
effect_of t die (Some (Programming p Nothing)) WentWell =
    record { effect = BlankWritten p; is = refl; frees = refl; comes = refl }
effect_of t die (Some (Programming p (GroupPage tag body))) WentWell =
    record { effect = PageWritten p tag body; is = refl; frees = refl; comes = refl }
effect_of t die (Some (Programming p (MarkPage m))) WentWell =
    record { effect = MarkWritten p m t.work.plan; is = refl; frees = refl; comes = (refl, refl) }
effect_of t die (Some (Programming p (MarkPage m))) (WentWrong left) =
    again_end t die p m left (has_mark_number t) refl
effect_of t die (Some (Programming p cell)) (WentWrong left) =
    record { effect = ProgramFailed p left; is = refl; frees = refl; comes = (cell, refl) }
effect_of t die (Some (Erasing spot)) WentWell =
    record { effect = BlockErased spot; is = refl; frees = refl; comes = refl }
effect_of t die (Some (Erasing spot)) (WentWrong left) =
    record { effect = EraseFailed spot left; is = refl; frees = refl; comes = refl }
effect_of t die flight ending = record { effect = NoEffect; is = refl; frees = refl; comes = tt }

-- what holds of each effect holds of the end of a job
pub ended : (P : Translation → Type 0) (t : Translation) (die : ℕ) (flight : Option Flight) (ending : Ending) →
    ((e : Effect) → ComesOf t flight e → P (with_effect t e)) → P (end_flight t die flight ending)
ended P t die flight ending each =
    let h = effect_of t die flight ending in subst P (sym h.is) (each h.effect h.comes)

-- and of a step
copied : (P : Translation → Type 0) (t : Translation) (s : Spot) (left : List Place) (p : Place) (cell : Cell) →
    ((name : Name) → P (with_effect t (CopyOrdered s left name p))) → P (with_effect t (NothingCopied s left)) →
    P (copy_begun (with_plan t s left) p cell)
copied P t s left p (GroupPage tag body) one none = one (name_of tag)
copied P t s left p Nothing one none = none
copied P t s left p (MarkPage m) one none = none

pub order_effect : (P : Translation → Type 0) (t : Translation) (o : Order) → (t.work.step ≡ None) × IsDue t o →
    ((e : Effect) → ComesOf t None e → P (with_effect t e)) → P (ordered t o)
order_effect P t (OrderMark fence) due each = each (MarkOrdered fence) due
order_effect P t (OrderRepair k left) due each = each (RepairOrdered k left) due
order_effect P t (OrderCopy s p left) due each =
    copied P t s left p (t.disk.cells p) (λ name. each (CopyOrdered s left name p) due) (each (NothingCopied s left) tt)
order_effect P t (OrderPlanMark s) due each = each (PlanMarkOrdered s) due

-- what holds of each order that is due, and where none is, holds of a step
pub turned_if : (P : Translation → Type 0) (t : Translation) → (due_order t ≡ None → P t) →
    ((o : Order) → due_order t ≡ Some o → P (ordered t o)) → P (turned t)
turned_if P t none some = by (due_order t) refl
  where
    by : (o : Option Order) → due_order t ≡ o → P (stepped t o)
    by None e = none e
    by (Some o) e = some o e

pub turned_by : (P : Translation → Type 0) (t : Translation) →
    ((e : Effect) → ComesOf t None e → P (with_effect t e)) → P (turned t)
turned_by P t each = turned_if P t (λ e. each NoEffect tt) (λ o e. order_effect P t o (order_due t o e) each)

-- a step changes the ledger and the work alone
pub record IsStepped (t u : Translation) : Type 0 where
  pub ledger : Ledger
  pub work : Work
  pub is : u ≡ record t { ledger = ledger; work = work }

step_only : (t : Translation) (o : Order) → IsStepped t (ordered t o)
step_only t (OrderCopy s p left) =
    copied (IsStepped t) t s left p (t.disk.cells p) (λ name. record { ledger = _; work = _; is = refl })
    (record { ledger = _; work = _; is = refl })
step_only t o = record { ledger = _; work = _; is = refl }

pub turn_only : (t : Translation) → IsStepped t (moved t TakeStep)
turn_only t = turned_if (IsStepped t) t (λ none. record { ledger = _; work = _; is = refl }) (λ o due. step_only t o)

-- no move changes the numbers of the device
pub move_numbers : (t : Translation) (move : Move) → (moved t move).numbers ≡ t.numbers
move_numbers t (EndJob die ending) =
    ended (λ u. u.numbers ≡ t.numbers) t die (t.disk.flights die) ending (λ e comes. effect_numbers t e)
move_numbers t TakeStep = turned_by (λ u. u.numbers ≡ t.numbers) t (λ e comes. effect_numbers t e)
move_numbers t move = refl
