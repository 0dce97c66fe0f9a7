-- No move adds to the turns that are left before the device is mended, and a turn that finds a step due takes one.
use Rattle.power_loss.proofs.Common.{◌≡◌, ℕ, suc, ◌+◌, ◌≤◌, ◌&&◌, not, is_some, if◌then◌else◌, Bool, true, false, List}
use Rattle.power_loss.proofs.Common.{[], ◌∷◌, Option, Some, None, refl, sym, ap, ◌∙◌, arith, Mark, MarkPage, Flight}
use Rattle.power_loss.proofs.Common.{Programming, Name, same_name, EndJob, IsAllowedMove, Move, TakeStep, mending_after}
use Rattle.power_loss.proofs.Common.{moved, step_after, step_there, CopyStep, MarkStep, Mended, Mending, Order}
use Rattle.power_loss.proofs.Common.{OrderCopy, OrderMark, OrderPlanMark, OrderRepair, RepairStep, Repairing, Step}
use Rattle.power_loss.proofs.Common.{StepKind, Translation, Unmarked, has_mark_number, is_mended, is_step_due}
use Rattle.power_loss.proofs.Common.{mark_ordered, name_of, ordered, turned, Fence, Key, Place, Valid, false≢true}
use Rattle.power_loss.proofs.Common.{none-some, not-true, true≢false}
use Rattle.power_loss.proofs.MachineWords.{AreAllowedMoves, is_marking, mending_turns, turns_left, turns_of}
use Rattle.power_loss.specs.Mending.{is_mark, is_mending_turn, moved_by}
use Rattle.power_loss.proofs.books.SmallFacts.{and_true}
use Rattle.ufs_laws.proofs.walk.LayerEffects.{ComesOf, CopyOrdered, Effect, IsDue, IsMarkDue, MarkAgain, MarkLost}
use Rattle.ufs_laws.proofs.walk.LayerEffects.{MarkOrdered, MarkWritten, PageWritten, PlanMarkOrdered, RepairOrdered}
use Rattle.ufs_laws.proofs.walk.LayerEffects.{StepRead, ended, order_due, turned_by, turned_if, with_effect}

le_same : {a b : ℕ} → a ≡ b → a ≤ b
le_same e = omega arith

uncounted : (a b : ℕ) → a ≤ b → 0 + a ≤ b
uncounted a b h = omega arith

counted_one : (a b : ℕ) → suc a ≤ b → 1 + a ≤ b
counted_one a b h = omega arith

-- The turns by their parts

any_number : (w : Mending) (a b : Bool) → turns_of w true a ≤ turns_of w true b
any_number (Unmarked fence lost) a b = omega arith
any_number (Repairing left) a b = omega arith
any_number Mended a b = omega arith

no_number : (w : Mending) (b : Bool) → turns_of w false false ≤ turns_of w true b
no_number (Unmarked fence lost) b = omega arith
no_number (Repairing left) b = omega arith
no_number Mended b = omega arith

-- behind a mark
behind_mark : (w : Mending) (a b : Bool) → turns_of (mending_after w) false a ≤ turns_of w true b
behind_mark (Unmarked None lost) a b = omega arith
behind_mark (Unmarked (Some fence) lost) true b = omega arith
behind_mark (Unmarked (Some fence) lost) false b = omega arith
behind_mark (Repairing left) a b = omega arith
behind_mark Mended a b = omega arith

-- behind the order of a repair
behind_repair : (k : Key) (left : List Key) (more : Bool) → turns_of (Repairing (k ∷ left)) false more ≡ suc
    (turns_of (Repairing left) false more)
behind_repair k left true = refl
behind_repair k left false = refl

-- a device that is mended has none
stays_mended : (t : Translation) → t.work.mending ≡ Mended → turns_left t ≡ 0
stays_mended t is = ap (λ w. turns_of w (is_marking t.work.step) (has_mark_number t)) is

-- A turn

-- a mark takes the turn that it needs
mark_takes : (w : Mending) (fence : Option Fence) (more : Bool) → IsMarkDue w fence →
    suc (turns_of w true more) ≤ turns_of w false true
mark_takes (Unmarked first lost) fence more due = omega arith
mark_takes (Repairing left) fence more due = omega arith
mark_takes Mended fence more due = absurd due

pub order_takes : (t : Translation) (o : Order) → is_mended t.work.mending ≡ false → (t.work.step ≡ None) × IsDue t o →
    suc (turns_left (ordered t o)) ≤ turns_left t
order_takes t (OrderMark fence) unmended (none, (number, due)) =
    rw none (rw number (mark_takes t.work.mending fence _ due))
order_takes t (OrderRepair k left) unmended (none, (number, is)) =
    let e = behind_repair k left (has_mark_number t) in rw none (rw is (omega arith))
order_takes t (OrderCopy s p left) unmended (none, (is, planned)) =
    absurd (true≢false (sym (ap is_mended is) ∙ unmended))
order_takes t (OrderPlanMark s) unmended (none, (number, is, planned)) =
    absurd (true≢false (sym (ap is_mended is) ∙ unmended))

pub turn_takes : (t : Translation) → is_mended t.work.mending ≡ false → is_step_due t ≡ true →
    suc (turns_left (turned t)) ≤ turns_left t
turn_takes t unmended = turned_if (λ u. is_step_due t ≡ true → suc (turns_left u) ≤ turns_left t) t
    (λ none due. absurd (false≢true (sym (ap is_some none) ∙ due)))
    (λ o is due. order_takes t o unmended (order_due t o is))

-- Steps, and the ends of jobs in flight

-- what a step was for stays, once its content is there
there_marks : (s : Option Step) → is_marking (step_there s) ≡ is_marking s
there_marks None = refl
there_marks (Some step) = refl

cut_marks : (b : Bool) (step : Step) → is_mark step.kind ≡ false → is_marking (if b then None else Some step) ≡ false
cut_marks true step h = refl
cut_marks false step h = h

-- a page's program ends no mark
kind_behind : (name : Name) (kind : StepKind) (there : Bool) →
    is_marking (step_after name (Some (record { kind = kind; there = there }))) ≡ is_mark kind
kind_behind name (MarkStep number fence) there = refl
kind_behind name (CopyStep other from) there =
    cut_marks (same_name name other) (record { kind = CopyStep other from; there = there }) refl
kind_behind name (RepairStep other from) there =
    cut_marks (same_name name other) (record { kind = RepairStep other from; there = there }) refl

marks_behind : (name : Name) (s : Option Step) → is_marking (step_after name s) ≡ is_marking s
marks_behind name None = refl
marks_behind name (Some step) = kind_behind name step.kind step.there

-- while a mark is in flight, the step under way is a mark
marking_is : {t : Translation} (p : Place) (m : Mark) → Valid t →
    ((die : ℕ) × (t.disk.flights die ≡ Some (Programming p (MarkPage m)))) →
    turns_left t ≡ turns_of t.work.mending true (has_mark_number t)
marking_is {t} p m v h =
    ap (λ s. turns_of t.work.mending (is_marking s) (has_mark_number t)) (v.flights.mark h.0 p m h.1).step_is

effect_turns : {t : Translation} {o : Option Flight} (e : Effect) →
    ((x : Flight) → o ≡ Some x → (die : ℕ) × (t.disk.flights die ≡ Some x)) → ComesOf t o e → Valid t →
    turns_left (with_effect t e) ≤ turns_left t
effect_turns {t} (StepRead die) flies comes v =
    le_same (ap (λ b. turns_of t.work.mending b (has_mark_number t)) (there_marks t.work.step))
effect_turns {t} (PageWritten p tag body) flies comes v =
    le_same (ap (λ b. turns_of t.work.mending b (has_mark_number t)) (marks_behind (name_of tag) t.work.step))
effect_turns {t} (MarkWritten p m plan) flies comes v =
    let x = marking_is p m v (flies _ comes.0) in
    let l = behind_mark t.work.mending (has_mark_number t) (has_mark_number t) in
    omega arith
effect_turns {t} (MarkAgain p left fence) flies comes v =
    let x = marking_is p comes.0 v (flies _ comes.1) in
    let l = any_number t.work.mending (has_mark_number (mark_ordered t fence)) (has_mark_number t) in
    omega arith
effect_turns {t} (MarkLost p left) flies comes v =
    let x = marking_is p comes.0 v (flies _ comes.1) in
    let l = no_number t.work.mending (has_mark_number t) in
    let f = ap (turns_of t.work.mending false) comes.2 in
    omega arith
effect_turns {t} (MarkOrdered fence) flies (none, due) v = by t.work.mending refl
  where
    by : (w : Mending) → t.work.mending ≡ w → turns_left (mark_ordered t fence) ≤ turns_left t
    by Mended is =
        le_same (ap (λ z. turns_of z true (has_mark_number (mark_ordered t fence))) is ∙ sym (stays_mended t is))
    by w is = let l = order_takes t (OrderMark fence) (ap is_mended is) (none, due) in omega arith
effect_turns {t} (RepairOrdered k left) flies (none, due) v =
    let l = order_takes t (OrderRepair k left) (ap is_mended due.1) (none, due) in omega arith
effect_turns {t} (CopyOrdered s left name from) flies (none, due) v =
    le_same (ap (λ z. turns_of z false (has_mark_number t)) due.0 ∙ sym (stays_mended t due.0))
effect_turns {t} (PlanMarkOrdered s) flies (none, due) v =
    le_same (ap (λ z. turns_of z true (has_mark_number (mark_ordered t None))) due.1 ∙ sym (stays_mended t due.1))
effect_turns {t} e flies comes v = le_same refl

-- Each move

pub move_keeps_turns : {t : Translation} (move : Move) → Valid t → turns_left (moved t move) ≤ turns_left t
move_keeps_turns {t} (EndJob die ending) v = ended (λ u. turns_left u ≤ turns_left t) t die (t.disk.flights die) ending
    (λ e comes. effect_turns e (λ x is. (die, is)) comes v)
move_keeps_turns {t} TakeStep v = turned_by (λ u. turns_left u ≤ turns_left t) t
    (λ e comes. effect_turns e (λ x is. absurd (none-some x is)) comes v)
move_keeps_turns {t} move v = le_same refl

-- Moves in a row

counted : {t : Translation} (move : Move) → Valid t →
    (if is_mending_turn t move then 1 else 0) + turns_left (moved t move) ≤ turns_left t
counted {t} TakeStep v = go (is_step_due t && not (is_mended t.work.mending)) refl
  where
    go : (b : Bool) → (is_step_due t && not (is_mended t.work.mending)) ≡ b →
        (if b then 1 else 0) + turns_left (turned t) ≤ turns_left t
    go true is =
        let r = and_true (is_step_due t) (not (is_mended t.work.mending)) is in counted_one _ _
        (turn_takes t (not-true (is_mended t.work.mending) r.1) r.0)
    go false is = uncounted _ _ (move_keeps_turns TakeStep v)
counted {t} move v = uncounted _ _ (move_keeps_turns move v)

-- each move keeps a life valid
abbrev pub Keeps : Type 0
Keeps = (t : Translation) (move : Move) → Valid t → IsAllowedMove t move → Valid (moved t move)

pub all_counted : Keeps → (t : Translation) (moves : List Move) → Valid t → AreAllowedMoves t moves →
    mending_turns t moves + turns_left (moved_by t moves) ≤ turns_left t
all_counted keep t [] v may = uncounted _ _ (le_same refl)
all_counted keep t (move ∷ moves) v may =
    let l = counted move v in
    let r = all_counted keep (moved t move) moves (keep t move v may.0) may.1 in
    omega arith
