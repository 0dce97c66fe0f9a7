-- A copy begins without its content, and only the end of the read of its page brings it.
use Rattle.power_loss.proofs.Common.{Bool, Cell, CopyStep, EndJob, Ending, Erasing, Fence, Flight, ForRest, ForStep}
use Rattle.power_loss.proofs.Common.{ForTask, GroupPage, MarkPage, MayTake, Move, Name, None, Nothing, Option, Order}
use Rattle.power_loss.proofs.Common.{OrderCopy, Place, Programming, ReadRight, ReadWrong, Reader, Reading, Some, Step}
use Rattle.power_loss.proofs.Common.{StepKind, TakeStep, Translation, Want, WentWell, WentWrong, ap, copy_begun}
use Rattle.power_loss.proofs.Common.{die_idle, due_order, end_flight, false, false≢true, has_mark_number, if◌then◌else◌}
use Rattle.power_loss.proofs.Common.{inl, inr, is_kind_of, is_none, mark_again, mark_ordered, moved, name_of}
use Rattle.power_loss.proofs.Common.{next_order, none-some, not, program_failed, read_right, read_wrong, refl}
use Rattle.power_loss.proofs.Common.{same_Some, step_after, stepped, subst, sym, true, turned, want_at, wants_of_step}
use Rattle.power_loss.proofs.Common.{with_plan, ℕ, ⊎_elim, ◌&&◌, ◌∙◌, ◌≡◌, ◌⊎◌}
use Rattle.ufs_spec.specs.Translation.{has_stale}
use Rattle.power_loss.proofs.ordered_lists.ElementsAndOrders.{IsIn}
use Rattle.power_loss.proofs.jobs_owed.OneDieForEachJob.{read_owed}

abbrev pub copy_of : Name → Place → Bool → Step
copy_of name from there = record { kind = CopyStep name from; there = there }

abbrev copies : StepKind → Bool
copies (CopyStep name from) = true
copies kind = false

abbrev is_copy : Option Step → Bool
is_copy None = false
is_copy (Some step) = copies step.kind

-- Begun without content

-- a copy that is ordered has no content yet
abbrev Begins : Option Step → Type 0
Begins s = (name : Name) (from : Place) (there : Bool) → s ≡ Some (copy_of name from there) → there ≡ false

none_begins : (s : Option Step) → s ≡ None → Begins s
none_begins s none name from there h = absurd (none-some (copy_of name from there) (sym none ∙ h))

copy_begins : (t : Translation) (p : Place) (cell : Cell) → t.work.step ≡ None → Begins (copy_begun t p cell).work.step
copy_begins t p (GroupPage tag body) none = λ name from there h.
    sym (ap (λ (z : Step). z.there) (same_Some (copy_of (name_of tag) p false) (copy_of name from there) h))
copy_begins t p cell none = none_begins t.work.step none

order_begins : (t : Translation) (o : Option Order) → t.work.step ≡ None → Begins (stepped t o).work.step
order_begins t None none = none_begins t.work.step none
order_begins t (Some (OrderCopy victim p left)) none = copy_begins (with_plan t victim left) p (t.disk.cells p) none
order_begins t (Some order) none = λ name from there h. absurd (false≢true (ap is_copy h))

pub begun : (t : Translation) (name : Name) (from : Place) (there : Bool) → t.work.step ≡ None →
    (turned t).work.step ≡ Some (copy_of name from there) → there ≡ false
begun t name from there none = order_begins t (due_order t) none name from there

-- Brought by its read

-- the step stays, or is no copy now
abbrev Keeps : Option Step → Option Step → Type 0
Keeps before now = (now ≡ before) ⊎ (is_copy now ≡ false)

behind_keeps : (name : Name) (s : Option Step) → Keeps s (step_after name s)
behind_keeps name None = inl refl
behind_keeps name (Some s) = by (is_kind_of name s.kind)
  where
    by : (b : Bool) → Keeps (Some s) (if b then None else Some s)
    by true = inr refl
    by false = inl refl

again_keeps : (t : Translation) (fence : Option Fence) → Keeps t.work.step (mark_again t fence).work.step
again_keeps t fence = by (has_mark_number t)
  where
    by : (b : Bool) → Keeps t.work.step
        (if b then mark_ordered t fence else record t { work = record t.work { step = None } }).work.step
    by true = inr refl
    by false = inr refl

abbrev IsItsRead : Translation → Move → Type 0
IsItsRead t move =
    (die : ℕ) × (place : Place) × (move ≡ EndJob die ReadRight) × (t.disk.flights die ≡ Some (Reading ForStep place))

abbrev Brings : Translation → Move → Option Step → Type 0
Brings t move now = (name : Name) (from : Place) → t.work.step ≡ Some (copy_of name from false) →
    now ≡ Some (copy_of name from true) → IsItsRead t move

unbrought : (t : Translation) (move : Move) (now : Option Step) → Keeps t.work.step now → Brings t move now
unbrought t move now (inl same) name from h k =
    absurd (false≢true (ap (λ (z : Step). z.there)
    (same_Some (copy_of name from false) (copy_of name from true) (sym h ∙ sym same ∙ k))))
unbrought t move now (inr none) name from h k = absurd (false≢true (sym none ∙ ap is_copy k))

-- a turn finds the step under way
turn_brings : (t : Translation) → Brings t TakeStep (turned t).work.step
turn_brings t = by t.work.step refl
  where
    by : (s : Option Step) → t.work.step ≡ s → Brings t TakeStep
        (stepped t (if is_none s && not (has_stale t) then next_order t t.work.mending t.work.plan else None)).work.step
    by None is = λ name from h k. absurd (none-some (copy_of name from false) (sym is ∙ h))
    by (Some s) is = unbrought t TakeStep t.work.step (inl refl)

read_brings : (t : Translation) (die : ℕ) (reader : Reader) (place : Place) →
    t.disk.flights die ≡ Some (Reading reader place) →
    Brings t (EndJob die ReadRight) (read_right (die_idle t die) reader).work.step
read_brings t die ForStep place is = λ name from a b. (die, place, refl, is)
read_brings t die reader place is = unbrought t (EndJob die ReadRight) t.work.step (inl refl)

wrong_keeps : (t : Translation) (reader : Reader) → Keeps t.work.step (read_wrong t reader).work.step
wrong_keeps t (ForTask tag index) = inl refl
wrong_keeps t reader = inl refl

end_brings : (t : Translation) (die : ℕ) (flight : Option Flight) (ending : Ending) → t.disk.flights die ≡ flight →
    Brings t (EndJob die ending) (end_flight t die flight ending).work.step
end_brings t die (Some (Reading reader place)) ReadRight is = read_brings t die reader place is
end_brings t die (Some (Reading reader place)) ReadWrong is =
    unbrought t (EndJob die ReadWrong) _ (wrong_keeps (die_idle t die) reader)
end_brings t die (Some (Programming p (GroupPage tag body))) WentWell is =
    unbrought t (EndJob die WentWell) _ (behind_keeps (name_of tag) t.work.step)
end_brings t die (Some (Programming p (MarkPage m))) WentWell is = unbrought t (EndJob die WentWell) None (inr refl)
end_brings t die (Some (Programming p (MarkPage m))) (WentWrong left) is = unbrought t (EndJob die (WentWrong left)) _
    (again_keeps (record t { disk = program_failed t.disk p left }) m.fence)
end_brings t die (Some (Programming p Nothing)) WentWell is = unbrought t (EndJob die WentWell) _ (inl refl)
end_brings t die (Some (Erasing s)) WentWell is = unbrought t (EndJob die WentWell) _ (inl refl)
end_brings t die flight ending is = unbrought t (EndJob die ending) t.work.step (inl refl)

brings : (t : Translation) (move : Move) → Brings t move (moved t move).work.step
brings t (EndJob die ending) = end_brings t die (t.disk.flights die) ending refl
brings t TakeStep = turn_brings t
brings t move = unbrought t move t.work.step (inl refl)

pub brought : (t : Translation) (move : Move) (name : Name) (from : Place) →
    t.work.step ≡ Some (copy_of name from false) → (moved t move).work.step ≡ Some (copy_of name from true) →
    IsItsRead t move
brought = brings

-- The read of its page

copy_want : (name : Name) (from : Place) (there : Bool) {w : Want} →
    IsIn w (wants_of_step (Some (copy_of name from there))) → (there ≡ false) × (want_at ForStep from ≡ w)
copy_want name from true h = absurd h
copy_want name from false h = (refl, ⊎_elim (λ e. e) (λ e. absurd e) h)

pub its_page : (t : Translation) (die : ℕ) (place : Place) (name : Name) (from : Place) (there : Bool) →
    t.work.step ≡ Some (copy_of name from there) → MayTake t die (Some (Reading ForStep place)) →
    (there ≡ false) × (place ≡ from)
its_page t die place name from there is may = ⊎_elim (λ h. absurd (task h.0.tag h.0.index h.2.2))
    (⊎_elim
    (λ h.
    let r = copy_want name from there (subst (λ s. IsIn (want_at ForStep place) (wants_of_step s)) is h) in
    (r.0, sym (ap (λ (z : Want). z.place) r.1))) (λ h. absurd (rest h.0.name.number h.0.name.index h.2.1)))
    (read_owed t die ForStep place may).0
  where
    task : (tag index : ℕ) → ForStep ≡ ForTask tag index → ⊥
    task tag index e = cc

    rest : (n i : ℕ) → ForStep ≡ ForRest n i → ⊥
    rest n i e = cc
