-- What the end of a step's program leaves of the jobs of the other dies: none of them writes the step's page, and none
-- reads for the step.
use Rattle.ftl_core.proofs.Common.{Cell, Core, Describes, Flight, GroupPage, IsFlight, IsStepCell, Mark, MarkPage, Name}
use Rattle.ftl_core.proofs.Common.{None, Numbers, OpenBlock, Option, Place, Some, Step, StepReadsKept, Translation, ap}
use Rattle.ftl_core.proofs.Common.{at_die, at_die_cases, flies_name, name_is, name_of, name_self, none-some, refl}
use Rattle.ftl_core.proofs.Common.{repairs_in, step_wants, subst, sym, true, ℕ, ⊎_elim, ◌∙◌, ◌≡◌, ◌≢◌}
use Rattle.ufs_spec.specs.Disk as disk
use Rattle.block_table.specs.declared.rows.Flight.TheVariants as flight
use Rattle.ftl_core.specs.declared.books.Step.TheVariants as steps
use Rattle.ftl_core.proofs.job_ended.ChangeParts.{StepSuits}

-- One job

-- a job suits another step, where it is not of the step's page, or suits that step too
pub flight_suits : (n : Numbers) (step after : Option Step) (die : ℕ) (filling : Option OpenBlock) (f : Option Flight)
    (g : Option disk.Flight) →
    ((p : Place) (cell : Cell) → g ≡ Some (disk.Programming p cell) → IsStepCell step cell → IsStepCell after cell) →
    (repairs_in step ≡ 0 → repairs_in after ≡ 0) → IsFlight n step die filling f g → IsFlight n after die filling f g
flight_suits n step after die filling None None cells none h = tt
flight_suits n step after die filling (Some (flight.Read place reader)) (Some (disk.Reading who p)) cells none h = h
flight_suits n step after die filling (Some (flight.Step place)) (Some (disk.Programming p cell)) cells none h =
    (h.0, h.1, cells p cell refl h.2)
flight_suits n step after die filling (Some (flight.Group place number i))
    (Some (disk.Programming p (GroupPage tag body))) cells none h = (h.0, h.1, h.2, h.3, none h.4)
flight_suits n step after die filling (Some (flight.Erase block)) (Some (disk.Erasing s)) cells none h = h
flight_suits n step after die filling f g cells none h = absurd h

-- One writer

-- two dies that write the page of one step are one die
one_writer : (flights : ℕ → Option disk.Flight) (step : Option Step) (d e : ℕ) (p q : Place) (cell other : Cell) →
    ((m o : Mark) → flights d ≡ Some (disk.Programming p (MarkPage m)) →
    flights e ≡ Some (disk.Programming q (MarkPage o)) → d ≡ e) →
    ((name : Name) → flies_name name (flights d) ≡ true → flies_name name (flights e) ≡ true → d ≡ e) →
    flights d ≡ Some (disk.Programming p cell) → flights e ≡ Some (disk.Programming q other) → IsStepCell step cell →
    IsStepCell step other → d ≡ e
one_writer flights None d e p q cell other marks names here there this that = absurd this
one_writer flights (Some (steps.Mark n fence)) d e p q cell other marks names here there this that =
    both cell other here there this that
  where
    both : (cell other : Cell) → flights d ≡ Some (disk.Programming p cell) →
        flights e ≡ Some (disk.Programming q other) → IsStepCell (Some (steps.Mark n fence)) cell →
        IsStepCell (Some (steps.Mark n fence)) other → d ≡ e
    both (MarkPage m) (MarkPage o) here there this that = marks m o here there
    both (MarkPage m) other here there this that = absurd that
    both cell other here there this that = absurd this
one_writer flights (Some (steps.Repair n k from is)) d e p q cell other marks names here there this that =
    both cell other here there this that
  where
    both : (cell other : Cell) → flights d ≡ Some (disk.Programming p cell) →
        flights e ≡ Some (disk.Programming q other) → IsStepCell (Some (steps.Repair n k from is)) cell →
        IsStepCell (Some (steps.Repair n k from is)) other → d ≡ e
    both (GroupPage tag body) (GroupPage t u) here there this that =
        names (name_of tag) (ap (flies_name (name_of tag)) here ∙ name_self (name_of tag))
        (ap (flies_name (name_of tag)) there
        ∙ subst (λ (z : Name). flies_name z (Some (disk.Programming q (GroupPage t u))) ≡ true)
        (name_is (name_of t) (name_of tag) (that.0 ∙ sym this.0) (that.1 ∙ sym this.1)) (name_self (name_of t)))
    both (GroupPage tag body) other here there this that = absurd that
    both cell other here there this that = absurd this
one_writer flights (Some (steps.Copy n k from (Some read))) d e p q cell other marks names here there this that =
    both cell other here there this that
  where
    both : (cell other : Cell) → flights d ≡ Some (disk.Programming p cell) →
        flights e ≡ Some (disk.Programming q other) → IsStepCell (Some (steps.Copy n k from (Some read))) cell →
        IsStepCell (Some (steps.Copy n k from (Some read))) other → d ≡ e
    both (GroupPage tag body) (GroupPage t u) here there this that =
        names (name_of tag) (ap (flies_name (name_of tag)) here ∙ name_self (name_of tag))
        (ap (flies_name (name_of tag)) there
        ∙ subst (λ (z : Name). flies_name z (Some (disk.Programming q (GroupPage t u))) ≡ true)
        (name_is (name_of t) (name_of tag) (that.0 ∙ sym this.0) (that.1 ∙ sym this.1)) (name_self (name_of t)))
    both (GroupPage tag body) other here there this that = absurd that
    both cell other here there this that = absurd this
one_writer flights (Some (steps.Copy n k from None)) d e p q cell other marks names here there this that = absurd this

-- what is programmed is the step's page, so no content of it is still to be read
pub wants_nothing : (step : Option Step) (cell : Cell) → IsStepCell step cell → step_wants step ≡ None
wants_nothing None cell h = absurd h
wants_nothing (Some (steps.Mark n fence)) cell h = refl
wants_nothing (Some (steps.Repair n k None there)) cell h = refl
wants_nothing (Some (steps.Repair n k (Some s) true)) cell h = refl
wants_nothing (Some (steps.Repair n k (Some s) there)) (GroupPage tag body) h = cc
wants_nothing (Some (steps.Repair n k (Some s) there)) cell h = absurd h
wants_nothing (Some (steps.Copy n k from (Some read))) cell h = refl
wants_nothing (Some (steps.Copy n k from None)) cell h = absurd h

-- What is left

module _ (c : Core) (t : Translation) (die : ℕ) (p : Place) (cell : Cell) (h : Describes c t)
    (flies : t.disk.flights die ≡ Some (disk.Programming p cell)) (page : IsStepCell c.step cell) where
  -- no other die writes the step's page
  pub none_writes : (e : ℕ) (q : Place) (other : Cell) → e ≢ die → t.disk.flights e ≡ Some (disk.Programming q other) →
      IsStepCell c.step other → ⊥
  none_writes e q other apart there that = apart
      (sym (one_writer t.disk.flights c.step die e p q cell other
      (λ m o here there. h.valid.flights.one_mark die e p q m o here there)
      (λ name here there. h.kept.fly.one die e name here there) flies there page that))

  -- so their jobs suit any step behind it that is no repair
  pub suits_next : (after : Option Step) → repairs_in after ≡ 0 →
      StepSuits t.numbers c.step after die c.rows t.disk.flights
  suits_next after none e y apart got job =
      flight_suits t.numbers c.step after e y.filling y.flight (t.disk.flights e)
      (λ q other is that. absurd (none_writes e q other apart is that)) (λ was. none) job

  -- and none reads for the step
  pub none_reads : (after : Option Step) → StepReadsKept (at_die t.disk.flights die None) after
  none_reads after e place is = ⊎_elim
      (λ k. absurd (none-some _ (sym k.1 ∙ is)))
      (λ k. absurd (none-some _ (sym (wants_nothing c.step cell page) ∙ h.kept.step_reads e place (sym k.1 ∙ is))))
      (at_die_cases t.disk.flights die None e)
