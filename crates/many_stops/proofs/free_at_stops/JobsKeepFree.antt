-- The begin and the end of a job keep it so that a stop costs no free block, unless it is the failed end of an erase of
-- pages that may go while another free block has such pages.
use Rattle.many_stops.proofs.Common.{AreNoneStale, Bad, BlockState, Bool, Cell, CellCrash, Cells, EndJob, Ending, Entry}
use Rattle.many_stops.proofs.Common.{Erasing, FailsStale, Filling, Flight, ForNobody, ForRest, ForStep, ForTask, Free}
use Rattle.many_stops.proofs.Common.{GroupPage, IsAsOpened, IsNewPage, KeepsFree, List, Mark, MarkPage, MayEnd, MayTake}
use Rattle.many_stops.proofs.Common.{Name, None, Nothing, OpensReady, Option, Place, Plan, Programming, ReadRight}
use Rattle.many_stops.proofs.Common.{ReadWrong, Reader, Reading, Some, Spot, Tag, Translation, Valid, WentWell}
use Rattle.many_stops.proofs.Common.{WentWrong, ap, arith, at_die, at_die_is, at_place_cases, at_spot, at_spot_is}
use Rattle.many_stops.proofs.Common.{before_accepted, end_flight, erase_failed, false, false≢true, flight_alone, freed}
use Rattle.many_stops.proofs.Common.{freed_state, has_mark_number, if◌then◌else◌, inl, inr, mark_again, mark_ordered}
use Rattle.many_stops.proofs.Common.{mark_written, mending_after, name_of, none-some, page_not_nothing, page_written}
use Rattle.many_stops.proofs.Common.{program_failed, program_owed, programmed, refl, spot_of, state_after, step_after}
use Rattle.many_stops.proofs.Common.{step_there, subst, sym, taken, true, ℕ, ⊎_elim, ◌<◌, ◌∙◌, ◌≡◌, ◌≢◌, ◌⊎◌}
use Rattle.ufs_spec.specs.Disk.{Ready, Stale, erased}
use Rattle.ufs_spec.specs.Ledger.{accepted_groups, entry_of}
use Rattle.ufs_spec.specs.Moves.{die_idle, read_right, read_wrong}
use Rattle.ufs_spec.specs.Translation.{cell_of_entry, waiting_name, waiting_step}
use Rattle.power_loss.proofs.jobs.StandsSecurely.{at_spot_other, behind_is_not_free, erase_left, erased_here}
use Rattle.power_loss.proofs.jobs.StandsSecurely.{erased_other, program_left, ready_is_not_stale}
use Rattle.power_loss.proofs.jobs_owed.ProgramsAndErases.{name_owed}
use Rattle.power_loss.proofs.jobs_owed.WhatWaits.{name_cell_waits, name_of_group}
use Rattle.many_stops.proofs.free_at_stops.BeforeAnyStep.{AsOpened, was_free, was_unfilled}
use Rattle.many_stops.proofs.free_at_stops.FreeAtStops.{stale_or_not}
use Rattle.many_stops.specs.FreeOverStops.{IsStaleBlock}
use Rattle.many_stops.proofs.free_at_stops.FreeAndStale.{IsUnopened, NoneStale, bad_is_not_free, calmly, changed, fewer}
use Rattle.many_stops.proofs.free_at_stops.FreeAndStale.{filling_is_not_free, idle, put_old, put_thinned, unopened}

-- Jobs that are given

-- a group's page has a number above all that were seen
new_cell : (top : ℕ) (name : Name) (o : Option Entry) (frontier : ℕ) {cell : Cell} → top < name.number →
    cell ≢ Nothing → cell ≡ cell_of_entry name o frontier → IsNewPage top cell
new_cell top name None frontier low some e = absurd (some e)
new_cell top name (Some x) frontier low some e = subst (IsNewPage top) (sym e) low

module _ (t : Translation) (v : Valid t) where
  new_program : AsOpened t → (die : ℕ) (p : Place) (cell : Cell) → MayTake t die (Some (Programming p cell)) →
      IsNewPage t.ledger.greatest_seen cell
  new_program a die p cell may = by (program_owed t die p cell may).is
    where
      by : (waiting_step t t.work.step ≡ Some cell)
          ⊎ ((waiting_step t t.work.step ≡ None)
          × ((name : Name) × (waiting_name t ≡ Some name) × (cell ≡ cell_of_entry name (entry_of t.ledger name)
          t.ledger.frontier))) → IsNewPage t.ledger.greatest_seen cell
      by (inl h) = absurd (none-some cell (sym (ap (waiting_step t) a.no_step) ∙ h))
      by (inr (none, (name, is, cell_is))) =
          let k =
          name_of_group (before_accepted t.ledger) (accepted_groups t.ledger) name (name_owed t name is).behind in
          let number = k.number in
          let w = name_cell_waits v is cell_is in
          new_cell t.ledger.greatest_seen name (entry_of t.ledger name) t.ledger.frontier (omega (arith, number))
          (page_not_nothing _ _ _ w.cell_is) cell_is

  program_given : AsOpened t → (die : ℕ) (p : Place) (cell : Cell) → MayTake t die (Some (Programming p cell)) →
      AsOpened (taken t die (Programming p cell))
  program_given a die p cell may =
      changed t a (spot_of p) (⊎_elim (λ f. was_unfilled t a f) (λ r. was_free t a r.free) next) a.no_step
      (λ z other. at_spot_other t.disk.blocks (spot_of p) (Filling p.page) z other) (λ q out. refl)
      (λ q at. put_thinned t.ledger.greatest_seen (a.opening q) t.disk.blocks (spot_of p) (Filling p.page) at
      (filling_is_not_free p.page)
      (⊎_elim (λ f. unopened t a q (ap t.disk.blocks at ∙ f))
      (λ r. inl (v.vacancies.empty q (ap t.disk.blocks at ∙ r.free)
      (ready_is_not_stale (ap t.disk.vacancies at ∙ r.ready)))) next))
      (λ other q x e. ⊎_elim (λ k. subst (IsNewPage t.ledger.greatest_seen) (same_program k.1)
      (new_program a die p cell may)) (λ k. a.flies other q x k.1)
      (at_die_is t.disk.flights die (Some (Programming p cell)) other (Some (Programming q x)) e))
    where
      next : (t.disk.blocks (spot_of p) ≡ Filling p.page) ⊎ OpensReady t p
      next = (program_owed t die p cell may).place.next

      same_program : {p q : Place} {x y : Cell} → Some (Programming p x) ≡ Some (Programming q y) → x ≡ y
      same_program e = cc

  pub gives : (die : ℕ) (flight : Flight) → MayTake t die (Some flight) → KeepsFree t → KeepsFree (taken t die flight)
  gives die (Reading reader place) may keeps =
      calmly t (taken t die (Reading reader place))
      (record { numbers = refl; old = λ s free stale. (free, stale); mending = refl; step = λ e. e })
      (λ a. fewer t a a.no_step (λ other p cell e. ⊎_elim (λ k. absurd (read_no_program k.1)) (λ k. k.1)
      (at_die_is t.disk.flights die (Some (Reading reader place)) other (Some (Programming p cell)) e))) keeps
    where
      read_no_program : {reader : Reader} {place p : Place} {cell : Cell} →
          Some (Reading reader place) ≡ Some (Programming p cell) → ⊥
      read_no_program e = cc
  gives die (Programming p cell) may keeps =
      calmly t (taken t die (Programming p cell))
      (record {
        numbers = refl;
        old = put_old t.disk.blocks t.disk.vacancies (spot_of p) (Filling p.page) (filling_is_not_free p.page);
        mending = refl;
        step = λ e. e;
      }) (λ a. program_given a die p cell may) keeps
  gives die (Erasing s) may keeps =
      calmly t (taken t die (Erasing s))
      (record { numbers = refl; old = λ z free stale. (free, stale); mending = refl; step = λ e. e })
      (λ a. fewer t a a.no_step (λ other p cell e. ⊎_elim (λ k. absurd (erase_no_program k.1)) (λ k. k.1)
      (at_die_is t.disk.flights die (Some (Erasing s)) other (Some (Programming p cell)) e))) keeps
    where
      erase_no_program : {s : Spot} {p : Place} {cell : Cell} → Some (Erasing s) ≡ Some (Programming p cell) → ⊥
      erase_no_program e = cc

  -- Reads that end

  read_ends : (die : ℕ) (u : Translation) → u.numbers ≡ t.numbers → u.disk ≡ (die_idle t die).disk →
      u.ledger ≡ t.ledger → u.work.mending ≡ t.work.mending → (t.work.step ≡ None → u.work.step ≡ None) →
      KeepsFree t → KeepsFree u
  read_ends die u numbers disk ledger mending step keeps =
      calmly t u
      (record {
        numbers = numbers;
        old = λ s free stale. (ap (λ d. d.blocks s) (sym disk) ∙ free, ap (λ d. d.vacancies s) (sym disk) ∙ stale);
        mending = mending;
        step = step;
      })
      (λ a. subst (λ d. IsAsOpened u.ledger.newest u.ledger.greatest_seen d.cells d.blocks d.flights u.work.step)
      (sym disk) (subst (λ l. IsAsOpened l.newest l.greatest_seen t.disk.cells t.disk.blocks
      (at_die t.disk.flights die None) u.work.step) (sym ledger)
      (fewer t a (step a.no_step) (idle t.disk.flights die))))
      keeps

  reads_right : (die : ℕ) (reader : Reader) → KeepsFree t → KeepsFree (read_right (die_idle t die) reader)
  reads_right die ForNobody = read_ends die (die_idle t die) refl refl refl refl (λ e. e)
  reads_right die (ForTask tag index) =
      read_ends die (read_right (die_idle t die) (ForTask tag index)) refl refl refl refl (λ e. e)
  reads_right die ForStep =
      read_ends die (read_right (die_idle t die) ForStep) refl refl refl refl (λ e. ap step_there e)
  reads_right die (ForRest number index) =
      read_ends die (read_right (die_idle t die) (ForRest number index)) refl refl refl refl (λ e. e)

  reads_wrong : (die : ℕ) (reader : Reader) → KeepsFree t → KeepsFree (read_wrong (die_idle t die) reader)
  reads_wrong die (ForTask tag index) =
      read_ends die (read_wrong (die_idle t die) (ForTask tag index)) refl refl refl refl (λ e. e)
  reads_wrong die reader = read_ends die (die_idle t die) refl refl refl refl (λ e. e)

  -- Programs that end

  page_ends : (die : ℕ) (p : Place) (tag : Tag) (body : List ℕ) →
      t.disk.flights die ≡ Some (Programming p (GroupPage tag body)) → KeepsFree t →
      KeepsFree (page_written t p tag body)
  page_ends die p tag body e keeps =
      calmly t (page_written t p tag body)
      (record {
        numbers = refl;
        old = put_old t.disk.blocks t.disk.vacancies (spot_of p) after (behind_is_not_free t.numbers.pages p.page);
        mending = refl;
        step = λ none. ap (step_after (name_of tag)) none;
      })
      (λ a. changed t a (spot_of p) (was_unfilled t a filling) (ap (step_after (name_of tag)) a.no_step)
      (λ z other. at_spot_other t.disk.blocks (spot_of p) after z other)
      (λ q out. ⊎_elim (λ k. absurd (out (ap spot_of k.0))) (λ k. k.1)
      (at_place_cases t.disk.cells p (GroupPage tag body) q))
      (λ q at. put_thinned t.ledger.greatest_seen (a.opening q) t.disk.blocks (spot_of p) after at
      (behind_is_not_free t.numbers.pages p.page)
      (⊎_elim (λ k. inr (subst (IsNewPage t.ledger.greatest_seen) (sym k.1) (a.flies die p (GroupPage tag body) e)))
      (λ k. subst (IsUnopened t.ledger.greatest_seen) (sym k.1) (unopened t a q (ap t.disk.blocks at ∙ filling)))
      (at_place_cases t.disk.cells p (GroupPage tag body) q)))
      (λ other q x h. a.flies other q x (idle t.disk.flights p.die other q x h))) keeps
    where
      filling : t.disk.blocks (spot_of p) ≡ Filling p.page
      filling = (v.flights.programs die p (GroupPage tag body) e).next

      after : BlockState
      after = state_after t.numbers.pages p.page

  page_fails : (die : ℕ) (p : Place) (cell : Cell) (left : Cells) → t.disk.flights die ≡ Some (Programming p cell) →
      CellCrash t.disk.cells (flight_alone t.disk.flights die) left → KeepsFree t →
      KeepsFree (record t { disk = program_failed t.disk p left })
  page_fails die p cell left e crash keeps =
      calmly t (record t { disk = program_failed t.disk p left })
      (record {
        numbers = refl;
        old = put_old t.disk.blocks t.disk.vacancies (spot_of p) Bad bad_is_not_free;
        mending = refl;
        step = λ none. none;
      })
      (λ a. changed t a (spot_of p) (was_unfilled t a filling) a.no_step
      (λ z other. at_spot_other t.disk.blocks (spot_of p) Bad z other)
      (λ q out. ⊎_elim (λ k. k) (λ k. absurd (out (ap spot_of k.0))) (program_left t.disk die left e crash q))
      (λ q at. put_thinned t.ledger.greatest_seen (a.opening q) t.disk.blocks (spot_of p) Bad at bad_is_not_free
      (⊎_elim (λ k. subst (IsUnopened t.ledger.greatest_seen) (sym k) (unopened t a q (ap t.disk.blocks at ∙ filling)))
      (λ k. ⊎_elim (λ z. inr (subst (IsNewPage t.ledger.greatest_seen) (sym z) (a.flies die p cell e))) (λ z. inl z)
      k.1)
      (program_left t.disk die left e crash q)))
      (λ other q x h. a.flies other q x (idle t.disk.flights p.die other q x h))) keeps
    where
      filling : t.disk.blocks (spot_of p) ≡ Filling p.page
      filling = (v.flights.programs die p cell e).next

  -- Marks that end

  -- while a mark is in flight a step is under way, so none is to be erased
  none_flown : (die : ℕ) (p : Place) (m : Mark) → t.disk.flights die ≡ Some (Programming p (MarkPage m)) →
      KeepsFree t → NoneStale t
  none_flown die p m e (inl none) = none
  none_flown die p m e (inr (inl one)) =
      absurd (none-some _ (sym one.no_step ∙ (v.flights.mark die p m e).step_is))
  none_flown die p m e (inr (inr a)) = absurd (none-some _ (sym a.no_step ∙ (v.flights.mark die p m e).step_is))

  abbrev behind : Place → Spot → BlockState
  behind p = at_spot t.disk.blocks (spot_of p) (state_after t.numbers.pages p.page)

  none_programmed : (p : Place) → NoneStale t → AreNoneStale t.numbers (behind p) t.disk.vacancies
  none_programmed p none s die block free stale =
      let k = put_old t.disk.blocks t.disk.vacancies (spot_of p) (state_after t.numbers.pages p.page)
      (behind_is_not_free t.numbers.pages p.page) s free stale in
      none s die block k.0 k.1

  -- the block of its plan is the only one then
  mark_ends : (die : ℕ) (p : Place) (m : Mark) → t.disk.flights die ≡ Some (Programming p (MarkPage m)) →
      KeepsFree t → KeepsFree (mark_written t p m)
  mark_ends die p m e keeps = by t.work.plan refl
    where
      none : NoneStale t
      none = none_flown die p m e keeps

      by : (o : Option Plan) → t.work.plan ≡ o →
          KeepsFree (record (mark_written t p m) { disk = freed (programmed t.numbers.pages t.disk p (MarkPage m)) o })
      by None is = inl (none_programmed p none)
      by (Some plan) is = inr (inl (record {
        spot = plan.victim;
        alone = λ s on_die block free stale. ⊎_elim (λ k. k.0)
            (λ k. absurd (none_programmed p none s on_die block
            (⊎_elim (λ z. absurd (k.0 z.0)) (λ z. z.1)
            (at_spot_is (behind p) plan.victim (freed_state (behind p plan.victim)) s Free free)) k.1))
            (at_spot_is t.disk.vacancies plan.victim Stale s Stale stale);
        mended = ap mending_after (v.plan.mended plan is);
        no_step = refl;
      }))

  mark_fails : (die : ℕ) (p : Place) (m : Mark) (left : Cells) →
      t.disk.flights die ≡ Some (Programming p (MarkPage m)) → KeepsFree t →
      KeepsFree (mark_again (record t { disk = program_failed t.disk p left }) m.fence)
  mark_fails die p m left e keeps = by (has_mark_number (record t { disk = program_failed t.disk p left }))
    where
      none : AreNoneStale t.numbers (at_spot t.disk.blocks (spot_of p) Bad) t.disk.vacancies
      none s on_die block free stale =
          let k = put_old t.disk.blocks t.disk.vacancies (spot_of p) Bad bad_is_not_free s free stale in
          none_flown die p m e keeps s on_die block k.0 k.1

      by : (b : Bool) → KeepsFree (if b then mark_ordered (record t { disk = program_failed t.disk p left }) m.fence
          else record t { disk = program_failed t.disk p left; work = record t.work { step = None } })
      by true = inl none
      by false = inl none

  -- Erases that end

  erase_ends : (die : ℕ) (s : Spot) → t.disk.flights die ≡ Some (Erasing s) → KeepsFree t →
      KeepsFree (record t { disk = erased t.disk s })
  erase_ends die s e keeps =
      calmly t (record t { disk = erased t.disk s })
      (record {
        numbers = refl;
        old = λ z free stale. ⊎_elim (λ k. absurd (ready_is_not_stale refl k.1)) (λ k. (free, k.1))
            (at_spot_is t.disk.vacancies s Ready z Stale stale);
        mending = refl;
        step = λ none. none;
      })
      (λ a. changed t a s (was_free t a (v.flights.erases die s e).free) a.no_step (λ z other. refl)
      (λ q out. erased_other t.disk s q out) (λ q at. inl (erased_here t.disk q at))
      (λ other q x h. a.flies other q x (idle t.disk.flights s.die other q x h))) keeps

  -- what a failed erase of a block without pages leaves
  blank_fails : AsOpened t → (die : ℕ) (s : Spot) (left : Cells) → t.disk.flights die ≡ Some (Erasing s) →
      CellCrash t.disk.cells (flight_alone t.disk.flights die) left → t.disk.vacancies s ≢ Stale →
      AsOpened (record t { disk = erase_failed t.disk s left })
  blank_fails a die s left e crash blank =
      changed t a s (was_free t a free) a.no_step (λ z other. at_spot_other t.disk.blocks s Bad z other)
      (λ q out. ⊎_elim (λ k. k) (λ k. absurd (out k.0)) (erase_left t.disk die left e crash q))
      (λ q at. inl (⊎_elim (λ k. k ∙ v.vacancies.empty q (ap t.disk.blocks at ∙ free)
      (λ h. blank (ap t.disk.vacancies (sym at) ∙ h))) (λ k. k.1) (erase_left t.disk die left e crash q)))
      (λ other q x h. a.flies other q x (idle t.disk.flights s.die other q x h))
    where
      free : t.disk.blocks s ≡ Free
      free = (v.flights.erases die s e).free

  -- where the block was the only one, none is to be erased any more
  last_fails : (s : Spot) (left : Cells) → ((other : Spot) → other ≢ s → IsStaleBlock t other → ⊥) →
      NoneStale (record t { disk = erase_failed t.disk s left })
  last_fails s left only z die block free stale = ⊎_elim (λ k. bad_is_not_free k.1)
      (λ k. only z k.0 (die, block, k.1, stale)) (at_spot_is t.disk.blocks s Bad z Free free)

  erase_fails : (die : ℕ) (s : Spot) (left : Cells) → t.disk.flights die ≡ Some (Erasing s) →
      CellCrash t.disk.cells (flight_alone t.disk.flights die) left →
      (t.disk.vacancies s ≡ Stale → (other : Spot) → other ≢ s → IsStaleBlock t other → ⊥) → KeepsFree t →
      KeepsFree (record t { disk = erase_failed t.disk s left })
  erase_fails die s left e crash only keeps = ⊎_elim
      (λ stale. inl (last_fails s left (only stale)))
      (λ blank. calmly t (record t { disk = erase_failed t.disk s left })
      (record {
        numbers = refl;
        old = put_old t.disk.blocks t.disk.vacancies s Bad bad_is_not_free;
        mending = refl;
        step = λ none. none;
      }) (λ a. blank_fails a die s left e crash blank) keeps) (stale_or_not (t.disk.vacancies s))

  -- The end of any job

  pub ends : (die : ℕ) (flight : Option Flight) (ending : Ending) → t.disk.flights die ≡ flight →
      MayEnd t.disk die flight ending → (FailsStale t (EndJob die ending) → ⊥) → KeepsFree t →
      KeepsFree (end_flight t die flight ending)
  ends die None ending e may well keeps = keeps
  ends die (Some (Reading reader place)) ReadRight e may well keeps = reads_right die reader keeps
  ends die (Some (Reading reader place)) ReadWrong e may well keeps = reads_wrong die reader keeps
  ends die (Some (Programming p Nothing)) ending e may well keeps = absurd (v.flights.something die p e)
  ends die (Some (Programming p (GroupPage tag body))) WentWell e may well keeps = page_ends die p tag body e keeps
  ends die (Some (Programming p (GroupPage tag body))) (WentWrong left) e may well keeps =
      page_fails die p (GroupPage tag body) left e may.1 keeps
  ends die (Some (Programming p (MarkPage m))) WentWell e may well keeps = mark_ends die p m e keeps
  ends die (Some (Programming p (MarkPage m))) (WentWrong left) e may well keeps = mark_fails die p m left e keeps
  ends die (Some (Erasing s)) WentWell e may well keeps = erase_ends die s e keeps
  ends die (Some (Erasing s)) (WentWrong left) e may well keeps =
      erase_fails die s left e may.1 (λ stale other differ is. well (s, other, e, stale, differ, is)) keeps
  ends die flight ending e may well keeps = absurd (false≢true may.0)
