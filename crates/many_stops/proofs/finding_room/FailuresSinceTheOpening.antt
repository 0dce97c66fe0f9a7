-- What a device that mends has made of its opening stays so where a program or an erase fails: the block was free at
-- the opening, and is bad then.
use Rattle.many_stops.proofs.Common.{Bad, Bool, Cell, CellCrash, Cells, EndJob, Erasing, Fence, Flight, Free, GroupPage}
use Rattle.many_stops.proofs.Common.{IsAllowedMove, List, Mark, MarkPage, MarkStep, MayEnd, Mended, Mending, MendsAlone}
use Rattle.many_stops.proofs.Common.{Move, Name, None, Nothing, Option, Place, Programming, Reading, RepairStep}
use Rattle.many_stops.proofs.Common.{Repairing, Some, Spot, Step, StepKindRight, Tag, Translation, Unmarked, Valid}
use Rattle.many_stops.proofs.Common.{WentWrong, [], ap, at_spot, at_spot_cases, book, end_flight, erase_failed, false}
use Rattle.many_stops.proofs.Common.{false≢true, flight_alone, has_mark_number, if◌then◌else◌, inl, inr, is_marked}
use Rattle.many_stops.proofs.Common.{is_mended, mark_again, mark_not_nothing, mark_ordered, moved, none-some, number_of}
use Rattle.many_stops.proofs.Common.{program_failed, refl, spot_cases, spot_of, subst, sym, true, true≢false, ℕ, ⊎_elim}
use Rattle.many_stops.proofs.Common.{◌<◌, ◌∙◌, ◌≡◌, ◌≢◌, ◌⊎◌}
use Rattle.power_loss.proofs.jobs.StandsSecurely.{erase_left, program_left}
use Rattle.power_loss.proofs.stops.LeftUnmarked.{page_no_mark}
use Rattle.power_loss.specs.Invariant.{FenceRight}
use Rattle.many_stops.proofs.finding_room.MovesSinceTheOpening.{filled_was_free, flown_newer, free_was_free, move_since}
use Rattle.many_stops.proofs.finding_room.MovesSinceTheOpening.{unmarked_group}
use Rattle.many_stops.proofs.finding_room.SinceTheOpening.{IsLessOrNewMark, RepairsNone, Since, SinceOpening}
use Rattle.many_stops.proofs.finding_room.SinceTheOpening.{WereUnfilled, mark_no_repair, step_of}

-- the keys that are left are none
no_keys : (fence : Option Fence) (w : Mending) → is_mended w ≡ false → is_marked w ≡ true → FenceRight w fence →
    w ≡ Repairing []
no_keys fence (Unmarked first lost) un marked right = absurd (false≢true marked)
no_keys fence (Repairing left) un marked right = ap Repairing right.1
no_keys fence Mended un marked right = absurd (true≢false un)

module _ {o t : Translation} (unfilled : WereUnfilled o) (v : Valid t) (un : is_mended t.work.mending ≡ false)
    (alone : MendsAlone t) (r : SinceOpening o t) where
  -- A block goes bad

  -- what is left of a block that goes bad, and the step behind it
  record GoesBad (s : Spot) (left : Cells) (step : Option Step) : Type 0 where
    was : o.disk.blocks s ≡ Free
    others : (q : Place) → spot_of q ≢ s → left q ≡ t.disk.cells q
    less : is_marked t.work.mending ≡ false → (q : Place) → spot_of q ≡ s →
        IsLessOrNewMark o.ledger.newest (o.disk.cells q) (left q)
    late : is_marked t.work.mending ≡ true → (q : Place) (m : Mark) → left q ≡ MarkPage m →
        number_of t.ledger.newest < m.number → (t.work.mending ≡ Repairing []) × RepairsNone step
    named : (name : Name) (from : Option Place) (there : Bool) → step ≡ step_of (RepairStep name from) there →
        t.work.step ≡ step_of (RepairStep name from) there

  worse : (s : Spot) (left : Cells) (step : Option Step) → GoesBad s left step →
      Since o t.numbers left (at_spot t.disk.blocks s Bad) t.ledger.first_lost t.ledger.greatest_seen t.ledger.newest
      t.work.mending step
  worse s left step g = record {
    numbers_are = r.numbers_are;
    lost = r.lost;
    seen = r.seen;
    still = λ a not. ⊎_elim (λ k. absurd (not (ap o.disk.blocks k.0 ∙ g.was))) (λ k. k.1 ∙ r.still a not)
        (at_spot_cases t.disk.blocks s Bad a);
    unchanged = λ q not. g.others q (λ e. not (ap o.disk.blocks e ∙ g.was)) ∙ r.unchanged q not;
    new = λ q tag body free now good h. ⊎_elim (λ k. absurd (good k.1))
        (λ k. r.new q tag body free (λ e. now (k.1 ∙ e)) (λ e. good (k.1 ∙ e)) (sym (g.others q k.0) ∙ h))
        (at_spot_cases t.disk.blocks s Bad (spot_of q));
    named = λ name from there h. r.named name from there (g.named name from there h);
    same = r.same;
    blank = λ unmarked q free now good. ⊎_elim (λ k. absurd (good k.1))
        (λ k. g.others q k.0 ∙ r.blank unmarked q free (λ e. now (k.1 ∙ e)) (λ e. good (k.1 ∙ e)))
        (at_spot_cases t.disk.blocks s Bad (spot_of q));
    fewer = λ unmarked q free. ⊎_elim (λ k. g.less unmarked q k.1)
        (λ k. subst (IsLessOrNewMark o.ledger.newest (o.disk.cells q)) (sym (g.others q k.1)) (r.fewer unmarked q free))
        (spot_cases (spot_of q) s);
    newer = r.newer;
    late = g.late;
  }

  -- a mark that was there comes when all is repaired, if it is behind the newest one
  late_there : is_marked t.work.mending ≡ true → (q : Place) (m : Mark) → t.disk.cells q ≡ MarkPage m →
      number_of t.ledger.newest < m.number → (step : Option Step) →
      ((name : Name) (from : Option Place) (there : Bool) → step ≡ step_of (RepairStep name from) there →
      t.work.step ≡ step_of (RepairStep name from) there) →
      (t.work.mending ≡ Repairing []) × RepairsNone step
  late_there marked q m h newer step named =
      let l = r.late marked q m h newer in
      (l.0, λ name from there is. l.1 name from there (named name from there is))

  -- Programs

  module _ (die : ℕ) (p : Place) (left : Cells) where
    program_bad : (cell : Cell) (step : Option Step) → t.disk.flights die ≡ Some (Programming p cell) →
        CellCrash t.disk.cells (flight_alone t.disk.flights die) left →
        (is_marked t.work.mending ≡ false → (m : Mark) × (cell ≡ MarkPage m) × (number_of o.ledger.newest < m.number)) →
        (is_marked t.work.mending ≡ true → (m : Mark) → cell ≡ MarkPage m →
        (t.work.mending ≡ Repairing []) × RepairsNone step) →
        ((name : Name) (from : Option Place) (there : Bool) → step ≡ step_of (RepairStep name from) there →
        t.work.step ≡ step_of (RepairStep name from) there) →
        GoesBad (spot_of p) left step
    program_bad cell step e crash own behind named = record {
      was = was;
      others = λ q out. ⊎_elim (λ k. k) (λ k. absurd (out (ap spot_of k.0))) (program_left t.disk die left e crash q);
      less = λ unmarked q at. ⊎_elim
          (λ k. subst (IsLessOrNewMark o.ledger.newest (o.disk.cells q)) (sym k)
          (r.fewer unmarked q (ap o.disk.blocks at ∙ was)))
          (λ k. ⊎_elim (λ z. let m = own unmarked in inr (inr (m.0, z ∙ m.1, m.2))) (λ z. inr (inl z)) k.1)
          (program_left t.disk die left e crash q);
      late = λ marked q m h newer. ⊎_elim (λ k. late_there marked q m (sym k ∙ h) newer step named)
          (λ k. ⊎_elim (λ z. behind marked m (sym z ∙ h)) (λ z. absurd (mark_not_nothing _ _ h z)) k.1)
          (program_left t.disk die left e crash q);
      named = named;
    }
      where
        was : o.disk.blocks (spot_of p) ≡ Free
        was = filled_was_free o t unfilled r (spot_of p) p.page (v.flights.programs die p cell e).next

    page_fails : (tag : Tag) (body : List ℕ) → t.disk.flights die ≡ Some (Programming p (GroupPage tag body)) →
        CellCrash t.disk.cells (flight_alone t.disk.flights die) left →
        SinceOpening o (record t { disk = program_failed t.disk p left })
    page_fails tag body e crash = worse (spot_of p) left t.work.step
        (program_bad (GroupPage tag body) t.work.step e crash
        (λ unmarked. absurd
        (unmarked_group unfilled v un alone r t.work.mending v.mending unmarked die p tag body e))
        (λ marked m is. absurd (page_no_mark is)) (λ name from there h. h))

    mark_bad : (m : Mark) (step : Option Step) → t.disk.flights die ≡ Some (Programming p (MarkPage m)) →
        CellCrash t.disk.cells (flight_alone t.disk.flights die) left → RepairsNone step →
        Since o t.numbers left (at_spot t.disk.blocks (spot_of p) Bad) t.ledger.first_lost t.ledger.greatest_seen
        t.ledger.newest t.work.mending step
    mark_bad m step e crash none = worse (spot_of p) left step
        (program_bad (MarkPage m) step e crash
        (λ unmarked. (m, refl, flown_newer unfilled v un alone r t.work.mending refl v.mending die p m e))
        (λ marked other is. (repaired marked, none))
        (λ name from there h. absurd (none name from there h)))
      where
        repaired : is_marked t.work.mending ≡ true → t.work.mending ≡ Repairing []
        repaired marked =
            let f = v.flights.mark die p m e in
            let s : StepKindRight (book t) t.ledger.marks t.disk.cells t.work.mending t.work.plan
            (MarkStep m.number m.fence) =
            v.step.kind (record { kind = MarkStep m.number m.fence; there = f.there }) f.step_is in
            no_keys m.fence t.work.mending un marked s.fence_right

    mark_fails : (m : Mark) → t.disk.flights die ≡ Some (Programming p (MarkPage m)) →
        CellCrash t.disk.cells (flight_alone t.disk.flights die) left →
        SinceOpening o (mark_again (record t { disk = program_failed t.disk p left }) m.fence)
    mark_fails m e crash = by (has_mark_number (record t { disk = program_failed t.disk p left }))
      where
        by : (b : Bool) → SinceOpening o
            (if b then mark_ordered (record t { disk = program_failed t.disk p left }) m.fence
            else record t { disk = program_failed t.disk p left; work = record t.work { step = None } })
        by true = mark_bad m (mark_ordered (record t { disk = program_failed t.disk p left }) m.fence).work.step e crash
            (λ name from there h. mark_no_repair h)
        by false = mark_bad m None e crash (λ name from there h. none-some _ h)

  -- Erases

  erase_fails : (die : ℕ) (s : Spot) (left : Cells) → t.disk.flights die ≡ Some (Erasing s) →
      CellCrash t.disk.cells (flight_alone t.disk.flights die) left →
      SinceOpening o (record t { disk = erase_failed t.disk s left })
  erase_fails die s left e crash = worse s left t.work.step (record {
    was = was;
    others = λ q out. ⊎_elim (λ k. k) (λ k. absurd (out k.0)) (erase_left t.disk die left e crash q);
    less = λ unmarked q at. ⊎_elim
        (λ k. subst (IsLessOrNewMark o.ledger.newest (o.disk.cells q)) (sym k)
        (r.fewer unmarked q (ap o.disk.blocks at ∙ was)))
        (λ k. inr (inl k.1)) (erase_left t.disk die left e crash q);
    late = λ marked q m h newer. ⊎_elim
        (λ k. late_there marked q m (sym k ∙ h) newer t.work.step (λ name from there is. is))
        (λ k. absurd (mark_not_nothing _ _ h k.1)) (erase_left t.disk die left e crash q);
    named = λ name from there h. h;
  })
    where
      was : o.disk.blocks s ≡ Free
      was = free_was_free o t unfilled r s (v.flights.erases die s e).free

  -- Each move

  fails : (die : ℕ) (flight : Option Flight) (left : Cells) → t.disk.flights die ≡ flight →
      MayEnd t.disk die flight (WentWrong left) → SinceOpening o (end_flight t die flight (WentWrong left))
  fails die None left e may = absurd (false≢true may.0)
  fails die (Some (Reading reader place)) left e may = absurd (false≢true may.0)
  fails die (Some (Programming p Nothing)) left e may = absurd (v.flights.something die p e)
  fails die (Some (Programming p (GroupPage tag body))) left e may = page_fails die p left tag body e may.1
  fails die (Some (Programming p (MarkPage m))) left e may = mark_fails die p left m e may.1
  fails die (Some (Erasing s)) left e may = erase_fails die s left e may.1

  pub any_move_since : (move : Move) → IsAllowedMove t move → SinceOpening o (moved t move)
  any_move_since (EndJob die (WentWrong left)) may = fails die (t.disk.flights die) left refl may
  any_move_since move may = move_since unfilled v un alone r move may refl
