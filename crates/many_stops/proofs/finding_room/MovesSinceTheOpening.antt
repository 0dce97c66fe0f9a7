-- What a device that mends has made of its opening stays so along each move, and is so when a life begins.
use Rattle.many_stops.proofs.Common.{Bad, Bool, Cell, Cells, CopyStep, EndJob, Ending, Erasing, Filling, Flight}
use Rattle.many_stops.proofs.Common.{ForNobody, ForRest, ForStep, ForTask, Free, GiveJob, GroupPage, IsAllowedMove}
use Rattle.many_stops.proofs.Common.{IsDue, IsOpenedTranslation, Key, List, Mark, MarkPage, MarkStep, MayTake, Mended}
use Rattle.many_stops.proofs.Common.{Mending, MendingOf, MendsAlone, Move, Name, None, Nothing, Numbers, OpensReady}
use Rattle.many_stops.proofs.Common.{Option, Order, OrderCopy, OrderMark, OrderPlanMark, OrderRepair, Place, Plan}
use Rattle.many_stops.proofs.Common.{Programming, ReadRight, ReadWrong, Reading, RepairStep, Repairing, Some, Spot}
use Rattle.many_stops.proofs.Common.{Step, StepKind, StepKindRight, Tag, TakeStep, Translation, Unmarked, Valid}
use Rattle.many_stops.proofs.Common.{WentWell, WentWrong, [], ap, arith, at_place, at_place_cases, at_spot}
use Rattle.many_stops.proofs.Common.{at_spot_cases, book, closed_is_not_free, end_flight, fails_job, false, false≢true}
use Rattle.many_stops.proofs.Common.{filling_is_not_bad, if◌then◌else◌, inl, inr, is_marked, is_mended, length}
use Rattle.many_stops.proofs.Common.{mark_not_nothing, mark_ordered, mark_written, moved, name_of, name_told, none-some}
use Rattle.many_stops.proofs.Common.{number_of, order_due, ordered, page_not_nothing, page_written, program_owed, refl}
use Rattle.many_stops.proofs.Common.{repair_ordered, same_Some, spot_cases, spot_of, state_after, step_there, subst}
use Rattle.many_stops.proofs.Common.{sym, taken, true, true≢false, turned, turned_if, ℕ, ⊎_elim, ◌<◌, ◌∙◌, ◌∷◌, ◌≡◌}
use Rattle.many_stops.proofs.Common.{◌≢◌, ◌≤◌, ◌⊎◌}
use Rattle.ufs_spec.proofs.CellKinds.{one_mark, one_page}
use Rattle.ufs_spec.proofs.Updates.{at_place_is}
use Rattle.ufs_spec.specs.Openings.{IsMendingAt}
use Rattle.power_loss.proofs.jobs.StandsSecurely.{ready_is_not_stale}
use Rattle.power_loss.proofs.stops.LeftCells.{flying_above}
use Rattle.power_loss.proofs.stops.LeftUnmarked.{page_no_mark}
use Rattle.power_loss.specs.MendingRoom.{flies_kind}
use Rattle.many_stops.proofs.room_left.RoomStays.{bad_is_not_free}
use Rattle.many_stops.proofs.finding_room.SinceTheOpening.{IsLessOrNewMark, SinceOpening, WereUnfilled, after_is}
use Rattle.many_stops.proofs.finding_room.SinceTheOpening.{bad_apart, behind_marked, closed_apart, filling_not_free}
use Rattle.many_stops.proofs.finding_room.SinceTheOpening.{kind_of_step, mark_no_repair, name_number, next_low, step_of}
use Rattle.many_stops.proofs.finding_room.SinceTheOpening.{there_is}

-- What was not free

module _ (o t : Translation) (unfilled : WereUnfilled o) (r : SinceOpening o t) where
  -- what is being filled, or is free, was free
  pub filled_was_free : (s : Spot) (next : ℕ) → t.disk.blocks s ≡ Filling next → o.disk.blocks s ≡ Free
  filled_was_free s next is = ⊎_elim (λ e. e)
      (λ e. ⊎_elim (λ k. absurd (closed_apart (sym k ∙ sym (r.still s (closed_is_not_free k)) ∙ is)))
      (λ k. absurd (bad_apart (sym k ∙ sym (r.still s (bad_is_not_free k)) ∙ is))) e) (unfilled s)

  pub free_was_free : (s : Spot) → t.disk.blocks s ≡ Free → o.disk.blocks s ≡ Free
  free_was_free s is = ⊎_elim (λ e. e)
      (λ e. ⊎_elim (λ k. absurd (closed_is_not_free k (sym (r.still s (closed_is_not_free k)) ∙ is)))
      (λ k. absurd (bad_is_not_free k (sym (r.still s (bad_is_not_free k)) ∙ is))) e) (unfilled s)

module _ {o t : Translation} (unfilled : WereUnfilled o) (v : Valid t) (un : is_mended t.work.mending ≡ false)
    (alone : MendsAlone t) (r : SinceOpening o t) where
  -- Jobs that begin

  opens : (p : Place) → (t.disk.blocks (spot_of p) ≡ Filling p.page) ⊎ OpensReady t p →
      SinceOpening o (record t { disk = record t.disk { blocks = at_spot t.disk.blocks (spot_of p) (Filling p.page) } })
  opens p next = record {
    numbers_are = r.numbers_are;
    lost = r.lost;
    seen = r.seen;
    still = λ s not. ⊎_elim (λ k. absurd (not (ap o.disk.blocks k.0 ∙ was))) (λ k. k.1 ∙ r.still s not)
        (at_spot_cases t.disk.blocks (spot_of p) (Filling p.page) s);
    unchanged = r.unchanged;
    new = λ q tag body free now good h. ⊎_elim (λ k. inside q tag body k.0 free h)
        (λ k. r.new q tag body free (λ e. now (k.1 ∙ e)) (λ e. good (k.1 ∙ e)) h)
        (at_spot_cases t.disk.blocks (spot_of p) (Filling p.page) (spot_of q));
    named = r.named;
    same = r.same;
    blank = λ unmarked q free now good. ⊎_elim (λ k. none_inside unmarked q k.0 free)
        (λ k. r.blank unmarked q free (λ e. now (k.1 ∙ e)) (λ e. good (k.1 ∙ e)))
        (at_spot_cases t.disk.blocks (spot_of p) (Filling p.page) (spot_of q));
    fewer = r.fewer;
    newer = r.newer;
    late = r.late;
  }
    where
      was : o.disk.blocks (spot_of p) ≡ Free
      was = ⊎_elim (λ e. filled_was_free o t unfilled r (spot_of p) p.page e)
          (λ (k : OpensReady t p). free_was_free o t unfilled r (spot_of p) k.free) next

      empty_ready : (q : Place) → spot_of q ≡ spot_of p → OpensReady t p → t.disk.cells q ≡ Nothing
      empty_ready q at k =
          v.vacancies.empty q (ap t.disk.blocks at ∙ k.free) (ready_is_not_stale (ap t.disk.vacancies at ∙ k.ready))

      inside : (q : Place) (tag : Tag) (body : List ℕ) → spot_of q ≡ spot_of p → o.disk.blocks (spot_of q) ≡ Free →
          t.disk.cells q ≡ GroupPage tag body → t.ledger.first_lost ≤ tag.number
      inside q tag body at free h = ⊎_elim
          (λ e. r.new q tag body free (filling_not_free (ap t.disk.blocks at ∙ e))
          (filling_is_not_bad (ap t.disk.blocks at ∙ e)) h)
          (λ (k : OpensReady t p). absurd (page_not_nothing _ _ _ h (empty_ready q at k))) next

      none_inside : is_marked t.work.mending ≡ false → (q : Place) → spot_of q ≡ spot_of p →
          o.disk.blocks (spot_of q) ≡ Free → t.disk.cells q ≡ Nothing
      none_inside unmarked q at free = ⊎_elim
          (λ e. r.blank unmarked q free (filling_not_free (ap t.disk.blocks at ∙ e))
          (filling_is_not_bad (ap t.disk.blocks at ∙ e))) (λ (k : OpensReady t p). empty_ready q at k) next

  takes : (die : ℕ) (flight : Flight) → MayTake t die (Some flight) → SinceOpening o (taken t die flight)
  takes die (Reading reader place) may = r
  takes die (Erasing s) may = r
  takes die (Programming p cell) may = opens p (program_owed t die p cell may).place.next

  -- Programs that end

  -- the page of a group that is programmed is a repair
  flown_number : (die : ℕ) (p : Place) (tag : Tag) (body : List ℕ) →
      t.disk.flights die ≡ Some (Programming p (GroupPage tag body)) → t.ledger.first_lost ≤ tag.number
  flown_number die p tag body e =
      let s = alone.of_step die p (GroupPage tag body) e in
      by s.0.kind s.0.there s.1 (v.step.kind s.0 s.1) s.2
    where
      by : (kind : StepKind) (there : Bool) → t.work.step ≡ step_of kind there →
          StepKindRight (book t) t.ledger.marks t.disk.cells t.work.mending t.work.plan kind →
          flies_kind kind (Some (Programming p (GroupPage tag body))) ≡ true → t.ledger.first_lost ≤ tag.number
      by (MarkStep number fence) there is right h = absurd (false≢true h)
      by (CopyStep name from) there is right h = absurd (true≢false (sym (ap is_mended right.0) ∙ un))
      by (RepairStep name from) there is right h =
          let n = ap (λ (x : Name). x.number) (name_told name (name_of tag) h) in
          let l = r.named name from there is in
          omega (arith, n, l)

  pub flies_new : (die : ℕ) (p : Place) (tag : Tag) (body : List ℕ) →
      t.disk.flights die ≡ Some (Programming p (GroupPage tag body)) → t.ledger.first_lost ≤ tag.number
  flies_new = flown_number

  module _ (die : ℕ) (p : Place) (cell : Cell) (e : t.disk.flights die ≡ Some (Programming p cell)) where
    was_free : o.disk.blocks (spot_of p) ≡ Free
    was_free = filled_was_free o t unfilled r (spot_of p) p.page (v.flights.programs die p cell e).next

    still_behind : (s : Spot) → o.disk.blocks s ≢ Free →
        at_spot t.disk.blocks (spot_of p) (state_after t.numbers.pages p.page) s ≡ o.disk.blocks s
    still_behind s not = ⊎_elim (λ k. absurd (not (ap o.disk.blocks k.0 ∙ was_free))) (λ k. k.1 ∙ r.still s not)
        (at_spot_cases t.disk.blocks (spot_of p) (state_after t.numbers.pages p.page) s)

    unchanged_behind : (q : Place) → o.disk.blocks (spot_of q) ≢ Free → at_place t.disk.cells p cell q ≡ o.disk.cells q
    unchanged_behind q not = ⊎_elim (λ k. absurd (not (ap (λ (z : Place). o.disk.blocks (spot_of z)) k.0 ∙ was_free)))
        (λ k. k.1 ∙ r.unchanged q not) (at_place_cases t.disk.cells p cell q)

    new_behind : ((tag : Tag) (body : List ℕ) → cell ≡ GroupPage tag body → t.ledger.first_lost ≤ tag.number) →
        (q : Place) (tag : Tag) (body : List ℕ) → o.disk.blocks (spot_of q) ≡ Free →
        at_spot t.disk.blocks (spot_of p) (state_after t.numbers.pages p.page) (spot_of q) ≢ Free →
        at_spot t.disk.blocks (spot_of p) (state_after t.numbers.pages p.page) (spot_of q) ≢ Bad →
        at_place t.disk.cells p cell q ≡ GroupPage tag body → t.ledger.first_lost ≤ tag.number
    new_behind own q tag body free now good h = ⊎_elim (λ k. own tag body k.1)
        (λ k. r.new q tag body free
        (⊎_elim (λ a. filling_not_free (ap t.disk.blocks a.0 ∙ (v.flights.programs die p cell e).next))
        (λ a is. now (a.1 ∙ is))
        (at_spot_cases t.disk.blocks (spot_of p) (state_after t.numbers.pages p.page) (spot_of q)))
        (⊎_elim (λ a. filling_is_not_bad (ap t.disk.blocks a.0 ∙ (v.flights.programs die p cell e).next))
        (λ a is. good (a.1 ∙ is))
        (at_spot_cases t.disk.blocks (spot_of p) (state_after t.numbers.pages p.page) (spot_of q))) k.1)
        (at_place_is t.disk.cells p cell q (GroupPage tag body) h)

  pub unmarked_group : (w : Mending) → MendingOf t w → is_marked w ≡ false → (die : ℕ) (p : Place) (tag : Tag)
      (body : List ℕ) → t.disk.flights die ≡ Some (Programming p (GroupPage tag body)) → ⊥
  unmarked_group (Unmarked fence lost) m is die p tag body e =
      let k = m.flies die p (GroupPage tag body) e in page_no_mark k.1
  unmarked_group (Repairing left) m is die p tag body e = true≢false is
  unmarked_group Mended m is die p tag body e = true≢false is

  page_ends : (die : ℕ) (p : Place) (tag : Tag) (body : List ℕ) →
      t.disk.flights die ≡ Some (Programming p (GroupPage tag body)) → SinceOpening o (page_written t p tag body)
  page_ends die p tag body e = record {
    numbers_are = r.numbers_are;
    lost = r.lost;
    seen = r.seen;
    still = still_behind die p (GroupPage tag body) e;
    unchanged = unchanged_behind die p (GroupPage tag body) e;
    new = new_behind die p (GroupPage tag body) e
        (λ other more same. let n = ap (λ (x : Tag). x.number) (one_page tag other body more same).0 in
        let l = flown_number die p tag body e in omega (arith, n, l));
    named = λ name from there h. r.named name from there (after_is (name_of tag) t.work.step _ h);
    same = r.same;
    blank = λ unmarked q free now good. absurd (unmarked_group t.work.mending v.mending unmarked die p tag body e);
    fewer = λ unmarked q free. absurd (unmarked_group t.work.mending v.mending unmarked die p tag body e);
    newer = r.newer;
    late = λ marked q m h newer. ⊎_elim (λ k. absurd (page_no_mark k.1))
        (λ k.
        let l = r.late marked q m k.1 newer in
        (l.0, λ name from there is. l.1 name from there (after_is (name_of tag) t.work.step _ is)))
        (at_place_is t.disk.cells p (GroupPage tag body) q (MarkPage m) h);
  }

  -- a mark that is programmed is newer than that of the opening
  pub flown_newer : (w : Mending) → t.work.mending ≡ w → MendingOf t w → (die : ℕ) (p : Place) (m : Mark) →
      t.disk.flights die ≡ Some (Programming p (MarkPage m)) → number_of o.ledger.newest < m.number
  flown_newer (Unmarked fence lost) is w die p m e =
      let k = w.flies die p (MarkPage m) e in
      let n = ap (λ (x : Mark). x.number) (one_mark m k.0 k.1) in
      let f = ap number_of (r.same (ap is_marked is)) in
      let l = k.2.newer in
      omega (arith, n, f, l)
  flown_newer (Repairing left) is w die p m e =
      let l = (w.right.flies die p m e).newer in
      let k = r.newer (ap is_marked is) w.mark w.is in
      omega (arith, l, k)
  flown_newer Mended is w die p m e =
      let l = (w.right.flies die p m e).newer in
      let k = r.newer (ap is_marked is) w.mark w.is in
      omega (arith, l, k)

  mark_ends : (die : ℕ) (p : Place) (m : Mark) → t.disk.flights die ≡ Some (Programming p (MarkPage m)) →
      SinceOpening o (mark_written t p m)
  mark_ends die p m e = by t.work.plan refl
    where
      by : (pl : Option Plan) → t.work.plan ≡ pl →
          SinceOpening o (mark_written (record t { work = record t.work { plan = pl } }) p m)
      by (Some pl) is = absurd (true≢false (sym (ap is_mended (v.plan.mended pl is)) ∙ un))
      by None is = record {
        numbers_are = r.numbers_are;
        lost = r.lost;
        seen = r.seen;
        still = still_behind die p (MarkPage m) e;
        unchanged = unchanged_behind die p (MarkPage m) e;
        new = new_behind die p (MarkPage m) e (λ tag body same. absurd (page_no_mark (sym same)));
        named = λ name from there h. absurd (none-some _ h);
        same = λ h. absurd (behind_marked t.work.mending h);
        blank = λ h. absurd (behind_marked t.work.mending h);
        fewer = λ h. absurd (behind_marked t.work.mending h);
        newer = λ h other is.
            let n = ap (λ (x : Mark). x.number) (same_Some m other is) in
            let l = flown_newer t.work.mending refl v.mending die p m e in
            omega (arith, n, l);
        late = λ marked q other h newer. absurd (⊎_elim
            (λ k. let n = ap (λ (x : Mark). x.number) (one_mark m other k.1) in omega (arith, n, newer))
            (λ k. let l = flying_above p v e q other k.1 in omega (arith, l, newer))
            (at_place_is t.disk.cells p (MarkPage m) q (MarkPage other) h));
      }

  -- Erases that end

  erase_ends : (die : ℕ) (s : Spot) → t.disk.flights die ≡ Some (Erasing s) →
      SinceOpening o (end_flight t die (Some (Erasing s)) WentWell)
  erase_ends die s e = record {
    numbers_are = r.numbers_are;
    lost = r.lost;
    seen = r.seen;
    still = r.still;
    unchanged = λ q not. ⊎_elim (λ k. absurd (not (ap o.disk.blocks k.1 ∙ was)))
        (λ k. subst (λ b. (if b then Nothing else t.disk.cells q) ≡ o.disk.cells q) (sym k.0) (r.unchanged q not))
        (spot_cases (spot_of q) s);
    new = λ q tag body free now good h. ⊎_elim
        (λ k. absurd (page_not_nothing _ _ _
        (subst (λ b. (if b then Nothing else t.disk.cells q) ≡ GroupPage tag body) k.0 h) refl))
        (λ k. r.new q tag body free now good
        (subst (λ b. (if b then Nothing else t.disk.cells q) ≡ GroupPage tag body) k.0 h))
        (spot_cases (spot_of q) s);
    named = r.named;
    same = r.same;
    blank = λ unmarked q free now good. ⊎_elim (λ k. ap (λ b. if b then Nothing else t.disk.cells q) k.0)
        (λ k. subst (λ b. (if b then Nothing else t.disk.cells q) ≡ Nothing) (sym k.0)
        (r.blank unmarked q free now good)) (spot_cases (spot_of q) s);
    fewer = λ unmarked q free. ⊎_elim
        (λ k. inr (inl (ap (λ b. if b then Nothing else t.disk.cells q) k.0)))
        (λ k. subst (λ b. IsLessOrNewMark o.ledger.newest (o.disk.cells q) (if b then Nothing else t.disk.cells q))
        (sym k.0) (r.fewer unmarked q free)) (spot_cases (spot_of q) s);
    newer = r.newer;
    late = λ marked q m h. ⊎_elim
        (λ k. absurd (mark_not_nothing _ _
        (subst (λ b. (if b then Nothing else t.disk.cells q) ≡ MarkPage m) k.0 h) refl))
        (λ k. r.late marked q m (subst (λ b. (if b then Nothing else t.disk.cells q) ≡ MarkPage m) k.0 h))
        (spot_cases (spot_of q) s);
  }
    where
      was : o.disk.blocks s ≡ Free
      was = free_was_free o t unfilled r s (v.flights.erases die s e).free

  -- Jobs that end

  -- a step that repairs only what the one before it did
  with_step : (step : Option Step) →
      ((name : Name) (from : Option Place) (there : Bool) → step ≡ step_of (RepairStep name from) there →
      (before : Bool) × (t.work.step ≡ step_of (RepairStep name from) before)) →
      SinceOpening o (record t { work = record t.work { step = step } })
  with_step step was = record {
    numbers_are = r.numbers_are;
    lost = r.lost;
    seen = r.seen;
    still = r.still;
    unchanged = r.unchanged;
    new = r.new;
    named = λ name from there h. let k = was name from there h in r.named name from k.0 k.1;
    same = r.same;
    blank = r.blank;
    fewer = r.fewer;
    newer = r.newer;
    late = λ marked p m h newer.
        let l = r.late marked p m h newer in
        (l.0, λ name from there is. let k = was name from there is in l.1 name from k.0 k.1);
  }

  ends : (die : ℕ) (flight : Option Flight) (ending : Ending) → t.disk.flights die ≡ flight →
      fails_job (EndJob die ending) ≡ false → SinceOpening o (end_flight t die flight ending)
  ends die flight (WentWrong left) e well = absurd (true≢false well)
  ends die (Some (Reading (ForTask tag index) place)) ReadRight e well = r
  ends die (Some (Reading ForStep place)) ReadRight e well =
      with_step (step_there t.work.step) (λ name from there h. there_is t.work.step (RepairStep name from) there h)
  ends die (Some (Reading (ForRest number index) place)) ReadRight e well = r
  ends die (Some (Reading ForNobody place)) ReadRight e well = r
  ends die (Some (Reading (ForTask tag index) place)) ReadWrong e well = r
  ends die (Some (Reading reader place)) ReadWrong e well = r
  ends die (Some (Programming p Nothing)) WentWell e well = absurd (v.flights.something die p e)
  ends die (Some (Programming p (GroupPage tag body))) WentWell e well = page_ends die p tag body e
  ends die (Some (Programming p (MarkPage m))) WentWell e well = mark_ends die p m e
  ends die (Some (Erasing s)) WentWell e well = erase_ends die s e
  ends die flight ending e well = r

  -- Turns

  repair_begins : (key : Key) (left : List Key) → t.work.mending ≡ Repairing (key ∷ left) →
      SinceOpening o (repair_ordered t key left)
  repair_begins key left is = record {
    numbers_are = r.numbers_are;
    lost = r.lost;
    seen = r.seen;
    still = r.still;
    unchanged = r.unchanged;
    new = r.new;
    named = λ name from there h. next_low t.ledger.first_lost t.ledger.greatest_seen (length t.ledger.groups)
        name.number v.book_right.first_lost (ap name_number (kind_of_step h));
    same = λ h. absurd (true≢false h);
    blank = λ h. absurd (true≢false h);
    fewer = λ h. absurd (true≢false h);
    newer = λ h. r.newer (ap is_marked is);
    late = λ h p m there newer.
        absurd (none_left (sym is ∙ (r.late (ap is_marked is) p m there newer).0));
  }
    where
      none_left : Repairing (key ∷ left) ≡ Repairing [] → ⊥
      none_left e = cc

  orders : (x : Order) → (t.work.step ≡ None) × IsDue t x → SinceOpening o (ordered t x)
  orders (OrderMark fence) (none, due) =
      with_step (mark_ordered t fence).work.step (λ name from there h. absurd (mark_no_repair h))
  orders (OrderRepair key left) (none, due) = repair_begins key left due.1
  orders (OrderCopy s p left) (none, due) = absurd (true≢false (sym (ap is_mended due.0) ∙ un))
  orders (OrderPlanMark s) (none, due) = absurd (true≢false (sym (ap is_mended due.1) ∙ un))

  turns : SinceOpening o (turned t)
  turns = turned_if (SinceOpening o) t (λ none. r) (λ x due. orders x (order_due t x due))

  -- Each move

  pub move_since : (move : Move) → IsAllowedMove t move → fails_job move ≡ false → SinceOpening o (moved t move)
  move_since (GiveJob die flight) may well = takes die flight may
  move_since (EndJob die ending) may well = ends die (t.disk.flights die) ending refl well
  move_since TakeStep may well = turns
  move_since move may well = r

-- A life begins

unmarked_at : (n : Numbers) (c : Cells) (m : Option Mark) (low top : ℕ) (w : Mending) → IsMendingAt n c m low top w →
    is_mended w ≡ false → is_marked w ≡ false
unmarked_at n c m low top (Unmarked fence lost) h un = refl
unmarked_at n c m low top (Repairing left) h un = absurd h
unmarked_at n c m low top Mended h un = absurd (true≢false un)

pub opening_unmarked : (n : Numbers) (c : Cells) (bad : Spot → Bool) (t : Translation) → IsOpenedTranslation n c bad t →
    is_mended t.work.mending ≡ false → is_marked t.work.mending ≡ false
opening_unmarked n c bad t o un =
    unmarked_at n c t.ledger.newest t.ledger.first_lost t.ledger.greatest_seen t.work.mending o.mending un

pub opening_since : (n : Numbers) (c : Cells) (bad : Spot → Bool) (t : Translation) → IsOpenedTranslation n c bad t →
    is_mended t.work.mending ≡ false → SinceOpening t t
opening_since n c bad t o un = record {
  numbers_are = refl;
  lost = refl;
  seen = refl;
  still = λ s not. refl;
  unchanged = λ p not. refl;
  new = λ p tag body free not good h. absurd (not free);
  named = λ name from there h. absurd (none-some _ (sym o.no_step ∙ h));
  same = λ h. refl;
  blank = λ h p free not good. absurd (not free);
  fewer = λ h p free. inl refl;
  newer = λ h. absurd (true≢false (sym h ∙ opening_unmarked n c bad t o un));
  late = λ h. absurd (true≢false (sym h ∙ opening_unmarked n c bad t o un));
}
