-- While a device mends, one block after another is filled: so the pages that are left lie in free blocks, but for less
-- than a block of them, unless as many blocks are free as groups leave, or one less.
use Rattle.many_stops.proofs.Common.{Bad, BlockState, Bool, Cell, Cells, Closed, EndJob, Ending, Erasing, Filling}
use Rattle.many_stops.proofs.Common.{Flight, ForNobody, ForRest, ForStep, ForTask, Free, GiveJob, GroupPage}
use Rattle.many_stops.proofs.Common.{IsAllowedMove, IsDue, IsIn, IsOpenedTranslation, Mark, MarkPage, MayTake}
use Rattle.many_stops.proofs.Common.{MendsAlone, Move, None, Nothing, Numbers, OpensReady, Option, Order, OrderCopy}
use Rattle.many_stops.proofs.Common.{OrderMark, OrderPlanMark, OrderRepair, Place, Plan, Programming, ReadRight}
use Rattle.many_stops.proofs.Common.{ReadWrong, Reading, Some, Spot, Step, TakeStep, Translation, Valid, WentWell}
use Rattle.many_stops.proofs.Common.{WentWrong, ap, arith, at_die_cases, at_most, at_spot, bad_count, cases_Bool}
use Rattle.many_stops.proofs.Common.{end_flight, fails_job, false, filling_is_not_bad, free_count, free_is_not_filling}
use Rattle.many_stops.proofs.Common.{in_spots, inl, inr, is_mended, is_plan_of_bad, left_by_groups, mark_ordered}
use Rattle.many_stops.proofs.Common.{mark_written, moved, mul-le-mul_left, name_of, order_due, ordered, own_room}
use Rattle.many_stops.proofs.Common.{page_of_step, program_owed, refl, repair_ordered, room_in, spot_of, spots}
use Rattle.many_stops.proofs.Common.{state_after, step_after, step_there, subst, suc, sym, taken, true≢false, turned}
use Rattle.many_stops.proofs.Common.{turned_if, ℕ, ⊎_elim, ◌*◌, ◌+◌, ◌<◌, ◌∙◌, ◌≡◌, ◌≤◌, ◌⊎◌}
use Rattle.power_loss.proofs.jobs_owed.RoomLeft.{none_filled}
use Rattle.power_loss.proofs.ordered_lists.ElementsAndOrders.{spots_in}
use Rattle.power_loss.proofs.room_to_mend.AloneKept.{program_begins}
use Rattle.power_loss.proofs.jobs.JobsBegin.{same_blocks}
use Rattle.many_stops.proofs.CountedBlocks.{good_alike, none_fewer, one_fewer}
use Rattle.many_stops.proofs.finding_room.RoomForAMending.{free_room_alone, opened_room, program_fills}
use Rattle.many_stops.proofs.room_left.RoomStays.{bad_is_not_free, left_is, not_bad_after}

-- as many blocks are free as groups leave, or one less; or all pages that are left, but for less than a block, and for
-- that of the step under way, lie in free blocks
abbrev pub FilledIn : Numbers → (Spot → BlockState) → Option Step → Type 0
FilledIn n blocks step =
    (own_room n (bad_count n blocks) ≤ free_count n blocks + 1)
    ⊎ (room_in n blocks + 1 ≤ n.pages * free_count n blocks + n.pages + page_of_step step)

abbrev pub Filled : Translation → Type 0
Filled t = FilledIn t.numbers t.disk.blocks t.work.step

-- A step

more_step : (n : Numbers) (blocks : Spot → BlockState) (step next : Option Step) →
    page_of_step step ≤ page_of_step next → FilledIn n blocks step → FilledIn n blocks next
more_step n blocks step next l (inl h) = inl h
more_step n blocks step next l (inr h) = inr (omega (arith, l, h))

there_still : (s : Option Step) → page_of_step s ≤ page_of_step (step_there s)
there_still None = omega arith
there_still (Some step) = omega arith

none_before : {s : Option Step} (next : Option Step) → s ≡ None → page_of_step s ≤ page_of_step next
none_before next none = let e = ap page_of_step none in omega (arith, e)

-- A program that ended

one_filled : (own now pages free after room left step next : ℕ) → now ≡ own →
    own ≤ free + 1 ⊎ room + 1 ≤ pages * free + pages + step →
    step ≤ 1 → free ≤ after → suc left ≤ room → pages * free ≤ pages * after →
    now ≤ after + 1 ⊎ left + 1 ≤ pages * after + pages + next
one_filled own now pages free after room left step next same (inl h) one more less times =
    inl (omega (arith, same, h, more))
one_filled own now pages free after room left step next same (inr h) one more less times =
    inr (omega (arith, h, one, less, times))

times : (m : ℕ) {a b : ℕ} → a ≤ b → m * a ≤ m * b
times m l = mul-le-mul_left m l

pub one_page : (s : Option Step) → page_of_step s ≤ 1
one_page None = omega arith
one_page (Some step) = omega arith

program_filled : (n : Numbers) (blocks : Spot → BlockState) (s : Spot) (page : ℕ) (step next : Option Step) →
    page < n.pages → blocks s ≡ Filling page → IsIn s (spots n) → FilledIn n blocks step →
    FilledIn n (at_spot blocks s (state_after n.pages page)) next
program_filled n blocks s page step next l is inside f =
    let more = none_fewer n blocks s (state_after n.pages page) (λ free. free_is_not_filling free is) in
    one_filled (own_room n (bad_count n blocks))
    (own_room n (bad_count n (at_spot blocks s (state_after n.pages page))))
    n.pages (free_count n blocks) (free_count n (at_spot blocks s (state_after n.pages page)))
    (room_in n blocks) (room_in n (at_spot blocks s (state_after n.pages page))) (page_of_step step)
    (page_of_step next)
    (ap (own_room n) (good_alike n blocks s (state_after n.pages page) (filling_is_not_bad is)
    (not_bad_after n.pages page))) f (one_page step) more (program_fills n blocks s page l is inside)
    (times n.pages more)

-- A program that begins

enough_left : (own now free after : ℕ) → now ≡ own → own ≤ free → free ≤ 1 + after → now ≤ after + 1
enough_left own now free after same h l = omega (arith, same, h, l)

one_opened : (pages free after room left step : ℕ) → room ≤ pages * free → left ≤ room → free ≤ 1 + after →
    pages * free ≤ pages * (1 + after) → step ≡ 1 → left + 1 ≤ pages * after + pages + step
one_opened pages free after room left step h l more times one = omega (arith, h, l, times, one)

module _ {t : Translation} (v : Valid t) (un : is_mended t.work.mending ≡ false) (alone : MendsAlone t)
    (f : Filled t) where
  -- what a die begins to program is the page of a step
  step_there_is : (die : ℕ) (p : Place) (cell : Cell) → MayTake t die (Some (Programming p cell)) →
      page_of_step t.work.step ≡ 1
  step_there_is die p cell may =
      let a = program_begins die p cell v un alone may in
      let r = a.of_step die p cell
      (⊎_elim (λ k. k.1) (λ k. absurd (k.0 refl)) (at_die_cases t.disk.flights die (Some (Programming p cell)) die)) in
      ap page_of_step r.1

  -- no plan is there, and so groups leave what the device's own pages need
  own_left : left_by_groups t ≡ own_room t.numbers (bad_count t.numbers t.disk.blocks)
  own_left = left_is t (none_planned t.work.plan refl)
    where
      none_planned : (plan : Option Plan) → t.work.plan ≡ plan → is_plan_of_bad t.disk.blocks plan ≡ false
      none_planned None is = refl
      none_planned (Some pl) is = absurd (true≢false (sym (ap is_mended (v.plan.mended pl is)) ∙ un))

  opens : (die : ℕ) (p : Place) (cell : Cell) → MayTake t die (Some (Programming p cell)) → OpensReady t p →
      FilledIn t.numbers (at_spot t.disk.blocks (spot_of p) (Filling 0)) t.work.step
  opens die p cell may o =
      let less = one_fewer t.numbers t.disk.blocks (spot_of p) (Filling 0) in
      let left = opened_room t.numbers t.disk.blocks (spot_of p) o.free in
      ⊎_elim
      (λ (room : left_by_groups t ≤ free_count t.numbers t.disk.blocks).
      inl (enough_left (left_by_groups t)
      (own_room t.numbers (bad_count t.numbers (at_spot t.disk.blocks (spot_of p) (Filling 0))))
      (free_count t.numbers t.disk.blocks)
      (free_count t.numbers (at_spot t.disk.blocks (spot_of p) (Filling 0)))
      (ap (own_room t.numbers) (good_alike t.numbers t.disk.blocks (spot_of p) (Filling 0)
      (λ bad. bad_is_not_free bad o.free) (filling_is_not_bad refl)) ∙ sym own_left) room less))
      (λ (few : free_count t.numbers t.disk.blocks < left_by_groups t).
      inr (one_opened t.numbers.pages (free_count t.numbers t.disk.blocks)
      (free_count t.numbers (at_spot t.disk.blocks (spot_of p) (Filling 0))) (room_in t.numbers t.disk.blocks)
      (room_in t.numbers (at_spot t.disk.blocks (spot_of p) (Filling 0))) (page_of_step t.work.step)
      (free_room_alone t.numbers t.disk.blocks
      (λ s next i is. none_filled t die (Programming p cell) s next may o.free few (spots_in i) is)) left less
      (times t.numbers.pages less) (step_there_is die p cell may)))
      (at_most (left_by_groups t) (free_count t.numbers t.disk.blocks))

  program_taken : (die : ℕ) (p : Place) (cell : Cell) → MayTake t die (Some (Programming p cell)) →
      FilledIn t.numbers (at_spot t.disk.blocks (spot_of p) (Filling p.page)) t.work.step
  program_taken die p cell may = ⊎_elim
      (λ filled. subst (λ blocks. FilledIn t.numbers blocks t.work.step)
      (sym (same_blocks t.disk.blocks (spot_of p) (Filling p.page) filled)) f)
      (λ (o : OpensReady t p).
      subst (λ page. FilledIn t.numbers (at_spot t.disk.blocks (spot_of p) (Filling page)) t.work.step) (sym o.first)
      (opens die p cell may o)) (program_owed t die p cell may).place.next

  takes : (die : ℕ) (flight : Flight) → MayTake t die (Some flight) → Filled (taken t die flight)
  takes die (Reading reader place) may = f
  takes die (Erasing s) may = f
  takes die (Programming p cell) may = program_taken die p cell may

  -- Jobs that end

  program_ends : (die : ℕ) (p : Place) (cell : Cell) (next : Option Step) →
      t.disk.flights die ≡ Some (Programming p cell) →
      FilledIn t.numbers (at_spot t.disk.blocks (spot_of p) (state_after t.numbers.pages p.page)) next
  program_ends die p cell next e =
      let r = v.flights.programs die p cell e in
      program_filled t.numbers t.disk.blocks (spot_of p) p.page t.work.step next r.place.page r.next
      (in_spots {n = t.numbers} (record { die = r.place.die; block = r.place.block })) f

  mark_ends : (die : ℕ) (p : Place) (m : Mark) → t.disk.flights die ≡ Some (Programming p (MarkPage m)) →
      Filled (mark_written t p m)
  mark_ends die p m e = by t.work.plan refl
    where
      by : (o : Option Plan) → t.work.plan ≡ o →
          Filled (mark_written (record t { work = record t.work { plan = o } }) p m)
      by (Some pl) is = absurd (true≢false (sym (ap is_mended (v.plan.mended pl is)) ∙ un))
      by None is = program_ends die p (MarkPage m) None e

  ends : (die : ℕ) (flight : Option Flight) (ending : Ending) → t.disk.flights die ≡ flight →
      fails_job (EndJob die ending) ≡ false → Filled (end_flight t die flight ending)
  ends die flight (WentWrong left) e well = absurd (true≢false well)
  ends die (Some (Reading (ForTask tag index) place)) ReadRight e well = f
  ends die (Some (Reading ForStep place)) ReadRight e well =
      more_step t.numbers t.disk.blocks t.work.step (step_there t.work.step) (there_still t.work.step) f
  ends die (Some (Reading (ForRest number index) place)) ReadRight e well = f
  ends die (Some (Reading ForNobody place)) ReadRight e well = f
  ends die (Some (Reading (ForTask tag index) place)) ReadWrong e well = f
  ends die (Some (Reading reader place)) ReadWrong e well = f
  ends die (Some (Programming p Nothing)) WentWell e well = absurd (v.flights.something die p e)
  ends die (Some (Programming p (GroupPage tag body))) WentWell e well =
      program_ends die p (GroupPage tag body) (step_after (name_of tag) t.work.step) e
  ends die (Some (Programming p (MarkPage m))) WentWell e well = mark_ends die p m e
  ends die (Some (Erasing s)) WentWell e well = f
  ends die flight ending e well = f

  -- Turns

  begins : t.work.step ≡ None → (next : Option Step) → FilledIn t.numbers t.disk.blocks next
  begins none next = more_step t.numbers t.disk.blocks t.work.step next (none_before next none) f

  orders : (o : Order) → (t.work.step ≡ None) × IsDue t o → Filled (ordered t o)
  orders (OrderMark fence) (none, due) = begins none (mark_ordered t fence).work.step
  orders (OrderRepair key left) (none, due) = begins none (repair_ordered t key left).work.step
  orders (OrderCopy s p left) (none, due) = absurd (true≢false (sym (ap is_mended due.0) ∙ un))
  orders (OrderPlanMark s) (none, due) = absurd (true≢false (sym (ap is_mended due.1) ∙ un))

  turns : Filled (turned t)
  turns = turned_if Filled t (λ none. f) (λ o due. orders o (order_due t o due))

  -- Each move

  pub move_fills : (move : Move) → IsAllowedMove t move → fails_job move ≡ false → Filled (moved t move)
  move_fills (GiveJob die flight) may well = takes die flight may
  move_fills (EndJob die ending) may well = ends die (t.disk.flights die) ending refl well
  move_fills TakeStep may well = turns
  move_fills move may well = f

-- A life begins

first_filled : (pages free room step : ℕ) → 1 ≤ pages → room ≤ pages * free → room + 1 ≤ pages * free + pages + step
first_filled pages free room step some h = omega (arith, some, h)

pub opening_filled : (n : Numbers) (c : Cells) (bad : Spot → Bool) (t : Translation) → 1 ≤ t.numbers.pages →
    IsOpenedTranslation n c bad t → Filled t
opening_filled n c bad t some o =
    inr (first_filled t.numbers.pages (free_count t.numbers t.disk.blocks) (room_in t.numbers t.disk.blocks)
    (page_of_step t.work.step) some
    (free_room_alone t.numbers t.disk.blocks
    (λ s next i is. ⊎_elim (λ e. bad_apart (sym (o.disk.blocks.were_bad s e) ∙ is))
    (λ e. ⊎_elim (λ k. free_apart (sym k ∙ is)) (λ k. closed_apart (sym k ∙ is)) (o.disk.blocks.were_good s e))
    (cases_Bool (bad s)))))
  where
    bad_apart : {next : ℕ} → Bad ≡ Filling next → ⊥
    bad_apart e = cc

    free_apart : {next : ℕ} → Free ≡ Filling next → ⊥
    free_apart e = cc

    closed_apart : {next : ℕ} → Closed ≡ Filling next → ⊥
    closed_apart e = cc
