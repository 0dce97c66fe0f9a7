-- What a program or an erase that fails while a device mends makes of its blocks: one more is bad, and still all pages
-- that are left lie in free blocks, but for less than a block of them.
use Rattle.many_stops.proofs.Common.{Bad, BlockState, Bool, Cell, Cells, Closed, EndJob, Ending, Erasing, Filling}
use Rattle.many_stops.proofs.Common.{Flight, ForNobody, ForRest, ForStep, ForTask, Free, GiveJob, GroupPage}
use Rattle.many_stops.proofs.Common.{IsAllowedMove, IsIn, IsSpot, IsWithinSpare, Mark, MarkPage, MayTake, MendsAlone}
use Rattle.many_stops.proofs.Common.{Move, None, Nothing, Numbers, OpensReady, Option, Place, Plan, Programming}
use Rattle.many_stops.proofs.Common.{ReadRight, ReadWrong, Reading, Some, Spot, Step, TakeStep, Translation, Valid}
use Rattle.many_stops.proofs.Common.{WentWell, WentWrong, ap, arith, at_spot, at_spot_cases, bad_count, count_blocks}
use Rattle.many_stops.proofs.Common.{end_flight, ending_fits, erase_failed, fails_job, false, false≢true}
use Rattle.many_stops.proofs.Common.{filling_is_not_bad, free_count, free_is_not_filling, freed, freed_state}
use Rattle.many_stops.proofs.Common.{has_mark_number, if◌then◌else◌, in_spots, inl, inr, is_bad, is_mended, least_room}
use Rattle.many_stops.proofs.Common.{mark_ordered, mark_written, moved, mul-le-mul_left, own_room, page_of_step}
use Rattle.many_stops.proofs.Common.{program_failed, program_owed, programmed, refl, room_in, spot_of, spots}
use Rattle.many_stops.proofs.Common.{state_after, subst, sym, taken, true, true≢false, turn_only, ℕ, ⊎_elim, ◌*◌, ◌+◌}
use Rattle.many_stops.proofs.Common.{◌-◌, ◌<◌, ◌∙◌, ◌≡◌, ◌≢◌, ◌≤◌, ◌⊎◌}
use Rattle.power_loss.specs.MendingRoom.{page_room}
use Rattle.many_stops.proofs.CountedBlocks.{bad_stays, no_fewer_bad, none_fewer, one_bad_more, one_bad_most, one_fewer}
use Rattle.many_stops.proofs.finding_room.BlocksOneByOne.{Filled, FilledIn, move_fills, one_page}
use Rattle.many_stops.proofs.finding_room.ErasesInside.{AreErasesInside}
use Rattle.many_stops.proofs.finding_room.RoomForAMending.{failure_fills}
use Rattle.many_stops.proofs.room_left.FailuresLeaveRoom.{no_more_kept, one_less_kept}
use Rattle.many_stops.proofs.room_left.RoomStays.{bad_is_not_free, not_bad_after}

-- Blocks that are bad

-- one block of the dies is bad that was not, and all others are what they were
pub record OneGoesBad (n : Numbers) (was now : Spot → BlockState) : Type 0 where
  pub spot : Spot
  pub on : IsSpot n spot
  pub good : was spot ≢ Bad
  pub goes : now ≡ at_spot was spot Bad

pub one_more_bad : (n : Numbers) (was now : Spot → BlockState) → OneGoesBad n was now →
    bad_count n now ≡ 1 + bad_count n was
one_more_bad n was now g =
    let e = ap (bad_count n) g.goes in
    let l = one_bad_more n was g.spot g.on g.good in
    let m = one_bad_most n was g.spot in
    omega (arith, e, l, m)

module _ {t : Translation} (v : Valid t) where
  program_bad : (die : ℕ) (p : Place) (cell : Cell) → t.disk.flights die ≡ Some (Programming p cell) →
      OneGoesBad t.numbers t.disk.blocks (at_spot t.disk.blocks (spot_of p) Bad)
  program_bad die p cell e =
      let r = v.flights.programs die p cell e in
      record {
        spot = spot_of p;
        on = record { die = r.place.die; block = r.place.block };
        good = filling_is_not_bad r.next;
        goes = refl;
      }

  erase_bad : (die : ℕ) (s : Spot) (left : Cells) → t.disk.flights die ≡ Some (Erasing s) → IsSpot t.numbers s →
      OneGoesBad t.numbers t.disk.blocks (erase_failed t.disk s left).blocks
  erase_bad die s left e on = record {
    spot = s;
    on = on;
    good = λ bad. bad_is_not_free bad (v.flights.erases die s e).free;
    goes = refl;
  }

  -- a job that fails makes its block bad
  goes_bad : (die : ℕ) (flight : Option Flight) (left : Cells) → t.disk.flights die ≡ flight →
      ending_fits flight (WentWrong left) ≡ true → AreErasesInside t →
      OneGoesBad t.numbers t.disk.blocks (end_flight t die flight (WentWrong left)).disk.blocks
  goes_bad die None left e fits inside = absurd (false≢true fits)
  goes_bad die (Some (Reading reader place)) left e fits inside = absurd (false≢true fits)
  goes_bad die (Some (Programming p Nothing)) left e fits inside = program_bad die p Nothing e
  goes_bad die (Some (Programming p (GroupPage tag body))) left e fits inside =
      program_bad die p (GroupPage tag body) e
  goes_bad die (Some (Programming p (MarkPage m))) left e fits inside =
      by (has_mark_number (record t { disk = program_failed t.disk p left }))
    where
      by : (b : Bool) → OneGoesBad t.numbers t.disk.blocks
          (if b then mark_ordered (record t { disk = program_failed t.disk p left }) m.fence
          else record t { disk = program_failed t.disk p left; work = record t.work { step = None } }).disk.blocks
      by true = program_bad die p (MarkPage m) e
      by false = program_bad die p (MarkPage m) e
  goes_bad die (Some (Erasing s)) left e fits inside = erase_bad die s left e (inside die s e)

  pub fails_bad : (die : ℕ) (left : Cells) → IsAllowedMove t (EndJob die (WentWrong left)) → AreErasesInside t →
      bad_count t.numbers (moved t (EndJob die (WentWrong left))).disk.blocks ≡ 1 + bad_count t.numbers t.disk.blocks
  fails_bad die left may inside = one_more_bad t.numbers t.disk.blocks
      (moved t (EndJob die (WentWrong left))).disk.blocks (goes_bad die (t.disk.flights die) left refl may.0 inside)

  -- the end of a mark makes no block bad, and none good
  pub marked_bad : (die : ℕ) (p : Place) (m : Mark) → t.disk.flights die ≡ Some (Programming p (MarkPage m)) →
      (s : Spot) → is_bad ((mark_written t p m).disk.blocks s) ≡ is_bad (t.disk.blocks s)
  marked_bad die p m e s = by t.work.plan
    where
      filled : (a : Spot) →
          is_bad (at_spot t.disk.blocks (spot_of p) (state_after t.numbers.pages p.page) a) ≡ is_bad (t.disk.blocks a)
      filled = bad_stays t.disk.blocks (spot_of p) (state_after t.numbers.pages p.page)
          (filling_is_not_bad (v.flights.programs die p (MarkPage m) e).next) (not_bad_after t.numbers.pages p.page)

      freed_bad : (x : BlockState) → is_bad (freed_state x) ≡ is_bad x
      freed_bad Bad = refl
      freed_bad Free = refl
      freed_bad Closed = refl
      freed_bad (Filling next) = refl

      by : (plan : Option Plan) →
          is_bad ((freed (programmed t.numbers.pages t.disk p (MarkPage m)) plan).blocks s) ≡ is_bad (t.disk.blocks s)
      by None = filled s
      by (Some pl) =
          let blocks = at_spot t.disk.blocks (spot_of p) (state_after t.numbers.pages p.page) in
          ⊎_elim
          (λ k. ap is_bad k.1 ∙ (freed_bad (blocks pl.victim) ∙ (ap (λ z. is_bad (blocks z)) (sym k.0) ∙ filled s)))
          (λ k. ap is_bad k.1 ∙ filled s) (at_spot_cases blocks pl.victim (freed_state (blocks pl.victim)) s)

  -- and no other move does
  abbrev StayBad : Translation → Type 0
  StayBad u = (s : Spot) → is_bad (u.disk.blocks s) ≡ is_bad (t.disk.blocks s)

  takes_bad : (die : ℕ) (flight : Flight) → MayTake t die (Some flight) → StayBad (taken t die flight)
  takes_bad die (Reading reader place) may = λ s. refl
  takes_bad die (Erasing z) may = λ s. refl
  takes_bad die (Programming p cell) may = bad_stays t.disk.blocks (spot_of p) (Filling p.page)
      (⊎_elim (λ e bad. filling_is_not_bad e bad) (λ (k : OpensReady t p) bad. bad_is_not_free bad k.free)
      (program_owed t die p cell may).place.next) (filling_is_not_bad refl)

  ends_bad : (die : ℕ) (flight : Option Flight) (ending : Ending) → t.disk.flights die ≡ flight →
      fails_job (EndJob die ending) ≡ false → StayBad (end_flight t die flight ending)
  ends_bad die flight (WentWrong left) e well = absurd (true≢false well)
  ends_bad die (Some (Reading ForNobody place)) ReadRight e well = λ s. refl
  ends_bad die (Some (Reading ForStep place)) ReadRight e well = λ s. refl
  ends_bad die (Some (Reading (ForTask tag index) place)) ReadRight e well = λ s. refl
  ends_bad die (Some (Reading (ForRest number index) place)) ReadRight e well = λ s. refl
  ends_bad die (Some (Reading (ForTask tag index) place)) ReadWrong e well = λ s. refl
  ends_bad die (Some (Reading reader place)) ReadWrong e well = λ s. refl
  ends_bad die (Some (Programming p Nothing)) WentWell e well = absurd (v.flights.something die p e)
  ends_bad die (Some (Programming p (GroupPage tag body))) WentWell e well =
      bad_stays t.disk.blocks (spot_of p) (state_after t.numbers.pages p.page)
      (filling_is_not_bad (v.flights.programs die p (GroupPage tag body) e).next) (not_bad_after t.numbers.pages p.page)
  ends_bad die (Some (Programming p (MarkPage m))) WentWell e well = marked_bad die p m e
  ends_bad die (Some (Erasing z)) WentWell e well = λ s. refl
  ends_bad die flight ending e well = λ s. refl

  pub well_bad : (move : Move) → IsAllowedMove t move → fails_job move ≡ false → StayBad (moved t move)
  well_bad (GiveJob die flight) may well = takes_bad die flight may
  well_bad (EndJob die ending) may well = ends_bad die (t.disk.flights die) ending refl well
  well_bad TakeStep may well = let u = turn_only t in subst StayBad (sym u.is) (λ s. refl)
  well_bad move may well = λ s. refl

-- Pages that are left

program_numbers : (own now pages free after room left step next : ℕ) → now ≤ own →
    own ≤ free + 1 ⊎ room + 1 ≤ pages * free + pages + step →
    step ≤ 1 → free ≤ after → 1 + left ≤ room → pages * free ≤ pages * after →
    now ≤ after + 1 ⊎ left + 1 ≤ pages * after + pages + next
program_numbers own now pages free after room left step next less (inl h) one more fewer times =
    inl (omega (arith, less, h, more))
program_numbers own now pages free after room left step next less (inr h) one more fewer times =
    inr (omega (arith, h, one, fewer, times))

erase_numbers : (own now pages free after room left step : ℕ) → now + 1 ≤ own →
    own ≤ free + 1 ⊎ room + 1 ≤ pages * free + pages + step →
    free ≤ 1 + after → pages + left ≤ room → pages * free ≤ pages * (1 + after) →
    now ≤ after + 1 ⊎ left + 1 ≤ pages * after + pages + step
erase_numbers own now pages free after room left step less (inl h) more fewer times =
    inl (omega (arith, less, h, more))
erase_numbers own now pages free after room left step less (inr h) more fewer times =
    inr (omega (arith, h, fewer, times))

program_fails : (n : Numbers) (blocks : Spot → BlockState) (s : Spot) (page : ℕ) (step next : Option Step) →
    page < n.pages → blocks s ≡ Filling page → IsIn s (spots n) → FilledIn n blocks step →
    FilledIn n (at_spot blocks s Bad) next
program_fails n blocks s page step next l is inside f =
    let more = none_fewer n blocks s Bad (λ free. free_is_not_filling free is) in
    program_numbers (own_room n (bad_count n blocks)) (own_room n (bad_count n (at_spot blocks s Bad))) n.pages
    (free_count n blocks) (free_count n (at_spot blocks s Bad)) (room_in n blocks) (room_in n (at_spot blocks s Bad))
    (page_of_step step) (page_of_step next)
    (no_more_kept (least_room n) n.spare (bad_count n blocks) (bad_count n (at_spot blocks s Bad))
    (no_fewer_bad n blocks s)) f (one_page step) more
    (failure_fills n blocks s 1 (let e = ap (page_room n.pages) is in omega (arith, e, l)) inside)
    (mul-le-mul_left n.pages more)

erase_fails : (n : Numbers) (blocks : Spot → BlockState) (s : Spot) (step : Option Step) → blocks s ≡ Free →
    IsSpot n s → bad_count n blocks < n.spare → FilledIn n blocks step → FilledIn n (at_spot blocks s Bad) step
erase_fails n blocks s step free on few f =
    let less = one_fewer n blocks s Bad in
    erase_numbers (own_room n (bad_count n blocks)) (own_room n (bad_count n (at_spot blocks s Bad))) n.pages
    (free_count n blocks) (free_count n (at_spot blocks s Bad)) (room_in n blocks) (room_in n (at_spot blocks s Bad))
    (page_of_step step)
    (one_less_kept (least_room n) n.spare (bad_count n blocks) (bad_count n (at_spot blocks s Bad)) few
    (one_bad_more n blocks s on (λ bad. bad_is_not_free bad free))) f less
    (failure_fills n blocks s n.pages (let e = ap (page_room n.pages) free in omega (arith, e)) (in_spots {n = n} on))
    (mul-le-mul_left n.pages less)

module _ {t : Translation} (v : Valid t) (un : is_mended t.work.mending ≡ false) (alone : MendsAlone t)
    (f : Filled t) (inside : AreErasesInside t) where
  program_filled : (die : ℕ) (p : Place) (cell : Cell) (next : Option Step) →
      t.disk.flights die ≡ Some (Programming p cell) →
      FilledIn t.numbers (at_spot t.disk.blocks (spot_of p) Bad) next
  program_filled die p cell next e =
      let r = v.flights.programs die p cell e in
      program_fails t.numbers t.disk.blocks (spot_of p) p.page t.work.step next r.place.page r.next
      (in_spots {n = t.numbers} (record { die = r.place.die; block = r.place.block })) f

  fails : (die : ℕ) (flight : Option Flight) (left : Cells) → t.disk.flights die ≡ flight →
      count_blocks t is_bad < t.numbers.spare → Filled (end_flight t die flight (WentWrong left))
  fails die None left e few = f
  fails die (Some (Reading reader place)) left e few = f
  fails die (Some (Programming p Nothing)) left e few = program_filled die p Nothing t.work.step e
  fails die (Some (Programming p (GroupPage tag body))) left e few =
      program_filled die p (GroupPage tag body) t.work.step e
  fails die (Some (Programming p (MarkPage m))) left e few =
      by (has_mark_number (record t { disk = program_failed t.disk p left }))
    where
      by : (b : Bool) → Filled
          (if b then mark_ordered (record t { disk = program_failed t.disk p left }) m.fence
          else record t { disk = program_failed t.disk p left; work = record t.work { step = None } })
      by true = program_filled die p (MarkPage m)
          (mark_ordered (record t { disk = program_failed t.disk p left }) m.fence).work.step e
      by false = program_filled die p (MarkPage m) None e
  fails die (Some (Erasing s)) left e few =
      erase_fails t.numbers t.disk.blocks s t.work.step (v.flights.erases die s e).free (inside die s e) few f

  pub any_move_fills : (move : Move) → IsAllowedMove t move → IsWithinSpare t move → Filled (moved t move)
  any_move_fills (EndJob die (WentWrong left)) may few = fails die (t.disk.flights die) left refl (few refl)
  any_move_fills move may few = move_fills v un alone f move may refl
