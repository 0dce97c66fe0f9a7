-- What holds of a life from its opening on, if that found room, and whose failures are borne: until the device is
-- mended the mending has room, less a block for each failure, and fills one block after another.
use Rattle.many_stops.proofs.Common.{Bool, Cell, CellCrash, Cells, EndJob, FailsStale, FindsRoom, HasHandedOut}
use Rattle.many_stops.proofs.Common.{HasSpareBlocks, IsAllowedMove, IsOpenedTranslation, IsWithinSpare, KeepsFree}
use Rattle.many_stops.proofs.Common.{LeavesOwnRoom, Mark, MarkPage, Mended, Mending, MendingOf, Move, None, Opened}
use Rattle.many_stops.proofs.Common.{Option, Place, Plan, Programming, Repairing, Some, Spot, StopLeaves, Touches}
use Rattle.many_stops.proofs.Common.{Translation, Unmarked, Valid, WentWell, WentWrong, all_keep, ap, arith, at_die}
use Rattle.many_stops.proofs.Common.{at_die_cases, at_place, at_place_cases, bad_count, cases_Bool, count_blocks}
use Rattle.many_stops.proofs.Common.{end_flight, ending_fits, fails_job, false, free_count, free_is, freed, inl, inr}
use Rattle.many_stops.proofs.Common.{is_bad, is_free, is_mended, kept_room, length, mark_written, may_go_bad}
use Rattle.many_stops.proofs.Common.{mending_blocks, moved, programmed, refl, subst, sym, true, true≢false, ℕ, ⊎_elim}
use Rattle.many_stops.proofs.Common.{◌*◌, ◌+◌, ◌-◌, ◌<◌, ◌∙◌, ◌≡◌, ◌≢◌, ◌≤◌, ◌⊎◌}
use Rattle.ufs_spec.specs.Openings.{AreLost}
use Rattle.power_loss.proofs.mending_steps.TurnsOfALife.{false_before}
use Rattle.power_loss.proofs.moves.MovesKeepCellsFitting.{move_stays}
use Rattle.power_loss.proofs.repaired_keys.LivesMendSoon.{listed}
use Rattle.power_loss.proofs.repaired_keys.RepairsStayFew.{begins, move_few}
use Rattle.power_loss.proofs.room_to_mend.AloneKept.{none_flown}
use Rattle.power_loss.proofs.room_to_mend.LivesWithRoom.{Mends, move_mends}
use Rattle.power_loss.proofs.room_to_mend.RoomInBlocks.{opening_alone, opening_room}
use Rattle.power_loss.proofs.stops.LeftCells.{mark_from}
use Rattle.power_loss.specs.FewRepairs.{HasFewLost, HasFewRepairs, still_lost}
use Rattle.power_loss.specs.MendingRoom.{HasRoom}
use Rattle.power_loss.proofs.room_to_mend.DevicesWithRoom.{no_failure}
use Rattle.many_stops.proofs.finding_room.BlocksOneByOne.{Filled, opening_filled}
use Rattle.many_stops.proofs.finding_room.ErasesInside.{AreErasesInside, erases_inside, opening_erases}
use Rattle.many_stops.proofs.finding_room.FailuresSinceTheOpening.{any_move_since}
use Rattle.many_stops.proofs.finding_room.FailuresWhileMending.{any_move_fills, fails_bad, marked_bad, well_bad}
use Rattle.many_stops.proofs.finding_room.RoomForAMending.{blocks_hold}
use Rattle.many_stops.proofs.finding_room.SinceTheOpening.{SinceOpening, WereUnfilled}
use Rattle.many_stops.proofs.finding_room.MovesSinceTheOpening.{opening_since}
use Rattle.many_stops.proofs.finding_room.StopsBeforeTheMark.{unmarked_leaves}
use Rattle.many_stops.proofs.finding_room.StopsOfAMending.{HasNewMark, HasNoNewMark, IsWithin, UnmendedStop, new_mark}
use Rattle.many_stops.proofs.finding_room.StopsOfAMending.{opened_bad, were_unfilled}
use Rattle.many_stops.proofs.finding_room.StopsOfRepairs.{LeavesOver, repairing_leaves}
use Rattle.many_stops.proofs.finding_room.LivesWithFailures.{IsKeptByMoves}
use Rattle.many_stops.proofs.CountedBlocks.{bad_alike}
use Rattle.many_stops.proofs.free_at_stops.MovesKeepFree.{move_keeps, opening_keeps, stop_costs_none}
use Rattle.many_stops.proofs.room_left.HandedPages.{handed_or_not}
use Rattle.many_stops.proofs.room_left.IdleLives.{idle_stop}
use Rattle.many_stops.proofs.room_left.MovesLeaveRoom.{move_leaves, opening_leaves}
use Rattle.many_stops.specs.BorneFailures.{IsBorne, MoveIsBorne}

pub record MendsFrom (o t : Translation) : Type 0 where
  pub room : HasSpareBlocks o
  -- the mending has room for so many more failures: each that came took a block
  pub over : ℕ
  pub mends : Mends over t
  pub leaves : LeavesOver o t over
  pub within : IsWithin o t
  pub inside : AreErasesInside t
  pub since : SinceOpening o t
  pub filled : Filled t

pub record LivesFrom (o t : Translation) : Type 0 where
  pub free : KeepsFree t
  pub leaves : LeavesOwnRoom t
  pub few : HasFewRepairs t
  pub mends : is_mended t.work.mending ≡ false → MendsFrom o t

-- Moves

fails_none : (t : Translation) (move : Move) → MoveIsBorne t move → FailsStale t move → ⊥
fails_none t (EndJob die (WentWrong left)) b h = b.alone left h
fails_none t move b h = h

within_spare : (t : Translation) (move : Move) → MoveIsBorne t move → IsWithinSpare t move
within_spare t (EndJob die (WentWrong left)) b fails = b.spare
within_spare t move b fails = absurd (true≢false (sym fails))

-- a move by which nothing fails takes no room for failures
well_leaves : (first over bad after : ℕ) → first ≤ over + bad → after ≡ bad → first ≤ over + after
well_leaves first over bad after l e = omega (arith, l, e)

well_within : (was bad after spare : ℕ) → (bad ≤ was) ⊎ (bad ≤ spare) → after ≡ bad → (after ≤ was) ⊎ (after ≤ spare)
well_within was bad after spare (inl l) e = inl (omega (arith, l, e))
well_within was bad after spare (inr l) e = inr (omega (arith, l, e))

-- while no more blocks are bad than are spare there is room for one more that fails
still_over : (blocks spare was bad first over : ℕ) → blocks + (spare - was) ≤ first →
    first - blocks + was ≤ over + bad → bad < spare → over ≡ over - 1 + 1
still_over blocks spare was bad first over room leaves few = omega (arith, room, leaves, few)

failed_leaves : (blocks spare was bad after first over : ℕ) → blocks + (spare - was) ≤ first →
    first - blocks + was ≤ over + bad → bad < spare → after ≡ 1 + bad → first - blocks + was ≤ over - 1 + after
failed_leaves blocks spare was bad after first over room leaves few e = omega (arith, room, leaves, few, e)

failed_within : (bad after spare : ℕ) → bad < spare → after ≡ 1 + bad → after ≤ spare
failed_within bad after spare few e = omega (arith, few, e)

module _ (o t : Translation) (unfilled : WereUnfilled o) (v : Valid t) (un : is_mended t.work.mending ≡ false)
    (m : MendsFrom o t) where
  numbers_stay : (move : Move) → (moved t move).numbers ≡ t.numbers
  numbers_stay move = (move_stays t move).numbers

  -- the room that the opening had
  first_room : mending_blocks t.numbers + may_go_bad t.numbers (bad_count t.numbers o.disk.blocks)
      ≤ free_count t.numbers o.disk.blocks
  first_room = subst (λ n. mending_blocks n + may_go_bad n (bad_count n o.disk.blocks) ≤ free_count n o.disk.blocks)
      (sym m.since.numbers_are) m.room.free

  well_on : (move : Move) → IsAllowedMove t move → MoveIsBorne t move → fails_job move ≡ false →
      MendsFrom o (moved t move)
  well_on move may b well = record {
    room = m.room;
    over = m.over;
    mends = move_mends move m.over
        (subst (λ k. Mends k t) (no_failure (fails_job move) m.over well) m.mends) un may;
    leaves = subst
        (λ n. free_count n o.disk.blocks - mending_blocks n + bad_count n o.disk.blocks
        ≤ m.over + bad_count n (moved t move).disk.blocks) (sym (numbers_stay move))
        (well_leaves _ m.over (bad_count t.numbers t.disk.blocks) (bad_count t.numbers (moved t move).disk.blocks)
        m.leaves alike);
    within = subst
        (λ n. (bad_count n (moved t move).disk.blocks ≤ bad_count n o.disk.blocks)
        ⊎ (bad_count n (moved t move).disk.blocks ≤ n.spare)) (sym (numbers_stay move))
        (well_within (bad_count t.numbers o.disk.blocks) (bad_count t.numbers t.disk.blocks)
        (bad_count t.numbers (moved t move).disk.blocks) t.numbers.spare m.within alike);
    inside = erases_inside t m.inside move may;
    since = any_move_since unfilled v un m.mends.alone m.since move may;
    filled = any_move_fills v un m.mends.alone m.filled m.inside move may (within_spare t move b);
  }
    where
      alike : bad_count t.numbers (moved t move).disk.blocks ≡ bad_count t.numbers t.disk.blocks
      alike = bad_alike t.numbers t.disk.blocks (moved t move).disk.blocks (well_bad v move may well)

  failed_on : (die : ℕ) (left : Cells) → IsAllowedMove t (EndJob die (WentWrong left)) → IsBorne t die →
      MendsFrom o (moved t (EndJob die (WentWrong left)))
  failed_on die left may b = record {
    room = m.room;
    over = m.over - 1;
    mends = move_mends move (m.over - 1)
        (subst (λ k. Mends k t)
        (still_over (mending_blocks t.numbers) t.numbers.spare (bad_count t.numbers o.disk.blocks)
        (bad_count t.numbers t.disk.blocks) (free_count t.numbers o.disk.blocks) m.over first_room m.leaves b.spare)
        m.mends) un may;
    leaves = subst
        (λ n. free_count n o.disk.blocks - mending_blocks n + bad_count n o.disk.blocks
        ≤ m.over - 1 + bad_count n (moved t move).disk.blocks) (sym (numbers_stay move))
        (failed_leaves (mending_blocks t.numbers) t.numbers.spare (bad_count t.numbers o.disk.blocks)
        (bad_count t.numbers t.disk.blocks) (bad_count t.numbers (moved t move).disk.blocks)
        (free_count t.numbers o.disk.blocks) m.over first_room m.leaves b.spare one_more);
    within = subst
        (λ n. (bad_count n (moved t move).disk.blocks ≤ bad_count n o.disk.blocks)
        ⊎ (bad_count n (moved t move).disk.blocks ≤ n.spare)) (sym (numbers_stay move))
        (inr (failed_within (bad_count t.numbers t.disk.blocks) (bad_count t.numbers (moved t move).disk.blocks)
        t.numbers.spare b.spare one_more));
    inside = erases_inside t m.inside move may;
    since = any_move_since unfilled v un m.mends.alone m.since move may;
    filled = any_move_fills v un m.mends.alone m.filled m.inside move may (within_spare t move b);
  }
    where
      move : Move
      move = EndJob die (WentWrong left)

      one_more : bad_count t.numbers (moved t (EndJob die (WentWrong left))).disk.blocks
          ≡ 1 + bad_count t.numbers t.disk.blocks
      one_more = fails_bad v die left may m.inside

  mends_on : (move : Move) → IsAllowedMove t move → MoveIsBorne t move → MendsFrom o (moved t move)
  mends_on (EndJob die (WentWrong left)) may b = failed_on die left may b
  mends_on move may b = well_on move may b refl

pub lives_on : (o : Translation) → WereUnfilled o → IsKeptByMoves (LivesFrom o)
lives_on o unfilled t move v may b l = record {
  free = move_keeps t move v may (fails_none t move b) l.free;
  leaves = move_leaves t move v may (within_spare t move b) l.leaves;
  few = move_few move v l.few;
  mends = λ now.
      let un = false_before (is_mended t.work.mending) (move_stays t move).mended now in
      mends_on o t unfilled v un (l.mends un) move may b;
}

-- A life begins

enough_over : (pages lost slots blocks free : ℕ) → lost ≤ slots → slots + 2 ≤ pages * blocks → blocks ≤ free →
    lost + 2 + (free - blocks) * pages ≤ pages * free
enough_over pages lost slots blocks free few hold enough = by (free - blocks) (omega (arith, enough))
  where
    by : (over : ℕ) → free ≡ blocks + over → lost + 2 + over * pages ≤ pages * free
    by over e = rw e (omega (arith, few, hold))

module _ (bad : Spot → Bool) (o : Translation) (opens : Opened bad o)
    (v : Valid o) (pages : 2 ≤ o.numbers.pages) (few : HasFewLost o.numbers o.disk.cells o.ledger.newest) where
  -- the keys that are lost, no more of them than slots
  pub lost_are : AreLost o.disk.cells o.ledger.first_lost o.ledger.greatest_seen (still_lost o.work.mending)
  lost_are = listed o.numbers o.ledger.newest o.work.mending opens.start.mending

  pub lost_few : length (still_lost o.work.mending) ≤ o.numbers.slots
  lost_few = few opens.start.ledger.kept o.ledger.greatest_seen (still_lost o.work.mending) opens.start.ledger.is_kept
      opens.start.ledger.greatest_seen
      (subst (λ low. AreLost o.disk.cells low o.ledger.greatest_seen (still_lost o.work.mending))
      opens.start.ledger.first_lost lost_are)

  abbrev blocks_over : ℕ
  blocks_over = free_count o.numbers o.disk.blocks - mending_blocks o.numbers

  opens_with : HasSpareBlocks o → HasRoom blocks_over o
  opens_with room = opening_room o.numbers o.disk.cells bad o (still_lost o.work.mending) blocks_over opens.start
      lost_are
      (enough_over o.numbers.pages (length (still_lost o.work.mending)) o.numbers.slots (mending_blocks o.numbers)
      (free_count o.numbers o.disk.blocks) lost_few (blocks_hold o.numbers pages)
      (let l = room.free in omega (arith, l)))

  first_mends : FindsRoom o → is_mended o.work.mending ≡ false → MendsFrom o o
  first_mends (inl mended) un = absurd (true≢false (sym mended ∙ un))
  first_mends (inr room) un = record {
    room = room;
    over = blocks_over;
    mends = record {
      valid = v;
      alone = opening_alone o.numbers o.disk.cells bad o opens.start;
      room = opens_with room;
    };
    leaves = omega arith;
    within = inl (omega arith);
    inside = opening_erases o.numbers o.disk.cells bad o opens.start;
    since = opening_since o.numbers o.disk.cells bad o opens.start un;
    filled = opening_filled o.numbers o.disk.cells bad o opens.pages opens.start;
  }

  pub lives_begin : FindsRoom o → LivesFrom o o
  lives_begin room = record {
    free = opening_keeps o.numbers o.disk.cells bad o opens.start;
    leaves = opening_leaves o.numbers o.disk.cells bad o opens.start;
    few = begins opens v few;
    mends = first_mends room;
  }

-- Stops

free_spares : (next : Translation) →
    2 * mending_blocks next.numbers + may_go_bad next.numbers (bad_count next.numbers next.disk.blocks)
    ≤ free_count next.numbers next.disk.blocks → HasSpareBlocks next
free_spares next many = record {
  free = omega (arith, many);
  spare = λ s. is_free (next.disk.blocks s);
  each = λ s h. inl (free_is (next.disk.blocks s) h);
  many = many;
}

module _ (t : Translation) (left : Cells) (next : Translation) (v : Valid t)
    (crash : StopLeaves t left) (start : IsOpenedTranslation t.numbers left (λ s. is_bad (t.disk.blocks s)) next) where
  -- a mended life leaves nothing to mend, or the room that groups leave
  mended_leaves : KeepsFree t → LeavesOwnRoom t → HasFewRepairs t → is_mended t.work.mending ≡ true → FindsRoom next
  mended_leaves free leaves few mended = ⊎_elim
      (λ handed. inr (free_spares next
      (subst (λ n. 2 * mending_blocks n + may_go_bad n (bad_count n next.disk.blocks) ≤ free_count n next.disk.blocks)
      (sym start.numbers) (enough (own handed) (stop_costs_none t left next v free crash start)))))
      (λ idle. inl (idle_stop t next left (λ s. is_bad (t.disk.blocks s)) v few mended idle crash start).mended)
      (handed_or_not t v)
    where
      own : HasHandedOut t → kept_room t.numbers t.disk.blocks ≤ count_blocks t is_free + 1
      own handed = ⊎_elim (λ l. omega (arith, l)) (λ o. o.short) (leaves.room handed).any

      kept : count_blocks next is_free ≡ free_count t.numbers next.disk.blocks
      kept = ap (λ n. free_count n next.disk.blocks) start.numbers

      more : may_go_bad t.numbers (bad_count t.numbers next.disk.blocks)
          ≡ may_go_bad t.numbers (bad_count t.numbers t.disk.blocks)
      more = ap (may_go_bad t.numbers) (bad_alike t.numbers t.disk.blocks next.disk.blocks
          (opened_bad (λ s. is_bad (t.disk.blocks s)) next.disk.blocks start.disk.blocks))

      enough : kept_room t.numbers t.disk.blocks ≤ count_blocks t is_free + 1 →
          count_blocks t is_free ≤ count_blocks next is_free →
          2 * mending_blocks t.numbers + may_go_bad t.numbers (bad_count t.numbers next.disk.blocks)
          ≤ free_count t.numbers next.disk.blocks
      enough own l = let m = more in let e = kept in omega (arith, own, l, m, e)

-- and so does a life that is not mended, where no mark is left that was in flight
module _ (bad : Spot → Bool) (o t : Translation) (left : Cells) (next : Translation) (opens : Opened bad o)
    (dies : 1 ≤ t.numbers.dies) (v : Valid t) (l : LivesFrom o t)
    (crash : StopLeaves t left) (start : IsOpenedTranslation t.numbers left (λ s. is_bad (t.disk.blocks s)) next)
    (none : HasNoNewMark t left) where
  stopped : is_mended t.work.mending ≡ false → UnmendedStop bad o t left next
  stopped un =
      let m = l.mends un in
      record {
        opens = opens;
        valid = v;
        un = un;
        alone = m.mends.alone;
        since = m.since;
        free = l.free;
        within = m.within;
        crash = crash;
        start = start;
        none = none;
        room = m.room;
      }

  unmended_leaves : is_mended t.work.mending ≡ false → (w : Mending) → t.work.mending ≡ w → MendingOf t w →
      FindsRoom next
  unmended_leaves un (Unmarked fence lost) is u = inr (unmarked_leaves (stopped un) fence lost is u)
  unmended_leaves un (Repairing keys) is w =
      let m = l.mends un in repairing_leaves (stopped un) keys is w m.over dies m.filled m.mends.room m.leaves
  unmended_leaves un Mended is w = absurd (true≢false (ap is_mended (sym is) ∙ un))

  settled_leaves : FindsRoom next
  settled_leaves = ⊎_elim (λ mended. mended_leaves t left next v crash start l.free l.leaves l.few mended)
      (λ un. unmended_leaves un t.work.mending refl v.mending) (cases_Bool (is_mended t.work.mending))

-- A mark that is left as it was meant

-- a stop that leaves it is a stop behind the end of its program
mark_crash : (t : Translation) (left : Cells) (die : ℕ) (p : Place) (m : Mark) → Valid t → StopLeaves t left →
    t.disk.flights die ≡ Some (Programming p (MarkPage m)) → left p ≡ MarkPage m → StopLeaves (mark_written t p m) left
mark_crash t left die p m v crash e there = by t.work.plan
  where
    home : p.die ≡ die
    home = (v.flights.programs die p (MarkPage m) e).at_home

    still : (q : Place) (intended : Cell) → q ≢ p → Touches (t.disk.flights q.die) q intended →
        Touches (at_die t.disk.flights p.die None q.die) q intended
    still q intended other touches = ⊎_elim
        (λ k. absurd (other (sym (subst (λ f. Touches f q intended) (ap t.disk.flights (k.0 ∙ home) ∙ e) touches).0)))
        (λ k. subst (λ f. Touches f q intended) (sym k.1) touches) (at_die_cases t.disk.flights p.die None q.die)

    each : CellCrash (at_place t.disk.cells p (MarkPage m)) (at_die t.disk.flights p.die None) left
    each q = ⊎_elim (λ k. inl (ap left k.0 ∙ there ∙ sym k.1))
        (λ k. ⊎_elim (λ h. inl (h ∙ sym k.1)) (λ h. inr (h.0, still q h.0 k.0 h.1, h.2)) (crash q))
        (at_place_cases t.disk.cells p (MarkPage m) q)

    by : (plan : Option Plan) → CellCrash (freed (programmed t.numbers.pages t.disk p (MarkPage m)) plan).cells
        (freed (programmed t.numbers.pages t.disk p (MarkPage m)) plan).flights left
    by None = each
    by (Some pl) = each

flights_freed : (t : Translation) (p : Place) (m : Mark) (die : ℕ) → (mark_written t p m).disk.flights die ≡
    at_die t.disk.flights p.die None die
flights_freed t p m die = by t.work.plan
  where
    by : (plan : Option Plan) → (freed (programmed t.numbers.pages t.disk p (MarkPage m)) plan).flights die ≡
        at_die t.disk.flights p.die None die
    by None = refl
    by (Some pl) = refl

-- A stop of a life that found room leaves room

module _ (bad : Spot → Bool) (o t : Translation) (left : Cells) (next : Translation) (opens : Opened bad o)
    (dies : 1 ≤ t.numbers.dies) (v : Valid t) (l : LivesFrom o t) (crash : StopLeaves t left)
    (start : IsOpenedTranslation t.numbers left (λ s. is_bad (t.disk.blocks s)) next) where
  marked_leaves : is_mended t.work.mending ≡ false → HasNewMark t left → FindsRoom next
  marked_leaves un x = settled_leaves bad o (mark_written t x.place x.mark) left next opens dies
      (at_end Valid (all_keep t (EndJob x.die WentWell) v may)) behind left_behind
      (subst (λ b. IsOpenedTranslation t.numbers left b next) (λ i s. same s i) start) none_new
    where
      may : IsAllowedMove t (EndJob x.die WentWell)
      may = (ap (λ f. ending_fits f WentWell) x.flies, tt)

      at_end : (P : Translation → Type 0) → P (moved t (EndJob x.die WentWell)) → P (mark_written t x.place x.mark)
      at_end P h = subst (λ f. P (end_flight t x.die f WentWell)) x.flies h

      behind : LivesFrom o (mark_written t x.place x.mark)
      behind = at_end (LivesFrom o) (lives_on o (were_unfilled o bad opens) t (EndJob x.die WentWell) v may tt l)

      left_behind : StopLeaves (mark_written t x.place x.mark) left
      left_behind = mark_crash t left x.die x.place x.mark v crash x.flies x.there

      same : (s : Spot) → is_bad (t.disk.blocks s) ≡ is_bad ((mark_written t x.place x.mark).disk.blocks s)
      same s = sym (marked_bad v x.die x.place x.mark x.flies s)

      none_new : HasNoNewMark (mark_written t x.place x.mark) left
      none_new p m h = ⊎_elim (λ e. e)
          (λ f. absurd (none_flown x.die x.place (MarkPage x.mark) v (l.mends un).mends.alone x.flies p.die p
          (MarkPage m)
          (sym (flights_freed t x.place x.mark p.die) ∙ f)))
          (mark_from (mark_written t x.place x.mark).disk left p left_behind h)

  pub stop_leaves : FindsRoom next
  stop_leaves = ⊎_elim (λ mended. mended_leaves t left next v crash start l.free l.leaves l.few mended)
      (λ un. ⊎_elim (λ x. marked_leaves un x)
      (λ none. settled_leaves bad o t left next opens dies v l crash start none)
      (new_mark t left v crash next.ledger.newest start.ledger.newest)) (cases_Bool (is_mended t.work.mending))
