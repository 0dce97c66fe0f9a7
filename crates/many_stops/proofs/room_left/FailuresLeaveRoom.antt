-- A program or an erase that failed leaves the room while no more blocks are bad than are spare: the block that went
-- bad is one of those that are kept for it.
use Rattle.many_stops.proofs.Common.{Bad, BlockState, Bool, Cell, CellCrash, Cells, Closed, CopyStep, Erasing, Filling}
use Rattle.many_stops.proofs.Common.{Flight, Free, GroupPage, HasHandedOut, HasOwnRoom, IsHandedOut, IsSpot}
use Rattle.many_stops.proofs.Common.{LeavesOwnRoom, LeavesRoom, List, Mark, MarkPage, MarkStep, Name, None, Numbers}
use Rattle.many_stops.proofs.Common.{Option, Place, Plan, Programming, Some, Spot, Step, Tag, Touches, Translation}
use Rattle.many_stops.proofs.Common.{Valid, ap, arith, at_die, at_spot, at_spot_cases, bad_count, bad_told}
use Rattle.many_stops.proofs.Common.{before_accepted, closed_is_not_free, count_blocks, ended_fewer, erase_failed}
use Rattle.many_stops.proofs.Common.{false, filling_is_not_bad, filling_room, flight_alone, free_count}
use Rattle.many_stops.proofs.Common.{free_is_not_filling, has_mark_number, if◌then◌else◌, inl, inr, is_bad, is_mended}
use Rattle.many_stops.proofs.Common.{is_plan_of_bad, kept_room, mark_ordered, mending_blocks, none-some, page_of_group}
use Rattle.many_stops.proofs.Common.{pages_of_plan, program_failed, programs_name, refl, room_on_dies, same_Some}
use Rattle.many_stops.proofs.Common.{spot_of, subst, sym, true, ℕ, ⊎_elim, ◌*◌, ◌+◌, ◌-◌, ◌<◌, ◌==◌, ◌∙◌, ◌≡◌, ◌≢◌, ◌≤◌}
use Rattle.many_stops.proofs.Common.{◌⊎◌}
use Rattle.ufs_laws.proofs.deciding.SearchOverPlaces.{alike, both, is_below}
use Rattle.ufs_spec.specs.Moves.{cell_failed}
use Rattle.power_loss.proofs.jobs.StandsSecurely.{closed_is_not_filling}
use Rattle.power_loss.proofs.stops.LeftCells.{page_from}
use Rattle.many_stops.specs.RoomOfGroups.{pages_of_copy}
use Rattle.many_stops.proofs.CountedBlocks.{no_fewer, no_fewer_bad, none_fewer, one_bad_more, one_fewer}
use Rattle.many_stops.proofs.room_left.RoomInOpenBlocks.{block_less, fewer_pages, groups_most, rooms_no_less, same_room}
use Rattle.many_stops.proofs.room_left.RoomStays.{bad_is_not_free, bad_room_stays, flies_fewer, mark_is_no_copy}
use Rattle.many_stops.proofs.room_left.RoomStays.{no_less, shows_from, step_of}

-- what a failed job of one die leaves, a stop may leave
touches_alone : (flights : ℕ → Option Flight) (die : ℕ) (p : Place) (intended : Cell) →
    Touches (flight_alone flights die p.die) p intended → Touches (flights p.die) p intended
touches_alone flights die p intended h = by (p.die == die) h
  where
    by : (b : Bool) → Touches (if b then flights p.die else None) p intended → Touches (flights p.die) p intended
    by true k = k
    by false k = absurd k

left_alone : (cells : Cells) (flights : ℕ → Option Flight) (die : ℕ) (left : Cells) →
    CellCrash cells (flight_alone flights die) left → CellCrash cells flights left
left_alone cells flights die left crash p =
    ⊎_elim (λ e. inl e) (λ k. inr (k.0, touches_alone flights die p k.0 k.1, k.2)) (crash p)

-- one block more is bad, and so one less is kept
pub one_less_kept : (base spare was now : ℕ) → was < spare → 1 + was ≤ now →
    base + (spare - now) + 1 ≤ base + (spare - was)
one_less_kept base spare was now few more = omega (arith, few, more)

pub no_more_kept : (base spare was now : ℕ) → was ≤ now → base + (spare - now) ≤ base + (spare - was)
no_more_kept base spare was now more = omega (arith, more)

is_spot : (n : Numbers) (s : Spot) → IsSpot n s ⊎ (IsSpot n s → ⊥)
is_spot n s = alike (λ h. record { die = h.0; block = h.1 }) (λ h. (h.die, h.block))
    (both (is_below s.die n.dies) (is_below s.block n.blocks))

module _ {t : Translation} (v : Valid t) (r : LeavesOwnRoom t)
    (few : count_blocks t is_bad < t.numbers.spare) where
  module _ (s : Spot) (good : t.disk.blocks s ≢ Bad) where
    abbrev worse : Spot → BlockState
    worse = at_spot t.disk.blocks s Bad

    less_kept : IsSpot t.numbers s → kept_room t.numbers worse + 1 ≤ kept_room t.numbers t.disk.blocks
    less_kept on = one_less_kept (2 * mending_blocks t.numbers + 1) t.numbers.spare (count_blocks t is_bad)
        (bad_count t.numbers worse) few (one_bad_more t.numbers t.disk.blocks s on good)

    still_worse : (a : Spot) → worse a ≢ Bad → t.disk.blocks a ≢ Bad
    still_worse a other bad =
        other (⊎_elim (λ k. k.1) (λ k. k.1 ∙ bad) (at_spot_cases t.disk.blocks s Bad a))

    -- where the block is not closed it is no victim, and so a plan is of a bad block if it was
    victim_stays : t.disk.blocks s ≢ Closed → (plan : Option Plan) → t.work.plan ≡ plan →
        is_plan_of_bad worse plan ≡ is_plan_of_bad t.disk.blocks plan
    victim_stays other None is = refl
    victim_stays other (Some pl) is = ap is_bad
        (⊎_elim (λ k. absurd (⊎_elim (λ closed. other (ap t.disk.blocks (sym k.0) ∙ closed))
        (λ bad. good (ap t.disk.blocks (sym k.0) ∙ bad)) (v.plan.one pl is).state)) (λ k. k.1)
        (at_spot_cases t.disk.blocks s Bad pl.victim))

    handed_left : (die : ℕ) (left : Cells) → CellCrash t.disk.cells (flight_alone t.disk.flights die) left →
        IsHandedOut (before_accepted t.ledger) t.ledger.standing left (at_die t.disk.flights die None) → HasHandedOut t
    handed_left die left crash (inl h) = inl h
    handed_left die left crash (inr (inl f)) = inr (inl (flies_fewer (ended_fewer t.disk.flights die) f))
    handed_left die left crash (inr (inr c)) = inr (shows_from
        (λ p tag body e. ⊎_elim (λ k. inl k) (λ k. inr (p.die, k))
        (page_from t.disk p (left_alone t.disk.cells t.disk.flights die left crash) e)) c)

    -- whatever step is then under way, of the same plan
    failed_with : (die : ℕ) (left : Cells) (now : Option Step) →
        CellCrash t.disk.cells (flight_alone t.disk.flights die) left →
        ((name : Name) (from : Place) (there : Bool) →
        now ≡ Some (record { kind = CopyStep name from; there = there }) → t.work.step ≡ now) →
        (is_mended t.work.mending ≡ true → (x : Step) → now ≡ Some x → (pl : Plan) × (t.work.plan ≡ Some pl)) →
        pages_of_copy now ≤ pages_of_copy t.work.step →
        (HasHandedOut t → HasOwnRoom t.numbers worse (at_die t.disk.flights die None) now t.work.plan) →
        LeavesRoom t.numbers (before_accepted t.ledger) t.ledger.standing left worse
        (at_die t.disk.flights die None) (is_mended t.work.mending) now t.work.plan
    failed_with die left now crash copy planned copies room = record {
      one_die = λ d e p q a b x y h k same. r.one_die d e p q a b x y
          (ended_fewer t.disk.flights die d p (GroupPage a x) h)
          (ended_fewer t.disk.flights die e q (GroupPage b y) k) same;
      copied = λ name from there e. r.copied name from there (copy name from there e ∙ e);
      planned = planned;
      gains = λ pl e.
          let g = r.gains pl e in
          record {
            inside = g.inside;
            most = less _ _ _ _ g.most copies;
            less = λ other. less _ _ _ _ (g.less (still_worse pl.victim other)) copies;
          };
      room = λ h. room (handed_left die left crash h);
    }
      where
        less : (a b c d : ℕ) → a + b + 1 ≤ d → c ≤ b → a + c + 1 ≤ d
        less a b c d l k = omega (arith, l, k)

  -- Programs

  module _ (die : ℕ) (p : Place) (cell : Cell) (left : Cells) (job : t.disk.flights die ≡ Some (Programming p cell))
      (crash : CellCrash t.disk.cells (flight_alone t.disk.flights die) left) where
    home : p.die ≡ die
    home = (v.flights.programs die p cell job).at_home

    inside : IsSpot t.numbers (spot_of p)
    inside =
        let i = (v.flights.programs die p cell job).place in
        record { die = i.die; block = i.block }

    filling : t.disk.blocks (spot_of p) ≡ Filling p.page
    filling = (v.flights.programs die p cell job).next

    one_less : kept_room t.numbers (at_spot t.disk.blocks (spot_of p) Bad) + 1 ≤ kept_room t.numbers t.disk.blocks
    one_less = less_kept (spot_of p) (filling_is_not_bad filling) inside

    as_many : free_count t.numbers t.disk.blocks ≤ free_count t.numbers (at_spot t.disk.blocks (spot_of p) Bad)
    as_many = none_fewer t.numbers t.disk.blocks (spot_of p) Bad (λ free. free_is_not_filling free filling)

    fewer_copies : (now : Option Step) → pages_of_copy now ≤ pages_of_copy t.work.step → (plan : Option Plan) →
        pages_of_plan plan now ≤ pages_of_plan plan t.work.step
    fewer_copies now copies None = omega arith
    fewer_copies now copies (Some pl) = omega (arith, copies)

    -- as many blocks are free, and one less is kept; so there is room for what the failed block had room for
    program_room : (now : Option Step) → pages_of_copy now ≤ pages_of_copy t.work.step →
        ((o : Option Flight) → page_of_group now o ≤ page_of_group t.work.step o) → HasHandedOut t →
        HasOwnRoom t.numbers (at_spot t.disk.blocks (spot_of p) Bad) (at_die t.disk.flights die None) now t.work.plan
    program_room now copies groups handed = record {
      any =
          let l = one_less in
          let f = as_many in
          inl (⊎_elim (λ k. omega (arith, k, l, f)) (λ o. let k = o.short in omega (arith, k, l, f))
          (r.room handed).any);
      bad = λ is. bad_room_stays 1 t.numbers t.disk.blocks (at_spot t.disk.blocks (spot_of p) Bad) t.disk.flights
          (at_die t.disk.flights die None) t.work.step now t.work.plan
          (let l = one_less in let f = as_many in omega (arith, l, f))
          (λ more fits.
          let pages = fewer_copies now copies t.work.plan in
          let room = block_less t.numbers t.disk.blocks (spot_of p) Bad t.work.step now t.disk.flights
          (at_die t.disk.flights die None)
          (λ d. no_less _ _ _ (fewer_pages now (ended_fewer t.disk.flights die) d) (groups (t.disk.flights d))) in
          omega (arith, pages, room, fits))
          ((r.room handed).bad (sym (victim_stays (spot_of p) (filling_is_not_bad filling)
          (λ closed. closed_is_not_filling closed filling) t.work.plan refl) ∙ is));
    }

    abbrev FailedTo : Option Step → Type 0
    FailedTo now = LeavesRoom t.numbers (before_accepted t.ledger) t.ledger.standing left
        (at_spot t.disk.blocks (spot_of p) Bad) (at_die t.disk.flights p.die None) (is_mended t.work.mending) now
        t.work.plan

    failed_to : (now : Option Step) →
        ((name : Name) (from : Place) (there : Bool) →
        now ≡ Some (record { kind = CopyStep name from; there = there }) → t.work.step ≡ now) →
        (is_mended t.work.mending ≡ true → (x : Step) → now ≡ Some x → (pl : Plan) × (t.work.plan ≡ Some pl)) →
        pages_of_copy now ≤ pages_of_copy t.work.step →
        ((o : Option Flight) → page_of_group now o ≤ page_of_group t.work.step o) → FailedTo now
    failed_to now copy planned copies groups = subst
        (λ d. LeavesRoom t.numbers (before_accepted t.ledger) t.ledger.standing left
        (at_spot t.disk.blocks (spot_of p) Bad) (at_die t.disk.flights d None) (is_mended t.work.mending) now
        t.work.plan) (sym home)
        (failed_with (spot_of p) (filling_is_not_bad filling) die left now crash copy planned copies
        (program_room now copies groups))

    -- the same step waits again
    pub step_again : FailedTo t.work.step
    step_again = failed_to t.work.step (λ name from there e. refl) r.planned (omega arith) (λ o. omega arith)

  pub page_fails : (die : ℕ) (p : Place) (tag : Tag) (body : List ℕ) (left : Cells) →
      t.disk.flights die ≡ Some (Programming p (GroupPage tag body)) →
      CellCrash t.disk.cells (flight_alone t.disk.flights die) left →
      LeavesOwnRoom (cell_failed t p (GroupPage tag body) left)
  page_fails die p tag body left job crash = step_again die p (GroupPage tag body) left job crash

  -- or a mark with the next number does, if one is left
  pub mark_fails : (die : ℕ) (p : Place) (m : Mark) (left : Cells) →
      t.disk.flights die ≡ Some (Programming p (MarkPage m)) →
      CellCrash t.disk.cells (flight_alone t.disk.flights die) left →
      LeavesOwnRoom (cell_failed t p (MarkPage m) left)
  mark_fails die p m left job crash = by (has_mark_number t)
    where
      planned : (now : Option Step) → is_mended t.work.mending ≡ true → (x : Step) → now ≡ Some x →
          (pl : Plan) × (t.work.plan ≡ Some pl)
      planned now mended x e = r.planned mended _ (v.flights.mark die p m job).step_is

      groups : (now : Option Step) (o : Option Flight) → page_of_group now o ≤ page_of_group t.work.step o
      groups now = groups_most t.work.step now
          (λ name. ap (λ z. programs_name z name) (v.flights.mark die p m job).step_is)

      next : LeavesRoom t.numbers (before_accepted t.ledger) t.ledger.standing left
          (at_spot t.disk.blocks (spot_of p) Bad) (at_die t.disk.flights p.die None) (is_mended t.work.mending)
          (Some (step_of (MarkStep (t.ledger.marks + 1) m.fence) true)) t.work.plan
      next = failed_to die p (MarkPage m) left job crash (Some (step_of (MarkStep (t.ledger.marks + 1) m.fence) true))
          (λ name from there e. absurd (mark_is_no_copy (ap (λ (z : Step). z.kind) (same_Some _ _ e))))
          (planned (Some (step_of (MarkStep (t.ledger.marks + 1) m.fence) true))) (omega arith)
          (groups (Some (step_of (MarkStep (t.ledger.marks + 1) m.fence) true)))

      none : LeavesRoom t.numbers (before_accepted t.ledger) t.ledger.standing left
          (at_spot t.disk.blocks (spot_of p) Bad) (at_die t.disk.flights p.die None) (is_mended t.work.mending)
          None t.work.plan
      none = failed_to die p (MarkPage m) left job crash None (λ name from there e. absurd (none-some _ e))
          (planned None) (omega arith) (groups None)

      by : (b : Bool) → LeavesOwnRoom
          (if b then mark_ordered (record t { disk = program_failed t.disk p left }) m.fence
          else record (record t { disk = program_failed t.disk p left }) { work = record t.work { step = None } })
      by true = next
      by false = none

  -- Erases

  pub erase_fails : (die : ℕ) (s : Spot) (left : Cells) → t.disk.flights die ≡ Some (Erasing s) →
      CellCrash t.disk.cells (flight_alone t.disk.flights die) left →
      LeavesOwnRoom (record t { disk = erase_failed t.disk s left })
  erase_fails die s left job crash = subst
      (λ d. LeavesRoom t.numbers (before_accepted t.ledger) t.ledger.standing left (at_spot t.disk.blocks s Bad)
      (at_die t.disk.flights d None) (is_mended t.work.mending) t.work.step t.work.plan) (sym home)
      (failed_with s good die left t.work.step crash (λ name from there e. refl) r.planned (omega arith)
      (λ handed. by (r.room handed)))
    where
      home : s.die ≡ die
      home = (v.flights.erases die s job).at_home

      free : t.disk.blocks s ≡ Free
      free = (v.flights.erases die s job).free

      good : t.disk.blocks s ≢ Bad
      good bad = bad_is_not_free bad free

      same : (plan : Option Plan) → t.work.plan ≡ plan →
          is_plan_of_bad (at_spot t.disk.blocks s Bad) plan ≡ is_plan_of_bad t.disk.blocks plan
      same = victim_stays s good (λ closed. closed_is_not_free closed free)

      still_good : (pl : Plan) → t.work.plan ≡ Some pl → t.disk.blocks pl.victim ≢ Bad →
          at_spot t.disk.blocks s Bad pl.victim ≢ Bad
      still_good pl is other bad = other (bad_told (t.disk.blocks pl.victim) (sym (same (Some pl) is) ∙ ap is_bad bad))

      -- one less is free, and one less is kept
      counts : kept_room t.numbers (at_spot t.disk.blocks s Bad) + free_count t.numbers t.disk.blocks ≤
          kept_room t.numbers t.disk.blocks + free_count t.numbers (at_spot t.disk.blocks s Bad)
      counts = ⊎_elim
          (λ on. let k = less_kept s good on in let f = one_fewer t.numbers t.disk.blocks s Bad in omega (arith, k, f))
          (λ out.
          let k = no_more_kept (2 * mending_blocks t.numbers + 1) t.numbers.spare _ _
          (no_fewer_bad t.numbers t.disk.blocks s) in
          let f = no_fewer t.numbers t.disk.blocks (at_spot t.disk.blocks s Bad)
          (λ a on is. ⊎_elim (λ e. absurd (out (subst (IsSpot t.numbers) e.0 on))) (λ e. e.1 ∙ is)
          (at_spot_cases t.disk.blocks s Bad a)) in
          omega (arith, k, f)) (is_spot t.numbers s)

      as_much : room_on_dies t.numbers t.disk.blocks t.work.step t.disk.flights ≤
          room_on_dies t.numbers (at_spot t.disk.blocks s Bad) t.work.step (at_die t.disk.flights die None)
      as_much = rooms_no_less t.numbers t.disk.blocks (at_spot t.disk.blocks s Bad) t.work.step t.work.step
          t.disk.flights (at_die t.disk.flights die None)
          (λ d. same_room t.numbers t.disk.blocks s Bad d
          (let e = ap (filling_room t.numbers.pages) free in omega (arith, e)))
          (fewer_pages t.work.step (ended_fewer t.disk.flights die))

      by : HasOwnRoom t.numbers t.disk.blocks t.disk.flights t.work.step t.work.plan →
          HasOwnRoom t.numbers (at_spot t.disk.blocks s Bad) (at_die t.disk.flights die None) t.work.step t.work.plan
      by h = record {
        any = ⊎_elim (λ l. let k = counts in inl (omega (arith, k, l)))
            (λ o. inr (record {
              short = let k = counts in let l = o.short in omega (arith, k, l);
              under_way = o.under_way;
              is = o.is;
              good = still_good o.under_way o.is o.good;
              fits = no_less _ _ _ o.fits as_much;
            })) h.any;
        bad = λ is. bad_room_stays 0 t.numbers t.disk.blocks (at_spot t.disk.blocks s Bad) t.disk.flights
            (at_die t.disk.flights die None) t.work.step t.work.step t.work.plan (let k = counts in omega (arith, k))
            (λ more fits. let k = as_much in omega (arith, fits, k)) (h.bad (sym (same t.work.plan refl) ∙ is));
      }
