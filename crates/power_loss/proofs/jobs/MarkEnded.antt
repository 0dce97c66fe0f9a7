-- The program of a mark ended well: the block of the plan is freed, and the mending moves on.
use Rattle.power_loss.proofs.Common.{mark_not_nothing, ◌≡◌, ◌≢◌, ℕ, ◌<◌, ◌≤◌, ◌⊎◌, true, false, List, length, Option}
use Rattle.power_loss.proofs.Common.{Some, None, refl, sym, ap, ◌∙◌, subst, inl, inr, ⊎_elim, arith, All-nil, Cells}
use Rattle.power_loss.proofs.Common.{GroupPage, IsPlace, Mark, MarkPage, BlockState, Disk, Free, Programming, Spot}
use Rattle.power_loss.proofs.Common.{at_die, at_place, programmed, spot_of, IsNewestMark, recorded_in, WentWell, freed}
use Rattle.power_loss.proofs.Common.{job_ended, mending_after, number_of, MarkStep, Mended, Mending, Plan, Translation}
use Rattle.power_loss.proofs.Common.{Unmarked, is_mended, Fence, Key, Place, Tag, one_mark, page_not_mark, false≢true}
use Rattle.power_loss.proofs.Common.{none-some, none_in_empty, at_place_is, AreWholeAbove, Book, IsPlainMark, book}
use Rattle.power_loss.proofs.Common.{FlightsRight, MarksRight, MendingRight, OnePlanRight, PagesRight, RepairingRight}
use Rattle.power_loss.proofs.Common.{Repairing, Stale, StaleRight, Vacancy, Valid, at_spot}
use Rattle.power_loss.proofs.jobs.NoneStale.{WereStale, none_stale_stays}
use Rattle.ufs_spec.specs.Moves.{freed_state}
use Rattle.power_loss.proofs.books.LayerParts.{MarksOf, MendingOf, OwnMarkOf, UnmarkedOf}
use Rattle.power_loss.proofs.kept_pages.PagesStay.{pins_stay, rests_stay}
use Rattle.power_loss.proofs.kept_pages.ReadsStay.{idle_reads, reads_stay}
use Rattle.power_loss.proofs.jobs.StandsSecurely.{at_place_here, at_place_other, secure_from, secure_moves}
use Rattle.power_loss.proofs.stops.LeftUnmarked.{opened_below}
use Rattle.power_loss.proofs.jobs.ProgramEnded.{AreOverwritten, Frees, FreesStale, GoesTo, blocks_behind}
use Rattle.power_loss.proofs.jobs.ProgramEnded.{blocks_freed, blocks_programmed, erase_goes_on, frees_none, frees_one}
use Rattle.power_loss.proofs.jobs.ProgramEnded.{goes_to, keeps, needed_now, not_there, other_flight, program_goes_on}
use Rattle.power_loss.proofs.jobs.ProgramEnded.{frees_stale, safe_freed, safe_marked, stay, still_victim, was_free}
use Rattle.power_loss.proofs.jobs.ProgramEnded.{vacancies_freed, vacancies_programmed}

mark_is : {m other : Mark} → m.number ≡ other.number → m.records ≡ other.records → m.fence ≡ other.fence →
    m.numbers ≡ other.numbers → m ≡ other
mark_is d e f g = λ i. record { number = d i; records = e i; fence = f i; numbers = g i }

-- What is known of the marks before

-- the newest mark of the opening, and what it records
recorded_within : {c : Cells} (newest : Option Mark) {top : ℕ} → IsNewestMark c newest → ((p : Place) (m : Mark) →
    c p ≡ MarkPage m → m.records ≤ top) → recorded_in newest ≤ top
recorded_within None is l = omega arith
recorded_within (Some m) is l = l is.0.0 m is.0.1

-- nothing is lost
plain_unlost : {b : Book} {m : Mark} → m.fence ≡ None → b.greatest_seen < b.first_lost → IsPlainMark b m
plain_unlost e l = record {
  none = e;
  repaired = λ n i x lost h. absurd (let f = lost.from in let u = lost.to in omega (arith, f, u, l));
}

-- where the device is not mended behind a mark, it was not mended before it
pub behind_unmended : (w : Mending) → is_mended (mending_after w) ≡ false → is_mended w ≡ false
behind_unmended Mended e = e
behind_unmended w e = refl

-- what the mark and those that stand have, whatever the mending
record MarkEnds (t : Translation) (m : Mark) : Type 0 where
  marked : recorded_in t.ledger.newest ≤ m.records
  within : m.records ≤ t.ledger.frontier
  whole : AreWholeAbove (book t) m.records
  others : (q : Place) (other : Mark) → t.disk.cells q ≡ MarkPage other → other.records ≤ t.ledger.frontier
  same : (p q : Place) (a other : Mark) → t.disk.cells p ≡ MarkPage a → t.disk.cells q ≡ MarkPage other →
      a.number ≡ other.number → a ≡ other

-- the disk behind the mark, with blocks freed
abbrev marked_disk : Translation → Place → Mark → (Spot → BlockState) → (Spot → Vacancy) → Disk
marked_disk t p m after has =
    record (programmed t.numbers.pages t.disk p (MarkPage m)) { blocks = after; vacancies = has }

abbrev marked_with : Translation → Place → Mark → (Spot → BlockState) → (Spot → Vacancy) → Translation
marked_with t p m after has =
    record t {
      disk = marked_disk t p m after has;
      ledger = record t.ledger { newest = Some m };
      work = record t.work { mending = mending_after t.work.mending; plan = None; step = None };
    }

module _ {t : Translation} {die : ℕ} {p : Place} {m : Mark} (v : Valid t)
    (job : t.disk.flights die ≡ Some (Programming p (MarkPage m))) where
  goes : GoesTo t.numbers t.disk p
  goes = goes_to v.blocks (v.flights.programs die p (MarkPage m) job)

  marked_ends : {newest : Mark} → t.ledger.newest ≡ Some newest → MarksOf t newest → MarkEnds t m
  marked_ends is r =
      let later = r.flies die p m job in
      record {
        marked = let l = later.above in let e = ap recorded_in is in omega (arith, l, e);
        within = later.within;
        whole = λ n l u. r.whole n (let a = later.above in omega (arith, a, l)) u;
        others = λ q other h. ⊎_elim (λ k. k.1) (λ k. k.within) (r.known q other h);
        same = r.same;
      }

  -- a mark of an unmarked life is of the opening, or its own
  own_or_opened : {fence : Option Fence} {lost : List Key} (q : Place) {other : Mark} (u : UnmarkedOf t fence lost) →
      t.disk.cells q ≡ MarkPage other → (u.opening q ≡ MarkPage other) ⊎ OwnMarkOf t fence other
  own_or_opened {fence} q u h = ⊎_elim (λ e. inl (sym e ∙ h))
      (λ e. ⊎_elim (λ k. absurd (mark_not_nothing _ _ h k))
      (λ k. inr (subst (OwnMarkOf t fence) (one_mark _ _ (sym k.1.1 ∙ h)) k.1.2)) e) (u.same q)

  own_flight : (fence : Option Fence) {lost : List Key} → UnmarkedOf t fence lost → OwnMarkOf t fence m
  own_flight fence u = let r = u.flies die p (MarkPage m) job in subst (OwnMarkOf t fence) (one_mark _ _ (sym r.1)) r.2

  unmarked_ends : (fence : Option Fence) {lost : List Key} → UnmarkedOf t fence lost → MarkEnds t m
  unmarked_ends fence u = record {
    marked = let r = recorded_within t.ledger.newest u.opened.is_newest u.opened.marks in let e = own.records in
        omega (arith, r, e);
    within = let e = own.records in let a = v.frontier.above in omega (arith, a, e);
    whole = λ n l h. absurd (let e = own.records in omega (arith, e, l, h));
    others = λ q other h. let a = v.frontier.above in ⊎_elim
        (λ k. let r = u.opened.marks q other k in omega (arith, a, r)) (λ k. let r = k.records in omega (arith, a, r))
        (own_or_opened q u h);
    same = λ a b x y h k e. two a b x y e (own_or_opened a u h) (own_or_opened b u k);
  }
    where
      own : OwnMarkOf t fence m
      own = own_flight fence u

      old : (q : Place) (x : Mark) → u.opening q ≡ MarkPage x → x.number ≤ number_of t.ledger.newest
      old q x h = opened_below u.opening t.ledger.newest u.opened.is_newest h

      two : (a b : Place) (x y : Mark) → x.number ≡ y.number → (u.opening a ≡ MarkPage x) ⊎ OwnMarkOf t fence x →
          (u.opening b ≡ MarkPage y) ⊎ OwnMarkOf t fence y → x ≡ y
      two a b x y e (inl h) (inl k) = u.opened.sound.marks a b x y h k e
      two a b x y e (inl h) (inr k) = absurd (let o = old a x h in let n = k.newer in omega (arith, o, n, e))
      two a b x y e (inr h) (inl k) = absurd (let o = old b y k in let n = h.newer in omega (arith, o, n, e))
      two a b x y e (inr h) (inr k) =
          mark_is e (h.records ∙ sym k.records) (h.fence_is ∙ sym k.fence_is) (h.numbers ∙ sym k.numbers)

  mark_ends : (w : Mending) → MendingOf t w → MarkEnds t m
  mark_ends (Unmarked fence lost) r = unmarked_ends fence r
  mark_ends w r = marked_ends r.is r.right

  -- every mark that stands has a smaller number
  above : (q : Place) (other : Mark) → t.disk.cells q ≡ MarkPage other → other.number < m.number
  above =
      let f = v.flights.mark die p m job in
      (v.step.kind (record { kind = MarkStep m.number m.fence; there = f.there }) f.step_is).above

  -- it was the one mark in flight
  no_mark_flies : (e : ℕ) (q : Place) {other : Mark} → at_die t.disk.flights p.die None e ≡ Some
      (Programming q (MarkPage other)) → ⊥
  no_mark_flies e q {other} h =
      let o = other_flight t.disk.flights h in
      o.0 (v.flights.one_mark e die q p other m o.1 job ∙ sym (v.flights.programs die p (MarkPage m) job).at_home)

  -- Behind the mark

  -- a page of a group stood before
  old_page : (q : Place) (tag : Tag) (body : List ℕ) → at_place t.disk.cells p (MarkPage m) q ≡ GroupPage tag body →
      (q ≢ p) × (t.disk.cells q ≡ GroupPage tag body)
  old_page q tag body h = ⊎_elim (λ k. absurd (page_not_mark _ tag body m k.1 refl)) (λ k. k)
      (at_place_is t.disk.cells p (MarkPage m) q (GroupPage tag body) h)

  -- a mark is this one, or stood before
  this_or_old : {q : Place} {other : Mark} → at_place t.disk.cells p (MarkPage m) q ≡ MarkPage other →
      ((q ≡ p) × (m ≡ other)) ⊎ ((q ≢ p) × (t.disk.cells q ≡ MarkPage other))
  this_or_old {q} {other} h = ⊎_elim (λ k. inl (k.0, one_mark m other k.1)) (λ k. inr k)
      (at_place_is t.disk.cells p (MarkPage m) q (MarkPage other) h)

  mark_pages : PagesRight (book t) t.ledger.standing t.ledger.frontier (at_place t.disk.cells p (MarkPage m))
      (at_place t.disk.finished p true)
  mark_pages = record {
    within = λ q out. at_place_other t.disk.cells p (MarkPage m) q
        (λ e. out (subst (IsPlace t.numbers) (sym e) goes.place)) ∙ v.pages.within q out;
    known = λ q u body h. v.pages.known q u body (old_page q u body h).1;
    recorded = λ q u body h. v.pages.recorded q u body (old_page q u body h).1;
    stands = λ q u body h f. let o = old_page q u body h in
        v.pages.stands q u body o.1 (sym (at_place_other t.disk.finished p true q o.0) ∙ f);
  }

  -- two marks of one number are one
  marks_one : (ends : MarkEnds t m) {q s : Place} {a other : Mark} → a.number ≡ other.number →
      ((q ≡ p) × (m ≡ a)) ⊎ ((q ≢ p) × (t.disk.cells q ≡ MarkPage a)) →
      ((s ≡ p) × (m ≡ other)) ⊎ ((s ≢ p) × (t.disk.cells s ≡ MarkPage other)) → a ≡ other
  marks_one ends e (inl h) (inl k) = sym h.1 ∙ k.1
  marks_one ends {s = s} {other = other} e (inl h) (inr k) =
      absurd (let x = ap (λ (z : Mark). z.number) h.1 in let l = above s other k.1 in omega (arith, x, l, e))
  marks_one ends {q = q} {a = a} e (inr h) (inl k) =
      absurd (let x = ap (λ (z : Mark). z.number) k.1 in let l = above q a h.1 in omega (arith, x, l, e))
  marks_one ends {q} {s} {a} {other} e (inr h) (inr k) = ends.same q s a other h.1 k.1 e

  module _ {after : Spot → BlockState} {IsVictim : Spot → Type 0}
      (frees : Frees (blocks_behind t.numbers t.disk p) after IsVictim) where
    mark_flights : FlightsRight (book t) t.ledger.frontier t.ledger.marks after t.disk.erasing
        (at_die t.disk.flights p.die None) None
    mark_flights = record {
      programs = λ e q cell h. let o = other_flight t.disk.flights h in
          let r = program_goes_on goes (v.flights.programs e q cell o.1) o.0 in
          record { at_home = r.at_home; place = r.place; next = frees.fills (spot_of q) q.page r.next };
      erases = λ e s h. let o = other_flight t.disk.flights h in
          let r = erase_goes_on goes (v.flights.erases e s o.1) o.0 in
          record { at_home = r.at_home; free = frees.free s r.free; counted = r.counted };
      something = λ e q h. v.flights.something e q (other_flight t.disk.flights h).1;
      known = λ e q u body h. v.flights.known e q u body (other_flight t.disk.flights h).1;
      recorded = λ e q u body h. v.flights.recorded e q u body (other_flight t.disk.flights h).1;
      mark = λ e q other h. absurd (no_mark_flies e q h);
      one_mark = λ d e q s a other h k. absurd (no_mark_flies d q h);
    }

    -- the mark is the newest finished one
    mark_marks : (IsVictim (spot_of p) → ⊥) → MarkEnds t m → MarksRight (book t) t.ledger.frontier t.ledger.marks
        (at_place t.disk.cells p (MarkPage m)) (at_place t.disk.finished p true) after t.disk.erasing
        (at_die t.disk.flights p.die None) m
    mark_marks out ends = record {
      stands = record {
        place = p;
        there = at_place_here t.disk.cells p (MarkPage m) p refl;
        ended = at_place_here t.disk.finished p true p refl;
        stays = goes.stays;
        needed = needed;
      };
      within = ends.within;
      numbers = (v.flights.mark die p m job).numbers_right;
      whole = ends.whole;
      ended = λ q other h f. number q other h;
      known = λ q other h. inl (
        number q other h,
        ⊎_elim (λ k. subst (λ (z : Mark). z.records ≤ t.ledger.frontier) k.1 ends.within)
            (λ k. ends.others q other k.1) (this_or_old h),
      );
      same = λ q s a other h k e. marks_one ends e (this_or_old h) (this_or_old k);
      freed = λ q other h f. ⊎_elim (λ k. absurd (needed (ap after (ap spot_of (sym k.0)) ∙ f)))
          (λ k. above q other k.1) (this_or_old h);
      flies = λ e q other h. absurd (no_mark_flies e q h);
    }
      where
        needed : after (spot_of p) ≢ Free
        needed = ⊎_elim (λ h. h) (λ h. absurd (out h)) (frees.needed (spot_of p) (needed_now goes))

        number : (q : Place) (other : Mark) → at_place t.disk.cells p (MarkPage m) q ≡ MarkPage other →
            other.number ≤ m.number
        number q other h = ⊎_elim (λ k. let e = ap (λ (z : Mark). z.number) k.1 in omega (arith, e))
            (λ k. let l = above q other k.1 in omega (arith, l)) (this_or_old h)

    -- The mending moves on

    -- the first mark stands, and the repairs begin
    mark_repairing : (fence : Fence) {lost : List Key} → UnmarkedOf t (Some fence) lost →
        RepairingRight (book t) t.ledger.frontier m None None lost
    mark_repairing fence u = record {
      fence = record {
        fence = fence;
        is = (own_flight (Some fence) u).fence_is;
        first = u.fence_right.0;
        last = u.fence_right.1;
        some = u.fence_right.2;
        records = (own_flight (Some fence) u).records;
      };
      repaired = λ n i e l h. inl (u.lost_right.all n i e l h);
      keys = u.lost_right.keys;
      singles = λ j group h. absurd (none_in_empty t.ledger.groups j group u.none_new h);
      under_way = let s = u.still in let e = ap length u.none_new in inl (omega (arith, s, e));
      no_plan = refl;
    }

    mark_mending : (has : Spot → Vacancy) (w : Mending) → (IsVictim (spot_of p) → ⊥) →
        ((s : Spot) → IsVictim s → w ≡ Mended) → MendingOf t w →
        MendingRight (book t) (marked_disk t p m after has) (record t.ledger { newest = Some m }) None None
        (mending_after w)
    mark_mending has (Unmarked None lost) out of r = record {
      mark = m;
      is = refl;
      right = mark_marks out (unmarked_ends None r);
      more = plain_unlost (own_flight None r).fence_is r.fence_right.1;
    }
    mark_mending has (Unmarked (Some fence) lost) out of r = record {
      mark = m;
      is = refl;
      right = mark_marks out (unmarked_ends (Some fence) r);
      more = mark_repairing fence r;
    }
    mark_mending has w out of r = record {
      mark = m;
      is = refl;
      right = mark_marks out (marked_ends r.is r.right);
      more = (r.right.flies die p m job).plain;
    }

    -- where no victim is freed no block is to be erased that was not
    mark_stale : (has : Spot → Vacancy) (w : Mending) → ((s : Spot) → IsVictim s → w ≡ Mended) →
        FreesStale (blocks_behind t.numbers t.disk p) after t.disk.vacancies has IsVictim →
        StaleRight t.numbers t.disk.blocks t.disk.vacancies t.work.step w →
        StaleRight t.numbers after has None (mending_after w)
    mark_stale has (Unmarked None lost) of stale r = tt
    mark_stale has (Unmarked (Some fence) lost) of stale r =
        let f = v.flights.mark die p m job in
        none_stale_stays t.numbers (were_stale has stale (λ s h. absurd (unmarked (of s h)))) (r _ f.step_is)
      where
        unmarked : Unmarked (Some fence) lost ≡ Mended → ⊥
        unmarked e = cc

        were_stale : (has : Spot → Vacancy) →
            FreesStale (blocks_behind t.numbers t.disk p) after t.disk.vacancies has IsVictim →
            ((s : Spot) → IsVictim s → ⊥) → WereStale t.disk.blocks after t.disk.vacancies has
        were_stale has stale none s free is = ⊎_elim
            (λ k. (was_free goes s k.0, sym k.1 ∙ is)) (λ k. absurd (none s k.1)) (stale s free)
    mark_stale has (Repairing left) of stale r = tt
    mark_stale has Mended of stale r = tt

    -- All of it

    mark_valid : (IsVictim (spot_of p) → ⊥) → ((s : Spot) → IsVictim s → t.work.mending ≡ Mended) →
        AreOverwritten (book t) t.ledger.standing IsVictim m.records → (has : Spot → Vacancy) →
        FreesStale (blocks_behind t.numbers t.disk p) after t.disk.vacancies has IsVictim →
        Valid (marked_with t p m after has)
    mark_valid out of flown has stale = record {
      book_right = v.book_right;
      frontier = v.frontier;
      pages = mark_pages;
      blocks = blocks_freed frees (blocks_programmed goes (MarkPage m) v.blocks);
      vacancies = vacancies_freed stale (vacancies_programmed goes (MarkPage m) v.vacancies);
      stale = mark_stale has t.work.mending of stale v.stale;
      flights = mark_flights;
      safe = let ends = mark_ends t.work.mending v.mending in
          safe_freed v.frontier frees ends.within flown ends.marked (safe_marked goes (MarkPage m) v.safe);
      numbered = λ q other h. ⊎_elim
          (λ k. let e = (v.flights.mark die p m job).number in let x = ap (λ (z : Mark). z.number) k.1 in
          omega (arith, e, x)) (λ k. v.numbered q other k.1) (this_or_old h);
      mending = mark_mending has t.work.mending out of v.mending;
      step = record { kind = λ s e. absurd (none-some s e) };
      plan = record { mended = λ pl e. absurd (none-some pl e); one = λ pl e. absurd (none-some pl e) };
      slots = v.slots;
      unmended = record {
        stand = λ un key name q has first h.
            let was = behind_unmended t.work.mending un in
            let s = secure_moves (keeps goes (MarkPage m)) (v.unmended.stand was key name q has first h) in
            secure_from s s.known refl s.ended s.stays (⊎_elim (λ k. k)
            (λ k. absurd (false≢true (sym was ∙ ap is_mended (of (spot_of s.place) k))))
            (frees.needed (spot_of s.place) s.needed));
      };
      pins = pins_stay (λ n i e h. h) (stay goes (MarkPage m)) v.pins;
      rests = rests_stay (stay goes (MarkPage m)) v.rests;
      reads = reads_stay (stay goes (MarkPage m)) (idle_reads t.disk.flights p.die) v.reads;
      to_read = record { wanted = All-nil _; copied = λ pl e. absurd (none-some pl e) };
      history = assumption (λ (e : is_mended (mending_after t.work.mending) ≡ false).
          v.history.mending (behind_unmended t.work.mending e));
    }

  by_plan : (plan : Option Plan) → t.work.plan ≡ plan →
      Valid (marked_with t p m (freed (programmed t.numbers.pages t.disk p (MarkPage m)) plan).blocks
      (freed (programmed t.numbers.pages t.disk p (MarkPage m)) plan).vacancies)
  by_plan None e = mark_valid (frees_none) (λ h. h) (λ s h. absurd h) (λ n i x q is known h free. absurd h)
      t.disk.vacancies (λ s h. inl (h, refl))
  by_plan (Some pl) e = mark_valid frees
      (λ h. not_there goes one.state (sym h)) (λ s h. v.plan.mended pl e)
      (λ n i x q is known h free.
      one.flown die p m job n i x q (record { is = is; known = known; inside = h; free = free }))
      (at_spot t.disk.vacancies pl.victim Stale) (frees_stale t.disk.vacancies frees)
    where
      one : OnePlanRight (book t) t.ledger.frontier t.ledger.standing t.disk.blocks t.disk.flights t.work.step pl
      one = v.plan.one pl e

      frees : Frees (blocks_behind t.numbers t.disk p) (at_spot (blocks_behind t.numbers t.disk p) pl.victim
          (freed_state (blocks_behind t.numbers t.disk p pl.victim))) (λ s. s ≡ pl.victim)
      frees = frees_one (still_victim goes one.state)

-- the disk differs in its blocks and what is in them alone
freed_is : (d : Disk) (plan : Option Plan) →
    record d { blocks = (freed d plan).blocks; vacancies = (freed d plan).vacancies } ≡ freed d plan
freed_is d None = refl
freed_is d (Some plan) = refl

pub ends_mark : {t : Translation} (die : ℕ) (p : Place) (m : Mark) → Valid t → t.disk.flights die ≡ Some
    (Programming p (MarkPage m)) → Valid (job_ended t die (Programming p (MarkPage m)) WentWell)
ends_mark {t} die p m v job = subst
    (λ (d : Disk). Valid (record t {
      disk = d;
      ledger = record t.ledger { newest = Some m };
      work = record t.work { mending = mending_after t.work.mending; plan = None; step = None };
    })) (freed_is (programmed t.numbers.pages t.disk p (MarkPage m)) t.work.plan) (by_plan v job t.work.plan refl)
