-- A program and an erase that a die is given keep a life valid.
use Rattle.ufs_spec.specs.Configs.{marked as as_marked}
use Rattle.power_loss.proofs.Common.{BlockState, BlocksRight, Book, Bool, Cell, CopyStep, Entry, Erasing, Fence}
use Rattle.power_loss.proofs.Common.{FenceRight, Filling, Flight, Free, IsFirstFence, IsKnown, IsLastRepair}
use Rattle.power_loss.proofs.Common.{IsLaterMark, IsLostNumber, IsOverwritten, IsToCopy, IsWritten, Key, List, Mark}
use Rattle.power_loss.proofs.Common.{MarkFlightRight, MarkPage, MarkStep, MarkStepRight, MayTake, Mended, Mending, Name}
use Rattle.power_loss.proofs.Common.{None, Option, Place, Plan, Programming, RepairStep, Repairing, Some, Spot}
use Rattle.power_loss.proofs.Common.{StandsIn, Step, Translation, Unmarked, Valid, [], ap, arith, at_die, at_die_is}
use Rattle.power_loss.proofs.Common.{at_spot, at_spot_cases, at_spot_is, below, book, false, flies_mark, inl, inr}
use Rattle.power_loss.proofs.Common.{job_begun, last_number, list_any, list_any-append, mark_not_nothing, none_in_empty}
use Rattle.power_loss.proofs.Common.{number_of, one_mark, one_page, or_parts, page_not_mark, page_not_nothing}
use Rattle.power_loss.proofs.Common.{records_now, refl, same_Some, some_flight, spot_cases, spot_of, subst, suc, sym}
use Rattle.power_loss.proofs.Common.{taken, true, true≢false, zero, ℕ, ⊎_elim, ◌<◌, ◌∙◌, ◌∷◌, ◌≡◌, ◌≢◌, ◌⊎◌}
use Rattle.power_loss.proofs.books.LayerParts.{MarksOf, MendingOf, OwnMarkOf, UnmarkedOf}
use Rattle.power_loss.proofs.kept_pages.PagesStay.{held_begun}
use Rattle.power_loss.proofs.jobs_owed.BegunPrograms.{CellRight, IsMarkedOnce, begins}
use Rattle.power_loss.proofs.jobs.DiskChanges.{Change, lost_pages}
use Rattle.power_loss.proofs.jobs_owed.ProgramsAndErases.{EraseOwed, OpensReady, erase_owed, idle_below, program_owed}
use Rattle.power_loss.proofs.kept_pages.ReadsStay.{reads_erase_begun}
use Rattle.power_loss.proofs.jobs.StandsSecurely.{at_spot_here, at_spot_other, closed_is_not_free, free_is_not_bad}
use Rattle.power_loss.proofs.jobs.StandsSecurely.{free_is_not_filling, keeps_erase_begun, one_filling, put_needed}
use Rattle.power_loss.proofs.jobs.StandsSecurely.{ready_is_not_stale, state_kept, true_is_not_false, vacancies_put}
use Rattle.power_loss.proofs.jobs.StandsSecurely.{victim_kept}
use Rattle.power_loss.proofs.jobs_owed.WhatWaits.{MarkWaits, PageWaits, name_cell_waits, step_cell_waits}
use Rattle.power_loss.proofs.books.PagesByName.{written_more}
use Rattle.power_loss.proofs.stops.LeftUnmarked.{newest_there, Started}

-- An erase

pub erase_is_no_program : {s : Spot} {p : Place} {cell : Cell} → Some (Erasing s) ≡ Some (Programming p cell) → ⊥
erase_is_no_program e = cc

same_erase : {s a : Spot} → Some (Erasing s) ≡ Some (Erasing a) → s ≡ a
same_erase e = cc

counted_more : (f : Spot → Bool) (s a : Spot) → f a ≡ true → at_spot f s true a ≡ true
counted_more f s a h = ⊎_elim (λ k. at_spot_here f s true a k.1) (λ k. at_spot_other f s true a k.1 ∙ h)
    (spot_cases a s)

erase_change : {t : Translation} {die : ℕ} {s : Spot} → Valid t → EraseOwed t die s →
    Change t (job_begun t.disk die (Erasing s))
erase_change {t} {die} {s} v o = record {
  keeps = keeps_erase_begun die s o.free;
  left = λ q. inl refl;
  ended = λ q h. h;
  unended = λ q h. inl h;
  blocks = record {
    unfinished = v.blocks.unfinished;
    filling = v.blocks.filling;
    blank = v.blocks.blank;
    erased = λ a h. ⊎_elim (λ k. inl (ap t.disk.blocks k.0 ∙ o.free)) (λ k. v.blocks.erased a k.1)
        (at_spot_is t.disk.erasing s true a true h);
  };
  flew = flew;
  programs = λ other p cell h. v.flights.programs other p cell (flew other p cell h);
  erases = λ other a h. ⊎_elim (λ k.
      let e = same_erase k.1 in
      record {
        at_home = ap (λ z. z.die) (sym e) ∙ o.inside.at_home ∙ sym k.0;
        free = ap t.disk.blocks (sym e) ∙ o.free;
        counted = at_spot_here t.disk.erasing s true a (sym e);
      })
      (λ k. let r = v.flights.erases other a k.1 in record {
        at_home = r.at_home;
        free = r.free;
        counted = counted_more t.disk.erasing s a r.counted;
      }) (at_die_is t.disk.flights die (Some (Erasing s)) other (Some (Erasing a)) h);
  freed = λ a h. h;
  stale = λ a free is. is;
  vacancies = record {
    empty = v.vacancies.empty;
    ready = λ a free is.
        at_spot_other t.disk.erasing s true a (λ e. o.unready (ap t.disk.vacancies (sym e) ∙ is))
        ∙ v.vacancies.ready a free is;
  };
  spent = λ a h. ⊎_elim (λ k. inl (ap t.disk.blocks k.0 ∙ o.free)) (λ k. inr k.1)
      (at_spot_is t.disk.erasing s true a true h);
  victims = λ a h. h;
  reads = reads_erase_begun s o.inside.at_home v.reads;
}
  where
    flew : (other : ℕ) (p : Place) (cell : Cell) → at_die t.disk.flights die (Some (Erasing s)) other ≡ Some
        (Programming p cell) → t.disk.flights other ≡ Some (Programming p cell)
    flew other p cell h = ⊎_elim (λ k. absurd (erase_is_no_program k.1)) (λ k. k.1)
        (at_die_is t.disk.flights die (Some (Erasing s)) other (Some (Programming p cell)) h)

pub takes_erase : (t : Translation) (die : ℕ) (s : Spot) → Valid t → MayTake t die (Some (Erasing s)) →
    Valid (taken t die (Erasing s))
takes_erase t die s v may = lost_pages v (erase_change v (erase_owed t die s may)) (λ p h. inl h) (λ q. inl refl)
    (held_begun t s (job_begun t.disk die (Erasing s)) v (erase_owed t die s may).unkept refl refl refl)

page_right : {t : Translation} {cell : Cell} → PageWaits t cell → CellRight t cell
page_right {t} {cell} w = record {
  something = page_not_nothing _ _ _ w.cell_is;
  known = λ tag body e. subst (IsKnown (book t) tag) (one_page _ _ _ _ (sym w.cell_is ∙ e)).1
      (subst (λ z. IsKnown (book t) z w.entry.item.body) (one_page _ _ _ _ (sym w.cell_is ∙ e)).0 w.is);
  recorded = λ tag body e. let z = ap (λ x. x.frontier) (one_page _ _ _ _ (sym e ∙ w.cell_is)).0 in omega arith;
  mark = λ m e. absurd (none m e);
  alone = λ m e die q other h. none m e;
  unmarked = λ fence lost e. absurd (w.marked fence lost e);
  later = λ m newest e is once. absurd (none m e);
  flown = λ m e pl is n i x q s. absurd (none m e);
}
  where
    none : (m : Mark) → cell ≡ MarkPage m → ⊥
    none m e = page_not_mark _ _ _ _ w.cell_is e

none_below : (test : ℕ → Bool) (n : ℕ) {d : ℕ} → list_any test (below n) ≡ false → d < n → test d ≡ false
none_below test zero h l = absurd (omega arith)
none_below test (suc n) {d} h l =
    let r = or_parts (list_any test (below n)) _ (sym (list_any-append test (below n) (n ∷ [])) ∙ h) in
    ⊎_elim (λ k. none_below test n r.0 k) (λ k. ap test k ∙ (or_parts (test n) _ r.1).0) (split d n l)
  where
    split : (d n : ℕ) → d < suc n → (d < n) ⊎ (d ≡ n)
    split d n l = grind arith

flies : {f : Option Flight} {q : Place} {m : Mark} → f ≡ Some (Programming q (MarkPage m)) → flies_mark f ≡ false → ⊥
flies e h = true≢false (sym (ap flies_mark e) ∙ h)

pub alone_flies : {t : Translation} → Valid t → some_flight t flies_mark ≡ false → (die : ℕ) (q : Place) (m : Mark) →
    t.disk.flights die ≡ Some (Programming q (MarkPage m)) → ⊥
alone_flies {t} v none die q m h =
    let r = v.flights.programs die q (MarkPage m) h in
    let l : q.die < t.numbers.dies = r.place.die in
    let e = r.at_home in
    flies h (none_below (λ d. flies_mark (t.disk.flights d)) t.numbers.dies none (omega arith))

pub mark_no_copy : {s : Option Step} {number : ℕ} {fence : Option Fence} {there other : Bool} {name : Name}
    (p : Place) → s ≡ Some (record { kind = MarkStep number fence; there = there }) →
    s ≡ Some (record { kind = CopyStep name p; there = other }) → ⊥
mark_no_copy {number} {fence} {there} {other} {name} p e f =
    kinds (is (record { kind = MarkStep number fence; there = there })
    (record { kind = CopyStep name p; there = other }) (sym e ∙ f))
  where
    is : (a b : Step) → Some a ≡ Some b → a.kind ≡ b.kind
    is a b h = ap (λ z. z.kind) (same_Some a b h)

    kinds : MarkStep number fence ≡ CopyStep name p → ⊥
    kinds h = cc

pub mark_no_repair : (b : Book) {s : Option Step} {number : ℕ} {fence : Option Fence} {there : Bool} →
    s ≡ Some (record { kind = MarkStep number fence; there = there }) → IsLastRepair b s → ⊥
mark_no_repair b {number} {fence} e r = kinds (ap (λ z. z.kind) (same_Some _ _ (sym e ∙ r.2)))
  where
    kinds : MarkStep number fence ≡ RepairStep (record { number = last_number b; index = 0 }) r.0 → ⊥
    kinds h = cc

abbrev step_mark : Translation → ℕ → Option Fence → Mark
step_mark t number fence = record {
  number = number;
  records = records_now t.ledger fence;
  fence = fence;
  numbers = as_marked t.numbers;
}

-- behind the mark that stands, where all that is lost is repaired
later_by : (t : Translation) {number : ℕ} {fence : Option Fence} {mark : Mark} → MarksOf t mark → fence ≡ None →
    ((p : Place) (m : Mark) → t.disk.cells p ≡ MarkPage m → m.number < number) →
    ((n i : ℕ) (x : Entry) → IsLostNumber (book t) n → (book t).entries_before n i ≡ Some x →
    IsWritten (book t) x.item.key t.ledger.frontier) → IsLaterMark (book t) t.ledger.frontier mark
    (step_mark t number fence)
later_by t {fence} {mark} right none above repaired =
    let records : records_now t.ledger fence ≡ t.ledger.frontier = ap (records_now t.ledger) none in
    let l = right.within in
    record {
      newer = above right.stands.place mark right.stands.there;
      above = omega arith;
      within = omega arith;
      plain = record {
        none = none;
        repaired = λ n i x lost e. written_more _ _ _ _ (omega arith) (repaired n i x lost e);
      };
      numbers = refl;
    }

later_mark : (t : Translation) (number : ℕ) (fence : Option Fence) {there : Bool} {newest : Mark} (w : Mending) →
    t.work.step ≡ Some (record { kind = MarkStep number fence; there = there }) → ((p : Place) (m : Mark) →
    t.disk.cells p ≡ MarkPage m → m.number < number) → FenceRight w fence → MendingOf t w →
    t.ledger.newest ≡ Some newest → IsMarkedOnce w → IsLaterMark (book t) t.ledger.frontier newest
    (step_mark t number fence)
later_mark t number fence (Unmarked first lost) step above right m is once = absurd once
later_mark t number fence (Repairing left) step above right m is once =
    subst (λ z. IsLaterMark (book t) t.ledger.frontier z (step_mark t number fence)) (same_Some _ _ (sym m.is ∙ is))
    (later_by t m.right right.0 above
    (λ n i x lost e. ⊎_elim (λ k. absurd (none_in_empty left k.0 x.item.key right.1 k.1))
    (λ k. subst (IsWritten (book t) x.item.key) (sym all) k) (m.more.repaired n i x lost e)))
  where
    all : t.ledger.frontier ≡ last_number (book t)
    all = ⊎_elim (λ e. e) (λ e. absurd (mark_no_repair (book t) step e.1)) m.more.under_way
later_mark t number fence Mended step above right m is once =
    let l = m.right.within in
    subst (λ z. IsLaterMark (book t) t.ledger.frontier z (step_mark t number fence)) (same_Some _ _ (sym m.is ∙ is))
    (later_by t m.right right above (λ n i x lost e. written_more _ _ _ _ (omega arith) (m.more.repaired n i x lost e)))

-- the first mark of the life

newest_below : (t : Translation) {fence : Option Fence} (u : Started t fence) {number : ℕ} →
    ((p : Place) (m : Mark) → t.disk.cells p ≡ MarkPage m → m.number < number) → 0 < number →
    number_of t.ledger.newest < number
newest_below t u {number} above given = by t.ledger.newest refl
  where
    by : (newest : Option Mark) → t.ledger.newest ≡ newest → number_of newest < number
    by None is = given
    by (Some m) is = let n = newest_there t u is in above n.0 m n.2

records_top : (t : Translation) (newest : Option Mark) (low : ℕ) {top : ℕ} (fence : Option Fence) →
    IsFirstFence newest low top fence → t.ledger.frontier ≡ top → records_now t.ledger fence ≡ top
records_top t newest low None f still = still
records_top t newest low (Some x) f still = f.1

own_mark : (t : Translation) {number : ℕ} {fence : Option Fence} {first : Option Fence} {lost : List Key} →
    MarkStepRight t.ledger.marks t.disk.cells t.work.mending t.work.plan number fence → UnmarkedOf t first lost →
    fence ≡ first → OwnMarkOf t first (step_mark t number fence)
own_mark t {first = first} s u e = record {
  newer = newest_below t (_, u) s.above s.given;
  within = let l = s.last in omega arith;
  records = ap (records_now t.ledger) e ∙ records_top t t.ledger.newest t.ledger.first_lost first u.fence_right u.still;
  fence_is = e;
  numbers = refl;
}

mark_right : {t : Translation} {cell : Cell} → Valid t → MarkWaits t cell → CellRight t cell
mark_right {t} {cell} v w = record {
  something = mark_not_nothing _ _ w.cell_is;
  known = λ tag body e. absurd (page_not_mark _ _ _ _ e w.cell_is);
  recorded = λ tag body e. absurd (page_not_mark _ _ _ _ e w.cell_is);
  mark = λ m e. subst (MarkFlightRight t.numbers t.ledger.marks t.work.step) (is m e)
      record { number = w.right.last; numbers_right = refl; there = w.there; step_is = w.step_is };
  alone = λ m e. alone_flies v w.alone;
  unmarked = λ first lost e. (
    step_mark t w.number w.fence,
    w.cell_is,
    own_mark t w.right (subst (MendingOf t) e v.mending) (subst (λ z. FenceRight z w.fence) e w.right.fence_right),
  );
  later = λ m newest e is_newest once. subst (IsLaterMark (book t) t.ledger.frontier newest) (is m e)
      (later_mark t w.number w.fence t.work.mending w.step_is w.right.above w.right.fence_right v.mending is_newest
      once);
  flown = λ m e pl is_plan n i x q s. subst (λ z. IsOverwritten (book t) n x.item.key z.records) (is m e)
      (flown pl is_plan n i x q s);
}
  where
    is : (m : Mark) → cell ≡ MarkPage m → step_mark t w.number w.fence ≡ m
    is m e = one_mark (step_mark t w.number w.fence) m (sym w.cell_is ∙ e)

    flown : (pl : Plan) → t.work.plan ≡ Some pl → (n i : ℕ) (x : Entry) (q : Place) →
        StandsIn (book t) t.ledger.standing pl.victim n i x q → IsOverwritten (book t) n x.item.key
        (records_now t.ledger w.fence)
    flown pl e n i x q s =
        let none : w.fence ≡ None = subst (λ z. FenceRight z w.fence) (v.plan.mended pl e) w.right.fence_right in
        let r : IsOverwritten (book t) n x.item.key t.ledger.frontier ⊎ IsToCopy pl.copies t.work.step n i q =
        (v.plan.one pl e).copied n i x q s in
        subst (λ z. IsOverwritten (book t) n x.item.key z) (sym (ap (records_now t.ledger) none))
        (⊎_elim (λ o. o)
        (λ k. absurd (⊎_elim (λ j. none_in_empty pl.copies j.0 q (w.right.behind_copies pl e) j.1)
        (λ h. mark_no_copy q w.step_is h.1) k)) r)

-- A block that is opened

-- the layer in which the block of the place is being filled from that page on
abbrev pub filled_at : Translation → Place → Translation
filled_at t p = record t { disk = record t.disk { blocks = at_spot t.disk.blocks (spot_of p) (Filling p.page) } }

opened_blocks : {t : Translation} {p : Place} → Valid t → OpensReady t p →
    BlocksRight t.numbers t.disk.cells t.disk.finished (filled_at t p).disk.blocks t.disk.erasing
opened_blocks {t} {p} v o = record {
  unfinished = λ q h. state_kept t.disk.blocks (spot_of p) (Filling p.page) (v.blocks.unfinished q h)
      (free_is_not_bad o.free);
  filling = λ a next h. ⊎_elim
      (λ k. let z = one_filling k.1 in let l = v.book_right.pages in let first = o.first in
      omega (arith, z, l, first))
      (λ k. v.blocks.filling a next k.1) (at_spot_is t.disk.blocks (spot_of p) (Filling p.page) a (Filling next) h);
  blank = λ q next h l. ⊎_elim
      (λ k. v.vacancies.empty q (ap t.disk.blocks k.0 ∙ o.free)
      (λ e. ready_is_not_stale (ap t.disk.vacancies k.0 ∙ o.ready) e))
      (λ k. v.blocks.blank q next k.1 l)
      (at_spot_is t.disk.blocks (spot_of p) (Filling p.page) (spot_of q) (Filling next) h);
  erased = λ a h. ⊎_elim
      (λ k. absurd (true_is_not_false (ap t.disk.erasing (sym k.0) ∙ h) (v.vacancies.ready (spot_of p) o.free o.ready)))
      (λ k. ⊎_elim (λ e. inl (k.1 ∙ e)) (λ e. inr (k.1 ∙ e)) (v.blocks.erased a h))
      (at_spot_cases t.disk.blocks (spot_of p) (Filling p.page) a);
}

opened_change : {t : Translation} {p : Place} → Valid t → OpensReady t p → Change t (filled_at t p).disk
opened_change {t} {p} v o = record {
  keeps = λ q some ended stays needed.
      record { there = refl; ended = ended; stays = stays; needed = put_needed t.disk.blocks (spot_of p) full needed };
  left = λ q. inl refl;
  ended = λ q h. h;
  unended = λ q h. inl h;
  blocks = opened_blocks v o;
  vacancies = vacancies_put (spot_of p) (Filling p.page) full v.vacancies (λ q out h. h);
  flew = λ die q cell h. h;
  programs = λ die q cell h. let r = v.flights.programs die q cell h in record {
    at_home = r.at_home;
    place = r.place;
    next = state_kept t.disk.blocks (spot_of p) (Filling p.page) r.next (λ e. free_is_not_filling o.free e);
  };
  erases = λ die a h. let r = v.flights.erases die a h in record {
    at_home = r.at_home;
    free = at_spot_other t.disk.blocks (spot_of p) (Filling p.page) a
        (λ e. true_is_not_false (ap t.disk.erasing (sym e) ∙ r.counted)
        (v.vacancies.ready (spot_of p) o.free o.ready)) ∙ r.free;
    counted = r.counted;
  };
  freed = λ a h. ⊎_elim (λ k. absurd (full k.1)) (λ k. k.1)
      (at_spot_is t.disk.blocks (spot_of p) (Filling p.page) a Free h);
  stale = λ a free is. is;
  spent = λ a h. inr h;
  victims = λ a. victim_kept t.disk.blocks (spot_of p) (Filling p.page) (λ e. closed_is_not_free e o.free)
      (free_is_not_bad o.free);
  reads = v.reads;
}
  where
    full : Filling p.page ≢ Free
    full e = free_is_not_filling e refl

-- where the place is the next of a block that is being filled, nothing is another
pub same_blocks : (f : Spot → BlockState) (s : Spot) (x : BlockState) → f s ≡ x → at_spot f s x ≡ f
same_blocks f s x is = λ i a. same a i
  where
    same : (a : Spot) → at_spot f s x a ≡ f a
    same a = ⊎_elim (λ k. k.1 ∙ sym (ap f k.0 ∙ is)) (λ k. k.1) (at_spot_cases f s x a)

opened_valid : (t : Translation) (p : Place) → Valid t → (t.disk.blocks (spot_of p) ≡ Filling p.page) ⊎ OpensReady t p →
    Valid (filled_at t p)
opened_valid t p v (inl is) =
    subst (λ (b : Spot → BlockState). Valid (record t { disk = record t.disk { blocks = b } }))
    (sym (same_blocks t.disk.blocks (spot_of p) (Filling p.page) is)) v
opened_valid t p v (inr o) =
    lost_pages v (opened_change v o) (λ q h. inl h) (λ q. inl refl) (v.pins, v.rests)

cell_opened : {t : Translation} {cell : Cell} (p : Place) → CellRight t cell → CellRight (filled_at t p) cell
cell_opened p c = record {
  something = c.something;
  known = c.known;
  recorded = c.recorded;
  mark = c.mark;
  alone = c.alone;
  unmarked = c.unmarked;
  later = c.later;
  flown = c.flown;
}

-- A program

cell_right : {t : Translation} {cell : Cell} → Valid t → PageWaits t cell ⊎ MarkWaits t cell → CellRight t cell
cell_right {t} {cell} v (inl w) = page_right w
cell_right {t} {cell} v (inr w) = mark_right v w

pub takes_program : (t : Translation) (die : ℕ) (p : Place) (cell : Cell) → Valid t →
    MayTake t die (Some (Programming p cell)) → Valid (taken t die (Programming p cell))
takes_program t die p cell v may =
    let o = program_owed t die p cell may in
    let r = o.place in
    let below = idle_below t die may.0 in
    let home = r.inside.at_home in
    let opened = opened_valid t p v r.next in
    let next = at_spot_here t.disk.blocks (spot_of p) (Filling p.page) (spot_of p) refl in
    begins (filled_at t p) die p cell opened
    record {
      at_home = home;
      place = record {
        die = omega (arith, below, home);
        block = r.inside.block;
        page = opened.blocks.filling (spot_of p) p.page next;
      };
      next = next;
    }
    (cell_opened p
    (cell_right v (⊎_elim (λ h. step_cell_waits t cell v h) (λ h. inl (name_cell_waits v h.1.1 h.1.2)) o.is)))
