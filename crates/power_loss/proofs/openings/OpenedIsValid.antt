-- An opened translation layer is valid: the mending that is due, and all of it.
use Rattle.ufs_spec.specs.Configs.{marked as as_marked}
use Rattle.power_loss.proofs.Common.{◌≡◌, ℕ, ◌<◌, ◌≤◌, ◌-◌, All, Bool, List, [], drop, length, Option, Some, None}
use Rattle.power_loss.proofs.Common.{refl, sym, ap, ◌∙◌, subst, inl, ⊎_elim, arith, drop_all, All-nil, AreWithin, Cells}
use Rattle.ufs_spec.specs.Openings.{HasNumbers, IsFree}
use Rattle.power_loss.proofs.Common.{Mark, MarkPage, Spot, spot_of, IsNewestMark, IsWhole, fence_in, recorded_in}
use Rattle.power_loss.proofs.Common.{AreLost, IsMendingAt, IsOpenedTranslation, CellsSound, Mended, Mending, Repairing}
use Rattle.power_loss.proofs.Common.{Translation, Unmarked, is_mended, wants_of_step, Numbers, Key, Place}
use Rattle.power_loss.proofs.Common.{before_accepted, at_most, none-some, CellsRight, HasKey, IsWholeOld, book}
use Rattle.power_loss.proofs.Common.{HistoryRight, MarkStands, MayBeErased, StaleRight, Valid, inr, true≢false}
use Rattle.power_loss.specs.Invariant.{LostRight}
use Rattle.power_loss.proofs.books.LayerParts.{MarksOf, MendingOf, NeededOf, LookedOf, SourceOf}
use Rattle.power_loss.proofs.accepted_groups.ClaimedSlots.{no_pages}
use Rattle.power_loss.proofs.openings.OpenedByName.{Opened, low_cases, no_group, old_page, opened, page_is_old, shown}
use Rattle.power_loss.proofs.openings.OpenedContents.{book_is_right}
use Rattle.power_loss.proofs.openings.OpenedPages.{all_safe, blocks_are_right, first_stands, flights_are_right}
use Rattle.power_loss.proofs.openings.OpenedPages.{free_mark, free_or_not, frontier_is_right, mark_not_free, none_flies}
use Rattle.power_loss.proofs.openings.OpenedPages.{not_erasing, numbered, pages_are_right, vacancies_are_right}
use Rattle.power_loss.proofs.jobs.DiskChanges.{spare_moves}

module _ {bad : Spot → Bool} {t : Translation} (o : Opened bad t) where
  whole_is_old : {n : ℕ} → IsWhole t.disk.cells n → IsWholeOld (book t) n
  whole_is_old w = record {
    size = w.size;
    some = w.some;
    one_size = λ i e h. let y = old_page o h in y.size ∙ w.one_size y.place y.tag e.item.body y.there y.number;
    each = λ i l.
        let x = w.each i l in
        (shown x.1 x.2, sym (λ j. t.ledger.entries_before (x.4 j) (x.5 j)) ∙ page_is_old o x.3);
  }

  -- above what the newest mark records all groups up to the kept number are whole
  pub whole_above : {n : ℕ} → recorded_in t.ledger.newest < n → n ≤ o.start.ledger.kept → IsWholeOld (book t) n
  whole_above {n} low up = whole_is_old
      (⊎_elim (λ l. o.sound.whole o.start.ledger.is_kept.from n o.start.ledger.is_kept.recorded low l)
      (λ l. o.start.ledger.is_kept.whole n l up) (at_most _ _))

  all_kept : fence_in t.ledger.newest ≡ None → t.ledger.greatest_seen < t.ledger.first_lost →
      t.ledger.greatest_seen ≤ o.start.ledger.kept
  all_kept none l = ⊎_elim
      (λ z. let e = z.1 in
      omega arith) (λ z. absurd (none-some _ (sym none ∙ z.1))) (low_cases o)

  mark_stands : {m : Mark} (p : Place) → t.ledger.newest ≡ Some m → t.disk.cells p ≡ MarkPage m →
      MarkStands t.disk.cells t.disk.finished t.disk.blocks t.disk.erasing m
  mark_stands p is h = record {
    place = p;
    there = h;
    ended = o.start.disk.finished p;
    stays = o.start.disk.none_erasing (spot_of p);
    needed = mark_not_free o p is h;
  }

  marks_are_right : {m : Mark} → t.ledger.newest ≡ Some m → m.numbers ≡ as_marked t.numbers → IsNewestMark t.disk.cells (Some m) →
      fence_in t.ledger.newest ≡ None → t.ledger.greatest_seen < t.ledger.first_lost → MarksOf t m
  marks_are_right {m} is own x none l =
      let f = o.start.ledger.frontier in
      let r = ap recorded_in is in
      let k = all_kept none l in
      record {
        stands = mark_stands x.0.0 is x.0.1;
        within = let z = o.start.ledger.greatest_seen.0.marks x.0.0 m x.0.1 in omega arith;
        numbers = own;
        whole = λ n low up. whole_above (omega arith) (omega arith);
        ended = λ p other h ended. x.1 p other h;
        known = λ p other h. inl (
          x.1 p other h,
          (let z = o.start.ledger.greatest_seen.0.marks p other h in
              omega arith),
        );
        same = λ p q a b h u e. o.sound.marks p q a b h u e;
        freed = λ p other h free. free_mark o p is h free;
        flies = λ die p other h. absurd (none_flies o h);
      }

  mended : (m : Option Mark) → t.ledger.newest ≡ m → HasNumbers t.numbers m → IsNewestMark t.disk.cells m →
      fence_in t.ledger.newest ≡ None → t.ledger.greatest_seen < t.ledger.first_lost → MendingOf t Mended
  mended None is own x none l = absurd own
  mended (Some m) is own x none l = record {
    mark = m;
    is = is;
    right = marks_are_right is own x none l;
    more = record {
      none = sym (ap fence_in is) ∙ none;
      repaired = λ n i e lost h. absurd (let u = lost.from in let w = lost.to in omega arith);
    };
  }

  -- The first mark is due

  lost_is_right : {lost : List Key} → AreLost t.disk.cells t.ledger.first_lost t.ledger.greatest_seen lost →
      LostRight (book t) lost
  lost_is_right x = record {
    all = λ n i e l h.
        let y = old_page o h in
        let w = y.number in
        let u = l.from in
        let z = l.to in
        x.all e.item.key (y.place, y.tag, e.item.body, y.there, sym y.key, omega arith, omega arith);
    keys = λ j k h. let y = x.lost j k h in subst (HasKey (book t)) y.4 (o.start.suits.keys y.0 y.1 y.2 y.3);
  }

  mends : (w : Mending) → IsMendingAt t.numbers t.disk.cells t.ledger.newest t.ledger.first_lost t.ledger.greatest_seen w →
      MendingOf t w
  mends Mended x = mended t.ledger.newest refl x.0 o.start.ledger.newest x.1 x.2
  mends (Repairing left) x = absurd x
  mends (Unmarked fence lost) x = record {
    opening = t.disk.cells;
    opened = record {
      sound = o.sound;
      is_newest = o.start.ledger.newest;
      kept = o.start.ledger.kept;
      is_kept = o.start.ledger.is_kept;
      holds = o.start.ledger.holds;
      suits = o.start.suits;
      marks = o.start.ledger.greatest_seen.0.marks;
    };
    fence_right = x.1;
    lost_right = lost_is_right x.2;
    none_new = o.start.ledger.none_new;
    still = o.start.ledger.frontier;
    same = λ p. inl refl;
    spare = λ p some. ⊎_elim
        (λ free. inr (spare_moves t.disk.cells t.disk.cells t.ledger.newest (IsFree t.disk.blocks)
        (MayBeErased t.disk.blocks t.disk.erasing) (t.disk.cells p)
        (λ s may. ⊎_elim (λ f. f) (λ near. absurd (not_erasing o near)) may) (λ q was out. refl)
        (o.start.disk.blocks.spare p free some)))
        (λ out. inl (refl, λ may. ⊎_elim (λ f. out f) (λ near. not_erasing o near) may))
        (free_or_not (t.disk.blocks (spot_of p)));
    unfinished = λ p h. absurd (true≢false (sym (o.start.disk.finished p) ∙ h));
    flies = λ die p cell h. absurd (none_flies o h);
    no_plan = o.start.no_plan;
  }

  -- All of it

  history : HistoryRight (book t) t.ledger.repairs t.ledger.held t.ledger.frontier (is_mended t.work.mending)
  history =
      let r = o.start.ledger.none_repaired in
      let g = ap length o.start.ledger.none_new in
      record {
        within = omega arith;
        contents = λ j i g item l h there. absurd (no_group o j h);
        mending = λ no. (r ∙ sym g, o.start.ledger.none_held);
        durable = inl o.start.ledger.none_held;
      }

  -- no step is under way
  none_begun : (w : Mending) →
      IsMendingAt t.numbers t.disk.cells t.ledger.newest t.ledger.first_lost t.ledger.greatest_seen w →
      StaleRight t.numbers t.disk.blocks t.disk.vacancies t.work.step w
  none_begun (Unmarked fence lost) x = λ s e. absurd (none-some s (sym o.start.no_step ∙ e))
  none_begun (Repairing left) x = absurd x
  none_begun Mended x = tt

  valid : Valid t
  valid = record {
    book_right = book_is_right o;
    frontier = frontier_is_right o;
    pages = pages_are_right o;
    blocks = blocks_are_right o;
    vacancies = vacancies_are_right o;
    stale = none_begun t.work.mending o.start.mending;
    flights = flights_are_right o;
    safe = all_safe o;
    numbered = numbered o;
    mending = mends t.work.mending o.start.mending;
    step = record { kind = λ s e. absurd (none-some s (sym o.start.no_step ∙ e)) };
    plan = record {
      mended = λ pl e. absurd (none-some pl (sym o.start.no_plan ∙ e));
      one = λ pl e. absurd (none-some pl (sym o.start.no_plan ∙ e));
    };
    history = history;
    slots = record {
      within =
          let none = no_pages (t.ledger.frontier - before_accepted t.ledger)
          (ap (drop t.ledger.repairs) o.start.ledger.none_new ∙ drop_all t.ledger.repairs [] (omega arith)) in
          let claims = o.start.no_claims in
          omega (arith, none, claims);
    };
    unmended = record { stand = λ un k name p has first h. first_stands o k name p has first h };
    pins = record { each = subst (All (λ pin. LookedOf t pin.looked)) (sym o.start.no_pins) (All-nil _) };
    rests = record { each = subst (All (λ rest. SourceOf t rest.source)) (sym o.start.no_rests) (All-nil _) };
    reads = record {
      at_home = λ die reader p h. absurd (none_flies o h);
      page = λ die reader p h. absurd (none_flies o h);
    };
    to_read = record {
      wanted = subst (λ s. All (λ w. NeededOf t w.place) (wants_of_step s)) (sym o.start.no_step) (All-nil _);
      copied = λ pl e. absurd (none-some pl (sym o.start.no_plan ∙ e));
    };
  }

pub opening_valid : (n : Numbers) (c : Cells) (bad : Spot → Bool) (t : Translation) → 1 ≤ n.pages → CellsRight c →
    AreWithin n c → CellsSound c t.ledger.newest → IsOpenedTranslation n c bad t → Valid t
opening_valid n c bad t pages right within sound start = valid (opened bad pages right within sound start)
