-- Which pages are live once the program of a page ended well.
use Rattle.ftl_core.proofs.Common.{Cells, Core, Describes, DieRow, Entry, GroupPage, IsKey, IsPageAt, IsStepCell}
use Rattle.ftl_core.proofs.Common.{IsWrittenAt, Key, KnowsLive, List, Name, None, Nothing, Numbers, OpenBlock, Option}
use Rattle.ftl_core.proofs.Common.{PageKept, Pending, Place, RepairKept, Sizes, Some, Step, StepKept, Stored, Tag}
use Rattle.ftl_core.proofs.Common.{Translation, [], ap, arith, at_place, book, entry_of, group_ended, has_page, inl}
use Rattle.ftl_core.proofs.Common.{inr, is_live, key_of, length, live_beside, live_here, name_at, name_of}
use Rattle.ftl_core.proofs.Common.{names_pending, next_place, none-some, page_at, page_not_nothing, page_written}
use Rattle.ftl_core.proofs.Common.{place_cases, refl, repair_over, risen, same_Some, settled, shape_of_numbers}
use Rattle.ftl_core.proofs.Common.{sizes_of, slice_get, slice_set, subst, suc, sym, true, with_live, zero, ℕ, ⊎_elim}
use Rattle.ftl_core.proofs.Common.{◌*◌, ◌∙◌, ◌∷◌, ◌≡◌, ◌≢◌}
use Rattle.ufs_spec.proofs.Updates.{at_place_cases}
use Rattle.ufs_spec.specs.Disk as disk
use Rattle.ftl_core.specs.declared.books.Step.TheVariants as steps
use Rattle.ftl_core.proofs.group_settled.FrontPlaces.{HasPlaces}
use Rattle.ftl_core.proofs.group_settled.PageStands.{IsPending}
use Rattle.ftl_core.proofs.group_settled.PageWritten.{IsGroupFlight, flown_new, with_group_page}
use Rattle.ftl_core.proofs.group_settled.GroupsEnded.{core_so_far, may_climb, page_stands, pending_page, so_far}
use Rattle.ftl_core.proofs.job_taken.Mended.{none_waiting}
use Rattle.ftl_core.proofs.job_ended.RepairsEnded.{repair_of, unmended}
use Rattle.ftl_core.proofs.live_pages.DurableLive.{AllKnown, AreApart, AreKnown, AreNew, AreOthers, AreWrittenRight}
use Rattle.ftl_core.proofs.live_pages.DurableLive.{IsNew, IsWrittenRight, settled_known, written_right}
use Rattle.ftl_core.proofs.live_pages.NotedLive.{AreOwned, IsPageOf, as_long, noted_knows}
use Rattle.ftl_core.proofs.live_pages.SameLive.{Facts, Knows, facts, written_same}
use Rattle.ftl_core.proofs.live_pages.StoredPages.{pending_apart, pending_new, pending_right, place_inside}
use Rattle.ftl_core.proofs.live_pages.StoredPages.{stored_owned}
use Rattle.ftl_core.proofs.opened.ListParts.{get_set}
use Rattle.ftl_core.proofs.pages.PagesNamed.{pages_get}

pub known_on : (cells : Cells) (c d : Core) → facts d ≡ facts c → AllKnown cells c → AllKnown cells d
known_on cells c d e h = subst (λ (f : Facts). AreKnown cells f.0 f.1 f.2 f.3) (sym e) h

-- One page is written

module _ (place : Place) where
  abbrev pub put : Pending → Pending
  put p = record p { written = Some place }

  pub set_at : (ps : List Pending) (i : ℕ) (p : Pending) → slice_get ps i ≡ Some p →
      IsWrittenAt (slice_set ps i (put p)) place
  set_at [] i p at = absurd (none-some p at)
  set_at (q ∷ ps) zero p at = inl refl
  set_at (q ∷ ps) (suc i) p at = inr (set_at ps i p at)

  set_stays : (ps : List Pending) (i : ℕ) (p : Pending) (q : Place) → slice_get ps i ≡ Some p → p.written ≡ None →
      IsWrittenAt ps q → IsWrittenAt (slice_set ps i (put p)) q
  set_stays [] i p q at none w = absurd w
  set_stays (r ∷ ps) zero p q at none (inl w) =
      absurd (none-some q (sym none ∙ ap (λ (z : Pending). z.written) (sym (same_Some r p at)) ∙ w))
  set_stays (r ∷ ps) zero p q at none (inr w) = inr w
  set_stays (r ∷ ps) (suc i) p q at none (inl w) = inl w
  set_stays (r ∷ ps) (suc i) p q at none (inr w) = inr (set_stays ps i p q at none w)

  pub set_back : (ps : List Pending) (i : ℕ) (p : Pending) (q : Place) → q ≢ place →
      IsWrittenAt (slice_set ps i (put p)) q → IsWrittenAt ps q
  set_back [] i p q other w = w
  set_back (r ∷ ps) zero p q other (inl w) = absurd (other (same_Some q place (sym w)))
  set_back (r ∷ ps) zero p q other (inr w) = inr w
  set_back (r ∷ ps) (suc i) p q other (inl w) = inl w
  set_back (r ∷ ps) (suc i) p q other (inr w) = inr (set_back ps i p q other w)

  set_others : (k : Key) (n : ℕ) (ps : List Pending) (i : ℕ) (p : Pending) → slice_get ps i ≡ Some p →
      AreOthers k n ps → AreOthers k n (slice_set ps i (put p))
  set_others k n [] i p at h = absurd (none-some p at)
  set_others k n (r ∷ ps) zero p at h =
      (subst (λ (z : Pending). z.key ≡ k → z.number ≢ n) (same_Some r p at) h.0, h.1)
  set_others k n (r ∷ ps) (suc i) p at h = (h.0, set_others k n ps i p at h.1)

  pub set_apart : (ps : List Pending) (i : ℕ) (p : Pending) → slice_get ps i ≡ Some p → AreApart ps →
      AreApart (slice_set ps i (put p))
  set_apart [] i p at h = absurd (none-some p at)
  set_apart (r ∷ ps) zero p at h =
      (subst (λ (z : Pending). AreOthers z.key z.number ps) (same_Some r p at) h.0, h.1)
  set_apart (r ∷ ps) (suc i) p at h = (set_others r.key r.number ps i p at h.0, set_apart ps i p at h.1)

  pub set_new : (n : Numbers) (places : List (Option Stored)) (ps : List Pending) (i : ℕ) (p : Pending) →
      slice_get ps i ≡ Some p → AreNew n places ps → AreNew n places (slice_set ps i (put p))
  set_new n places [] i p at h = absurd (none-some p at)
  set_new n places (r ∷ ps) zero p at h = (subst (IsNew n places) (same_Some r p at) h.0, h.1)
  set_new n places (r ∷ ps) (suc i) p at h = (h.0, set_new n places ps i p at h.1)

pub all_new : (n : Numbers) (places : List (Option Stored)) (ps : List Pending) →
    ((j : ℕ) (p : Pending) → slice_get ps j ≡ Some p → IsNew n places p) → AreNew n places ps
all_new n places [] each = tt
all_new n places (p ∷ ps) each = (each 0 p refl, all_new n places ps (λ j q at. each (suc j) q at))

pub all_others : (k : Key) (n : ℕ) (ps : List Pending) →
    ((j : ℕ) (q : Pending) → slice_get ps j ≡ Some q → q.key ≡ k → q.number ≢ n) → AreOthers k n ps
all_others k n [] each = tt
all_others k n (q ∷ qs) each = (each 0 q refl, all_others k n qs (λ j r at. each (suc j) r at))

pub all_apart : (ps : List Pending) → ((i j : ℕ) (p q : Pending) → slice_get ps i ≡ Some p → slice_get ps j ≡ Some q →
    p.key ≡ q.key → p.number ≡ q.number → i ≡ j) → AreApart ps
all_apart [] each = tt
all_apart (p ∷ ps) each = (
  all_others p.key p.number ps
      (λ j q at key number. apart j (each 0 (suc j) p q refl at (sym key) (sym number))),
  all_apart ps (λ i j q r at there key number. less i j (each (suc i) (suc j) q r at there key number)),
)
  where
    apart : (j : ℕ) → 0 ≡ suc j → ⊥
    apart j e = omega (arith, e)

    less : (i j : ℕ) → suc i ≡ suc j → i ≡ j
    less i j e = omega (arith, e)

-- The page that was written

module _ (c : Core) (t : Translation) (die : ℕ) (o : OpenBlock) (tag : Tag) (body : List ℕ) (h : Describes c t)
    (flies : t.disk.flights die ≡ Some (disk.Programming (next_place die o) (GroupPage tag body))) where
  abbrev place : Place
  place = next_place die o

  abbrev after : Cells
  after = at_place t.disk.cells place (GroupPage tag body)

  pub blank : t.disk.cells place ≡ Nothing
  blank = h.valid.blocks.blank place place.page
      (h.valid.flights.programs die place (GroupPage tag body) flies).next (omega arith)

  -- pages stay where they stand
  pub stays : (k : Key) (n : ℕ) (p : Place) → IsPageOf c.numbers t.disk.cells k n p → IsPageOf c.numbers after k n p
  stays k n p r = record {
    tag = r.tag;
    body = r.body;
    there = ⊎_elim
        (λ e. absurd (page_not_nothing (t.disk.cells p) r.tag r.body r.there (ap t.disk.cells e.0 ∙ blank)))
        (λ e. e.1 ∙ r.there)
        (at_place_cases t.disk.cells place (GroupPage tag body) p);
    key = r.key;
    number_is = r.number_is;
    inside = r.inside;
  }

  -- and it is one of its key
  pub is_page : IsPageOf c.numbers after (key_of tag) tag.number place
  is_page = record {
    tag = tag;
    body = body;
    there = ⊎_elim (λ e. e.1) (λ e. absurd (e.0 refl)) (at_place_cases t.disk.cells place (GroupPage tag body) place);
    key = refl;
    number_is = refl;
    inside = ap (λ (n : Numbers). has_page (sizes_of n) place) h.kept.numbers
        ∙ place_inside t.numbers place (h.valid.flights.programs die place (GroupPage tag body) flies).place;
  }

  abbrev entry : Entry
  entry = record { item = record { key = key_of tag; body = body }; size = tag.size }

  known : IsPageAt (book t) tag.number tag.index entry
  known = h.valid.flights.known die place tag body flies

  is_key : IsKey (shape_of_numbers c.numbers) (key_of tag)
  is_key = subst (λ (n : Numbers). IsKey (shape_of_numbers n) (key_of tag)) (sym h.kept.numbers)
      (h.valid.book_right.keys tag.number tag.index entry known)

  -- what has its name has its key
  key_named : (name : Name) (e : Entry) → name ≡ name_of tag → entry_of t.ledger name ≡ Some e →
      e.item.key ≡ key_of tag
  key_named name e same is =
      ap (λ (z : Entry). z.item.key) (same_Some e entry (sym is ∙ ap (entry_of t.ledger) same ∙ known))

  places_long : HasPlaces c
  places_long = h.kept.ledger_kept.keys

  pub owned : AreOwned after c
  owned k s e = stays k s.name.number s.place (stored_owned c t h.valid h.kept k s e)

  -- A page of a group

  module _ (b : DieRow) (f : IsGroupFlight c t die b o tag body) where
    named : IsPending c t.ledger (name_of tag)
    named = pending_page c t die b o tag body h f

    abbrev now : Pending
    now = record named.page { written = Some place }

    kept_page : (name : Name) × (slice_get (names_pending t.ledger) named.at ≡ Some name)
        × PageKept t.ledger.standing (entry_of t.ledger) named.page name
    kept_page = pages_get t.ledger.standing (entry_of t.ledger) c.pages (names_pending t.ledger) named.at named.page
        h.kept.ledger_kept.pages named.there

    same : kept_page.0 ≡ name_of tag
    same = same_Some kept_page.0 (name_of tag) (sym kept_page.1 ∙ named.named)

    key_is : named.page.key ≡ key_of tag
    key_is = key_named kept_page.0 (record {
      item = record { key = named.page.key; body = kept_page.2.body };
      size = named.page.size;
    }) same kept_page.2.entry

    number_is : named.page.number ≡ tag.number
    number_is = kept_page.2.number ∙ ap (λ (z : Name). z.number) same

    unwritten : named.page.written ≡ None
    unwritten = sym kept_page.2.stands ∙ ap (λ (z : Name). t.ledger.standing z.number z.index) same
        ∙ flown_new c t die b o tag body h.kept f

    now_right : IsWrittenRight c.numbers after now
    now_right q e = (
      subst (IsKey (shape_of_numbers c.numbers)) (sym key_is) is_key,
      subst (λ (z : Key × ℕ × Place). IsPageOf c.numbers after z.0 z.1 z.2)
          (λ i. (sym key_is i, sym number_is i, same_Some place q e i)) is_page,
    )

    pages_right : AreWrittenRight c.numbers after (slice_set c.pages named.at now)
    pages_right = written_right c.numbers after (slice_set c.pages named.at now) each
      where
        each : (j : ℕ) (p : Pending) → slice_get (slice_set c.pages named.at now) j ≡ Some p →
            IsWrittenRight c.numbers after p
        each j p at = ⊎_elim
            (λ (e : _ × (now ≡ p)). subst (IsWrittenRight c.numbers after) e.1 now_right)
            (λ (e : _ × (slice_get c.pages j ≡ Some p)).
            λ q written.
            let r = pending_right c t h.valid h.kept j p e.1 q written in
            (r.0, stays p.key p.number q r.1))
            (get_set c.pages named.at now j p at)

    inside : has_page c.live.sizes place ≡ true
    inside = ap (λ (n : Sizes). has_page n place) h.live.sizes ∙ is_page.inside

    marks : length c.live.live ≡ c.live.sizes.dies * c.live.sizes.blocks * c.live.sizes.pages
    marks = h.live.marks ∙ ap (λ (n : Sizes). n.dies * n.blocks * n.pages) (sym h.live.sizes)

    written_knows : KnowsLive c.numbers c.places (slice_set c.pages named.at now) (with_live c.live place true)
    written_knows = record {
      sizes = h.live.sizes;
      marks = as_long c.live place true ∙ h.live.marks;
      held = λ q e. ⊎_elim
          (λ (x : _ × (q ≡ place)). inr (subst (IsWrittenAt (slice_set c.pages named.at now)) (sym x.1)
          (set_at place c.pages named.at named.page named.there)))
          (λ (x : _ × (q ≢ place)).
          ⊎_elim (λ at. inl at)
          (λ w. inr (set_stays place c.pages named.at named.page q named.there unwritten w))
          (h.live.held q (sym (live_beside c.live place q true x.1) ∙ e)))
          (place_cases q place);
      lives = λ q at. ⊎_elim
          (λ (x : _ × (q ≡ place)). ap (is_live (with_live c.live place true)) x.1
          ∙ live_here c.live place true inside marks)
          (λ (x : _ × (q ≢ place)). live_beside c.live place q true x.1
          ∙ h.live.lives q (⊎_elim (λ y. inl y) (λ w. inr (set_back place c.pages named.at named.page q x.1 w)) at))
          (place_cases q place);
    }

    all_known : AllKnown after (record c {
      pages = slice_set c.pages named.at now;
      live = with_live c.live place true;
    })
    all_known = record {
      long = places_long;
      owned = owned;
      live_is = written_knows;
      right = pages_right;
      new = set_new place c.numbers c.places c.pages named.at named.page named.there
          (all_new c.numbers c.places c.pages (pending_new c t h.valid h.kept));
      apart = set_apart place c.pages named.at named.page named.there
          (all_apart c.pages (pending_apart c t h.valid h.kept));
    }

    pub group_live : Knows (facts (group_ended c die b place tag.number tag.index true))
    unfolding named
    group_live =
        subst (λ (z : Core). Knows (facts (settled z))) (sym (core_so_far c t die b o tag body h f))
        (settled_known after (so_far c t die b o tag named) (with_group_page t place tag body)
        (page_stands c t die b o tag body h f) (may_climb c t die b o tag body h f)
        (known_on after (record c {
          pages = slice_set c.pages named.at now;
          live = with_live c.live place true;
        }) (so_far c t die b o tag named) (written_same (record c {
          pages = slice_set c.pages named.at now;
          live = with_live c.live place true;
        }) die b (Some o)) all_known)).live_is

  -- The page of a repair

  pub repair_live : (b : DieRow) (n : ℕ) (k : Key) (from : Option Stored) →
      c.step ≡ Some (steps.Repair n k from true) → IsStepCell c.step (GroupPage tag body) →
      Knows (facts (page_written (repair_over c k place) die b b.filling))
  repair_live b n k from step page =
      let repair = repair_of t.ledger n k from true c.content t.work.step
      (subst (λ (z : Option Step). StepKept t.ledger z c.content t.work.step) step h.kept.work.step_is) in
      let cell = subst (λ (z : Option Step). IsStepCell z (GroupPage tag body)) step page in
      let key : k ≡ key_of tag =
      key_named (name_at n 0) (record { item = record { key = k; body = t.ledger.base k }; size = 1 })
      (λ i. record { number = sym cell.0 i; index = sym cell.1 i }) repair.right.entry in
      let number : tag.number ≡ risen c =
      cell.0 ∙ repair.right.next ∙ sym (risen_is n k from repair.right) in
      let none : c.pages ≡ [] = none_waiting c t h (unmended t (name_at n 0) _ true h.valid repair.step) in
      subst Knows (sym (written_same (repair_over c k place) die b b.filling))
      (noted_knows after (record c { step = None; frontier = risen c }) k
      (page_at (risen c) 0 place) places_long
      (subst (IsKey (shape_of_numbers c.numbers)) (sym key) is_key) owned
      (subst (λ (z : Key × ℕ). IsPageOf c.numbers after z.0 z.1 place) (λ i. (sym key i, number i)) is_page)
      c.pages c.pages h.live (λ q w. inr w) (λ q w. w)
      (λ r e w. subst (λ (ps : List Pending). IsWrittenAt ps r.place) none w))
    where
      risen_is : (n : ℕ) (k : Key) (from : Option Stored) → RepairKept t.ledger n k from true c.content →
          risen c ≡ suc t.ledger.frontier
      risen_is n k from right =
          let e = h.kept.ledger_kept.frontier in let given = h.kept.ledger_kept.last_given in
          let next = right.next in let last = right.last in omega arith
