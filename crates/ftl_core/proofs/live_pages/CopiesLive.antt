-- Which pages are live once the copy of a page stands: the copy in the place of the page, if this was live.
use Rattle.ftl_core.proofs.Common.{Cells, Core, IsKey, IsWrittenAt, Key, KnowsLive, List, Lives, Name, None, Numbers}
use Rattle.ftl_core.proofs.Common.{Pending, Place, Sizes, Some, Stored, [], ap, arith, false, false≢true, has_page, inl}
use Rattle.ftl_core.proofs.Common.{inr, is_live, length, live_beside, live_here, none-some, noted, place_cases}
use Rattle.ftl_core.proofs.Common.{position_of, refl, same_Some, shape_of_numbers, sizes_of, slice_get, slice_set}
use Rattle.ftl_core.proofs.Common.{subst, suc, sym, true, with_live, zero, ℕ, ⊎_elim, ◌*◌, ◌∙◌, ◌∷◌, ◌≡◌, ◌≢◌}
use Rattle.ftl_core.specs.KnownLive.{page_moved}
use Rattle.ftl_core.proofs.group_settled.NotedPlaces.{places_length}
use Rattle.ftl_core.proofs.live_pages.DurableLive.{AllKnown, AreApart, AreKnown, AreOthers, AreWrittenRight}
use Rattle.ftl_core.proofs.live_pages.DurableLive.{IsWrittenRight, new_on, old_apart, written_right}
use Rattle.ftl_core.proofs.live_pages.NotedLive.{IsPageOf, as_long, noted_knows, noted_owned, one_owner}
use Rattle.ftl_core.proofs.live_pages.ProgramsLive.{put, set_apart, set_at, set_back, set_new}
use Rattle.ftl_core.proofs.opened.ListParts.{get_set}

-- Pending pages, of which one is written elsewhere

-- each other page is still written where it was
set_leaves : (place : Place) (ps : List Pending) (i : ℕ) (p : Pending) (q : Place) → slice_get ps i ≡ Some p →
    (p.written ≡ Some q → ⊥) → IsWrittenAt ps q → IsWrittenAt (slice_set ps i (put place p)) q
set_leaves place [] i p q at other w = absurd w
set_leaves place (r ∷ ps) zero p q at other (inl w) =
    absurd (other (ap (λ (z : Pending). z.written) (sym (same_Some r p at)) ∙ w))
set_leaves place (r ∷ ps) zero p q at other (inr w) = inr w
set_leaves place (r ∷ ps) (suc i) p q at other (inl w) = inl w
set_leaves place (r ∷ ps) (suc i) p q at other (inr w) = inr (set_leaves place ps i p q at other w)

-- where a page is written, no page of another key or number is
none_there : (n : Numbers) (cells : Cells) (k : Key) (number : ℕ) (old : Place) → IsPageOf n cells k number old →
    (ps : List Pending) → AreWrittenRight n cells ps → AreOthers k number ps → IsWrittenAt ps old → ⊥
none_there n cells k number old page [] right others w = w
none_there n cells k number old page (r ∷ rs) right others (inl w) =
    let o = one_owner n cells r.key k r.number number old old (right.0 old w).1 page refl in
    others.0 o.0 o.1
none_there n cells k number old page (r ∷ rs) right others (inr w) =
    none_there n cells k number old page rs right.1 others.1 w

others_get : (k : Key) (number : ℕ) (ps : List Pending) (i : ℕ) (p : Pending) → slice_get ps i ≡ Some p →
    AreOthers k number ps → p.key ≡ k → p.number ≢ number
others_get k number [] i p at h = absurd (none-some p at)
others_get k number (r ∷ rs) zero p at h =
    subst (λ (z : Pending). z.key ≡ k → z.number ≢ number) (same_Some r p at) h.0
others_get k number (r ∷ rs) (suc i) p at h = others_get k number rs i p at h.1

right_get : (n : Numbers) (cells : Cells) (ps : List Pending) (i : ℕ) (p : Pending) → slice_get ps i ≡ Some p →
    AreWrittenRight n cells ps → IsWrittenRight n cells p
right_get n cells [] i p at h = absurd (none-some p at)
right_get n cells (r ∷ rs) zero p at h = subst (IsWrittenRight n cells) (same_Some r p at) h.0
right_get n cells (r ∷ rs) (suc i) p at h = right_get n cells rs i p at h.1

-- so once it is written elsewhere none is written where it was
left_there : (n : Numbers) (cells : Cells) (place old : Place) (ps : List Pending) (i : ℕ) (p : Pending) →
    old ≢ place → slice_get ps i ≡ Some p → p.written ≡ Some old → AreWrittenRight n cells ps → AreApart ps →
    IsWrittenAt (slice_set ps i (put place p)) old → ⊥
left_there n cells place old [] i p other at was right apart w = none-some p at
left_there n cells place old (r ∷ rs) zero p other at was right apart (inl w) = other (same_Some old place (sym w))
left_there n cells place old (r ∷ rs) zero p other at was right apart (inr w) =
    let here = right_get n cells (r ∷ rs) zero p at right old was in
    none_there n cells p.key p.number old here.1 rs right.1
    (subst (λ (z : Pending). AreOthers z.key z.number rs) (same_Some r p at) apart.0) w
left_there n cells place old (r ∷ rs) (suc i) p other at was right apart (inl w) =
    let here = right_get n cells rs i p at right.1 old was in
    let o = one_owner n cells p.key r.key p.number r.number old old here.1 (right.0 old w).1 refl in
    others_get r.key r.number rs i p at apart.0 o.0 o.1
left_there n cells place old (r ∷ rs) (suc i) p other at was right apart (inr w) =
    left_there n cells place old rs i p other at was right.1 apart.1 w

-- All that is known, of a core and of pages that stay where they are

module _ (cells : Cells) (c : Core) (known : AllKnown cells c) (place : Place)
    (inside : has_page (sizes_of c.numbers) place ≡ true) where
  sizes_in : has_page c.live.sizes place ≡ true
  sizes_in = ap (λ (n : Sizes). has_page n place) known.live_is.sizes ∙ inside

  marks : length c.live.live ≡ c.live.sizes.dies * c.live.sizes.blocks * c.live.sizes.pages
  marks = known.live_is.marks ∙ ap (λ (n : Sizes). n.dies * n.blocks * n.pages) (sym known.live_is.sizes)

  -- A page of a pending group is written where its copy is

  module _ (i : ℕ) (p : Pending) (old : Place) (at : slice_get c.pages i ≡ Some p) (was : p.written ≡ Some old)
      (other : old ≢ place) (page : IsPageOf c.numbers cells p.key p.number place) where
    abbrev after : List Pending
    after = slice_set c.pages i (put place p)

    old_right : IsKey (shape_of_numbers c.numbers) p.key × IsPageOf c.numbers cells p.key p.number old
    old_right = right_get c.numbers cells c.pages i p at known.right old was

    old_inside : has_page c.live.sizes old ≡ true
    old_inside = ap (λ (n : Sizes). has_page n old) known.live_is.sizes ∙ old_right.1.inside

    abbrev cleared : Lives
    cleared = with_live c.live old false

    cleared_marks : length cleared.live ≡ cleared.sizes.dies * cleared.sizes.blocks * cleared.sizes.pages
    cleared_marks = as_long c.live old false ∙ marks

    held : (q : Place) → is_live (with_live cleared place true) q ≡ true → q ≢ place →
        (is_live c.live q ≡ true) × (q ≢ old)
    held q e apart = ⊎_elim
        (λ (x : _ × (q ≡ old)). absurd (false≢true (sym (live_here c.live old false old_inside marks)
        ∙ ap (is_live cleared) (sym x.1) ∙ sym (live_beside cleared place q true apart) ∙ e)))
        (λ (x : _ × (q ≢ old)).
        (sym (live_beside c.live old q false x.1) ∙ sym (live_beside cleared place q true apart) ∙ e, x.1))
        (place_cases q old)

    on : (q : Place) → q ≢ place → q ≢ old → is_live c.live q ≡ true → is_live (with_live cleared place true) q ≡ true
    on q apart away e = live_beside cleared place q true apart ∙ live_beside c.live old q false away ∙ e

    moved_knows : KnowsLive c.numbers c.places after (with_live cleared place true)
    moved_knows = record {
      sizes = known.live_is.sizes;
      marks = as_long cleared place true ∙ as_long c.live old false ∙ known.live_is.marks;
      held = λ q e. ⊎_elim
          (λ (x : _ × (q ≡ place)). inr (subst (IsWrittenAt after) (sym x.1) (set_at place c.pages i p at)))
          (λ (x : _ × (q ≢ place)).
          let was_live = held q e x.1 in
          ⊎_elim (λ y. inl y)
          (λ w. inr (set_leaves place c.pages i p q at
          (λ f. was_live.1 (same_Some q old (sym f ∙ was))) w))
          (known.live_is.held q was_live.0))
          (place_cases q place);
      lives = λ q h. ⊎_elim
          (λ (x : _ × (q ≡ place)). ap (is_live (with_live cleared place true)) x.1
          ∙ live_here cleared place true sizes_in cleared_marks)
          (λ (x : _ × (q ≢ place)).
          on q x.1
          (λ same. ⊎_elim
          (λ y. old_apart cells c.numbers c.places y.0 y.1 y.2 (known.owned y.0 y.1 y.2) c.pages known.right known.new
          (subst (IsWrittenAt c.pages) (sym (y.3 ∙ same)) (at_old c.pages i at)))
          (λ w. left_there c.numbers cells place old c.pages i p other at was known.right known.apart
          (subst (IsWrittenAt after) same w))
          h)
          (known.live_is.lives q (⊎_elim (λ y. inl y) (λ w. inr (set_back place c.pages i p q x.1 w)) h)))
          (place_cases q place);
    }
      where
        at_old : (ps : List Pending) (j : ℕ) → slice_get ps j ≡ Some p → IsWrittenAt ps old
        at_old [] j there = absurd (none-some p there)
        at_old (r ∷ rs) zero there = inl (ap (λ (z : Pending). z.written) (same_Some r p there) ∙ was)
        at_old (r ∷ rs) (suc j) there = inr (at_old rs j there)

    pages_right : AreWrittenRight c.numbers cells after
    pages_right = written_right c.numbers cells after
        (λ j q there. ⊎_elim
        (λ (x : _ × (put place p ≡ q)). subst (IsWrittenRight c.numbers cells) x.1
        (λ r e. (old_right.0, subst (IsPageOf c.numbers cells p.key p.number) (same_Some place r e) page)))
        (λ (x : _ × (slice_get c.pages j ≡ Some q)). right_get c.numbers cells c.pages j q x.1 known.right)
        (get_set c.pages i (put place p) j q there))

    pub pending_known : AreKnown cells c.numbers c.places (page_moved c.live (Some old) place) after
    pending_known = record {
      long = known.long;
      owned = known.owned;
      live_is = moved_knows;
      right = pages_right;
      new = set_new place c.numbers c.places c.pages i p at known.new;
      apart = set_apart place c.pages i p at known.apart;
    }

  -- The key reads from the copy

  module _ (k : Key) (name : Name) (isk : IsKey (shape_of_numbers c.numbers) k)
      (page : IsPageOf c.numbers cells k name.number place) (above : AreOthers k name.number c.pages) where
    abbrev moved : Stored
    moved = record { name = name; place = place }

    -- a page of the key, to speak of
    abbrev like : Pending
    like =
        record {
          key = k;
          number = name.number;
          index = name.index;
          size = 1;
          written = Some place;
          rest = None;
          body = [];
        }

    pub durable_known : AreKnown cells c.numbers (noted c k moved).places (noted c k moved).live c.pages
    durable_known =
        let same = places_length c.places moved (position_of c.numbers k) in
        let long = known.long in
        record {
          long = omega (arith, same, long);
          owned = noted_owned cells c k moved known.long isk known.owned page;
          live_is = noted_knows cells c k moved known.long isk known.owned page c.pages c.pages known.live_is
              (λ q w. inr w) (λ q w. w)
              (λ old e w. old_apart cells c.numbers c.places k old e (known.owned k old e) c.pages known.right known.new
              w);
          right = known.right;
          new = new_on cells c like place known.long isk known.owned page c.pages known.new above;
          apart = known.apart;
        }
