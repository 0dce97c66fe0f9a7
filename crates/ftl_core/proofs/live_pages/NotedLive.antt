-- Which pages are live once the place of an address is noted: each page of the dies is of one key at most.
use Rattle.ftl_core.proofs.Common.{Bool, Cells, Core, GroupPage, IsKey, IsWrittenAt, Key, KnowsLive, List, Lives, None}
use Rattle.ftl_core.proofs.Common.{Numbers, Option, Pending, Place, Sizes, Some, StandsAt, Stored, Tag, ap, false, flat}
use Rattle.ftl_core.proofs.Common.{has_page, if◌then◌else◌, inl, inr, is_live, key_of, length, live_beside, live_here}
use Rattle.ftl_core.proofs.Common.{none-some, noted, option_and_then, place_cases, position_of, refl, same_Some}
use Rattle.ftl_core.proofs.Common.{set_length, shape_of_numbers, sizes_of, slice_get, slice_set, stored_in, stored_of}
use Rattle.ftl_core.proofs.Common.{subst, sym, true, with_live, ℕ, ⊎_elim, ◌*◌, ◌∙◌, ◌≡◌, ◌≢◌, ◌⊎◌}
use Rattle.ufs_spec.proofs.Equalities.{key_cases}
use Rattle.block_table.specs.Lives.{page_place}
use Rattle.geometry.proofs.KeyIndexes.{index_known}
use Rattle.ftl_core.specs.KnownLive.{IsHeld, without_stored}
use Rattle.ftl_core.proofs.group_settled.FrontPlaces.{HasPlaces}
use Rattle.ftl_core.proofs.group_settled.NotedPlaces.{stored_here, stored_other}

-- One page is marked

pub as_long : (l : Lives) (p : Place) (b : Bool) → length (with_live l p b).live ≡ length l.live
as_long l p b = by (has_page l.sizes p)
  where
    by : (t : Bool) →
        length (if t then slice_set l.live (page_place l.sizes p) b else l.live) ≡ length l.live
    by true = set_length l.live (page_place l.sizes p) b
    by false = refl

-- Pages and their keys

-- a page of the key with this number stands there, within the dies
pub record IsPageOf (n : Numbers) (cells : Cells) (k : Key) (number : ℕ) (p : Place) : Type 0 where
  pub tag : Tag
  pub body : List ℕ
  pub there : cells p ≡ GroupPage tag body
  pub key : key_of tag ≡ k
  pub number_is : tag.number ≡ number
  pub inside : has_page (sizes_of n) p ≡ true

pub same_tag : (t u : Tag) (a b : List ℕ) → GroupPage t a ≡ GroupPage u b → t ≡ u
same_tag t u a b e = cc

pub one_owner : (n : Numbers) (cells : Cells) (j k : Key) (x y : ℕ) (p q : Place) → IsPageOf n cells j x p →
    IsPageOf n cells k y q → p ≡ q → (j ≡ k) × (x ≡ y)
one_owner n cells j k x y p q a b e =
    let tag = same_tag a.tag b.tag a.body b.body (sym a.there ∙ ap cells e ∙ b.there) in (
      sym a.key ∙ ap key_of tag ∙ b.key,
      sym a.number_is ∙ ap (λ (z : Tag). z.number) tag ∙ b.number_is,
    )

-- each content that stands somewhere stands on a page of its key
abbrev pub AreOwned : Cells → Core → Type 0
AreOwned cells c = (k : Key) (s : Stored) → stored_of c k ≡ Some s → IsPageOf c.numbers cells k s.name.number s.place

-- only a key of the device has a content
pub key_stored : (n : Numbers) (ps : List (Option Stored)) (k : Key) (s : Stored) → stored_in n ps k ≡ Some s →
    IsKey (shape_of_numbers n) k
key_stored n ps k s e = by (position_of n k) refl e
  where
    by : (o : Option ℕ) → position_of n k ≡ o → option_and_then (λ (p : ℕ). flat (slice_get ps p)) o ≡ Some s →
        IsKey (shape_of_numbers n) k
    by None at e = absurd (none-some s e)
    by (Some i) at e = index_known (shape_of_numbers n) k i at

-- A content moves

-- the old page is not live any more
record IsCleared (l : Lives) (old : Option Stored) (now : Lives) : Type 0 where
  sizes : now.sizes ≡ l.sizes
  long : length now.live ≡ length l.live
  was : (q : Place) → is_live now q ≡ true → (is_live l q ≡ true) × ((s : Stored) → old ≡ Some s → q ≢ s.place)
  stays : (q : Place) → is_live l q ≡ true → ((s : Stored) → old ≡ Some s → q ≢ s.place) → is_live now q ≡ true

cleared : (l : Lives) (old : Option Stored) → length l.live ≡ l.sizes.dies * l.sizes.blocks * l.sizes.pages →
    ((s : Stored) → old ≡ Some s → has_page l.sizes s.place ≡ true) → IsCleared l old (without_stored l old)
cleared l None long inside = record {
  sizes = refl;
  long = refl;
  was = λ q h. (h, λ s e. absurd (none-some s e));
  stays = λ q h apart. h;
}
cleared l (Some s) long inside = record {
  sizes = refl;
  long = as_long l s.place false;
  was = λ q h. ⊎_elim
      (λ (e : _ × (q ≡ s.place)). absurd (clash (sym (live_here l s.place false (inside s refl) long)
      ∙ (ap (is_live (with_live l s.place false)) (sym e.1) ∙ h))))
      (λ (e : _ × (q ≢ s.place)). (
        sym (live_beside l s.place q false e.1) ∙ h,
        λ r is same. e.1 (same ∙ ap (λ (z : Stored). z.place) (sym (same_Some s r is))),
      ))
      (place_cases q s.place);
  stays = λ q h apart. live_beside l s.place q false (apart s refl) ∙ h;
}
  where
    clash : false ≡ true → ⊥
    clash e = cc

module _ (cells : Cells) (c : Core) (k : Key) (s : Stored) (long : HasPlaces c)
    (isk : IsKey (shape_of_numbers c.numbers) k) (own : AreOwned cells c)
    (page : IsPageOf c.numbers cells k s.name.number s.place) where
  -- where contents stand now
  pub stored_now : (j : Key) (r : Stored) → stored_of (noted c k s) j ≡ Some r →
      ((j ≡ k) × (r ≡ s)) ⊎ ((j ≢ k) × (stored_of c j ≡ Some r))
  stored_now j r e = ⊎_elim
      (λ h. inl (
        h.1,
        sym (same_Some s r
            (sym (stored_here c k s long isk) ∙ ap (stored_of (noted c k s)) (sym h.1) ∙ e)),
      ))
      (λ h. inr (
        h.1,
        sym (stored_other c k j s (λ f. h.1 (sym f)) isk
            (key_stored c.numbers (noted c k s).places j r e)) ∙ e,
      ))
      (key_cases j k)

  pub noted_owned : AreOwned cells (noted c k s)
  noted_owned j r e = ⊎_elim
      (λ h. subst (λ (z : Key × Stored). IsPageOf c.numbers cells z.0 z.1.name.number z.1.place)
      (λ i. (sym h.0 i, sym h.1 i)) page)
      (λ h. own j r h.1)
      (stored_now j r e)

  -- the pending pages are the same, but for the one that stands there
  module _ (before after : List Pending) (h : KnowsLive c.numbers c.places before c.live)
      (left : (q : Place) → IsWrittenAt before q → (q ≡ s.place) ⊎ IsWrittenAt after q)
      (still : (q : Place) → IsWrittenAt after q → IsWrittenAt before q)
      (apart : (r : Stored) → stored_of c k ≡ Some r → IsWrittenAt after r.place → ⊥) where
    inside_l : (p : Place) → has_page (sizes_of c.numbers) p ≡ true → has_page c.live.sizes p ≡ true
    inside_l p i = ap (λ (n : Sizes). has_page n p) h.sizes ∙ i

    marks_l : length c.live.live ≡ c.live.sizes.dies * c.live.sizes.blocks * c.live.sizes.pages
    marks_l = h.marks ∙ ap (λ (n : Sizes). n.dies * n.blocks * n.pages) (sym h.sizes)

    clear : IsCleared c.live (stored_of c k) (without_stored c.live (stored_of c k))
    clear = cleared c.live (stored_of c k) marks_l (λ r e. inside_l r.place (own k r e).inside)

    abbrev cleared_l : Lives
    cleared_l = without_stored c.live (stored_of c k)

    here : is_live (with_live cleared_l s.place true) s.place ≡ true
    here = live_here cleared_l s.place true
        (ap (λ (n : Sizes). has_page n s.place) clear.sizes ∙ inside_l s.place page.inside)
        (clear.long ∙ marks_l ∙ ap (λ (n : Sizes). n.dies * n.blocks * n.pages) (sym clear.sizes))

    stands_on : (q : Place) → is_live (with_live cleared_l s.place true) q ≡ true →
        IsHeld c.numbers (noted c k s).places after q
    stands_on q live = ⊎_elim
        (λ (e : _ × (q ≡ s.place)). inl (k, s, stored_here c k s long isk, sym e.1))
        (λ (e : _ × (q ≢ s.place)).
        let was = clear.was q (sym (live_beside cleared_l s.place q true e.1) ∙ live) in
        ⊎_elim
        (λ old.
        let other : old.0 ≢ k =
        λ f. was.1 old.1 (ap (stored_of c) (sym f) ∙ old.2) (sym old.3) in
        inl (
          old.0,
          old.1,
          stored_other c k old.0 s (λ f. other (sym f)) isk (key_stored c.numbers c.places old.0 old.1 old.2) ∙ old.2,
          old.3,
        ))
        (λ w. ⊎_elim (λ f. absurd (e.1 f)) (λ f. inr f) (left q w))
        (h.held q was.0))
        (place_cases q s.place)

    stored : (q : Place) → q ≢ s.place → StandsAt c.numbers (noted c k s).places q → is_live cleared_l q ≡ true
    stored q other at = ⊎_elim
        (λ f. absurd (other (sym at.3 ∙ ap (λ (z : Stored). z.place) f.1)))
        (λ (f : (at.0 ≢ k) × (stored_of c at.0 ≡ Some at.1)).
        clear.stays q (h.lives q (inl (at.0, at.1, f.1, at.3)))
        (λ r is same. f.0 (one_owner c.numbers cells at.0 k at.1.name.number r.name.number at.1.place r.place (own at.0 at.1 f.1)
        (own k r is) (at.3 ∙ same)).0))
        (stored_now at.0 at.1 at.2)

    written : (q : Place) → IsWrittenAt after q → is_live cleared_l q ≡ true
    written q w = clear.stays q (h.lives q (inr (still q w)))
        (λ r is same. apart r is (subst (IsWrittenAt after) same w))

    lives_on : (q : Place) → IsHeld c.numbers (noted c k s).places after q →
        is_live (with_live cleared_l s.place true) q ≡ true
    lives_on q at = ⊎_elim
        (λ (e : _ × (q ≡ s.place)). ap (is_live (with_live cleared_l s.place true)) e.1 ∙ here)
        (λ (e : _ × (q ≢ s.place)). live_beside cleared_l s.place q true e.1 ∙ ⊎_elim (stored q e.1) (written q) at)
        (place_cases q s.place)

    pub noted_knows : KnowsLive c.numbers (noted c k s).places after (noted c k s).live
    noted_knows = record {
      sizes = clear.sizes ∙ h.sizes;
      marks = as_long cleared_l s.place true ∙ clear.long ∙ h.marks;
      held = stands_on;
      lives = lives_on;
    }
