-- Which pages are live when the layer is opened.
use Rattle.ftl_core.proofs.Common.{Key, KnowsLive, List, Lives, None, Numbers, Option, Place, Shape, Sizes, Some}
use Rattle.ftl_core.proofs.Common.{StandsAt, Stored, [], and_parts, ap, arith, false, false≢true, flat, fold, has_page}
use Rattle.ftl_core.proofs.Common.{inl, inr, is_live, key_total, length, length-map, length-replicate, live_beside}
use Rattle.ftl_core.proofs.Common.{live_here, none-some, none_live, option_and_then, place_cases, position_of, refl}
use Rattle.ftl_core.proofs.Common.{regions, same_Some, shape_of_numbers, sizes_of, slice_get, stored_in, suc}
use Rattle.ftl_core.proofs.Common.{sum_by-cons, sym, take, true, with_live, with_stored, zero, ℕ, ⊎_elim, ◌*◌, ◌+◌, ◌<◌}
use Rattle.ftl_core.proofs.Common.{◌∙◌, ◌∷◌, ◌≡◌, ◌≢◌, ◌≤◌, ◌⊎◌}
use Rattle.std.proofs.Common.{sum, ◌-◌, ◌/◌}
use Rattle.std.specs.Prelude.{slice_index_or}
use Rattle.ufs_spec.proofs.Facts.{cases_lt}
use Rattle.ufs_spec.proofs.Lists.{get_take, take_get}
use Rattle.ufs_spec.specs.Keys.{area_pages, region_pages}
use Rattle.ufs_spec.specs.Plain.{area_len}
use Rattle.block_table.specs.Lives.{page_place}
use Rattle.geometry.specs.Keys.{AtArea, AtData, AtSettings, IsIndex}
use Rattle.geometry.proofs.KeyIndexes.{index_below, is_index}
use Rattle.ufs_spec.specs.Counting.{below}
use Rattle.ftl_core.specs.KnownLive.{lives_of_places}
use Rattle.block_table.proofs.LiveCounts.{replicate_off}
use Rattle.ftl_core.proofs.live_pages.NotedLive.{as_long}

-- Each index below the count of keys has a key

in_unit : (blocks : List ℕ) (i : ℕ) → i < sum blocks →
    (u : ℕ) × (a : ℕ) × (u < length blocks) × (a < slice_index_or blocks u 0) × (i ≡ sum (take u blocks) + a)
in_unit [] i l = absurd (omega arith)
in_unit (b ∷ bs) i l = ⊎_elim
    (λ (m : i < b). (0, i, omega arith, m, omega arith))
    (λ (m : b ≤ i).
    let all = sum_by-cons (λ (n : ℕ). n) b bs in
    let r = in_unit bs (i - b) (omega (arith, l, m, all)) in
    let front = sum_by-cons (λ (n : ℕ). n) b (take r.0 bs) in
    let inside = r.2 in
    let is = r.4 in
    (suc r.0, r.1, omega (arith, inside), r.3, omega (arith, m, is, front)))
    (cases_lt i b)

key_of_index : (s : Shape) (i : ℕ) → length s.areas ≡ regions → i < key_total s → (k : Key) × IsIndex s k i
key_of_index s i count l = ⊎_elim
    (λ (m : i < sum s.blocks).
    let r = in_unit s.blocks i m in
    (record { kind = 1; unit = r.0; address = r.1 }, AtData refl r.2 r.3 r.4))
    (λ (m : sum s.blocks ≤ i). ⊎_elim
    (λ (n : i < sum s.blocks + area_pages s).
    let r = in_unit (region_pages s) (i - sum s.blocks) (omega (arith, m, n)) in
    let all = length-map s.areas (λ (bytes : ℕ). bytes / 4096) in
    let inside = r.2 in
    let is = r.4 in (
      record { kind = 2; unit = r.0; address = r.1 },
      AtArea refl (omega (arith, inside, all, count)) r.3 (omega (arith, m, is)),
    ))
    (λ (n : sum s.blocks + area_pages s ≤ i).
    (record { kind = 3; unit = 0; address = 0 }, AtSettings refl refl refl (omega (arith, n, l))))
    (cases_lt i (sum s.blocks + area_pages s)))
    (cases_lt i (sum s.blocks))

-- At first no page is live

none_is_live : (n : Sizes) (p : Place) → is_live (none_live n) p ≡ true → ⊥
none_is_live n p e =
    false≢true (sym (replicate_off (n.dies * n.blocks * n.pages) (page_place n p)) ∙ (and_parts _ _ e).1)

-- One page after another

-- some of the contents stands there
IsAmong : List (Option Stored) → Place → Type 0
IsAmong ps p = (j : ℕ) × (s : Stored) × (slice_get ps j ≡ Some (Some s)) × (s.place ≡ p)

AreInside : Sizes → List (Option Stored) → Type 0
AreInside n ps = (j : ℕ) (s : Stored) → slice_get ps j ≡ Some (Some s) → has_page n s.place ≡ true

-- the pages that were live, and those of these contents
record IsMarked (n : Sizes) (l now : Lives) (ps : List (Option Stored)) : Type 0 where
  sizes : now.sizes ≡ n
  marks : length now.live ≡ n.dies * n.blocks * n.pages
  only : (p : Place) → is_live now p ≡ true → (is_live l p ≡ true) ⊎ IsAmong ps p
  kept : (p : Place) → is_live l p ≡ true → is_live now p ≡ true
  all : (p : Place) → IsAmong ps p → is_live now p ≡ true

module _ (n : Sizes) (l : Lives) (sizes : l.sizes ≡ n) (marks : length l.live ≡ n.dies * n.blocks * n.pages) where
  with_only : (o : Option Stored) (p : Place) → is_live (with_stored l o) p ≡ true →
      (is_live l p ≡ true) ⊎ ((s : Stored) × (o ≡ Some s) × (s.place ≡ p))
  with_only None p e = inl e
  with_only (Some s) p e = ⊎_elim
      (λ (h : _ × (p ≡ s.place)). inr (s, refl, sym h.1))
      (λ (h : _ × (p ≢ s.place)). inl (sym (live_beside l s.place p true h.1) ∙ e))
      (place_cases p s.place)

  with_all : (o : Option Stored) (s : Stored) → o ≡ Some s → has_page n s.place ≡ true →
      is_live (with_stored l o) s.place ≡ true
  with_all o s e inside =
      ap (λ (x : Option Stored). is_live (with_stored l x) s.place) e
      ∙ live_here l s.place true (ap (λ (m : Sizes). has_page m s.place) sizes ∙ inside)
      (marks ∙ ap (λ (m : Sizes). m.dies * m.blocks * m.pages) (sym sizes))

  with_kept : (o : Option Stored) → ((s : Stored) → o ≡ Some s → has_page n s.place ≡ true) → (p : Place) →
      is_live l p ≡ true → is_live (with_stored l o) p ≡ true
  with_kept None inside p e = e
  with_kept (Some s) inside p e = ⊎_elim
      (λ (h : _ × (p ≡ s.place)).
      ap (is_live (with_live l s.place true)) h.1 ∙ with_all (Some s) s refl (inside s refl))
      (λ (h : _ × (p ≢ s.place)). live_beside l s.place p true h.1 ∙ e)
      (place_cases p s.place)

  with_sizes : (o : Option Stored) → (with_stored l o).sizes ≡ n
  with_sizes None = sizes
  with_sizes (Some s) = sizes

  with_marks : (o : Option Stored) → length (with_stored l o).live ≡ n.dies * n.blocks * n.pages
  with_marks None = marks
  with_marks (Some s) = as_long l s.place true ∙ marks

all_marked : (n : Sizes) (ps : List (Option Stored)) (l : Lives) → l.sizes ≡ n →
    length l.live ≡ n.dies * n.blocks * n.pages → AreInside n ps → IsMarked n l (fold with_stored l ps) ps
unfolding IsAmong AreInside
all_marked n [] l sizes marks inside = record {
  sizes = sizes;
  marks = marks;
  only = λ p e. inl e;
  kept = λ p e. e;
  all = λ p at. absurd (none-some (Some at.1) at.2);
}
all_marked n (o ∷ ps) l sizes marks inside =
    let first = λ (s : Stored) (e : o ≡ Some s). inside 0 s (ap (λ (x : Option Stored). Some x) e) in
    let rest = all_marked n ps (with_stored l o) (with_sizes n l sizes marks o) (with_marks n l sizes marks o)
    (λ j s e. inside (suc j) s e) in
    record {
      sizes = rest.sizes;
      marks = rest.marks;
      only = λ p e. ⊎_elim
          (λ h. ⊎_elim (λ g. inl g)
          (λ (g : (s : Stored) × (o ≡ Some s) × (s.place ≡ p)).
          inr (0, g.0, ap (λ (x : Option Stored). Some x) g.1, g.2))
          (with_only n l sizes marks o p h))
          (λ h. inr (suc h.0, h.1, h.2, h.3))
          (rest.only p e);
      kept = λ p e. rest.kept p (with_kept n l sizes marks o first p e);
      all = λ p at. by p at.0 at.1 at.2 at.3 first rest;
    }
  where
    by : (p : Place) (j : ℕ) (s : Stored) → slice_get (o ∷ ps) j ≡ Some (Some s) → s.place ≡ p →
        ((r : Stored) → o ≡ Some r → has_page n r.place ≡ true) →
        IsMarked n (with_stored l o) (fold with_stored (with_stored l o) ps) ps →
        is_live (fold with_stored (with_stored l o) ps) p ≡ true
    by p zero s at is first rest =
        let e : o ≡ Some s = same_Some o (Some s) at in
        rest.kept p (ap (is_live (with_stored l o)) (sym is) ∙ with_all n l sizes marks o s e (first s e))
    by p (suc j) s at is first rest = rest.all p (j, s, at, is)

-- All keys

flat_some : (o : Option (Option Stored)) (s : Stored) → flat o ≡ Some s → o ≡ Some (Some s)
flat_some None s e = absurd (none-some s e)
flat_some (Some x) s e = ap (λ (z : Option Stored). Some z) e

module _ (n : Numbers) (places : List (Option Stored))
    (inside : (k : Key) (s : Stored) → stored_in n places k ≡ Some s → has_page (sizes_of n) s.place ≡ true) where
  abbrev total : ℕ
  total = key_total (shape_of_numbers n)

  -- what stands at an index is the content of its key
  at_index : (j : ℕ) (s : Stored) → slice_get (take total places) j ≡ Some (Some s) →
      (k : Key) × (stored_in n places k ≡ Some s)
  at_index j s at =
      let there = get_take total places j (Some s) at in
      let key = key_of_index (shape_of_numbers n) j (length-map (below regions) (area_len n)) there.0 in (
        key.0,
        ap (option_and_then (λ (p : ℕ). flat (slice_get places p))) (is_index (shape_of_numbers n) key.0 j key.1)
            ∙ ap flat there.1,
      )

  of_key : (k : Key) (s : Stored) → stored_in n places k ≡ Some s →
      (j : ℕ) × (slice_get (take total places) j ≡ Some (Some s))
  of_key k s e = by (position_of n k) refl e
    where
      by : (o : Option ℕ) → position_of n k ≡ o → option_and_then (λ (p : ℕ). flat (slice_get places p)) o ≡ Some s →
          (j : ℕ) × (slice_get (take total places) j ≡ Some (Some s))
      by None is e = absurd (none-some s e)
      by (Some i) is e = (
        i,
        take_get total places i (Some s) (index_below (shape_of_numbers n) k i is)
            (flat_some (slice_get places i) s e),
      )

  marked : IsMarked (sizes_of n) (none_live (sizes_of n)) (lives_of_places n places) (take total places)
  unfolding AreInside
  marked = all_marked (sizes_of n) (take total places) (none_live (sizes_of n)) refl
      (length-replicate (n.dies * n.blocks * n.pages) false)
      (λ j s at. let k = at_index j s at in inside k.0 s k.1)

  pub opened_knows : KnowsLive n places [] (lives_of_places n places)
  unfolding IsAmong
  opened_knows = record {
    sizes = marked.sizes;
    marks = marked.marks;
    held = λ p e. ⊎_elim
        (λ h. absurd (none_is_live (sizes_of n) p h))
        (λ (h : (j : ℕ) × (s : Stored) × (slice_get (take total places) j ≡ Some (Some s)) × (s.place ≡ p)).
        let k = at_index h.0 h.1 h.2 in inl (k.0, h.1, k.1, h.3))
        (marked.only p e);
    lives = λ p held. ⊎_elim
        (λ (at : StandsAt n places p). let j = of_key at.0 at.1 at.2 in marked.all p (j.0, at.1, j.1, at.3))
        (λ w. absurd w)
        held;
  }
