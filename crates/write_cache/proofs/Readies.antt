-- The places of the pages that pass a test, as those that can be programmed now or wait for their rest: as pages
-- come, leave, and are written or filled.
use Rattle.write_cache.proofs.Common.{AreTold, Bool, List, None, Option, Pending, Place, Rest, Some, [], ap, arith}
use Rattle.write_cache.proofs.Common.{cases_lt, changed, completed, completed_at, completed_by, drop, false, false≢true}
use Rattle.write_cache.proofs.Common.{get_there, inl, inr, is_named, is_ready, is_some, length, length-append, map}
use Rattle.write_cache.proofs.Common.{passes, position, position_told, refl, replicate, set_here, slice_get}
use Rattle.write_cache.proofs.Common.{slice_get_within, slice_set, suc, sym, tells, waits, written_at, zero, ℕ, ◌++◌}
use Rattle.write_cache.proofs.Common.{◌+◌, ◌<◌, ◌∙◌, ◌∷◌, ◌≡◌, ◌≤◌, ◌⊎◌}
use Rattle.std.proofs.lemmas.List.{length-drop}
use Rattle.word_set.specs.Flags.{first_passing, is_set}
use Rattle.word_set.specs.Tests.{IsFirst, IsFirstFrom}
use Rattle.word_set.proofs.Flags.{first_told, passes_drop, passes_more, passes_past, passes_set, passes_shifted}
use Rattle.word_set.proofs.Flags.{same_first, set_length}
use Rattle.write_cache.specs.Ready.{IsSetOf}
use Rattle.write_cache.proofs.Same.{rest_of, same_passes}

-- no page is there, and no flag is set
pub none_set : (test : Pending → Bool) (room n : ℕ) (flags : List Bool) (ps : List Pending) →
    flags ≡ replicate n false → ps ≡ [] → room ≤ n → IsSetOf test room flags ps
none_set test room n flags ps is none fits = record {
  flags_room = let e = ap (λ (xs : List Bool). length xs) is ∙ long n in omega (arith, e, fits);
  told = λ k. ap (λ (xs : List Bool). passes is_set xs k) is ∙ off n k
      ∙ sym (ap (λ (qs : List Pending). passes test qs k) none);
}
  where
    long : (n : ℕ) → length (replicate n false) ≡ n
    long zero = refl
    long (suc n) = ap suc (long n)

    off : (n k : ℕ) → passes is_set (replicate n false) k ≡ false
    off zero k = refl
    off (suc n) zero = refl
    off (suc n) (suc k) = off n k

-- one page more
pub pushed_set : (test : Pending → Bool) (room n : ℕ) (flags fs : List Bool) (ps qs : List Pending) (p : Pending)
    (b : Bool) → IsSetOf test room flags ps → qs ≡ ps ++ p ∷ [] → n ≡ length ps → n < room → b ≡ test p →
    fs ≡ slice_set flags n b → IsSetOf test room fs qs
pushed_set test room n flags fs ps qs p b r all at less is set = record {
  flags_room = let e = ap (λ (xs : List Bool). length xs) set ∙ set_length flags n b in
      let f = r.flags_room in omega (arith, e, f);
  told = λ k. ap (λ (xs : List Bool). passes is_set xs k) set
      ∙ passes_set is_set flags n b (let f = r.flags_room in omega (arith, f, less)) k
      ∙ (λ i. changed (λ j. r.told j i) (at i) (is i) k)
      ∙ sym (passes_more test ps p k)
      ∙ sym (ap (λ (xs : List Pending). passes test xs k) all);
}

-- one page fewer
pub taken_set : (test : Pending → Bool) (room : ℕ) (flags fs : List Bool) (ps qs : List Pending) (p : Pending) →
    IsSetOf test room flags ps → ps ≡ p ∷ qs → fs ≡ drop 1 flags ++ false ∷ [] → IsSetOf test room fs qs
taken_set test room flags fs ps qs p r all set = record {
  flags_room = let e = ap (λ (xs : List Bool). length xs) set in
      let a = length-append (drop 1 flags) (false ∷ []) in
      let d = length-drop 1 flags in
      let f = r.flags_room in omega (arith, e, a, d, f);
  told = λ k. ap (λ (xs : List Bool). passes is_set xs k) set
      ∙ passes_shifted flags k ∙ r.told (k + 1)
      ∙ ap (λ (xs : List Pending). passes test xs (k + 1)) all
      ∙ sym (passes_drop test 1 (p ∷ qs) k (k + 1) (omega arith));
}

-- one page changed
changed_told : (test : Pending → Bool) (flags fs : List Bool) (ps qs : List Pending) (k : ℕ) (q : Pending)
    (b : Bool) → AreTold test flags ps → qs ≡ slice_set ps k q → k < length ps → k < length flags → b ≡ test q →
    fs ≡ slice_set flags k b → AreTold test fs qs
changed_told test flags fs ps qs k q b told all within less is set j =
    ap (λ (xs : List Bool). passes is_set xs j) set
    ∙ passes_set is_set flags k b less j
    ∙ (λ i. changed (λ m. told m i) k (is i) j)
    ∙ sym (passes_set test ps k q within j)
    ∙ sym (ap (λ (xs : List Pending). passes test xs j) all)

-- the page that was found is written
pub found_within : (ps : List Pending) (number index k : ℕ) → Some k ≡ position (is_named number index) ps →
    k < length ps
found_within ps number index k is =
    let t = position_told (is_named number index) ps k (sym is) in
    slice_get_within ps k t.0 t.1

pub written_ready : (room k : ℕ) (flags fs : List Bool) (ps qs : List Pending) (place : Place) →
    IsSetOf is_ready room flags ps → k < length ps → length ps ≤ room → qs ≡ written_at ps k place (slice_get ps k) →
    fs ≡ slice_set flags k false → IsSetOf is_ready room fs qs
written_ready room k flags fs ps qs place r within fits is set = record {
  flags_room = let e = ap (λ (xs : List Bool). length xs) set ∙ set_length flags k false in
      let f = r.flags_room in omega (arith, e, f);
  told = changed_told is_ready flags fs ps qs k (record p { written = Some place }) false r.told
      (is ∙ ap (written_at ps k place) (get_there ps k within).1) within
      (let f = r.flags_room in omega (arith, f, within, fits)) refl set;
}
  where
    p : Pending
    p = (get_there ps k within).0

-- no page changes what it waits for
pub rests_kept : (room : ℕ) (flags : List Bool) (ps qs : List Pending) → map rest_of qs ≡ map rest_of ps →
    IsSetOf waits room flags ps → IsSetOf waits room flags qs
rests_kept room flags ps qs same r = record {
  flags_room = r.flags_room;
  told = λ k. r.told k ∙ sym (same_passes rest_of (λ (o : Option Rest). is_some o) ps qs same k);
}

-- a page was filled
module _ (flags fs : List Bool) (ps qs : List Pending) (k : ℕ) (base : List ℕ) (p : Pending)
    (there : slice_get ps k ≡ Some p) (less : k < length flags)
    (is : qs ≡ completed_at base ps k (slice_get ps k)) where
  all : qs ≡ slice_set ps k (completed base p)
  all = is ∙ ap (completed_at base ps k) there

  within : k < length ps
  within = slice_get_within ps k p there

  -- it can be programmed if it is so now
  pub filled_ready : (b : Bool) → AreTold is_ready flags ps → b ≡ passes is_ready qs k → fs ≡ slice_set flags k b →
      AreTold is_ready fs qs
  filled_ready b told is_so set =
      changed_told is_ready flags fs ps qs k (completed base p) b told all within less
      (is_so ∙ ap (λ (xs : List Pending). passes is_ready xs k) all
      ∙ ap (tells is_ready) (set_here ps k (completed base p) within)) set

  -- and it waits no more
  pub filled_waiting : AreTold waits flags ps → fs ≡ slice_set flags k false → AreTold waits fs qs
  filled_waiting told set =
      changed_told waits flags fs ps qs k (completed base p) false told all within less (sym (gone p.rest refl)) set
    where
      gone : (o : Option Rest) → p.rest ≡ o → waits (completed_by base o p) ≡ false
      gone None e = ap (λ (o : Option Rest). is_some o) e
      gone (Some r) e = refl

-- the first page that passes
pub first_is_told : (test : Pending → Bool) (from : ℕ) (flags : List Bool) (ps : List Pending) →
    AreTold test flags ps → first_passing is_set from flags ≡ first_passing test from ps
first_is_told test from flags ps told = same_first is_set test flags ps from told

-- what the first place that is set says of the pages
pub next_told : (test : Pending → Bool) (from : ℕ) (flags : List Bool) (ps : List Pending) (o : Option ℕ) →
    AreTold test flags ps → o ≡ first_passing is_set from flags → IsFirstFrom (passes test ps) from o
next_told test from flags ps o told is =
    first_told test ps from o (is ∙ first_is_told test from flags ps told)

-- it is that of a page
pub next_within : (ps : List Pending) (from at : ℕ) → IsFirst (passes waits ps) from at → at < length ps
next_within ps from at next = by (cases_lt at (length ps))
  where
    by : (at < length ps) ⊎ (length ps ≤ at) → at < length ps
    by (inl less) = less
    by (inr past) = absurd (false≢true (sym (passes_past waits ps at past) ∙ next.passes))
