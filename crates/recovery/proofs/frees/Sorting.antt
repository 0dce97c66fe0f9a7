-- Lists that rise by a number of what stands in them: where they are cut, what sorting makes of pages, and the blocks
-- from the oldest on.
use Rattle.recovery.proofs.Common.{Aged, AreByAge, AreRising, AreSamePages, Bool, FoundPage, List, Some, ap, arith}
use Rattle.recovery.proofs.Common.{cases_lt, false, get_or_from_slice_get, get_there, inl, inr, length, ltb-false}
use Rattle.recovery.proofs.Common.{ltb-true, nat_le, nat_lt, refl, same_Some, slice_get, slice_get-get_or}
use Rattle.recovery.proofs.Common.{slice_get_within, subst, suc, sym, true, zero, ℕ, ⊎_elim, ◌+◌, ◌<◌, ◌∙◌, ◌≡◌, ◌≤◌}
use Rattle.recovery.proofs.Common.{◌⊎◌}
use Rattle.std.proofs.Common.{cond, ◌==◌}
use Rattle.std.specs.Prelude.{get_or}
use Rattle.std.specs.Ordering.{is_lt, nat_cmp}
use Rattle.std.specs.declared.cmp.Ordering.TheVariants.{Equal, Greater}
use Rattle.std.specs.List.Sorted.{IsNonDecreasingBy, IsPartitionPoint, IsPermutation, IsSortedByKey, IsStableByKey}
use Rattle.std.proofs.lemmas.List.Sorted.{Contains-permutation, IsPermutation-sym, ties_still_rise}
use Rattle.ufs_spec.proofs.Facts.{le-ltb, leb-false, leb-true}
use Rattle.ufs_spec.proofs.Lists.{at_contained, contained_at}
use Rattle.recovery.specs.Frees.{AreAged, IsCutAt}

-- What stands in a list

pub moved : {X : Type 0} (xs ys : List X) → IsPermutation xs ys → (k : ℕ) (x : X) → slice_get xs k ≡ Some x →
    (j : ℕ) × (slice_get ys j ≡ Some x)
moved xs ys same k x h = contained_at ys x (Contains-permutation xs ys x same (at_contained xs k x h))

pub same_pages : (pages named : List FoundPage) → IsPermutation pages named → AreSamePages pages named
same_pages pages named same = record {
  each = λ i e h. moved named pages (IsPermutation-sym pages named same) i e h;
  all = λ i e h. moved pages named same i e h;
}

-- Where a list is cut

module _ {X : Type 0} (of : X → ℕ) (xs : List X) where
  pub rising_sorted : IsNonDecreasingBy of xs → AreRising of xs
  rising_sorted up i j a b x y l =
      let h = up i j a l (slice_get_within xs j b y) in
      subst (λ (z : X). of z ≤ of b) (get_or_from_slice_get xs i a a x)
      (subst (λ (z : X). of (get_or xs i a) ≤ of z) (get_or_from_slice_get xs j b a y) h)

  pub sorted_rising : AreRising of xs → IsNonDecreasingBy of xs
  sorted_rising up i j d l w =
      up i j (get_or xs i d) (get_or xs j d) (slice_get-get_or xs i d (omega arith)) (slice_get-get_or xs j d w) l

  module _ (x at : ℕ) where
    pub cut_below : IsPartitionPoint (λ (y : X). nat_lt (of y) x ≡ true) (λ (y : X). nat_lt (of y) x ≡ false) xs at →
        IsCutAt of xs x at
    cut_below p = record {
      before = λ i e h l. ltb-true (of e) x
          (subst (λ (z : X). nat_lt (of z) x ≡ true) (get_or_from_slice_get xs i e e h) (p.0 i e (omega arith) l));
      behind = λ i e h l. ltb-false (of e) x
          (subst (λ (z : X). nat_lt (of z) x ≡ false) (get_or_from_slice_get xs i e e h)
          (p.1 i e l (slice_get_within xs i e h)));
    }

    pub cut_behind : IsPartitionPoint (λ (y : X). nat_le (of y) x ≡ true) (λ (y : X). nat_le (of y) x ≡ false) xs at →
        IsCutAt of xs (suc x) at
    cut_behind p = record {
      before = λ i e h l.
          let m = leb-true (of e) x
          (subst (λ (z : X). nat_le (of z) x ≡ true) (get_or_from_slice_get xs i e e h) (p.0 i e (omega arith) l)) in
          omega (arith, m);
      behind = λ i e h l.
          let m = leb-false (of e) x
          (subst (λ (z : X). nat_le (of z) x ≡ false) (get_or_from_slice_get xs i e e h)
          (p.1 i e l (slice_get_within xs i e h))) in
          omega (arith, m);
    }

-- The blocks from the oldest on

abbrev IsNotAfter : Aged → Aged → Type 0
IsNotAfter a b = (a.latest < b.latest) ⊎ ((a.latest ≡ b.latest) × (a.block ≤ b.block))

not_after_all : (a b d : Aged) → IsNotAfter a b → IsNotAfter b d → IsNotAfter a d
not_after_all a b d (inl l) (inl m) = inl (omega (arith, l, m))
not_after_all a b d (inl l) (inr (e, m)) = inl (omega (arith, l, e))
not_after_all a b d (inr (e, l)) (inl m) = inl (omega (arith, e, m))
not_after_all a b d (inr (e, l)) (inr (f, m)) = inr (omega (arith, e, f), omega (arith, l, m))

not_less : (x y : ℕ) → y ≤ x → is_lt (nat_cmp x y) ≡ false
not_less x y h = rw (le-ltb x y h) (by (x == y))
  where
    by : (b : Bool) → is_lt (cond b Equal Greater) ≡ false
    by true = refl
    by false = refl

module _ (latests : List ℕ) (xs : List Aged) (are : AreAged latests (length latests) xs) where
  -- the blocks in their own order rise
  pub blocks_rise : IsSortedByKey (λ (a : Aged). a.block) nat_cmp xs
  blocks_rise k d low l =
      let one = are.each k (get_or xs k d) (slice_get-get_or xs k d (omega arith)) in
      let next = are.each (k + 1) (get_or xs (k + 1) d) (slice_get-get_or xs (k + 1) d l) in
      let e = one.0 in
      let f = next.0 in
      not_less (get_or xs (k + 1) d).block (get_or xs k d).block (omega (arith, e, f))

  module _ (ys : List Aged) (same : IsPermutation xs ys) (up : IsNonDecreasingBy (λ (a : Aged). a.latest) ys)
      (stable : IsStableByKey (λ (a : Aged). a.latest) nat_cmp xs ys) where
    next_rises : (k : ℕ) (d : Aged) → k + 1 < length ys → IsNotAfter (get_or ys k d) (get_or ys (k + 1) d)
    next_rises k d l =
        let h = up k (k + 1) d (omega arith) l in
        ⊎_elim
        (λ (m : (get_or ys k d).latest < (get_or ys (k + 1) d).latest). inl m)
        (λ (m : (get_or ys (k + 1) d).latest ≤ (get_or ys k d).latest).
        let e : (get_or ys k d).latest ≡ (get_or ys (k + 1) d).latest = omega (arith, h, m) in
        inr (e, ties_still_rise (λ (a : Aged). a.block) (λ (a : Aged). a.latest) xs ys blocks_rise stable k d l e))
        (cases_lt (get_or ys k d).latest (get_or ys (k + 1) d).latest)

    far_rises : (gap i : ℕ) (d : Aged) → i + gap < length ys → IsNotAfter (get_or ys i d) (get_or ys (i + gap) d)
    far_rises zero i d l =
        subst (λ (j : ℕ). IsNotAfter (get_or ys i d) (get_or ys j d)) (none i) (inr (refl, omega arith))
      where
        none : (i : ℕ) → i ≡ i + zero
        none i = omega arith
    far_rises (suc gap) i d l =
        subst (λ (j : ℕ). IsNotAfter (get_or ys i d) (get_or ys j d)) (one i gap)
        (not_after_all (get_or ys i d) (get_or ys (i + gap) d) (get_or ys (i + gap + 1) d)
        (far_rises gap i d (omega (arith, l))) (next_rises (i + gap) d (omega (arith, l))))
      where
        one : (i gap : ℕ) → i + gap + 1 ≡ i + suc gap
        one i gap = omega arith

    by_gap : (i j gap : ℕ) (a b : Aged) → j ≡ i + gap → slice_get ys i ≡ Some a → slice_get ys j ≡ Some b →
        IsNotAfter a b
    by_gap i j gap a b e x y =
        let w = slice_get_within ys j b y in
        let h = far_rises gap i a (omega (arith, e, w)) in
        let g = subst (λ (k : ℕ). IsNotAfter (get_or ys i a) (get_or ys k a)) (sym e) h in
        subst (λ (z : Aged). IsNotAfter z b) (get_or_from_slice_get ys i a a x)
        (subst (λ (z : Aged). IsNotAfter (get_or ys i a) z) (get_or_from_slice_get ys j b a y) g)

    pub oldest_on : AreByAge latests ys
    oldest_on = record {
      each = λ i a h.
          let r = moved ys xs (IsPermutation-sym xs ys same) i a h in
          let m = are.each r.0 a r.1 in
          ap (slice_get latests) m.0 ∙ m.1;
      all = λ k x h.
          let w = slice_get_within latests k x h in
          let long = are.long in
          let r = get_there xs k (omega (arith, w, long)) in
          let m = are.each k r.0 r.1 in
          let e : r.0 ≡ record { latest = x; block = k } =
          λ i. record { latest = same_Some r.0.latest x (sym m.1 ∙ h) i; block = m.0 i } in
          moved xs ys same k (record { latest = x; block = k }) (r.1 ∙ ap Some e);
      rising = λ i j a b x y l. let r = gap_of i j l in by_gap i j r.0 a b r.1 x y;
    }
      where
        gap_of : (i j : ℕ) → i ≤ j → (gap : ℕ) × (j ≡ i + gap)
        gap_of zero j l = (j, omega arith)
        gap_of (suc i) zero l = absurd (omega arith)
        gap_of (suc i) (suc j) l = let r = gap_of i j (omega arith) in let e = r.1 in (r.0, omega (arith, e))
