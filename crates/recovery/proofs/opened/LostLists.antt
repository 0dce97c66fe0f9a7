-- Two lists of the keys with a lost page, each once and in order, are the same.
use Rattle.recovery.proofs.Common.{AreLost, Cells, Key, List, Some, [], arith, get_or, inl, inr, none-some, refl}
use Rattle.recovery.proofs.Common.{same_Some, slice_get, slice_get-get_or, subst, suc, sym, zero, ℕ, ⊎_elim, ◌<◌, ◌∷◌}
use Rattle.recovery.proofs.Common.{◌≡◌, ◌≢◌, ◌⊎◌}
use Rattle.std.specs.Prelude.{AllPairs}
use Rattle.ufs_spec.specs.Openings.{IsBefore}

-- each of them stands before all that are later
abbrev pub Rise : List Key → Type 0
Rise xs = (i j : ℕ) (a b : Key) → slice_get xs i ≡ Some a → slice_get xs j ≡ Some b → i < j → IsBefore a b

-- each key of the first list is in the second
abbrev pub HasAll : List Key → List Key → Type 0
HasAll xs ys = (i : ℕ) (k : Key) → slice_get xs i ≡ Some k → (j : ℕ) × (slice_get ys j ≡ Some k)

not_before_itself : (k : Key) → IsBefore k k → ⊥
not_before_itself k h = omega (arith, h)

not_both_ways : (j k : Key) → IsBefore j k → IsBefore k j → ⊥
not_both_ways j k h g = omega (arith, h, g)

tail_rises : (x : Key) (xs : List Key) → Rise (x ∷ xs) → Rise xs
tail_rises x xs rise i j a b h g l = rise (suc i) (suc j) a b h g (omega (arith, l))

-- the first of a list is no later than each key of another list that has the same keys
first_is_least : (x y : Key) (xs ys : List Key) → Rise (x ∷ xs) → HasAll (y ∷ ys) (x ∷ xs) → (x ≡ y) ⊎ IsBefore x y
first_is_least x y xs ys rise has = by (has zero y refl)
  where
    by : (j : ℕ) × (slice_get (x ∷ xs) j ≡ Some y) → (x ≡ y) ⊎ IsBefore x y
    by (zero, e) = inl (same_Some x y e)
    by (suc j, e) = inr (rise zero (suc j) x y refl e (omega arith))

same_first : (x y : Key) (xs ys : List Key) → Rise (x ∷ xs) → Rise (y ∷ ys) → HasAll (x ∷ xs) (y ∷ ys) →
    HasAll (y ∷ ys) (x ∷ xs) → x ≡ y
same_first x y xs ys rx ry h g = ⊎_elim (λ e. e)
    (λ (l : IsBefore x y). ⊎_elim (λ (e : y ≡ x). sym e) (λ (m : IsBefore y x). absurd (not_both_ways x y l m))
    (first_is_least y x ys xs ry h)) (first_is_least x y xs ys rx g)

tail_has : (x : Key) (xs ys : List Key) → Rise (x ∷ xs) → HasAll (x ∷ xs) (x ∷ ys) → HasAll xs ys
tail_has x xs ys rise has i k e = by (has (suc i) k e)
  where
    by : (j : ℕ) × (slice_get (x ∷ ys) j ≡ Some k) → (j : ℕ) × (slice_get ys j ≡ Some k)
    by (zero, f) =
        absurd (not_before_itself x (subst (IsBefore x) (sym (same_Some x k f))
        (rise zero (suc i) x k refl e (omega arith))))
    by (suc j, f) = (j, f)

pub same_keys : (xs ys : List Key) → Rise xs → Rise ys → HasAll xs ys → HasAll ys xs → xs ≡ ys
same_keys [] [] rx ry h g = refl
same_keys [] (y ∷ ys) rx ry h g = let r = g zero y refl in absurd (none-some y r.1)
same_keys (x ∷ xs) [] rx ry h g = let r = h zero x refl in absurd (none-some x r.1)
same_keys (x ∷ xs) (y ∷ ys) rx ry h g =
    let e = same_first x y xs ys rx ry h g in
    let ry : Rise (x ∷ ys) = subst (λ (k : Key). Rise (k ∷ ys)) (sym e) ry in
    let h : HasAll (x ∷ xs) (x ∷ ys) = subst (λ (k : Key). HasAll (x ∷ xs) (k ∷ ys)) (sym e) h in
    let g : HasAll (x ∷ ys) (x ∷ xs) = subst (λ (k : Key). HasAll (k ∷ ys) (x ∷ xs)) (sym e) g in
    let rest = same_keys xs ys (tail_rises x xs rx) (tail_rises x ys ry) (tail_has x xs ys rx h)
    (tail_has x ys xs ry g) in
    λ i. e i ∷ rest i

module _ (c : Cells) (low top : ℕ) where
  pub lost_one : (xs ys : List Key) → AreLost c low top xs → AreLost c low top ys → xs ≡ ys
  lost_one xs ys x y = same_keys xs ys x.ordered y.ordered
      (λ i k e. y.all k (x.lost i k e)) (λ i k e. x.all k (y.lost i k e))

  -- no key stands there twice
  pub lost_differ : (xs : List Key) → AreLost c low top xs → AllPairs (λ (a b : Key). a ≢ b) xs
  lost_differ xs h i j d l within e =
      not_before_itself (get_or xs i d)
      (subst (IsBefore (get_or xs i d)) (sym e)
      (h.ordered i j (get_or xs i d) (get_or xs j d) (slice_get-get_or xs i d (omega (arith, l, within)))
      (slice_get-get_or xs j d within) l))
