-- Lists with one element put, and what stands before and behind a position.
use Rattle.ftl_core.proofs.Common.{Key, List, Name, Option, Some, [], ap, arith, drop, index_in, inl, inr, latest_in}
use Rattle.ftl_core.proofs.Common.{length, name_or, refl, slice_get, slice_set, suc, take, zero, ℕ, ⊎_elim, ◌++◌, ◌+◌}
use Rattle.ftl_core.proofs.Common.{◌∙◌, ◌∷◌, ◌≡◌, ◌≢◌, ◌⊎◌}
use Rattle.ufs_spec.specs.Keys as keys

-- what stands at each position of a list with one element put
pub get_set : {A : Type 0} (xs : List A) (i : ℕ) (x : A) (j : ℕ) (y : A) → slice_get (slice_set xs i x) j ≡ Some y →
    ((j ≡ i) × (x ≡ y)) ⊎ ((j ≢ i) × (slice_get xs j ≡ Some y))
get_set [] i x j y h = cc
get_set (z ∷ zs) zero x zero y h = inl (refl, cc)
get_set (z ∷ zs) zero x (suc j) y h = inr (λ e. absurd (omega (arith, e)), h)
get_set (z ∷ zs) (suc i) x zero y h = inr (λ e. absurd (omega (arith, e)), h)
get_set (z ∷ zs) (suc i) x (suc j) y h =
    ⊎_elim (λ k. inl (ap suc k.0, k.1)) (λ k. inr (λ e. k.0 (pred_is j i e), k.1)) (get_set zs i x j y h)
  where
    pred_is : (j i : ℕ) → suc j ≡ suc i → j ≡ i
    pred_is j i e = omega arith

-- a list that begins at the position goes on behind it
pub drop_next : {A : Type 0} (xs : List A) (m : ℕ) (y : A) (ys : List A) → drop m xs ≡ y ∷ ys →
    (drop (suc m) xs ≡ ys) × (take (suc m) xs ≡ take m xs ++ y ∷ []) × (length (take m xs) ≡ m) ×
    (slice_get xs m ≡ Some y)
drop_next [] zero y ys e = cc
drop_next [] (suc m) y ys e = cc
drop_next (x ∷ xs) zero y ys e =
    (tails x y xs ys e, ap (λ z. z ∷ []) (heads x y xs ys e), refl, ap (λ z. Some z) (heads x y xs ys e))
  where
    heads : {A : Type 0} (x y : A) (xs ys : List A) → x ∷ xs ≡ y ∷ ys → x ≡ y
    heads x y xs ys e = cc

    tails : {A : Type 0} (x y : A) (xs ys : List A) → x ∷ xs ≡ y ∷ ys → xs ≡ ys
    tails x y xs ys e = cc
drop_next (x ∷ xs) (suc m) y ys e =
    let r = drop_next xs m y ys e in
    (r.0, ap (λ zs. x ∷ zs) r.1, ap suc r.2, r.3)

-- the last of the groups with one group more
pub latest_more : (k : Key) (n : ℕ) (gs : List keys.Group) (g : keys.Group) (older : Option Name) →
    latest_in k n (gs ++ g ∷ []) older ≡ name_or (suc (n + length gs)) (index_in k g) (latest_in k n gs older)
latest_more k n [] g older = ap (λ (m : ℕ). name_or (suc m) (index_in k g) older) (omega arith)
latest_more k n (h ∷ gs) g older =
    latest_more k (suc n) gs g (name_or (suc n) (index_in k h) older)
    ∙ ap (λ (m : ℕ). name_or (suc m) (index_in k g) (latest_in k (suc n) gs (name_or (suc n) (index_in k h) older)))
    (moved n (length gs))
  where
    moved : (n m : ℕ) → suc n + m ≡ n + suc m
    moved n m = omega arith
