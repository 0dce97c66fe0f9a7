-- What is found of the rows, and of the bits that no field takes.
use Rattle.std.proofs.Common.{◌≡◌, ℕ, zero, suc, ◌+◌, ◌<◌, ◌&&◌, Bool, true, false, cond, List, [], ◌∷◌, length}
use Rattle.std.proofs.Common.{find, position, Some, None, refl, sym, ap, ◌∙◌, subst, arith, ◌≤◌, ⊎_elim}
use Rattle.std.specs.List.{list_all, position_or_len}
use Rattle.std.specs.Prelude.{nat_lt, slice_get}
use Rattle.std.proofs.lemmas.Bool.{cases_lt, ltb-false}
use Rattle.std.proofs.lemmas.List.Folds.{find_at, list_all-append}
use Rattle.std.proofs.lemmas.Option.{slice_get_past}
use Rattle.ufs_spec.proofs.Facts.{none-some, same_Some}
use Rattle.ufs_spec.specs.Counting.{below}

-- what stands at the first place that passes is the first that passes
pub found_there : {X : Type 0} (p : X → Bool) (xs : List X) (i : ℕ) → position p xs ≡ Some i → slice_get xs i ≡ find p xs
found_there {X} p xs i e = by (nat_lt (position_or_len p xs) (length xs)) e
  where
    by : (b : Bool) → cond b (Some (position_or_len p xs)) None ≡ Some i → slice_get xs i ≡ find p xs
    by true k = ap (slice_get xs) (sym (same_Some (position_or_len p xs) i k)) ∙ sym (find_at p xs)
    by false k = absurd (none-some i k)

pub none_there : {X : Type 0} (p : X → Bool) (xs : List X) → position p xs ≡ None → None ≡ find p xs
none_there {X} p xs e = by (nat_lt (position_or_len p xs) (length xs)) refl e
  where
    by : (b : Bool) → nat_lt (position_or_len p xs) (length xs) ≡ b →
        cond b (Some (position_or_len p xs)) None ≡ None → None ≡ find p xs
    by true f k = absurd (none-some (position_or_len p xs) (sym k))
    by false f k =
        sym (find_at p xs ∙ slice_get_past xs (position_or_len p xs) (ltb-false (position_or_len p xs) (length xs) f))

-- ## Each of the first so many

-- one more that passes
pub one_more : (test : ℕ → Bool) (n : ℕ) → list_all test (below n) ≡ true → test n ≡ true →
    list_all test (below (n + 1)) ≡ true
one_more test n all here =
    let one : suc n ≡ n + 1 = omega arith in
    subst (λ (m : ℕ). list_all test (below m) ≡ true) one
    (list_all-append test (below n) (n ∷ []) ∙ (λ i. all i && (here i && true)))

-- one that fails
pub one_fails : (test : ℕ → Bool) (m n : ℕ) → n < m → test n ≡ false → list_all test (below m) ≡ false
one_fails test zero n l e = absurd (omega (arith, l))
one_fails test (suc m) n l e =
    list_all-append test (below m) (m ∷ [])
    ∙ ⊎_elim (λ (k : n < m). ap (λ (b : Bool). b && (test m && true)) (one_fails test m n k e))
    (λ (k : m ≤ n).
    ap (λ (b : Bool). list_all test (below m) && (b && true)) (ap test (omega (arith, k, l)) ∙ e)
    ∙ none_left (list_all test (below m)))
    (cases_lt n m)
  where
    none_left : (b : Bool) → (b && (false && true)) ≡ false
    none_left true = refl
    none_left false = refl
