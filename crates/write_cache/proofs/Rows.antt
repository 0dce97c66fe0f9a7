-- Pages whose indexes rise by one, at the end of a group.
use Rattle.write_cache.proofs.Common.{Bool, List, Shown, Some, [], and_parts, ap, arith, cases_eq}
use Rattle.write_cache.proofs.Common.{cases_lt, cond, drop, eq-eqb, eqb-true, false, inl, inr, le-leb, length}
use Rattle.write_cache.proofs.Common.{length-append, min, nat_le, ne_eqb, none-some, refl, same_Some, set_length}
use Rattle.write_cache.proofs.Common.{slice_get, slice_set, suc, sym, true, zero, ℕ, ◌&&◌, ◌++◌, ◌+◌, ◌-◌, ◌<◌, ◌==◌}
use Rattle.write_cache.proofs.Common.{◌^◌, ◌∙◌, ◌∷◌, ◌≡◌, ◌≤◌, ◌⊎◌}
use Rattle.std.proofs.lemmas.List.{drop-append-le}
use Rattle.std.proofs.Math.Bool.{and-false}
use Rattle.std.proofs.Math.Seq.{drop-append-add}
use Rattle.ufs_spec.proofs.Facts.{lt-leb}
use Rattle.write_cache.specs.Ring.{is_row}

-- Tests

-- two tests that pass together are the same
pub same_tests : (a b c d : ℕ) → (a ≤ b → c ≤ d) → (c ≤ d → a ≤ b) → nat_le a b ≡ nat_le c d
same_tests a b c d f g = by (cases_lt b a) (cases_lt d c)
  where
    by : (b < a) ⊎ (a ≤ b) → (d < c) ⊎ (c ≤ d) → nat_le a b ≡ nat_le c d
    by (inl l) (inl m) = lt-leb a b l ∙ sym (lt-leb c d m)
    by (inl l) (inr m) = absurd (let n = g m in omega (arith, l, n))
    by (inr l) (inl m) = absurd (let n = f l in omega (arith, m, n))
    by (inr l) (inr m) = le-leb a b l ∙ sym (le-leb c d m)

-- the same of equality
pub same_ends : (a b c d : ℕ) → (a ≡ b → c ≡ d) → (c ≡ d → a ≡ b) → (a == b) ≡ (c == d)
same_ends a b c d f g = by (cases_eq a b)
  where
    by : (a ≡ b) ⊎ (a ≡ b → ⊥) → (a == b) ≡ (c == d)
    by (inl e) = eq-eqb a b e ∙ sym (eq-eqb c d (f e))
    by (inr n) = ne_eqb a b n ∙ sym (ne_eqb c d (λ e. n (g e)))

-- The last page

-- the last page has this index
abbrev pub IsLast : ℕ → List Shown → Type 0
IsLast last [] = ⊥
IsLast last (x ∷ []) = x.index ≡ last
IsLast last (x ∷ y ∷ xs) = IsLast last (y ∷ xs)

pub last_of_row : (last m : ℕ) (xs : List Shown) → suc m ≡ length xs → is_row last (drop m xs) ≡ true → IsLast last xs
last_of_row last m [] is r = absurd (omega (arith, is))
last_of_row last zero (x ∷ []) is r =
    let e = eqb-true (x.index + 0) last (and_parts (x.index + 0 == last) true r).0 in omega (arith, e)
last_of_row last (suc m) (x ∷ []) is r = absurd (omega (arith, is))
last_of_row last zero (x ∷ y ∷ xs) is r = absurd (omega (arith, is))
last_of_row last (suc m) (x ∷ y ∷ xs) is r = last_of_row last m (y ∷ xs) (omega (arith, is)) r

last_behind : (last k : ℕ) (xs : List Shown) → k < length xs → IsLast last xs → IsLast last (drop k xs)
last_behind last k [] l h = absurd (omega (arith, l))
last_behind last zero (x ∷ xs) l h = h
last_behind last (suc k) (x ∷ []) l h = absurd (omega (arith, l))
last_behind last (suc k) (x ∷ y ∷ xs) l h = last_behind last k (y ∷ xs) (omega (arith, l)) h

-- One page more

-- a page that goes on
row_next : (last i : ℕ) (ys : List Shown) (x : Shown) → x.index ≡ i → i ≡ last + 1 →
    is_row i (ys ++ x ∷ []) ≡ is_row last ys
row_next last i [] x e n = ap (λ (b : Bool). b && true) (eq-eqb (x.index + 0) i (omega (arith, e)))
row_next last i (y ∷ ys) x e n =
    ap (λ (b : Bool). b && is_row i (ys ++ x ∷ []))
    (same_ends (y.index + length (ys ++ x ∷ [])) i (y.index + length ys) last
    (λ h. omega (arith, h, long, n)) (λ h. omega (arith, h, long, n)))
    ∙ ap (λ (b : Bool). (y.index + length ys == last) && b) (row_next last i ys x e n)
  where
    long : length (ys ++ x ∷ []) ≡ length ys + 1
    long = length-append ys (x ∷ [])

-- a page that does not
row_broken : (last i : ℕ) (ys : List Shown) (x : Shown) → x.index ≡ i → (i ≡ last + 1 → ⊥) → IsLast last ys →
    is_row i (ys ++ x ∷ []) ≡ false
row_broken last i [] x e n h = absurd h
row_broken last i (y ∷ []) x e n h =
    ap (λ (b : Bool). b && is_row i (x ∷ [])) (ne_eqb (y.index + 1) i (λ is. n (omega (arith, is, h))))
row_broken last i (y ∷ z ∷ ys) x e n h =
    ap (λ (b : Bool). (y.index + length (z ∷ ys ++ x ∷ []) == i) && b) (row_broken last i (z ∷ ys) x e n h)
    ∙ and-false (y.index + length (z ∷ ys ++ x ∷ []) == i)

-- the last page alone, and none, are in a row
pub row_alone : (i k : ℕ) (x : Shown) → x.index ≡ i → is_row i (drop k (x ∷ [])) ≡ true
row_alone i zero x e = ap (λ (b : Bool). b && true) (eq-eqb (x.index + 0) i (omega (arith, e)))
row_alone i (suc zero) x e = refl
row_alone i (suc (suc k)) x e = refl

row_end : (i k : ℕ) (xs : List Shown) (x : Shown) → x.index ≡ i → length xs ≤ k →
    is_row i (drop k (xs ++ x ∷ [])) ≡ true
row_end i k xs x e l =
    ap (λ (n : ℕ). is_row i (drop n (xs ++ x ∷ []))) at
    ∙ ap (is_row i) (drop-append-add xs (x ∷ []) (k - length xs))
    ∙ row_alone i (k - length xs) x e
  where
    at : k ≡ length xs + (k - length xs)
    at = omega (arith, l)

-- the count of the pages in a row tells of each place again
pub row_longer : (last row i : ℕ) (xs : List Shown) (x : Shown) → x.index ≡ i → 0 < row → IsLast last xs →
    length xs + 1 < 2 ^ 16 → ((k : ℕ) → is_row last (drop k xs) ≡ nat_le (length xs) (row + k)) → (k : ℕ) →
    is_row i (drop k (xs ++ x ∷ []))
    ≡ nat_le (length (xs ++ x ∷ [])) (cond (i == last + 1) (min (row + 1) (2 ^ 16 - 1)) 1 + k)
row_longer last row i xs x e some h few told k = by (cases_eq i (last + 1)) (cases_lt k (length xs))
  where
    long : length (xs ++ x ∷ []) ≡ length xs + 1
    long = length-append xs (x ∷ [])

    longer : ℕ
    longer = cond (i == last + 1) (min (row + 1) (2 ^ 16 - 1)) 1

    at_least : (b : Bool) → 1 ≤ cond b (min (row + 1) (2 ^ 16 - 1)) 1
    at_least true = omega (arith, some)
    at_least false = omega arith

    cut : k < length xs → drop k (xs ++ x ∷ []) ≡ drop k xs ++ x ∷ []
    cut l = drop-append-le k xs (x ∷ []) (omega (arith, l))

    by : (i ≡ last + 1) ⊎ (i ≡ last + 1 → ⊥) → (k < length xs) ⊎ (length xs ≤ k) →
        is_row i (drop k (xs ++ x ∷ [])) ≡ nat_le (length (xs ++ x ∷ [])) (longer + k)
    by y (inr l) =
        let m = at_least (i == last + 1) in
        row_end i k xs x e l ∙ sym (le-leb (length (xs ++ x ∷ [])) (longer + k) (omega (arith, long, l, m)))
    by (inl n) (inl l) =
        ap (is_row i) (cut l) ∙ row_next last i (drop k xs) x e n ∙ told k
        ∙ same_tests (length xs) (row + k) (length (xs ++ x ∷ [])) (min (row + 1) (2 ^ 16 - 1) + k)
        (λ m. omega (arith, m, long, few)) (λ m. omega (arith, m, long, l))
        ∙ ap (λ (b : Bool). nat_le (length (xs ++ x ∷ [])) (cond b (min (row + 1) (2 ^ 16 - 1)) 1 + k))
        (sym (eq-eqb i (last + 1) n))
    by (inr n) (inl l) =
        ap (is_row i) (cut l) ∙ row_broken last i (drop k xs) x e n (last_behind last k xs l h)
        ∙ sym (lt-leb (length (xs ++ x ∷ [])) (1 + k) (omega (arith, long, l)))
        ∙ ap (λ (b : Bool). nat_le (length (xs ++ x ∷ [])) (cond b (min (row + 1) (2 ^ 16 - 1)) 1 + k))
        (sym (ne_eqb i (last + 1) n))

-- A page whose index stays

row_same : (last m : ℕ) (xs : List Shown) (x y : Shown) → slice_get xs m ≡ Some x → y.index ≡ x.index →
    is_row last (slice_set xs m y) ≡ is_row last xs
row_same last m [] x y at e = absurd (none-some x at)
row_same last zero (z ∷ xs) x y at e =
    ap (λ (n : ℕ). (n + length xs == last) && is_row last xs) (e ∙ ap (λ (w : Shown). w.index) (sym (same_Some z x at)))
row_same last (suc m) (z ∷ xs) x y at e =
    ap (λ (n : ℕ). (z.index + n == last) && is_row last (slice_set xs m y)) (set_length xs m y)
    ∙ ap (λ (b : Bool). (z.index + length xs == last) && b) (row_same last m xs x y at e)

pub row_kept : (last k m : ℕ) (xs : List Shown) (x y : Shown) → slice_get xs m ≡ Some x → y.index ≡ x.index →
    is_row last (drop k (slice_set xs m y)) ≡ is_row last (drop k xs)
row_kept last k m [] x y at e = absurd (none-some x at)
row_kept last zero m (z ∷ xs) x y at e = row_same last m (z ∷ xs) x y at e
row_kept last (suc k) zero (z ∷ xs) x y at e = refl
row_kept last (suc k) (suc m) (z ∷ xs) x y at e = row_kept last k m xs x y at e
