-- Small facts about lists: what stands where, what one more or one changed element leaves, and what searches find.
use Rattle.std.proofs.Common.{◌≡◌, ◌≢◌, ◌⊎◌, ℕ, zero, suc, ◌+◌, ◌<◌, ◌≤◌, ◌||◌, Bool, true, false, cond, not, List, []}
use Rattle.std.proofs.Common.{◌∷◌, ◌++◌, length, take, map, find, Some, None, option_map, refl, sym, ap, ◌∙◌, subst}
use Rattle.std.proofs.Common.{inl, inr, ⊎_elim, arith, length-append, replicate}
use Rattle.std.specs.Prelude.{nat_lt, position, slice_get, slice_set}
use Rattle.std.specs.List.{Contains, list_any, position_or_len}
use Rattle.std.proofs.lemmas.List.{get_or-replicate, length-replicate}
use Rattle.std.proofs.lemmas.List.Sums.{fails_before_first, passes_at_first}
use Rattle.std.proofs.lemmas.Option.{get_or_from_slice_get, slice_get-get_or, slice_get_within}
use Rattle.ufs_spec.specs.Keys.{below}
use Rattle.ufs_spec.proofs.Facts.{at_most, cases_Bool, cond-true, false≢true, le-ltb, lt-ltb, none-some, or_cases}
use Rattle.ufs_spec.proofs.Facts.{or_left, or_right, same_Some}

-- What stands at a position

pub get_there : {A : Type 0} (xs : List A) (k : ℕ) → k < length xs → (x : A) × (slice_get xs k ≡ Some x)
get_there [] k h = absurd (omega (arith, h))
get_there (x ∷ xs) zero h = (x, refl)
get_there (x ∷ xs) (suc k) h = get_there xs k (omega (arith, h))

pub none_in_empty : {A : Type 0} (xs : List A) (k : ℕ) (x : A) → xs ≡ [] → slice_get xs k ≡ Some x → ⊥
none_in_empty xs k x e h = none-some x (sym (ap (λ zs. slice_get zs k) e) ∙ h)

pub get_take : {A : Type 0} (n : ℕ) (xs : List A) (k : ℕ) (x : A) → slice_get (take n xs) k ≡ Some x →
    (k < n) × (slice_get xs k ≡ Some x)
get_take zero xs k x h = absurd (none-some x h)
get_take (suc n) [] k x h = absurd (none-some x h)
get_take (suc n) (y ∷ ys) zero x h = (omega arith, h)
get_take (suc n) (y ∷ ys) (suc k) x h = let r = get_take n ys k x h in (omega (arith, r.0), r.1)

pub take_get : {A : Type 0} (n : ℕ) (xs : List A) (k : ℕ) (x : A) → k < n → slice_get xs k ≡ Some x →
    slice_get (take n xs) k ≡ Some x
take_get zero xs k x l h = absurd (omega arith)
take_get (suc n) [] k x l h = absurd (none-some x h)
take_get (suc n) (y ∷ ys) zero x l h = h
take_get (suc n) (y ∷ ys) (suc k) x l h = take_get n ys k x (omega arith) h

pub get_replicate : {A : Type 0} (n k : ℕ) (x : A) → k < n → slice_get (replicate n x) k ≡ Some x
get_replicate n k x l =
    slice_get-get_or (replicate n x) k x (omega (arith, length-replicate n x, l)) ∙ ap Some (get_or-replicate n k x x l)

-- what a list contains stands at a position of it, and the other way about
pub contained_at : {A : Type 0} (xs : List A) (x : A) → Contains xs x → (k : ℕ) × (slice_get xs k ≡ Some x)
contained_at xs x h = (h.0, slice_get-get_or xs h.0 x h.1 ∙ ap Some h.2)

pub at_contained : {A : Type 0} (xs : List A) (k : ℕ) (x : A) → slice_get xs k ≡ Some x → Contains xs x
at_contained xs k x h = (k, slice_get_within xs k x h, get_or_from_slice_get xs k x x h)

pub map_twice : {A B C : Type 0} (f : B → C) (g : A → B) (xs : List A) → map f (map g xs) ≡ map (λ x. f (g x)) xs
map_twice f g [] = refl
map_twice {C = C} f g (x ∷ xs) = ap (λ (ys : List C). f (g x) ∷ ys) (map_twice f g xs)

-- One element more at the end

pub grown_length : {A : Type 0} (xs : List A) (y : A) → length (xs ++ y ∷ []) ≡ suc (length xs)
grown_length xs y = omega (arith, length-append xs (y ∷ []))

pub get_grows : {A : Type 0} (xs : List A) (y : A) (k : ℕ) (x : A) → slice_get xs k ≡ Some x →
    slice_get (xs ++ y ∷ []) k ≡ Some x
get_grows [] y k x h = absurd (none-some x h)
get_grows (z ∷ zs) y zero x h = h
get_grows (z ∷ zs) y (suc k) x h = get_grows zs y k x h

pub get_last : {A : Type 0} (xs : List A) (y : A) → slice_get (xs ++ y ∷ []) (length xs) ≡ Some y
get_last [] y = refl
get_last (z ∷ zs) y = get_last zs y

pub get_splits : {A : Type 0} (xs : List A) (y : A) (k : ℕ) (x : A) → slice_get (xs ++ y ∷ []) k ≡ Some x →
    (slice_get xs k ≡ Some x) ⊎ ((k ≡ length xs) × (x ≡ y))
get_splits [] y zero x h = inr (refl, sym (same_Some y x h))
get_splits [] y (suc k) x h = absurd (none-some x h)
get_splits (z ∷ zs) y zero x h = inl h
get_splits (z ∷ zs) y (suc k) x h = ⊎_elim (λ k. inl k) (λ k. inr (ap suc k.0, k.1)) (get_splits zs y k x h)

-- More elements at the end

pub get_front : {A : Type 0} (xs ys : List A) (k : ℕ) (x : A) → slice_get xs k ≡ Some x →
    slice_get (xs ++ ys) k ≡ Some x
get_front [] ys k x h = absurd (none-some x h)
get_front (y ∷ xs) ys zero x h = h
get_front (y ∷ xs) ys (suc k) x h = get_front xs ys k x h

-- One element changed

pub set_here : {A : Type 0} (xs : List A) (k : ℕ) (y : A) → k < length xs → slice_get (slice_set xs k y) k ≡ Some y
set_here [] k y l = absurd (omega arith)
set_here (x ∷ xs) zero y l = refl
set_here (x ∷ xs) (suc k) y l = set_here xs k y (omega arith)

pub set_there : {A : Type 0} (xs : List A) (k : ℕ) (x y : A) → slice_get xs k ≡ Some x →
    slice_get (slice_set xs k y) k ≡ Some y
set_there xs k x y h = set_here xs k y (slice_get_within xs k x h)

pub set_other : {A : Type 0} (xs : List A) (k j : ℕ) (y : A) → j ≢ k → slice_get (slice_set xs k y) j ≡ slice_get xs j
set_other [] k j y apart = refl
set_other (x ∷ xs) zero zero y apart = absurd (apart refl)
set_other (x ∷ xs) zero (suc j) y apart = refl
set_other (x ∷ xs) (suc k) zero y apart = refl
set_other (x ∷ xs) (suc k) (suc j) y apart = set_other xs k j y (λ e. apart (ap suc e))

pub set_length : {A : Type 0} (xs : List A) (k : ℕ) (y : A) → length (slice_set xs k y) ≡ length xs
set_length [] k y = refl
set_length (x ∷ xs) zero y = refl
set_length (x ∷ xs) (suc k) y = ap suc (set_length xs k y)

-- Whether any passes a test

pub any_here : {A : Type 0} (f : A → Bool) (xs : List A) (k : ℕ) (x : A) → slice_get xs k ≡ Some x → f x ≡ true →
    list_any f xs ≡ true
any_here f [] k x h is = absurd (none-some x h)
any_here f (z ∷ zs) zero x h is = or_left (f z) (list_any f zs) (ap f (same_Some z x h) ∙ is)
any_here f (z ∷ zs) (suc k) x h is = or_right (f z) (list_any f zs) (any_here f zs k x h is)

pub any_told : {A : Type 0} (f : A → Bool) (xs : List A) → list_any f xs ≡ true →
    (k : ℕ) × (x : A) × (slice_get xs k ≡ Some x) × (f x ≡ true)
any_told f [] h = absurd (false≢true h)
any_told f (z ∷ zs) h =
    ⊎_elim
    (λ (is : f z ≡ true). (0, z, refl, is))
    (λ (is : list_any f zs ≡ true). let r = any_told f zs is in (suc r.0, r.1, r.2, r.3))
    (or_cases (f z) (list_any f zs) h)

-- where none passes, this one does not
pub any_none : {A : Type 0} (f : A → Bool) (xs : List A) (k : ℕ) (x : A) → list_any f xs ≡ false →
    slice_get xs k ≡ Some x → f x ≡ false
any_none f xs k x none h =
    ⊎_elim (λ is. absurd (false≢true (sym none ∙ any_here f xs k x h is))) (λ is. is) (cases_Bool (f x))

-- and where no single one passes, none does
pub none_passes : {A : Type 0} (f : A → Bool) (xs : List A) →
    ((k : ℕ) (x : A) → slice_get xs k ≡ Some x → f x ≡ true → ⊥) → list_any f xs ≡ false
none_passes f xs none =
    ⊎_elim (λ is. let r = any_told f xs is in absurd (none r.0 r.1 r.2 r.3)) (λ is. is) (cases_Bool (list_any f xs))

pub any_set : {A : Type 0} (f : A → Bool) (xs : List A) (k : ℕ) (x y : A) → slice_get xs k ≡ Some x → f y ≡ f x →
    list_any f (slice_set xs k y) ≡ list_any f xs
any_set f [] k x y h e = absurd (none-some x h)
any_set f (z ∷ zs) zero x y h e = ap (λ b. b || list_any f zs) (e ∙ ap f (sym (same_Some z x h)))
any_set f (z ∷ zs) (suc k) x y h e = ap (λ b. f z || b) (any_set f zs k x y h e)

-- a change that no element's test sees
pub any_mapped : {A : Type 0} (f : A → Bool) (g : A → A) (xs : List A) →
    ((k : ℕ) (x : A) → slice_get xs k ≡ Some x → f (g x) ≡ f x) →
    list_any f (map g xs) ≡ list_any f xs
any_mapped f g [] same = refl
any_mapped f g (x ∷ xs) same =
    ap (λ (b : Bool). b || list_any f (map g xs)) (same 0 x refl)
    ∙ ap (λ (b : Bool). f x || b) (any_mapped f g xs (λ k y h. same (suc k) y h))

-- The first that passes a test

pub find_here : {A : Type 0} (f : A → Bool) (x : A) (xs : List A) → f x ≡ true → find f (x ∷ xs) ≡ Some x
find_here f x xs h = rw h refl

pub find_behind : {A : Type 0} (f : A → Bool) (x : A) (xs : List A) → f x ≡ false → find f (x ∷ xs) ≡ find f xs
find_behind f x xs h = rw h refl

-- it stands somewhere, or none passes
pub position_cases : {A : Type 0} (f : A → Bool) (xs : List A) →
    ((k : ℕ) × (x : A) × (position f xs ≡ Some k) × (slice_get xs k ≡ Some x) × (f x ≡ true))
    ⊎ ((position f xs ≡ None) × ((j : ℕ) (y : A) → slice_get xs j ≡ Some y → f y ≡ false))
position_cases {A} f xs =
    ⊎_elim (λ past. inr (nowhere past)) (λ within. inl (somewhere within)) (at_most (length xs) (position_or_len f xs))
  where
    nowhere : length xs ≤ position_or_len f xs →
        (position f xs ≡ None) × ((j : ℕ) (y : A) → slice_get xs j ≡ Some y → f y ≡ false)
    nowhere past = (
      rw (le-ltb (position_or_len f xs) (length xs) past),
      λ j y h. let w = slice_get_within xs j y h in
          ap f (sym (get_or_from_slice_get xs j y y h)) ∙ fails_before_first f xs j y (omega arith),
    )

    somewhere : position_or_len f xs < length xs →
        (k : ℕ) × (x : A) × (position f xs ≡ Some k) × (slice_get xs k ≡ Some x) × (f x ≡ true)
    somewhere within =
        let r = get_there xs (position_or_len f xs) within in (
          position_or_len f xs,
          r.0,
          rw (lt-ltb (position_or_len f xs) (length xs) within),
          r.1,
          ap f (sym (get_or_from_slice_get xs (position_or_len f xs) r.0 r.0 r.1)) ∙ passes_at_first f xs r.0 within,
        )

pub position_here : {A : Type 0} (f : A → Bool) (x : A) (xs : List A) → f x ≡ true → position f (x ∷ xs) ≡ Some 0
position_here f x xs h = by (f x) h
  where
    by : (b : Bool) → b ≡ true →
        cond (nat_lt (cond (not b) (1 + position_or_len f xs) 0) (suc (length xs)))
        (Some (cond (not b) (1 + position_or_len f xs) 0)) None ≡ Some 0
    by true h = cond-true (nat_lt 0 (suc (length xs))) (Some 0) None (lt-ltb 0 (suc (length xs)) (omega arith))
    by false h = absurd (false≢true h)

pub position_behind : {A : Type 0} (f : A → Bool) (x : A) (xs : List A) → f x ≡ false →
    position f (x ∷ xs) ≡ option_map suc (position f xs)
position_behind f x xs h = by (f x) (position_or_len f xs) (length xs) h
  where
    by : (b : Bool) (n len : ℕ) → b ≡ false →
        cond (nat_lt (cond (not b) (1 + n) 0) (suc len)) (Some (cond (not b) (1 + n) 0)) None ≡ option_map suc
        (cond (nat_lt n len) (Some n) None)
    by true n len h = absurd (false≢true (sym h))
    by false n len h =
        ⊎_elim
        (λ (past : len ≤ n). rw (le-ltb n len past, le-ltb (1 + n) (suc len) (omega (arith, past))) refl)
        (λ (within : n < len). rw (lt-ltb n len within, lt-ltb (1 + n) (suc len) (omega (arith, within)))
        (ap Some (omega arith)))
        (at_most len n)

-- some pass: the first of them
pub position_any : {A : Type 0} (f : A → Bool) (xs : List A) → list_any f xs ≡ true →
    (k : ℕ) × (x : A) × (position f xs ≡ Some k) × (slice_get xs k ≡ Some x) × (f x ≡ true)
position_any {A = A} f xs h =
    ⊎_elim
    (λ r. r)
    (λ (r : (position f xs ≡ None) × ((j : ℕ) (y : A) → slice_get xs j ≡ Some y → f y ≡ false)).
    let w = any_told f xs h in absurd (false≢true (sym (r.1 w.0 w.1 w.2) ∙ w.3)))
    (position_cases f xs)

-- what stands at the first that passes
pub position_told : {A : Type 0} (f : A → Bool) (xs : List A) (k : ℕ) → position f xs ≡ Some k →
    (x : A) × (slice_get xs k ≡ Some x) × (f x ≡ true)
position_told {A = A} f xs k h =
    ⊎_elim
    (λ (r : (j : ℕ) × (x : A) × (position f xs ≡ Some j) × (slice_get xs j ≡ Some x) × (f x ≡ true)).
    (r.1, ap (slice_get xs) (same_Some k r.0 (sym h ∙ r.2)) ∙ r.3, r.4))
    (λ (r : (position f xs ≡ None) × ((j : ℕ) (y : A) → slice_get xs j ≡ Some y → f y ≡ false)).
    absurd (none-some k (sym r.0 ∙ h)))
    (position_cases f xs)

-- The numbers below n

pub length-below : (n : ℕ) → length (below n) ≡ n
length-below zero = refl
length-below (suc n) = grown_length (below n) n ∙ ap suc (length-below n)

pub get_below : (n k i : ℕ) → slice_get (below n) k ≡ Some i → (i ≡ k) × (i < n)
get_below zero k i h = absurd (none-some i h)
get_below (suc n) k i h =
    let long = length-below n in
    ⊎_elim
    (λ (r : slice_get (below n) k ≡ Some i). let l = get_below n k i r in (l.0, omega (arith, l.1)))
    (λ (r : (k ≡ length (below n)) × (i ≡ n)). let a = r.0 in let b = r.1 in (omega arith, omega arith))
    (get_splits (below n) n k i h)

pub below_at : (n k : ℕ) → k < n → slice_get (below n) k ≡ Some k
below_at n k l =
    let r = get_there (below n) k (omega (arith, length-below n)) in
    r.1 ∙ ap Some (get_below n k r.0 r.1).0

-- Searches

pub find_some : {A : Type 0} (f : A → Bool) (xs : List A) (k : ℕ) (x : A) → slice_get xs k ≡ Some x → f x ≡ true →
    (y : A) × (find f xs ≡ Some y)
find_some f [] k x h is = absurd (none-some x h)
find_some {A} f (z ∷ zs) zero x h is = (z, find_here f z zs (ap f (same_Some z x h) ∙ is))
find_some {A} f (z ∷ zs) (suc k) x h is =
    ⊎_elim
    {C = (y : A) × (find f (z ∷ zs) ≡ Some y)}
    (λ here. (z, find_here f z zs here))
    (λ other. let r = find_some f zs k x h is in (r.0, find_behind f z zs other ∙ r.1))
    (cases_Bool (f z))

-- one of the elements is of a sort, or none is
pub some_in : {A : Type 0} (P : A → Type 0) → ((x : A) → P x ⊎ (P x → ⊥)) → (xs : List A) →
    ((k : ℕ) × (x : A) × (slice_get xs k ≡ Some x) × P x) ⊎ ((k : ℕ) (x : A) → slice_get xs k ≡ Some x → P x → ⊥)
some_in P d [] = inr (λ k x h p. none-some x h)
some_in {A} P d (z ∷ zs) = by (d z) (some_in P d zs)
  where
    later : (P z → ⊥) → ((k : ℕ) (x : A) → slice_get zs k ≡ Some x → P x → ⊥) → (k : ℕ) (x : A) →
        slice_get (z ∷ zs) k ≡ Some x → P x → ⊥
    later off none zero x h p = off (subst P (sym (same_Some z x h)) p)
    later off none (suc k) x h p = none k x h p

    by : P z ⊎ (P z → ⊥) →
        ((k : ℕ) × (x : A) × (slice_get zs k ≡ Some x) × P x) ⊎ ((k : ℕ) (x : A) → slice_get zs k ≡ Some x → P x → ⊥) →
        ((k : ℕ) × (x : A) × (slice_get (z ∷ zs) k ≡ Some x) × P x)
        ⊎ ((k : ℕ) (x : A) → slice_get (z ∷ zs) k ≡ Some x → P x → ⊥)
    by (inl here) rest = inl (0, z, refl, here)
    by (inr off) (inl found) = inl (suc found.0, found.1, found.2, found.3)
    by (inr off) (inr none) = inr (later off none)
