-- Lists by what a test says of the elements at their places, and the first element that passes.
use Rattle.std.proofs.Common.{◌≡◌, ◌∙◌, ◌⊎◌, ℕ, zero, suc, ◌+◌, ◌-◌, ◌<◌, ◌≤◌, Bool, true, false, cond, List, []}
use Rattle.std.proofs.Common.{◌∷◌, ◌++◌, Option, Some, None, ap, arith, drop, length, length-append, length-drop}
use Rattle.std.proofs.Common.{refl, sym, subst, inl, inr, replicate, take, if◌then◌else◌}
use Rattle.std.specs.Prelude.{IfSome, nat_lt, ◌==◌, slice_get, slice_set}
use Rattle.std.specs.List.{position_from}
use Rattle.std.proofs.lemmas.Bool.{cases_eq, cases_lt, eq-eqb, eqb-true, false_from_ne_true, false≢true, ltb-true}
use Rattle.std.proofs.lemmas.Option.{slice_get_past}
use Rattle.word_set.specs.Flags.{first_passing, flags_of, is_set, passes, tells}
use Rattle.word_set.specs.Tests.{IsFirstFrom, changed}

-- Tests of numbers

pub ne-eqb : (a b : ℕ) → (a ≡ b → ⊥) → (a == b) ≡ false
ne-eqb a b apart = false_from_ne_true (a == b) (λ h. apart (eqb-true a b h))

pub ge-ltb : (a b : ℕ) → b ≤ a → nat_lt a b ≡ false
ge-ltb a b l = false_from_ne_true (nat_lt a b) (λ h. let m = ltb-true a b h in omega arith)

-- what a changed test says at the number, and at each other
pub changed_there : (test : ℕ → Bool) (k j : ℕ) (b : Bool) → j ≡ k → changed test k b j ≡ b
changed_there test k j b e = ap (λ (c : Bool). if c then b else test j) (eq-eqb j k e)

pub changed_other : (test : ℕ → Bool) (k j : ℕ) (b : Bool) → (j ≡ k → ⊥) → changed test k b j ≡ test j
changed_other test k j b apart = ap (λ (c : Bool). if c then b else test j) (ne-eqb j k apart)

-- Places

pub passes_past : {A : Type 0} (f : A → Bool) (xs : List A) (k : ℕ) → length xs ≤ k → passes f xs k ≡ false
passes_past f xs k u = ap (tells f) (slice_get_past xs k u)

-- as if behind others
pub passes_drop : {A : Type 0} (f : A → Bool) (n : ℕ) (xs : List A) (k j : ℕ) → j ≡ n + k →
    passes f (drop n xs) k ≡ passes f xs j
passes_drop f zero xs k j e = ap (passes f xs) (let g : k ≡ j = omega arith in g)
passes_drop f (suc n) [] k j e = refl
passes_drop f (suc n) (x ∷ xs) k zero e = absurd (omega arith)
passes_drop f (suc n) (x ∷ xs) k (suc j) e = passes_drop f n xs k j (omega arith)

pub get_front : {A : Type 0} (xs ys : List A) (k : ℕ) → k < length xs → slice_get (xs ++ ys) k ≡ slice_get xs k
get_front [] ys k l = absurd (omega arith)
get_front (x ∷ xs) ys zero l = refl
get_front (x ∷ xs) ys (suc k) l = get_front xs ys k (omega arith)

pub get_behind : {A : Type 0} (xs ys : List A) (k j : ℕ) → j ≡ length xs + k → slice_get (xs ++ ys) j ≡ slice_get ys k
get_behind [] ys k j e = ap (slice_get ys) (let g : j ≡ k = omega arith in g)
get_behind (x ∷ xs) ys k zero e = absurd (omega arith)
get_behind (x ∷ xs) ys k (suc j) e = get_behind xs ys k j (omega arith)

pub get_take : {A : Type 0} (n : ℕ) (xs : List A) (k : ℕ) → k < n → slice_get (take n xs) k ≡ slice_get xs k
get_take zero xs k l = absurd (omega arith)
get_take (suc n) [] k l = refl
get_take (suc n) (x ∷ xs) zero l = refl
get_take (suc n) (x ∷ xs) (suc k) l = get_take n xs k (omega arith)

-- one element more
pub passes_more : {A : Type 0} (f : A → Bool) (xs : List A) (y : A) (k : ℕ) →
    passes f (xs ++ y ∷ []) k ≡ changed (passes f xs) (length xs) (f y) k
passes_more f xs y k = by (cases_lt k (length xs)) (cases_eq k (length xs))
  where
    by : (k < length xs) ⊎ (length xs ≤ k) → (k ≡ length xs) ⊎ (k ≡ length xs → ⊥) →
        passes f (xs ++ y ∷ []) k ≡ changed (passes f xs) (length xs) (f y) k
    by (inl l) e =
        ap (tells f) (get_front xs (y ∷ []) k l)
        ∙ sym (changed_other (passes f xs) (length xs) k (f y) (λ e. omega arith))
    by (inr u) (inl e) =
        ap (tells f) (get_behind xs (y ∷ []) 0 k (omega arith))
        ∙ sym (changed_there (passes f xs) (length xs) k (f y) e)
    by (inr u) (inr apart) =
        passes_past f (xs ++ y ∷ []) k (let e = length-append xs (y ∷ []) in omega arith)
        ∙ sym (passes_past f xs k u)
        ∙ sym (changed_other (passes f xs) (length xs) k (f y) apart)

-- one element changed
pub set_here : {A : Type 0} (xs : List A) (k : ℕ) (y : A) → k < length xs → slice_get (slice_set xs k y) k ≡ Some y
set_here [] k y l = absurd (omega arith)
set_here (x ∷ xs) zero y l = refl
set_here (x ∷ xs) (suc k) y l = set_here xs k y (omega arith)

pub set_other : {A : Type 0} (xs : List A) (k j : ℕ) (y : A) → (j ≡ k → ⊥) →
    slice_get (slice_set xs k y) j ≡ slice_get xs j
set_other [] k j y apart = refl
set_other (x ∷ xs) zero zero y apart = absurd (apart refl)
set_other (x ∷ xs) zero (suc j) y apart = refl
set_other (x ∷ xs) (suc k) zero y apart = refl
set_other (x ∷ xs) (suc k) (suc j) y apart = set_other xs k j y (λ e. apart (ap suc e))

pub set_length : {A : Type 0} (xs : List A) (k : ℕ) (y : A) → length (slice_set xs k y) ≡ length xs
set_length [] k y = refl
set_length (x ∷ xs) zero y = refl
set_length (x ∷ xs) (suc k) y = ap suc (set_length xs k y)

pub passes_set : {A : Type 0} (f : A → Bool) (xs : List A) (k : ℕ) (y : A) → k < length xs → (j : ℕ) →
    passes f (slice_set xs k y) j ≡ changed (passes f xs) k (f y) j
passes_set f xs k y l j = by (cases_eq j k)
  where
    by : (j ≡ k) ⊎ (j ≡ k → ⊥) → passes f (slice_set xs k y) j ≡ changed (passes f xs) k (f y) j
    by (inl e) =
        ap (passes f (slice_set xs k y)) e ∙ ap (tells f) (set_here xs k y l)
        ∙ sym (changed_there (passes f xs) k j (f y) e)
    by (inr apart) =
        ap (tells f) (set_other xs k j y apart) ∙ sym (changed_other (passes f xs) k j (f y) apart)

-- the first element leaves, and a flag that is not set comes behind all
pub passes_shifted : (xs : List Bool) (k : ℕ) → passes is_set (drop 1 xs ++ false ∷ []) k ≡ passes is_set xs (k + 1)
passes_shifted xs k =
    passes_more is_set (drop 1 xs) false k ∙ by (cases_eq k (length (drop 1 xs)))
  where
    by : (k ≡ length (drop 1 xs)) ⊎ (k ≡ length (drop 1 xs) → ⊥) →
        changed (passes is_set (drop 1 xs)) (length (drop 1 xs)) false k ≡ passes is_set xs (k + 1)
    by (inl e) =
        changed_there (passes is_set (drop 1 xs)) (length (drop 1 xs)) k false e
        ∙ sym (passes_past is_set xs (k + 1) (let m = length-drop 1 xs in omega arith))
    by (inr apart) =
        changed_other (passes is_set (drop 1 xs)) (length (drop 1 xs)) k false apart
        ∙ passes_drop is_set 1 xs k (k + 1) (omega arith)

-- lists of flags are equal that are as long and set at the same places
pub same_flags : (xs ys : List Bool) → length xs ≡ length ys →
    ((k : ℕ) → passes is_set xs k ≡ passes is_set ys k) → xs ≡ ys
same_flags [] [] e same = refl
same_flags [] (y ∷ ys) e same = absurd (omega (arith, e))
same_flags (x ∷ xs) [] e same = absurd (omega (arith, e))
same_flags (x ∷ xs) (y ∷ ys) e same =
    let rest = same_flags xs ys (omega (arith, e)) (λ k. same (suc k)) in
    (λ i. same 0 i ∷ rest i)

-- Flags by a test

pub flags_length : (test : ℕ → Bool) (from n : ℕ) → length (flags_of test from n) ≡ n
flags_length test from zero = refl
flags_length test from (suc n) = ap suc (flags_length test (from + 1) n)

pub flags_get : (test : ℕ → Bool) (from n k j : ℕ) → k < n → j ≡ from + k →
    slice_get (flags_of test from n) k ≡ Some (test j)
flags_get test from zero k j l e = absurd (omega arith)
flags_get test from (suc n) zero j l e = ap (λ (m : ℕ). Some (test m)) (let g : from ≡ j = omega arith in g)
flags_get test from (suc n) (suc k) j l e = flags_get test (from + 1) n k j (omega arith) (omega arith)

pub flags_pass : (test : ℕ → Bool) (n : ℕ) → ((p : ℕ) → n ≤ p → test p ≡ false) → (k : ℕ) →
    passes is_set (flags_of test 0 n) k ≡ test k
flags_pass test n below k = by (cases_lt k n)
  where
    by : (k < n) ⊎ (n ≤ k) → passes is_set (flags_of test 0 n) k ≡ test k
    by (inl l) = ap (tells is_set) (flags_get test 0 n k k l (omega arith))
    by (inr u) =
        passes_past is_set (flags_of test 0 n) k (let e = flags_length test 0 n in omega arith) ∙ sym (below k u)

pub flags_none : (test : ℕ → Bool) (from n : ℕ) → ((p : ℕ) → test p ≡ false) → flags_of test from n ≡ replicate n false
flags_none test from zero none = refl
flags_none test from (suc n) none =
    let rest = flags_none test (from + 1) n none in
    (λ i. none from i ∷ rest i)

pub flags_set : (test : ℕ → Bool) (n k : ℕ) (b : Bool) → ((p : ℕ) → n ≤ p → test p ≡ false) → k < n →
    flags_of (changed test k b) 0 n ≡ slice_set (flags_of test 0 n) k b
flags_set test n k b below l =
    same_flags (flags_of (changed test k b) 0 n) (slice_set (flags_of test 0 n) k b)
    (flags_length (changed test k b) 0 n ∙ sym (set_length (flags_of test 0 n) k b ∙ flags_length test 0 n)) (λ j.
    flags_pass (changed test k b) n (λ p u. changed_other test k p b (λ e. omega arith) ∙ below p u) j
    ∙ sym (ap (λ (f : ℕ → Bool). changed f k b j) (λ i p. flags_pass test n below p i))
    ∙ sym (passes_set is_set (flags_of test 0 n) k b (let e = flags_length test 0 n in omega arith) j))

-- The first that passes

none_at : {A : Type 0} (f : A → Bool) (i : ℕ) (xs : List A) → ((k : ℕ) → passes f xs k ≡ false) →
    position_from f i xs ≡ None
none_at f i [] all = refl
none_at f i (x ∷ xs) all =
    ap (λ (b : Bool). cond b (Some i) (position_from f (i + 1) xs)) (all 0) ∙ none_at f (i + 1) xs (λ k. all (suc k))

first_at : {A : Type 0} (f : A → Bool) (i : ℕ) (xs : List A) (m k : ℕ) → k ≡ i + m → passes f xs m ≡ true →
    ((j : ℕ) → j < m → passes f xs j ≡ false) → position_from f i xs ≡ Some k
first_at f i [] m k e is before = absurd (false≢true is)
first_at f i (x ∷ xs) zero k e is before =
    ap (λ (b : Bool). cond b (Some i) (position_from f (i + 1) xs)) is
    ∙ ap (λ (n : ℕ). Some n) (let g : i ≡ k = omega arith in g)
first_at f i (x ∷ xs) (suc m) k e is before =
    ap (λ (b : Bool). cond b (Some i) (position_from f (i + 1) xs)) (before 0 (omega arith))
    ∙ first_at f (i + 1) xs m k (omega arith) is (λ j l. before (suc j) (omega arith))

pub first_is : {A : Type 0} (f : A → Bool) (xs : List A) (from : ℕ) (o : Option ℕ) →
    IsFirstFrom (passes f xs) from o → o ≡ first_passing f from xs
first_is f xs from None none =
    sym (none_at f from (drop from xs) (λ k. passes_drop f from xs k (from + k) refl ∙ none (from + k) (omega arith)))
first_is f xs from (Some k) first =
    let u = first.behind in
    sym (first_at f from (drop from xs) (k - from) k (omega arith)
    (passes_drop f from xs (k - from) k (omega arith) ∙ first.passes)
    (λ j l. passes_drop f from xs j (from + j) refl ∙ first.before (from + j) (omega arith) (omega arith)))

abbrev IsAt : {A : Type 0} → (A → Bool) → List A → ℕ → Option ℕ → Type 0
IsAt f xs i None = (j : ℕ) → passes f xs j ≡ false
IsAt f xs i (Some k) =
    (m : ℕ) × (k ≡ i + m) × (passes f xs m ≡ true) × ((j : ℕ) → j < m → passes f xs j ≡ false)

is_at : {A : Type 0} (f : A → Bool) (xs : List A) (i : ℕ) → IsAt f xs i (position_from f i xs)
is_at f [] i = λ j. refl
is_at f (x ∷ xs) i = by (f x) refl (position_from f (i + 1) xs) (is_at f xs (i + 1))
  where
    by : (b : Bool) → f x ≡ b → (o : Option ℕ) → IsAt f xs (i + 1) o → IsAt f (x ∷ xs) i (cond b (Some i) o)
    by true e o t = (0, omega arith, e, λ (j : ℕ) (l : j < 0). absurd (omega arith))
    by false e None t = all
      where
        all : (j : ℕ) → passes f (x ∷ xs) j ≡ false
        all zero = e
        all (suc j) = t j
    by false e (Some k) t = (suc t.0, (let g = t.1 in omega arith), t.2, before)
      where
        before : (j : ℕ) → j < suc t.0 → passes f (x ∷ xs) j ≡ false
        before zero l = e
        before (suc j) l = t.3 j (omega arith)

pub first_told : {A : Type 0} (f : A → Bool) (xs : List A) (from : ℕ) (o : Option ℕ) → o ≡ first_passing f from xs →
    IsFirstFrom (passes f xs) from o
first_told f xs from o e = by o (subst (IsAt f (drop from xs) from) (sym e) (is_at f (drop from xs) from))
  where
    back : (j : ℕ) → from ≤ j → passes f xs j ≡ passes f (drop from xs) (j - from)
    back j u = sym (passes_drop f from xs (j - from) j (omega arith))

    by : (o : Option ℕ) → IsAt f (drop from xs) from o → IsFirstFrom (passes f xs) from o
    by None t = λ j u. back j u ∙ t (j - from)
    by (Some k) t =
        let g = t.1 in
        record {
          behind = omega arith;
          passes = back k (omega arith)
              ∙ ap (passes f (drop from xs)) (let h : k - from ≡ t.0 = omega arith in h) ∙ t.2;
          before = λ j u l. back j u ∙ t.3 (j - from) (omega arith);
        }

-- what is found stands in the list
pub first_less : {A : Type 0} (f : A → Bool) (xs : List A) (from : ℕ) (o : Option ℕ) → o ≡ first_passing f from xs →
    IfSome o (λ k. k < length xs)
first_less f xs from o e = by o (first_told f xs from o e)
  where
    by : (o : Option ℕ) → IsFirstFrom (passes f xs) from o → IfSome o (λ k. k < length xs)
    by None t = tt
    by (Some k) t = inner (cases_lt k (length xs))
      where
        inner : (k < length xs) ⊎ (length xs ≤ k) → k < length xs
        inner (inl l) = l
        inner (inr u) = absurd (false≢true (sym (passes_past f xs k u) ∙ t.passes))

-- tests that say the same of two lists find the same first place
pub same_first : {A B : Type 0} (f : A → Bool) (g : B → Bool) (xs : List A) (ys : List B) (from : ℕ) →
    ((k : ℕ) → passes f xs k ≡ passes g ys k) → first_passing f from xs ≡ first_passing g from ys
same_first f g xs ys from same =
    first_is g ys from (first_passing f from xs)
    (subst (λ (test : ℕ → Bool). IsFirstFrom test from (first_passing f from xs)) (λ i k. same k i)
    (first_told f xs from (first_passing f from xs) refl))
