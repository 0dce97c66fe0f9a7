-- Lists of flags, and the first element of a list that passes a test, from a place on.
use Rattle.std.specs.Prelude.{ℕ, zero, suc, ◌+◌, Bool, false, List, [], ◌∷◌, Option, None, Some, drop, slice_get}
use Rattle.std.specs.List.{position_from}

-- the flag is set
abbrev pub is_set : Bool → Bool
is_set b = b

-- there is an element, and it passes the test
abbrev pub tells : {A : Type 0} → (A → Bool) → Option A → Bool
tells test None = false
tells test (Some x) = test x

-- the element at this place passes the test
abbrev pub passes : {A : Type 0} → (A → Bool) → List A → ℕ → Bool
passes test xs k = tells test (slice_get xs k)

-- the first place at or behind this one whose element passes the test
abbrev pub first_passing : {A : Type 0} → (A → Bool) → ℕ → List A → Option ℕ
first_passing test from xs = position_from test from (drop from xs)

-- what the test says of so many numbers from one on
abbrev pub flags_of : (ℕ → Bool) → (from n : ℕ) → List Bool
flags_of test from zero = []
flags_of test from (suc n) = test from ∷ flags_of test (from + 1) n
