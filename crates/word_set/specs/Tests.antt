-- Tests of numbers, the first number that passes one, and the bits of words.
use Rattle.std.specs.Prelude.{ℕ, ◌/◌, ◌%◌, ◌<◌, ◌≤◌, ◌≡◌, ◌==◌, Bool, false, true, if◌then◌else◌, Option, None, Some}
use Rattle.std.specs.Prelude.{List, slice_get, unwrap_or}
use Rattle.std.specs.Int.{bit_at}

-- the bit of the word is 1
abbrev pub bit : ℕ → ℕ → Bool
bit word j = bit_at word j == 1

-- the bit of the number is 1, in words of 64
abbrev pub has_in : List ℕ → ℕ → Bool
has_in words p = bit (unwrap_or (slice_get words (p / 64)) 0) (p % 64)

-- the test, which says this at one number and the same as before at all others
abbrev pub changed : (ℕ → Bool) → ℕ → Bool → ℕ → Bool
changed test k b j = if j == k then b else test j

-- the number passes and is not below the one from which on it is looked for, and no number between these passes
pub record IsFirst (test : ℕ → Bool) (from k : ℕ) : Type 0 where
  pub behind : from ≤ k
  pub passes : test k ≡ true
  pub before : (j : ℕ) → from ≤ j → j < k → test j ≡ false

-- that number, and None where none passes from this one on
abbrev pub IsFirstFrom : (ℕ → Bool) → (from : ℕ) → Option ℕ → Type 0
IsFirstFrom test from None = (j : ℕ) → from ≤ j → test j ≡ false
IsFirstFrom test from (Some k) = IsFirst test from k

-- that number among those below an end, and None where none of them passes
abbrev pub IsFirstWithin : (ℕ → Bool) → (from end : ℕ) → Option ℕ → Type 0
IsFirstWithin test from end None = (j : ℕ) → from ≤ j → j < end → test j ≡ false
IsFirstWithin test from end (Some k) = IsFirst test from k × (k < end)
