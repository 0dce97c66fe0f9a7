-- How the fields of a set in words are seen, and which words there are.
use Rattle.std.specs.Prelude.{ℕ, ◌+◌, ◌/◌, ◌^◌, ◌<◌, ◌≤◌, ◌≡◌, Bool, List, false, length}
use Rattle.word_set.specs.Flags.{flags_of}
use Rattle.word_set.specs.Tests.{has_in}
use Rattle.word_set.specs.declared.words.WordSet.TheInside.{Inside}

-- what contracts see of the set: whether each number below the size is in
abbrev pub numbers_of : Inside → List Bool
numbers_of f = flags_of (has_in f.words.items) 0 f.size

-- there is a word for each 64 numbers and one for the size, and no number that is not below the size is in
pub record IsKept (f : Inside) : Type 0 where
  pub few : f.size < 2 ^ 64
  pub whole : length f.words.items ≡ f.size / 64 + 1
  pub below : (p : ℕ) → f.size ≤ p → has_in f.words.items p ≡ false
