-- Which blocks stand in which bucket, and words of 64 places with a bit for each.
use Rattle.std.specs.Prelude.{ℕ, ◌+◌, ◌*◌, ◌/◌, ◌%◌, ◌<◌, ◌≡◌, ◌==◌, ◌&&◌, Bool, false, true, if◌then◌else◌}
use Rattle.std.specs.Prelude.{List, nat_lt, slice_get, unwrap_or}
use Rattle.std.specs.Int.{bit_at}

-- the bit of the word is 1
abbrev pub bit : ℕ → ℕ → Bool
bit word j = bit_at word j == 1

-- how many buckets there are, how many words of 64 places each has, and the words of all buckets, in order
pub record Buckets : Type 0 where
  pub buckets : ℕ
  pub words : ℕ
  pub table : List ℕ

-- the block of the place stands in the bucket, by the bits of a table with so many words a bucket
abbrev pub has_in : List ℕ → ℕ → ℕ → ℕ → Bool
has_in table words bucket place =
    nat_lt place (64 * words) && bit (unwrap_or (slice_get table (bucket * words + place / 64)) 0) (place % 64)

-- the block of the place stands in the bucket
abbrev pub has : Buckets → ℕ → ℕ → Bool
has b = has_in b.table b.words

-- there are so many buckets of so many words, and the test says which block stands in which bucket
pub record Stands (b : Buckets) (buckets words : ℕ) (test : ℕ → ℕ → Bool) : Type 0 where
  pub buckets_are : b.buckets ≡ buckets
  pub words_are : b.words ≡ words
  pub has_is : (k p : ℕ) → has b k p ≡ test k p

-- how many words have a bit for each of so many places
abbrev pub words_for : ℕ → ℕ
words_for places = (places + 63) / 64

-- the test, which says this at one number and the same as before at all others
abbrev pub with_bit : (ℕ → Bool) → ℕ → Bool → ℕ → Bool
with_bit test k b j = if j == k then b else test j

-- the block of the place stands in the bucket from now on, or it does not
abbrev pub with_block : (ℕ → ℕ → Bool) → ℕ → ℕ → Bool → ℕ → ℕ → Bool
with_block test bucket place stands k p = if (k == bucket) && (p == place) then stands else test k p

-- if the block of the place stands in one bucket, it is moved to another
abbrev pub moved : (ℕ → ℕ → Bool) → ℕ → ℕ → ℕ → ℕ → ℕ → Bool
moved test place from to k p =
    if test from place then with_block (with_block test from place false) to place true k p else test k p

-- no block stands in any bucket
abbrev pub in_none : ℕ → ℕ → Bool
in_none k p = false

-- the blocks of the first places stand in the first bucket, and no other block stands in any
abbrev pub in_first : ℕ → ℕ → ℕ → Bool
in_first places k p = (k == 0) && nat_lt p places

-- the word has a bit for each of 64 numbers, in order: whether they pass
abbrev pub IsWord : (ℕ → Bool) → ℕ → ℕ → Type 0
IsWord test number word = (j : ℕ) → j < 64 → bit word j ≡ test (64 * number + j)

-- the number passes, and it is the lowest that does
pub record IsLowest (test : ℕ → Bool) (k : ℕ) : Type 0 where
  pub passes : test k ≡ true
  pub below : (j : ℕ) → j < k → test j ≡ false

-- the bit for a word of 64 numbers is 1 if one of them passes, and 0 if none does
abbrev pub IsMark : (ℕ → Bool) → ℕ → Bool → Type 0
IsMark test number true = (j : ℕ) × ((j < 64) × (test (64 * number + j) ≡ true))
IsMark test number false = (j : ℕ) → j < 64 → test (64 * number + j) ≡ false

-- the word of the second level has a bit for each of 64 words, in order: whether one of the word's numbers passes
abbrev pub AreMarks : (ℕ → Bool) → ℕ → ℕ → Type 0
AreMarks test group marks = (j : ℕ) → j < 64 → IsMark test (64 * group + j) (bit marks j)
