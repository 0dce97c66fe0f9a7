-- How the fields of buckets are seen, and that the blocks of each bucket are counted.
use Rattle.std.specs.Prelude.{ℕ, ◌+◌, ◌*◌, ◌^◌, ◌<◌, ◌≤◌, ◌≡◌, Some, count_by, length, slice_get}
use Rattle.ufs_spec.specs.Keys.{below}
use Rattle.block_table.specs.Buckets.{Buckets, IsMark, has_in, words_for}
use Rattle.block_table.specs.declared.buckets.BlockBuckets.TheInside.{Inside}

-- what contracts see of the buckets; how many blocks stand in each, and which words have any, is not seen, since it
-- follows from the table
abbrev pub buckets_of : Inside → Buckets
buckets_of f = record { buckets = length f.held.items; words = f.words; table = f.table.items }

-- there is a word for each place of each bucket, the number that is kept of a bucket is how many stand in it, and the
-- second level has a bit for each word of each bucket: whether a block of the word stands there
pub record IsHeld (f : Inside) : Type 0 where
  pub whole : length f.table.items ≡ length f.held.items * f.words
  pub few : 64 * f.words ≤ 2 ^ 63 + 63
  pub counted : (k : ℕ) → k < length f.held.items →
      slice_get f.held.items k ≡ Some (count_by (has_in f.table.items f.words k) (below (64 * f.words)))
  pub level : length f.marks.items ≡ length f.held.items * words_for f.words
  pub marked : (k w : ℕ) →
      IsMark (has_in f.table.items f.words k) w (has_in f.marks.items (words_for f.words) k w)
