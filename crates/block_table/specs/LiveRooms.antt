-- How the fields of live pages are seen, that the live pages of each block are counted, and that the blocks without a
-- pin stand in the buckets for these counts.
use Rattle.std.specs.Prelude.{◌≡◌, ◌≤◌, ◌==◌, ◌+◌, ◌&&◌, Bool, ℕ, Some, List, length, slice_get, true, unwrap_or}
use Rattle.ufs_spec.specs.Disk.{Spot}
use Rattle.block_table.specs.Buckets.{has, words_for}
use Rattle.block_table.specs.Lives.{Lives, block_place, has_block, live_count}
use Rattle.block_table.specs.Sorted.{blocks_in}
use Rattle.block_table.specs.declared.live.LivePages.TheInside.{Inside}

-- what contracts see of the live pages; the counts and the buckets are not seen, since they follow from the
-- pages and the pins
abbrev pub lives_of : Inside → Lives
lives_of f = record { sizes = f.sizes; live = f.live.items; pins = f.pins.items }

-- each block's number of live pages stands at the block's place
abbrev pub AreCounted : Lives → List ℕ → Type 0
AreCounted l counts =
    (s : Spot) → has_block l.sizes s ≡ true → slice_get counts (block_place l.sizes s) ≡ Some (live_count l s)

-- the block at this place has no pin; a block that is not there counts as pinned
abbrev pub has_no_pin : List ℕ → ℕ → Bool
has_no_pin pins p = unwrap_or (slice_get pins p) 1 == 0

-- the block at this place has no pin and so many live pages
abbrev pub is_unpinned_with : List ℕ → List ℕ → ℕ → ℕ → Bool
is_unpinned_with counts pins count p = has_no_pin pins p && (unwrap_or (slice_get counts p) 0 == count)

-- the counts that are kept are those of the pages that are live, and the buckets those of the counts and the pins
pub record IsKept (f : Inside) : Type 0 where
  pub counted : AreCounted (lives_of f) f.counts.items
  pub whole : length f.pins.items ≡ blocks_in f.sizes
  pub buckets : f.unpinned_with.buckets ≡ f.sizes.pages + 1
  pub places : f.unpinned_with.words ≡ words_for (blocks_in f.sizes)
  pub by_count : (k p : ℕ) → k ≤ f.sizes.pages →
      has f.unpinned_with k p ≡ is_unpinned_with f.counts.items f.pins.items k p
  pub bucket : f.unpinned.buckets ≡ 1
  pub words : f.unpinned.words ≡ words_for (blocks_in f.sizes)
  pub unpinned : (p : ℕ) → has f.unpinned 0 p ≡ has_no_pin f.pins.items p
