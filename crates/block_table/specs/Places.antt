-- The places of blocks among all of them, where the search for a victim looks word by word.
use Rattle.std.specs.Prelude.{ℕ, ◌/◌, ◌%◌, ◌≡◌, ◌<◌, ◌==◌, ◌&&◌, nat_lt, Bool, false, None, Option, Some}
use Rattle.ufs_spec.specs.Disk.{Spot}
use Rattle.block_table.specs.Blocks.{Blocks}
use Rattle.block_table.specs.Buckets.{IsLowest}
use Rattle.block_table.specs.Lives.{Lives, is_bad_with_live, live_count, may_be_victim}
use Rattle.block_table.specs.Sorted.{blocks_in}
use Rattle.block_table.specs.declared.Sizes.{Sizes}

-- the block at a place among all blocks
abbrev pub spot_there : Sizes → ℕ → Spot
spot_there n p = record { die = p / n.blocks; block = p % n.blocks }

-- the block at the place has so many live pages and may be collected
abbrev pub is_victim_at : Lives → Blocks → (scarce : Bool) → ℕ → ℕ → Bool
is_victim_at l t scarce count p =
    nat_lt p (blocks_in l.sizes)
    && ((live_count l (spot_there l.sizes p) == count) && may_be_victim l t scarce (spot_there l.sizes p))

-- the block at the place is bad, has no pin and holds live pages
abbrev pub is_bad_at : Lives → Blocks → ℕ → Bool
is_bad_at l t p = nat_lt p (blocks_in l.sizes) && is_bad_with_live l t (spot_there l.sizes p)

-- the first place of a block with so many live pages that may be collected; none if there is no such block
abbrev pub IsFirstVictim : Lives → Blocks → (scarce : Bool) → ℕ → Option ℕ → Type 0
IsFirstVictim l t scarce count None = (p : ℕ) → is_victim_at l t scarce count p ≡ false
IsFirstVictim l t scarce count (Some p) = IsLowest (is_victim_at l t scarce count) p

-- that place; without it, there is none before the end
abbrev pub IsFirstVictimTo : Lives → Blocks → (scarce : Bool) → (count end : ℕ) → Option ℕ → Type 0
IsFirstVictimTo l t scarce count end None = (p : ℕ) → p < end → is_victim_at l t scarce count p ≡ false
IsFirstVictimTo l t scarce count end (Some p) = IsLowest (is_victim_at l t scarce count) p
