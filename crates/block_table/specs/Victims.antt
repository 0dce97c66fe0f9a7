-- Which block is to be collected, as a relation.
use Rattle.std.specs.Prelude.{◌≡◌, ◌⊎◌, ◌<◌, ◌≤◌, Bool, false, true}
use Rattle.ufs_spec.specs.Disk.{Spot}
use Rattle.block_table.specs.Blocks.{Blocks, state_of}
use Rattle.block_table.specs.Lives.{Lives, has_block, is_pinned, live_count}
use Rattle.block_table.specs.declared.BlockState.TheVariants as state

-- the block has no pin, and to collect it gains something: while free blocks are scarce it is closed and not wholly
-- live, else it is bad with live pages
pub record CanBeVictim (l : Lives) (t : Blocks) (scarce : Bool) (s : Spot) : Type 0 where
  pub inside : has_block l.sizes s ≡ true
  pub unpinned : is_pinned l s ≡ false
  pub gain : ((state_of t s.die s.block ≡ state.Closed) × (scarce ≡ true) × (live_count l s < l.sizes.pages))
      ⊎ ((state_of t s.die s.block ≡ state.Bad) × (scarce ≡ false) × (0 < live_count l s))

-- blocks are counted die by die
abbrev pub IsBefore : Spot → Spot → Type 0
IsBefore a b = (a.die < b.die) ⊎ ((a.die ≡ b.die) × (a.block < b.block))

-- of the blocks that can be collected it has the fewest live pages, and it is the lowest of several
pub record IsVictim (l : Lives) (t : Blocks) (scarce : Bool) (s : Spot) : Type 0 where
  pub can : CanBeVictim l t scarce s
  pub least : (a : Spot) → CanBeVictim l t scarce a → live_count l s ≤ live_count l a
  pub lowest : (a : Spot) → CanBeVictim l t scarce a → live_count l a ≡ live_count l s → IsBefore a s → ⊥

-- no block can be collected
abbrev pub IsNoVictim : Lives → Blocks → (scarce : Bool) → Type 0
IsNoVictim l t scarce = (s : Spot) → CanBeVictim l t scarce s → ⊥
