-- The lowest block of a die that is so and has no pin.
use Rattle.std.specs.Prelude.{ℕ, ◌<◌, ◌≡◌, ◌&&◌, nat_le, nat_lt, not, Bool, false, None, Option, Some}
use Rattle.block_table.specs.Blocks.{Blocks, state_of}
use Rattle.block_table.specs.Buckets.{IsLowest}
use Rattle.block_table.specs.Lives.{Lives, has_block, is_pinned, spot}
use Rattle.block_table.specs.Places.{spot_there}
use Rattle.block_table.specs.Sorted.{blocks_in, same_state, state_there}
use Rattle.block_table.specs.declared.BlockState.{BlockState}

-- the die has the block, which is so and has no pin
abbrev pub may_be_used : Lives → Blocks → ℕ → BlockState → ℕ → Bool
may_be_used l t die s block =
    has_block l.sizes (spot die block)
    && (same_state (state_of t die block) s && not (is_pinned l (spot die block)))

-- the lowest block of the die that is so and has no pin; none if there is no such block
abbrev pub IsLowestBlock : Lives → Blocks → ℕ → BlockState → Option ℕ → Type 0
IsLowestBlock l t die s None = (block : ℕ) → may_be_used l t die s block ≡ false
IsLowestBlock l t die s (Some block) = IsLowest (may_be_used l t die s) block

-- the block at a place from this one on is so and has no pin
abbrev pub is_used_from : Lives → Blocks → BlockState → ℕ → ℕ → Bool
is_used_from l t s start p =
    nat_le start p
    && (nat_lt p (blocks_in l.sizes)
    && (same_state (state_there t l.sizes p) s && not (is_pinned l (spot_there l.sizes p))))

-- the first place from one on of a block that is so and has no pin; without it, there is none before the end
abbrev pub IsFirstUsed : Lives → Blocks → BlockState → ℕ → ℕ → Option ℕ → Type 0
IsFirstUsed l t s start end None = (p : ℕ) → p < end → is_used_from l t s start p ≡ false
IsFirstUsed l t s start end (Some p) = IsLowest (is_used_from l t s start) p
