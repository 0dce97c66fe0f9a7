-- The blocks of a table by what they are: a bucket for each state, and words of 64 blocks that are so.
use Rattle.std.specs.Prelude.{ℕ, ◌+◌, ◌*◌, ◌/◌, ◌%◌, ◌<◌, ◌≤◌, ◌≡◌, ◌==◌, Bool, false, List, length, slice_get}
use Rattle.std.specs.Prelude.{None, Option, Some}
use Rattle.block_table.specs.Blocks.{Blocks, state_of}
use Rattle.block_table.specs.Buckets.{Buckets, Stands, bit, words_for}
use Rattle.block_table.specs.declared.BlockState.{BlockState}
use Rattle.block_table.specs.declared.BlockState.TheVariants as state
use Rattle.block_table.specs.declared.Sizes.{Sizes}

-- the bucket for blocks that are so
abbrev pub bucket_of : BlockState → ℕ
bucket_of state.Free = 0
bucket_of state.Stale = 1
bucket_of state.Ready = 2
bucket_of state.Open = 3
bucket_of state.Closed = 4
bucket_of state.Bad = 5

-- compares two states
abbrev pub same_state : BlockState → BlockState → Bool
same_state a b = bucket_of a == bucket_of b

-- the block, if there is one, stands in this bucket
abbrev pub is_for : ℕ → Option BlockState → Bool
is_for k None = false
is_for k (Some s) = bucket_of s == k

-- each block of the list stands in the bucket for what it is, and in no other
abbrev pub IsSorted : List BlockState → Buckets → Type 0
IsSorted states b = Stands b 6 (words_for (length states)) (λ k p. is_for k (slice_get states p))

-- how many blocks all dies have
abbrev pub blocks_in : Sizes → ℕ
blocks_in n = n.dies * n.blocks

-- a device of these sizes has its blocks at the places that they have in the table
pub record HasAll (t : Blocks) (n : Sizes) : Type 0 where
  pub row : n.blocks ≡ t.sizes.blocks
  pub all : blocks_in n ≤ length t.states

-- what the block at a place among all blocks of a device of these sizes is to the table
abbrev pub state_there : Blocks → Sizes → ℕ → BlockState
state_there t n p = state_of t (p / n.blocks) (p % n.blocks)

-- the word has a bit for each of 64 blocks of a device of these sizes: whether the block is so
abbrev pub IsWordOf : Blocks → BlockState → Sizes → ℕ → ℕ → Type 0
IsWordOf t s n number word =
    (j : ℕ) → j < 64 → 64 * number + j < blocks_in n →
    bit word j ≡ same_state (state_there t n (64 * number + j)) s
