-- What the block table says of each block, and what a job's end makes of it (this profile).
use Rattle.std.specs.Prelude.{ℕ, ◌+◌, ◌-◌, ◌*◌, nat_lt, Bool, true, false, if◌then◌else◌, List, slice_get, slice_set}
use Rattle.std.specs.Prelude.{None, Option, Some, unwrap_or}
use Rattle.block_table.specs.declared.BlockState.{BlockState}
use Rattle.block_table.specs.declared.BlockState.TheVariants as state
use Rattle.block_table.specs.declared.rows.DieRow.{DieRow}
use Rattle.block_table.specs.declared.rows.OpenBlock.{OpenBlock}
use Rattle.block_table.specs.declared.Sizes.{Sizes}
use Rattle.block_table.specs.Rows.{rows_failed, rows_filling, rows_in_flight}

-- what each block is, in order by die and block, and what is known of each die
pub record Blocks : Type 0 where
  pub sizes : Sizes
  pub states : List BlockState
  pub rows : List DieRow

-- the block holds nothing that is needed, so it may be erased
abbrev pub is_free : BlockState → Bool
is_free state.Free = true
is_free state.Stale = true
is_free state.Ready = true
is_free _ = false

-- pages of the block open and none is needed, so it is erased before all else
abbrev pub is_stale : BlockState → Bool
is_stale state.Stale = true
is_stale _ = false

-- a program or an erase of the block failed, or it was bad from the start; it is never filled again
abbrev pub is_bad : BlockState → Bool
is_bad state.Bad = true
is_bad _ = false

-- where the state of a block is in the list, which goes by die and then by block
abbrev pub block_index : Blocks → ℕ → ℕ → ℕ
block_index t die block = die * t.sizes.blocks + block

-- what the block is; a block that is not there counts as bad, so nothing is written to it
abbrev pub state_of : Blocks → ℕ → ℕ → BlockState
state_of t die block = unwrap_or (slice_get t.states (block_index t die block)) state.Bad

-- a die that fills this block and has no job
abbrev pub row_after : Option OpenBlock → DieRow
row_after o = record { filling = o; flight = None }

-- the block is so from now on, and the die fills that one and has no job
abbrev pub changed : Blocks → ℕ → ℕ → BlockState → Option OpenBlock → Blocks
changed t die block s o =
    record t { states = slice_set t.states (block_index t die block) s; rows = slice_set t.rows die (row_after o) }

-- the block was erased and may be filled; the die has no job, and fills what it filled before
abbrev pub erased_at : Blocks → ℕ → ℕ → Blocks
erased_at t die block =
    record t {
      states = slice_set t.states (block_index t die block) state.Ready;
      rows = rows_in_flight t.rows die None;
    }

-- the die fills the block from its first page on, and its job stays as it is
abbrev pub opened_at : Blocks → ℕ → ℕ → Blocks
opened_at t die block =
    record t {
      states = slice_set t.states (block_index t die block) state.Open;
      rows = rows_filling t.rows die (Some (record { block = block; next = 0 }));
    }

-- the die's open block has one page less, and is closed with its last
abbrev pub page_written : Blocks → ℕ → Option OpenBlock → Blocks
page_written t die None = record t { rows = slice_set t.rows die (row_after None) }
page_written t die (Some o) =
    if nat_lt o.next (t.sizes.pages - 1)
    then record t { rows = slice_set t.rows die (row_after (Some (record { block = o.block; next = o.next + 1 }))) }
    else changed t die o.block state.Closed None

-- a block that is not bad is stale after its collection
abbrev pub freed_state : BlockState → BlockState
freed_state state.Bad = state.Bad
freed_state _ = state.Stale

-- the block's collection is over: it is stale from now on, unless it is bad
abbrev pub freed : Blocks → ℕ → ℕ → Blocks
freed t die block =
    record t { states = slice_set t.states (block_index t die block) (freed_state (state_of t die block)) }

-- the block is bad; the die has no job, and fills the block no more
abbrev pub gone_bad : Blocks → ℕ → ℕ → Blocks
gone_bad t die block =
    record t {
      states = slice_set t.states (block_index t die block) state.Bad;
      rows = rows_failed t.rows die block;
    }
