-- How the table's fields are seen, that the free blocks, the stale ones and the bad ones are counted, and that each
-- block stands in the bucket for what it is.
use Rattle.std.specs.Prelude.{◌≡◌, count_by}
use Rattle.block_table.specs.Blocks.{Blocks, is_bad, is_free, is_stale}
use Rattle.block_table.specs.Sorted.{IsSorted}
use Rattle.block_table.specs.declared.BlockTable.TheInside.{Inside}

-- what contracts see of the table; how many blocks are free, stale or bad, and which are so, is not seen, since
-- it follows from their states
abbrev pub blocks_of : Inside → Blocks
blocks_of f = record { sizes = f.sizes; states = f.states.items; rows = f.rows.items }

-- the numbers that are kept are how many of the states are free, stale and bad, and the buckets are those of the states
pub record IsCounted (f : Inside) : Type 0 where
  pub free : f.free ≡ count_by is_free f.states.items
  pub stale : f.stale ≡ count_by is_stale f.states.items
  pub bad : f.bad ≡ count_by is_bad f.states.items
  pub sorted : IsSorted f.states.items f.sorted
