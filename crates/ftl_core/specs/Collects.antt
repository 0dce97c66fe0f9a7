-- Which block is collected, and when one is, by what the layer keeps. Describes says what that means.
use Rattle.std.specs.Prelude.{◌&&◌, ◌||◌, nat_lt, not, Bool, filter, None, Option}
use Rattle.std.specs.List.{list_any}
use Rattle.ufs_spec.specs.Disk.{Spot}
use Rattle.ufs_spec.specs.Translation.{least_of, wanted_room}
use Rattle.block_table.specs.Blocks.{is_bad}
use Rattle.block_table.specs.Lives.{gains, live_count, spots_in}
use Rattle.ftl_core.specs.Core.{Core}
use Rattle.ftl_core.specs.Moves.{bad_blocks, free_blocks, has_pin, state_of}

-- a reader keeps a page of the block, or the rest of a page is still to be read from it
abbrev pub is_pinned : Core → Spot → Bool
is_pinned c s = has_pin c s.die s.block

-- fewer blocks are free than are wanted
abbrev pub has_few_free : Core → Bool
has_few_free c = nat_lt (free_blocks c) (wanted_room c.numbers (bad_blocks c))

-- the block has no pin, and something is gained by collecting it
abbrev pub may_be_victim : Core → Spot → Bool
may_be_victim c s = not (is_pinned c s) && gains c.live (has_few_free c) s (state_of c s.die s.block)

-- of those that may be collected the one with the fewest live pages, the lowest of several
abbrev pub victim : Core → Option Spot
victim c = least_of (live_count c.live) None (filter (may_be_victim c) (spots_in c.live.sizes))

-- the block is bad, has no pin and holds live pages
abbrev pub is_bad_with_live : Core → Spot → Bool
is_bad_with_live c s = is_bad (state_of c s.die s.block) && not (is_pinned c s) && nat_lt 0 (live_count c.live s)

-- few blocks are free, or a bad block holds live pages
abbrev pub wants_collection : Core → Bool
wants_collection c = has_few_free c || nat_lt 0 (bad_blocks c) && list_any (is_bad_with_live c) (spots_in c.live.sizes)
