-- Which pages are live, which blocks are pinned, and which block is to be collected (this profile).
use Rattle.std.specs.Prelude.{ℕ, ◌+◌, ◌*◌, ◌&&◌, nat_le, nat_lt, not, Bool, false, if◌then◌else◌, List}
use Rattle.std.specs.Prelude.{filter, length, map, slice_get, slice_set, Option, None, unwrap_or}
use Rattle.std.specs.List.{flat_map}
use Rattle.ufs_spec.specs.Disk.{Spot, place_in, spot_of}
use Rattle.ufs_spec.specs.Keys.{below}
use Rattle.ufs_spec.specs.Translation.{least_of}
use Rattle.ufs_spec.specs.declared.flash.Place.{Place}
use Rattle.block_table.specs.Blocks.{Blocks, is_bad, state_of}
use Rattle.block_table.specs.declared.BlockState.{BlockState}
use Rattle.block_table.specs.declared.BlockState.TheVariants as state
use Rattle.block_table.specs.declared.Sizes.{Sizes}
use Rattle.block_table.specs.declared.live.BlockAt.{BlockAt}

-- whether each page is live, in order by die, block and page, and how many pins each block has, in order by die and
-- block
pub record Lives : Type 0 where
  pub sizes : Sizes
  pub live : List Bool
  pub pins : List ℕ

-- a block by the number of its die and its own number there
abbrev pub spot : ℕ → ℕ → Spot
spot die block = record { die = die; block = block }

-- a block of the code's type in the words of the definitions
abbrev pub spot_at : BlockAt → Spot
spot_at b = record { die = b.die; block = b.block }

-- the blocks of one die, in order
abbrev pub spots_of_die : Sizes → ℕ → List Spot
spots_of_die n die = map (λ block. record { die = die; block = block }) (below n.blocks)

-- all blocks of all dies, by die and then by block: of several victims the first in this order is taken
abbrev pub spots_in : Sizes → List Spot
spots_in n = flat_map (spots_of_die n) (below n.dies)

-- the dies have a block of these numbers
abbrev pub has_block : Sizes → Spot → Bool
has_block n s = nat_lt s.die n.dies && nat_lt s.block n.blocks

-- the dies have a page of these numbers
abbrev pub has_page : Sizes → Place → Bool
has_page n p = has_block n (spot_of p) && nat_lt p.page n.pages

-- where a block is among all blocks, by die, then by block
abbrev pub block_place : Sizes → Spot → ℕ
block_place n s = s.die * n.blocks + s.block

-- where a page is among all pages, by die, then by block, then by page
abbrev pub page_place : Sizes → Place → ℕ
page_place n p = block_place n (spot_of p) * n.pages + p.page

-- Live pages

-- the page is marked as live: a content that is needed stands on it, so it is copied before its block may go
abbrev pub is_live : Lives → Place → Bool
is_live l p = has_page l.sizes p && unwrap_or (slice_get l.live (page_place l.sizes p)) false

-- all pages of a block, in order
abbrev pub places_in : Sizes → Spot → List Place
places_in n s = map (place_in s) (below n.pages)

-- the live pages of a block, in the order of its pages
abbrev pub live_places : Lives → Spot → List Place
live_places l s = filter (is_live l) (places_in l.sizes s)

-- how many pages would have to be copied if the block were collected
abbrev pub live_count : Lives → Spot → ℕ
live_count l s = length (live_places l s)

-- the page is live, and is this one or stands after it
abbrev pub live_from : Lives → ℕ → Place → Bool
live_from l from p = nat_le from p.page && is_live l p

-- the page is live from now on, or it is not
abbrev pub with_live : Lives → Place → Bool → Lives
with_live l p b =
    record l { live = if has_page l.sizes p then slice_set l.live (page_place l.sizes p) b else l.live }

-- Pins

-- how many pins of readers are on pages of the block; a block that is not there has none
abbrev pub pins_of : Lives → Spot → ℕ
pins_of l s = if has_block l.sizes s then unwrap_or (slice_get l.pins (block_place l.sizes s)) 0 else 0

-- a reader keeps a page of the block, so the block may not be collected
abbrev pub is_pinned : Lives → Spot → Bool
is_pinned l s = nat_lt 0 (pins_of l s)

-- the block has so many pins from now on; a block that is not there gets none
abbrev pub with_pins : Lives → Spot → ℕ → Lives
with_pins l s n =
    record l { pins = if has_block l.sizes s then slice_set l.pins (block_place l.sizes s) n else l.pins }

-- Collection

-- while free blocks are scarce a closed block that is not wholly live; else a bad block with live pages
abbrev pub gains : Lives → (scarce : Bool) → Spot → BlockState → Bool
gains l scarce s state.Closed = scarce && nat_lt (live_count l s) l.sizes.pages
gains l scarce s state.Bad = not scarce && nat_lt 0 (live_count l s)
gains l scarce s _ = false

-- the block may be collected: it has no pin, and something is gained by it
abbrev pub may_be_victim : Lives → Blocks → (scarce : Bool) → Spot → Bool
may_be_victim l t scarce s = not (is_pinned l s) && gains l scarce s (state_of t s.die s.block)

-- a bad block without a pin that holds live pages
abbrev pub is_bad_with_live : Lives → Blocks → Spot → Bool
is_bad_with_live l t s = is_bad (state_of t s.die s.block) && not (is_pinned l s) && nat_lt 0 (live_count l s)

-- the block to be collected: of those that gain, the one with the fewest live pages, the lowest of several
abbrev pub victim : Lives → Blocks → (scarce : Bool) → Option Spot
victim l t scarce = least_of (live_count l) None (filter (may_be_victim l t scarce) (spots_in l.sizes))
