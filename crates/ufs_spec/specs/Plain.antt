-- What a device holds, as a host sees it, and what each command makes of it (JESD220, 10.8 logical units, 12.4 RPMB;
-- the commands are this profile's). There are no pages, numbers or tables in it.
use Rattle.std.specs.Prelude.{Bool, List, None, Option, Some, [], drop, false, fold, length, map, replicate}
use Rattle.std.specs.Prelude.{slice_index_or, slice_set, sum, take, true, ℕ, ◌*◌, ◌++◌, ◌+◌, ◌-◌, ◌<◌, ◌^◌, ◌≡◌, ◌≤◌}
unfoldable pub use Rattle.ufs_bytes.specs.Blocks.{zero_block}
use Rattle.ufs_spec.specs.declared.configs.Numbers.{Numbers}
use Rattle.ufs_spec.specs.Counting.{below}
use Rattle.ufs_spec.specs.Commands.{Command, Write, Zero, SetKey, RpmbWrite, SetBoot, SetPermanent}

-- how many RPMB regions are numbered (JESD220, 12.4.2). One whose area has no bytes is not there
abbrev pub regions : ℕ
regions = 4

-- what an RPMB region holds (JESD220, 12.4): its key, once it is programmed, the bytes of its area, and its write
-- counter
pub record Region : Type 0 where
  pub key : Option (List ℕ)
  pub area : List ℕ
  pub counter : ℕ

-- what a device holds, as a host sees it
pub record Plain : Type 0 where
  -- the blocks of each unit, by their addresses
  pub units : List (List (List ℕ))
  -- the boot setting, bBootLunEn: 0 none, 1 A, 2 B
  pub boot : ℕ
  -- fPermanentWPEn: whether units are protected for ever
  pub permanent : Bool
  -- the RPMB regions, by their numbers
  pub regions : List Region

-- ## A new device

-- how many steps of 128 KiB the area of an RPMB region has; none if the region is not there
abbrev pub steps_of : Numbers → ℕ → ℕ
steps_of n region = slice_index_or n.rpmb region 0

-- how many steps the areas of all RPMB regions have
abbrev pub all_steps : Numbers → ℕ
all_steps n = sum (map (steps_of n) (below regions))

-- how many bytes the area of an RPMB region has
abbrev pub area_len : Numbers → ℕ → ℕ
area_len n region = 131072 * steps_of n region

-- the area of a new RPMB region
unfoldable pub zero_area : Numbers → ℕ → List ℕ
zero_area n region = replicate (area_len n region) 0

-- a new RPMB region: no key, a zero area and counter 0
abbrev pub new_region : Numbers → ℕ → Region
new_region n region = record { key = None; area = zero_area n region; counter = 0 }

-- a new device: zero blocks, boot setting 0, no protection and new RPMB regions
abbrev pub zero : Numbers → Plain
zero n =
    record {
      units = map (λ u. replicate u.blocks zero_block) n.units.items;
      boot = 0;
      permanent = false;
      regions = map (new_region n) (below regions);
    }

-- ## Commands

-- a list with its elements from a place on replaced by new ones: all else stays, and so does its length if they fit
abbrev pub with_part : {X : Type 0} → ℕ → List X → List X → List X
with_part at new old = take at old ++ (new ++ drop (at + length new) old)

-- the blocks of a unit; none if there is no such unit
abbrev pub unit_of : ℕ → Plain → List (List ℕ)
unit_of unit p = slice_index_or p.units unit []

-- the block at an address of a unit; the empty list if there is none
abbrev pub block_at : ℕ → ℕ → Plain → List ℕ
block_at unit address p = slice_index_or (unit_of unit p) address []

-- the blocks of a unit from an address on are replaced; all else stays
abbrev pub with_blocks : ℕ → ℕ → List (List ℕ) → Plain → Plain
with_blocks unit address blocks p =
    record p { units = slice_set p.units unit (with_part address blocks (unit_of unit p)) }

-- an RPMB region without key, bytes and writes: it stands where there is none
abbrev pub empty_region : Region
empty_region = record { key = None; area = []; counter = 0 }

-- the RPMB region of a number
abbrev pub region_of : Plain → ℕ → Region
region_of p number = slice_index_or p.regions number empty_region

-- an RPMB region is replaced; all else stays
abbrev pub with_region : ℕ → Region → Plain → Plain
with_region number region p = record p { regions = slice_set p.regions number region }

-- what a command makes of the RPMB region that it names: a key is set, or a write puts its bytes in place and adds one
-- to the counter. An address counts blocks of 256 bytes. Other commands name no region
abbrev pub changed_by : Region → Command → Region
changed_by region (SetKey number bytes) = record region { key = Some bytes }
changed_by region (RpmbWrite number address bytes) =
    record region { area = with_part (256 * address) bytes region.area; counter = region.counter + 1 }
changed_by region (Write unit address blocks) = region
changed_by region (Zero unit address count) = region
changed_by region (SetBoot boot) = region
changed_by region SetPermanent = region

-- what one command makes of a plain state: the named blocks, region or field are replaced, and all else stays
abbrev pub apply : Plain → Command → Plain
apply p (Write unit address blocks) = with_blocks unit address blocks p
apply p (Zero unit address count) = with_blocks unit address (replicate count zero_block) p
apply p (SetKey number bytes) = with_region number (changed_by (region_of p number) (SetKey number bytes)) p
apply p (RpmbWrite number address bytes) =
    with_region number (changed_by (region_of p number) (RpmbWrite number address bytes)) p
apply p (SetBoot boot) = record p { boot = boot }
apply p SetPermanent = record p { permanent = true }

-- what the commands make of it, one after another
abbrev pub after : Plain → List Command → Plain
after base commands = fold apply base commands

-- ## Which commands fit

-- how many blocks each unit has, and how many bytes the area of each RPMB region; no command changes it
pub record Shape : Type 0 where
  pub blocks : List ℕ
  pub areas : List ℕ

-- the shape that every device of a configuration has
abbrev pub shape_of_numbers : Numbers → Shape
shape_of_numbers n =
    record { blocks = map (λ u. u.blocks) n.units.items; areas = map (area_len n) (below regions) }

-- the shape that a plain state has, by its own blocks and bytes
abbrev pub shape_of : Plain → Shape
shape_of p = record { blocks = map length p.units; areas = map (λ r. length r.area) p.regions }

-- how many blocks a command may have at most, whatever the configuration (this profile)
abbrev pub greatest_command : ℕ
greatest_command = 128

-- one to `greatest_command` blocks, all of them in the unit
abbrev pub IsBlocksOf : Shape → ℕ → ℕ → ℕ → Type 0
IsBlocksOf s unit address count =
    (unit < length s.blocks) × (1 ≤ count) × (count ≤ greatest_command)
    × (address + count ≤ slice_index_or s.blocks unit 0)

-- 1 to 8 blocks of 256 bytes, all of them in the area of an RPMB region
abbrev pub IsAreaPart : Shape → ℕ → ℕ → ℕ → Type 0
IsAreaPart s region address len =
    ((count : ℕ) × (len ≡ 256 * count) × (1 ≤ count) × (count ≤ 8))
    × (256 * address + len ≤ slice_index_or s.areas region 0)

-- an RPMB region is there: its area has bytes
abbrev pub HasRegion : Shape → ℕ → Type 0
HasRegion s region = (region < regions) × (0 < slice_index_or s.areas region 0)

-- the command names only what there is: blocks in a unit, a region, bytes in its area; a key has 32 bytes, a boot
-- setting is at most 2
abbrev pub LiesWithin : Shape → Command → Type 0
LiesWithin s (Write unit address blocks) = IsBlocksOf s unit address (length blocks)
LiesWithin s (Zero unit address count) = IsBlocksOf s unit address count
LiesWithin s (SetKey region bytes) = HasRegion s region × (length bytes ≡ 32)
LiesWithin s (RpmbWrite region address bytes) = HasRegion s region × IsAreaPart s region address (length bytes)
LiesWithin s (SetBoot boot) = boot ≤ 2
LiesWithin s SetPermanent = Unit {0}

-- the last value of the write counter, FFFFFFFFh: no write passes any more, so that no counter is used twice
-- (JESD220, 12.4)
abbrev pub counter_end : ℕ
counter_end = 2 ^ 32 - 1

-- an RPMB write finds the counter of its region below its end, so that it can still be raised
abbrev pub FindsCounter : Plain → Command → Type 0
FindsCounter p (RpmbWrite region address bytes) = (region_of p region).counter < counter_end
FindsCounter p _ = Unit {0}

-- the command lies within what a device of this configuration has
abbrev pub FitsIn : Numbers → Command → Type 0
FitsIn n command = LiesWithin (shape_of_numbers n) command

-- the command may come in this state; `apply` is meant only for such commands
abbrev pub CanApply : Plain → Command → Type 0
CanApply p command = LiesWithin (shape_of p) command × FindsCounter p command
