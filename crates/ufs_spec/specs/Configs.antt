-- Which numbers make a configuration (this profile).
use Rattle.std.specs.Prelude.{◌≡◌, ℕ, ◌+◌, ◌-◌, ◌*◌, ◌≤◌, ◌==◌, nat_lt, nat_le, ◌&&◌, ◌||◌, Bool, true, false, List, if◌then◌else◌}
use Rattle.std.specs.Prelude.{All, sum_by, count_by, length, Option, Some, None, not}
use Rattle.std.specs.List.{list_all}
use Rattle.std.specs.Int.{div_ceil}
use Rattle.arrayvec.specs.ArrayVec.{array_vec_len}
use Rattle.ufs_spec.specs.Plain.{all_steps, greatest_command, regions, steps_of}
use Rattle.ufs_spec.specs.declared.configs.UnitSpec.{UnitSpec}
use Rattle.ufs_spec.specs.declared.configs.Numbers.{Numbers}
use Rattle.ufs_spec.specs.declared.faults.ConfigFault.{ConfigFault}
use Rattle.ufs_spec.specs.declared.faults.ConfigFault.TheVariants.{Range, TooLittleSpare, TwoBootUnits}

-- the numbers by name, in the order in which a configuration lists them. `numbers_of` of Refusals is another one:
-- the numbers of a state
abbrev pub numbers_of : ℕ → ℕ → ℕ → List UnitSpec → List ℕ → ℕ → ℕ → Numbers
numbers_of dies blocks pages units rpmb slots spare =
    record {
      dies = dies;
      blocks = blocks;
      pages = pages;
      units = record { items = units };
      rpmb = rpmb;
      slots = slots;
      spare = spare;
      profile = 0;
      serial = 1;
    }

-- the same numbers for a device of this profile with this serial number
abbrev pub with_profile : Numbers → ℕ → ℕ → Numbers
with_profile n profile serial = record n { profile = profile; serial = serial }

-- the same numbers as the dies hold them: profile and serial number stand on no page
abbrev pub marked : Numbers → Numbers
marked n = with_profile n 0 1

-- ## Ranges

-- whether a number lies between low and high, both included
abbrev pub is_between : ℕ → ℕ → ℕ → Bool
is_between low high n = nat_le low n && nat_le n high

-- a unit has 1 to 2,097,152 blocks (8 GiB), boot number 0 none, 1 A or 2 B, and protection 0 never, 1 by fPowerOnWPEn
-- or 2 by fPermanentWPEn (JESD220, 14.1.4.5)
abbrev pub unit_in_range : UnitSpec → Bool
unit_in_range u = is_between 1 2097152 u.blocks && is_between 0 2 u.boot && is_between 0 2 u.protect

-- each number is in its range (this profile); `rpmb` counts steps of 128 KiB of each RPMB region, of which the first is
-- always there, `slots` how many blocks the write cache holds at once, `spare` how many blocks may go bad
abbrev pub in_range : Numbers → Bool
in_range n =
    is_between 1 8 n.dies
    && is_between 16 1024 n.blocks
    && is_between 16 256 n.pages
    && is_between 1 8 (array_vec_len n.units)
    && list_all unit_in_range n.units.items
    && (length n.rpmb == regions)
    && is_between 1 8 (steps_of n 0)
    && list_all (is_between 0 8) n.rpmb
    && is_between 64 1024 n.slots
    && is_between 0 (n.dies * n.blocks) n.spare
    && nat_le n.profile 1

-- how many blocks a command may have in a configuration, each of them a page of its group: 128 where the write cache
-- has 256 slots or more, and 32 where it has fewer
abbrev pub command_blocks : Numbers → ℕ
command_blocks n = if nat_le 256 n.slots then greatest_command else 32

-- ## Room

-- how many blocks of 4096 bytes all units have together
abbrev pub unit_blocks : Numbers → ℕ
unit_blocks n = sum_by (λ u. u.blocks) n.units.items

-- how many pages hold everything once: one for each block of a unit, 32 for each step of the RPMB areas,
-- and two for the settings
abbrev pub pages_kept : Numbers → ℕ
pages_kept n = unit_blocks n + 32 * all_steps n + 2

-- the blocks of the dies that hold these pages and four times the slots, and four for each die and
-- eight more to collect with
abbrev pub blocks_needed : Numbers → ℕ
blocks_needed n = div_ceil (pages_kept n + 4 * n.slots) n.pages + 4 * n.dies + 8

-- the blocks that are left when all spare ones have gone bad
abbrev pub blocks_left : Numbers → ℕ
blocks_left n = n.dies * n.blocks - n.spare

-- fewer blocks are left then than are needed
abbrev pub has_too_little_spare : Numbers → Bool
has_too_little_spare n = nat_lt (blocks_left n) (blocks_needed n)

-- ## Boot numbers

-- how many units have this boot number: 1 is A, 2 is B
abbrev pub boot_count : ℕ → Numbers → ℕ
boot_count boot n = count_by (λ u. u.boot == boot) n.units.items

-- two units have A, or two have B, so that the boot setting would not name one
abbrev pub has_two_boot_units : Numbers → Bool
has_two_boot_units n = nat_lt 1 (boot_count 1 n) || nat_lt 1 (boot_count 2 n)

-- ## Why numbers are no configuration

-- the first that applies of a number out of its range, too little spare and two boot units
abbrev pub first_fault : Bool → Bool → Bool → Option ConfigFault
first_fault true little two = Some Range
first_fault false true two = Some TooLittleSpare
first_fault false false true = Some TwoBootUnits
first_fault false false false = None

-- why the numbers are no configuration; None if they are one
abbrev pub config_fault : Numbers → Option ConfigFault
config_fault n = first_fault (not (in_range n)) (has_too_little_spare n) (has_two_boot_units n)

-- no fault is found in the numbers, so that a device may be opened with them
abbrev pub IsConfig : Numbers → Type 0
IsConfig n = config_fault n ≡ None

-- ## What a caller may rely on

-- what `unit_in_range` checks of one unit, as statements
pub record UnitInRange (u : UnitSpec) : Type 0 where
  pub has_block : 1 ≤ u.blocks
  pub blocks_bound : u.blocks ≤ 2097152
  pub boot_bound : u.boot ≤ 2
  pub protect_bound : u.protect ≤ 2

-- what `in_range` checks, as statements
pub record InRange (n : Numbers) : Type 0 where
  pub has_die : 1 ≤ n.dies
  pub dies_bound : n.dies ≤ 8
  pub has_blocks : 16 ≤ n.blocks
  pub blocks_bound : n.blocks ≤ 1024
  pub has_pages : 16 ≤ n.pages
  pub pages_bound : n.pages ≤ 256
  pub has_unit : 1 ≤ array_vec_len n.units
  pub units_bound : array_vec_len n.units ≤ 8
  pub each_unit : All UnitInRange n.units.items
  pub count_of_regions : length n.rpmb ≡ regions
  pub has_rpmb : 1 ≤ steps_of n 0
  pub rpmb_bound : All (λ steps. steps ≤ 8) n.rpmb
  pub has_slots : 64 ≤ n.slots
  pub slots_bound : n.slots ≤ 1024
  pub spare_bound : n.spare ≤ n.dies * n.blocks
  pub profile_bound : n.profile ≤ 1

-- the dies have a page for each block of a unit
abbrev pub HasRoom : Numbers → Type 0
HasRoom n = unit_blocks n ≤ n.dies * n.blocks * n.pages

-- no two units have the same boot number, but 0
abbrev pub HasOneBootUnitEach : Numbers → Type 0
HasOneBootUnitEach n = (boot_count 1 n ≤ 1) × (boot_count 2 n ≤ 1)
