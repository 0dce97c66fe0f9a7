-- The configurations of the worked rows, and how many blocks and bytes a device of the first has.
use Rattle.std.specs.Prelude.{◌≡◌, ℕ, [], ◌∷◌, Some}
use Rattle.ufs_spec.specs.Configs.{config_fault, numbers_of}
use Rattle.ufs_spec.specs.Plain.{Plain, Shape, shape_of}
use Rattle.ufs_spec.specs.declared.configs.Numbers.{Numbers}
use Rattle.ufs_spec.specs.declared.configs.UnitSpec.{UnitSpec}
use Rattle.ufs_spec.specs.declared.faults.ConfigFault.{ConfigFault}

-- a unit of so many blocks with this boot number, which is never protected
abbrev pub unit : ℕ → ℕ → UnitSpec
unit blocks boot = record { blocks = blocks; boot = boot; protect = 0 }

-- 4 dies of 16 blocks of 64 pages; units of 256, 64 and 64 blocks, the last two of them boot units A and B; one step of
-- RPMB region 0 and no other region; 64 slots and 4 spare blocks
abbrev pub row_numbers : Numbers
row_numbers = numbers_of 4 16 64 (unit 256 0 ∷ unit 64 1 ∷ unit 64 2 ∷ []) (1 ∷ 0 ∷ 0 ∷ 0 ∷ []) 64 4

-- so many dies of 20 blocks of 16 pages, so many of them spare; a unit of 64 blocks, the same RPMB and 64 slots
abbrev pub small_numbers : ℕ → ℕ → Numbers
small_numbers dies spare = numbers_of dies 20 16 (unit 64 0 ∷ []) (1 ∷ 0 ∷ 0 ∷ 0 ∷ []) 64 spare

-- the configuration has just these numbers. A proof sees them only where it unfolds this: in many programs it would
-- compute with them for minutes
unfoldable pub HasNumbers : Numbers → Numbers → Type 0
HasNumbers wanted c = c ≡ wanted

-- the numbers are no configuration, for this reason
unfoldable pub IsRefused : Numbers → ConfigFault → Type 0
IsRefused numbers fault = config_fault numbers ≡ Some fault

-- units of 256, 64 and 64 blocks, and RPMB region 0 alone, of one step
abbrev pub row_shape : Shape
row_shape = record { blocks = 256 ∷ 64 ∷ 64 ∷ []; areas = 131072 ∷ 0 ∷ 0 ∷ 0 ∷ [] }

-- the device has as many blocks and bytes as the row configuration says
abbrev pub HasRowShape : Plain → Type 0
HasRowShape p = shape_of p ≡ row_shape
