-- The configuration of the worked bytes, and queries that read and write descriptors.
use Rattle.std.specs.Prelude.{ℕ, [], ◌∷◌}
use Rattle.ufs_spec.specs.Configs.{numbers_of, with_profile}
use Rattle.ufs_spec.specs.Queries.{Query}
use Rattle.ufs_spec.specs.declared.configs.Numbers.{Numbers}
use Rattle.ufs_spec.specs.declared.configs.UnitSpec.{UnitSpec}

-- a unit of so many blocks with this boot number, which is never protected
abbrev pub unit : ℕ → ℕ → UnitSpec
unit blocks boot = record { blocks = blocks; boot = boot; protect = 0 }

-- 4 dies of 16 blocks of 64 pages; units of 256, 64 and 64 blocks, the last two of them boot units A and B; one step of
-- RPMB region 0, 64 slots and 4 spare blocks; in this profile, with this serial number
abbrev pub row : ℕ → ℕ → Numbers
row profile serial =
    with_profile (numbers_of 4 16 64 (unit 256 0 ∷ unit 64 1 ∷ unit 64 2 ∷ []) (1 ∷ 0 ∷ 0 ∷ 0 ∷ []) 64 4) profile serial

-- the same with its first unit alone, so that no unit boots
abbrev pub row_without_boot : ℕ → ℕ → Numbers
row_without_boot profile serial = record (row profile serial) { units = record { items = unit 256 0 ∷ [] } }

-- a QUERY REQUEST with this function and opcode, IDN, index, length and value; the selector is 0
abbrev pub query : ℕ → ℕ → ℕ → ℕ → ℕ → ℕ → Query
query function opcode idn index size value =
    record {
      function = function;
      asked = record { opcode = opcode; idn = idn; index = index; selector = 0 };
      length = size;
      value = value;
    }
