-- Queries by their fields, and a configuration whose boot numbers are not the numbers of its units.
use Rattle.std.specs.Prelude.{ℕ, [], ◌∷◌}
use Rattle.ufs_laws.specs.Runs.{unit}
use Rattle.ufs_spec.specs.Configs.{numbers_of}
use Rattle.ufs_spec.specs.Queries.{Query}
use Rattle.ufs_spec.specs.declared.configs.Numbers.{Numbers}

-- a QUERY REQUEST: function; opcode, IDN, index and selector; the length field and the value
abbrev pub query : ℕ → ℕ → ℕ → ℕ → ℕ → ℕ → ℕ → Query
query function opcode idn index selector size value =
    record {
      function = function;
      asked = record { opcode = opcode; idn = idn; index = index; selector = selector };
      length = size;
      value = value;
    }

-- three units; the last one is the boot unit A, and the one before it B
abbrev pub boot_row : Numbers
boot_row = numbers_of 4 16 64 (unit 256 0 ∷ unit 64 2 ∷ unit 64 1 ∷ []) (1 ∷ 0 ∷ 0 ∷ 0 ∷ []) 64 4
