-- Parts of descriptors.
use Rattle.std.specs.Prelude.{List, [], replicate, ℕ, ◌++◌, ◌∷◌}
use Rattle.ufs_spec.specs.Descriptors.{has_boot}
use Rattle.ufs_spec.specs.Keys.{flag_byte}
use Rattle.ufs_spec.specs.declared.configs.Numbers.{Numbers}

-- what the configuration descriptor has before the units (JESD220, 14.1.4.3)
abbrev pub configuration_head : Numbers → List ℕ
configuration_head n = (0x90 ∷ 0x01 ∷ 0 ∷ flag_byte (has_boot n) ∷ 0x01 ∷ 0x01 ∷ 0x7F ∷ []) ++ replicate 9 0
