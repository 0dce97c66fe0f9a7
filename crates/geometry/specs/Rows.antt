-- The configuration of a worked law.
use Rattle.std.specs.Prelude.{[], ◌∷◌}
use Rattle.ufs_spec.specs.Configs.{numbers_of}
use Rattle.ufs_spec.specs.declared.configs.Numbers.{Numbers}

-- 4 dies of 16 blocks of 64 pages; a unit of 256 blocks; one step of RPMB region 0; 64 slots and 4 spare blocks
abbrev pub row : Numbers
row =
    numbers_of 4 16 64 (record { blocks = 256; boot = 0; protect = 0 } ∷ []) (1 ∷ 0 ∷ 0 ∷ 0 ∷ []) 64 4
