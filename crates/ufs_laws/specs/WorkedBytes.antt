-- Examples whose bytes are worked out by hand. No two numbers of one example are the same, as far as they may differ.
use Rattle.std.specs.Prelude.{ℕ, List, [], ◌∷◌, None, Some, replicate}
use Rattle.ufs_spec.specs.Configs.{numbers_of}
use Rattle.ufs_spec.specs.declared.configs.Numbers.{Numbers}
use Rattle.ufs_spec.specs.declared.flash.KeyAndCounter.{KeyAndCounter}
use Rattle.ufs_spec.specs.declared.flash.Tag.{Tag}

-- a page of the area of RPMB region 3, which is page 7 of a group of so many
abbrev pub tag_of_size : ℕ → Tag
tag_of_size size = record {
  kind = 2;
  unit = 3;
  address = 0x01020304;
  number = 0x0506;
  index = 7;
  size = size;
  frontier = 0x0900;
}

-- what a settings page says of the four RPMB regions: all but region 1 have a key
abbrev pub said_row : List KeyAndCounter
said_row =
    record { key = Some (replicate 32 0xA0); counter = 0x01020304 } ∷ record { key = None; counter = 5 }
    ∷ record { key = Some (replicate 32 0xC2); counter = 6 } ∷ record { key = Some (replicate 32 0xD3); counter = 7 }
    ∷ []

-- two units, each with a boot number and the second protected, and four RPMB regions
abbrev pub mark_row : Numbers
mark_row =
    numbers_of 4 0x0110 0x80
    (record { blocks = 0x00010203; boot = 1; protect = 0 } ∷ record { blocks = 64; boot = 2; protect = 1 } ∷ [])
    (1 ∷ 2 ∷ 3 ∷ 5 ∷ []) 0x0140 9

-- one die of so many blocks of 64 pages, one unit of so many, 128 KiB of RPMB area, 64 slots, and so many spare blocks
abbrev pub small_row : ℕ → ℕ → ℕ → Numbers
small_row blocks unit spare =
    numbers_of 1 blocks 64 (record { blocks = unit; boot = 0; protect = 0 } ∷ []) (1 ∷ 0 ∷ 0 ∷ 0 ∷ []) 64 spare
