-- A WRITE whose data come (JESD220, 10.7; SBC).
use Rattle.std.specs.Prelude.{ℕ, nat_le, Bool, List, [], ◌∷◌, ◌++◌, length}
use Rattle.ufs_spec.specs.Commands.{Command, Write}

-- the WRITE of `count` blocks to a unit, from an address on: those of the blocks that came
pub record WriteBegun : Type 0 where
  pub unit : ℕ
  pub address : ℕ
  pub count : ℕ
  pub forced : Bool
  pub blocks : List (List ℕ)

-- one block more came for the WRITE
abbrev pub with_block : WriteBegun → List ℕ → WriteBegun
with_block w block = record w { blocks = w.blocks ++ block ∷ [] }

-- all blocks of the WRITE came, so it can be accepted
abbrev pub is_whole : WriteBegun → Bool
is_whole w = nat_le w.count (length w.blocks)

-- the WRITE as an accepted command
abbrev pub write_of : WriteBegun → Command
write_of w = Write w.unit w.address w.blocks
