-- What an UNMAP changes, as its list tells (SBC, UNMAP parameter list).
use Rattle.std.specs.Prelude.{ℕ, ◌+◌, ◌==◌, ◌||◌, Bool, true, not, nat_lt, if◌then◌else◌, List, length}
use Rattle.std.specs.Prelude.{Option, Some, None}
use Rattle.ufs_bytes.specs.Fields.{field_at}
use Rattle.ufs_spec.specs.Commands.{Command, Zero}
use Rattle.ufs_spec.specs.DataOuts.{has_list_header, is_wrong_descriptor}
use Rattle.ufs_spec.specs.Refusals.{unit_numbers_at}
use Rattle.ufs_spec.specs.declared.configs.Numbers.{Numbers}
use Rattle.ufs_spec.specs.declared.configs.UnitSpec.{UnitSpec}

-- the descriptor's blocks are not all in the unit, or there is no such unit
abbrev pub ends_outside : List ℕ → Option UnitSpec → Bool
ends_outside list None = true
ends_outside list (Some u) = nat_lt u.blocks (field_at 8 8 list + field_at 4 16 list)

-- the list names no blocks to unmap: it has no descriptor, its header or its descriptor is wrong, or the descriptor
-- counts no block
abbrev pub names_no_blocks : Numbers → ℕ → List ℕ → Bool
names_no_blocks n unit list =
    not (length list == 24) || not (has_list_header list) || is_wrong_descriptor n list
    || ends_outside list (unit_numbers_at n (Some unit))
    || (field_at 4 16 list == 0)

-- the command that the list asks a unit for, if it names blocks
abbrev pub zeros_asked : Numbers → ℕ → List ℕ → Option Command
zeros_asked n unit list =
    if names_no_blocks n unit list then None else Some (Zero unit (field_at 8 8 list) (field_at 4 16 list))

-- the command that is accepted with the list, if one is: a locked device accepts none
abbrev pub zeros_accepted : Numbers → Bool → ℕ → List ℕ → Option Command
zeros_accepted n locked unit list = if locked then None else zeros_asked n unit list
