-- What the fields of UNMAP's list have to be (SBC, UNMAP parameter list).
use Rattle.std.specs.Prelude.{ℕ, ◌-◌, ◌==◌, nat_le, Bool, true, if◌then◌else◌}
use Rattle.ufs_spec.specs.Plain.{greatest_command}

-- the field that begins at this place may have this value in a list of so many bytes: the two lengths count the bytes
-- behind them and those of the descriptor, a command has at most 128 blocks, and the other bytes are zero. An address is
-- judged by the unit alone
abbrev pub is_right_field : ℕ → ℕ → ℕ → Bool
is_right_field length place value =
    if place == 0 then value == length - 2
    else if place == 2 then value == length - 8
    else if place == 4 then value == 0
    else if place == 16 then nat_le value greatest_command
    else if place == 20 then value == 0
    else true
