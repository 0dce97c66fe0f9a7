-- How many slots the lists of UNMAPs (SBC) and the frames of the RPMB claim.
use Rattle.std.specs.Prelude.{◌≡◌, ◌⊎◌, ℕ, ◌==◌, if◌then◌else◌}
use Rattle.ufs_spec.specs.Configs.{command_blocks}
use Rattle.ufs_spec.specs.declared.configs.Numbers.{Numbers}

-- an UNMAP whose list has one descriptor claims as many slots as a command may have blocks; a header alone claims none
abbrev pub list_slots : Numbers → ℕ → ℕ
list_slots n size = if size == 24 then command_blocks n else 0

-- so many bytes are those of a header, or of a header with one descriptor
abbrev pub IsOfList : ℕ → Type 0
IsOfList size = (size ≡ 8) ⊎ (size ≡ 24)

-- how many slots a SECURITY PROTOCOL OUT claims: for two pages of the area and the settings (JESD220, 12.4)
abbrev pub frame_slots : ℕ
frame_slots = 3
