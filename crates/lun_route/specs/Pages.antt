-- The parts of the pages of vital product data that the definitions do not name (SPC, SBC).
use Rattle.std.specs.Prelude.{List, [], ℕ, length, ◌++◌, ◌∷◌}
use Rattle.byteorder.specs.Endian.{big_bytes}
use Rattle.ufs_spec.specs.Identities.{device_type, page_body}
use Rattle.ufs_spec.specs.Messages.{zeros}
use Rattle.ufs_spec.specs.declared.configs.Numbers.{Numbers}

-- the first four bytes: the device type, the code of the page, and how many bytes follow
abbrev pub page_head : (lun page follow : ℕ) → List ℕ
page_head lun page follow = (device_type lun ∷ page ∷ []) ++ big_bytes 2 follow

-- a page that the unit has
abbrev pub known_page : Numbers → (lun page : ℕ) → List ℕ
known_page n lun page = page_head lun page (length (page_body n lun page)) ++ page_body n lun page

-- all mode pages are shared
abbrev pub mode_policy : List ℕ
mode_policy = 0x3F ∷ 0xFF ∷ 0 ∷ 0 ∷ []

-- it does not rotate
abbrev pub characteristics : List ℕ
characteristics = 0 ∷ 0x01 ∷ zeros 58

-- unmapped by UNMAP, read as zeros, thin
abbrev pub provisioning : List ℕ
provisioning = 0 ∷ 0x84 ∷ 0x02 ∷ 0 ∷ []
