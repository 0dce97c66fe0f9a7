-- Lists of UNMAP, and queries that set something.
use Rattle.std.specs.Prelude.{◌≡◌, ◌≢◌, ◌++◌, ℕ, List, length, true, false, Some}
use Rattle.byteorder.specs.Endian.{big_bytes}
use Rattle.ufs_spec.specs.DataOuts.{has_list_header, is_past_unit, is_wrong_descriptor}
use Rattle.ufs_spec.specs.Messages.{zeros}
use Rattle.ufs_spec.specs.Queries.{Query}
use Rattle.ufs_spec.specs.Refusals.{State, numbers_of, unit_numbers_at}

-- the 24 bytes of UNMAP's list (SBC): two lengths, then the address and the count of blocks of its one descriptor
abbrev pub list_of : ℕ → ℕ → ℕ → ℕ → List ℕ
list_of rest descriptors address count =
    big_bytes 2 rest ++ big_bytes 2 descriptors ++ zeros 4 ++ big_bytes 8 address ++ big_bytes 4 count ++ zeros 4

-- the list has a right header, and more than that
abbrev pub IsListed : List ℕ → Type 0
IsListed list = (has_list_header list ≡ true) × (length list ≢ 8)

-- its descriptor is right too, and lies in the unit
abbrev pub PassesList : State → ℕ → List ℕ → Type 0
PassesList s unit list =
    IsListed list × (is_wrong_descriptor (numbers_of s) list ≡ false)
    × (is_past_unit list (unit_numbers_at (numbers_of s) (Some unit)) ≡ false)

-- the query that writes bBootLunEn
abbrev pub boot_query : ℕ → Query
boot_query value =
    record {
      function = 0x81;
      asked = record { opcode = 4; idn = 0; index = 0; selector = 0 };
      length = 0;
      value = value;
    }

-- the query that sets fPermanentWPEn
abbrev pub permanent_query : Query
permanent_query =
    record {
      function = 0x81;
      asked = record { opcode = 6; idn = 2; index = 0; selector = 0 };
      length = 0;
      value = 0;
    }
