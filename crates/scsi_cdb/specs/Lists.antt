-- UNMAP's parameter list as it is told (SBC, UNMAP parameter list).
use Rattle.std.specs.Prelude.{ℕ, ◌==◌, List, if◌then◌else◌, length, not}
use Rattle.ufs_bytes.specs.Fields.{field_at}
use Rattle.ufs_spec.specs.DataOuts.{has_list_header, is_wrong_descriptor}
use Rattle.ufs_spec.specs.declared.configs.Numbers.{Numbers}
use Rattle.scsi_cdb.specs.declared.unmap_list.UnmapList.{UnmapList}
use Rattle.scsi_cdb.specs.declared.unmap_list.UnmapList.TheVariants.{Descriptor, HeaderOnly, Malformed}

-- what a list says: its header is judged first, then its descriptor, which a list of 8 bytes has not
abbrev pub list_read : Numbers → List ℕ → UnmapList
list_read n list =
    if not (has_list_header list) then Malformed
    else if length list == 8 then HeaderOnly
    else if is_wrong_descriptor n list then Malformed
    else Descriptor (field_at 8 8 list) (field_at 4 16 list)
