-- The lines that bring an UNMAP to a unit (SBC, UNMAP; JESD220, 10.7.1 and 10.7.3).
use Rattle.std.specs.Prelude.{ℕ, List, ◌++◌}
use Rattle.byteorder.specs.Endian.{big_bytes}
use Rattle.ufs_spec.specs.Messages.{zeros}
use Rattle.ufs_spec.specs.declared.scsi.Cdb.TheVariants.{Unmap}
use Rattle.ufstool.specs.HostMessages.{asked_lines, command_spelled, data_spelled}
use Rattle.ufstool.specs.declared.unmap.HostUnmap.{HostUnmap}

-- the list: a header, which counts the 22 bytes behind its first field and the 16 of its descriptor, and has four zeros;
-- and a descriptor of so many blocks from this address on, with four zeros too
abbrev pub unmap_list : ℕ → ℕ → List ℕ
unmap_list address blocks =
    big_bytes 2 22 ++ big_bytes 2 16 ++ zeros 4 ++ big_bytes 8 address ++ big_bytes 4 blocks ++ zeros 4

-- the COMMAND, whose reply asks for the list; and the DATA OUT with the list, whose reply ends the task
abbrev pub unmap_lines : HostUnmap → List ℕ
unmap_lines u =
    asked_lines (command_spelled u.unit u.task (Unmap 24) 24)
    ++ asked_lines (data_spelled u.unit u.task (unmap_list u.address u.blocks))
