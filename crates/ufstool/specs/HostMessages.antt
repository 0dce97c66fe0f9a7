-- The messages that are written, byte by byte (JESD220, 10.7).
use Rattle.std.specs.Prelude.{ℕ, List, [], ◌∷◌, ◌++◌, codes, length, replicate, Option, Some, None}
use Rattle.hex.specs.Hex.{encode_lower}
use Rattle.ufs_spec.specs.Cdbs.{Direction, NoData, ToDevice, ToHost, cdb_bytes, direction_of, length_of}
use Rattle.ufstool.specs.HostCdbs.{host_bytes, meaning}
use Rattle.ufstool.specs.declared.host_cdbs.HostCdb.{HostCdb}
use Rattle.ufs_spec.specs.Codes.{data_out_code}
use Rattle.ufs_spec.specs.Messages.{header, padding, spelling, transfer, zeros}
use Rattle.ufs_spec.specs.declared.Cdb.{Cdb}
use Rattle.ufs_spec.specs.declared.operations.Told.{Told}
use Rattle.ufs_spec.specs.declared.operations.Told.TheVariants as told
use Rattle.ufs_spec.specs.declared.scsi.Cdb.TheVariants as cdb
use Rattle.ufs_spec.specs.declared.messages.Message.TheVariants.{Command as CommandMessage, NopOut as NopOutMessage}
use Rattle.ufs_spec.specs.declared.messages.Message.TheVariants.{LinkEvent as LinkEventMessage}
use Rattle.ufstool.specs.declared.host.LinkReset.{LinkReset}
use Rattle.ufstool.specs.declared.host.LinkReset.TheVariants.{Hardware, Link}
use Rattle.ufstool.specs.HostQueries.{query_asked, query_spelled}
use Rattle.ufstool.specs.HostTasks.{task_spelled}
use Rattle.ufstool.specs.declared.host.HostMessage.{HostMessage}
use Rattle.ufstool.specs.declared.host.HostMessage.TheVariants.{NopOut, Command, DataOut, LinkEvent, Query, Tasks}

-- the kind of a LINK EVENT: 01h of a hardware reset, 02h of a reset of the link or the controller
abbrev pub event_kind : LinkReset → ℕ
event_kind Hardware = 0x01
event_kind Link = 0x02

-- the flags of a COMMAND: no data, a write, or a read (JESD220, 10.7.1)
abbrev pub flags_of : Direction → ℕ
flags_of NoData = 0x00
flags_of ToDevice = 0x20
flags_of ToHost = 0x40

-- how many bytes there are to tell at most, on any device (SPC, SBC): REPORT LUNS lists no more than twelve units,
-- the longest page of vital product data has 64 bytes, all mode pages have 44, behind a header, and REPORT SUPPORTED
-- OPERATION CODES tells no more than 20 of each of 24 commands, behind their length
abbrev pub most_of : Told → ℕ
most_of told.Sense = 18
most_of told.Identity = 36
most_of told.Capacity = 8
most_of told.Units = 104
most_of told.LongCapacity = 32
most_of told.Page = 64
most_of told.Modes = 52
most_of told.ShortModes = 48
most_of told.Operations = 484

-- the same of a command; nothing is told by any other
abbrev pub most_told : Cdb → ℕ
most_told (cdb.Tell what select allocation) = most_of what
most_told command = 0

-- how many bytes a host expects: so many, or the most that the command has
abbrev pub expected_of : HostCdb → Option ℕ → ℕ
expected_of cdb None = length_of (most_told (meaning cdb)) (meaning cdb)
expected_of cdb (Some n) = n

-- the bytes of a COMMAND with a CDB of this command in the form in which it is written
abbrev pub host_spelled : ℕ → ℕ → HostCdb → ℕ → List ℕ
host_spelled unit task cdb expected =
    spelling (CommandMessage (flags_of (direction_of (meaning cdb))) unit task expected (host_bytes cdb))

-- the same in the form in which hosts here write it
abbrev pub command_spelled : ℕ → ℕ → Cdb → ℕ → List ℕ
command_spelled unit task cdb expected =
    spelling (CommandMessage (flags_of (direction_of cdb)) unit task expected (cdb_bytes cdb))

-- the bytes of a message
abbrev pub bytes_wanted : HostMessage → List ℕ
bytes_wanted (NopOut task) = spelling (NopOutMessage task)
bytes_wanted (Command unit task cdb expected) = host_spelled unit task cdb (expected_of cdb expected)
bytes_wanted (DataOut unit task offset count fill) =
    header data_out_code 0 unit task 0 0 0 count (transfer offset count)
    ++ replicate count fill ++ zeros (padding count)
bytes_wanted (Query task query) = query_spelled task (query_asked query)
bytes_wanted (Tasks unit task call) = task_spelled unit task call
bytes_wanted (LinkEvent reset) = spelling (LinkEventMessage (event_kind reset))

-- the line of a script that hands a device these bytes, in hexadecimal digits
abbrev pub line_of : List ℕ → List ℕ
line_of bytes = codes "host " ++ encode_lower bytes ++ 10 ∷ []

-- the DATA OUT of a task with all of its data
abbrev pub data_spelled : ℕ → ℕ → List ℕ → List ℕ
data_spelled unit task bytes =
    header data_out_code 0 unit task 0 0 0 (length bytes) (transfer 0 (length bytes))
    ++ bytes ++ zeros (padding (length bytes))

-- a message, and then a reply is asked for
abbrev pub asked_lines : List ℕ → List ℕ
asked_lines bytes = line_of bytes ++ codes "reply" ++ 10 ∷ []
