-- What a host sends, and what it has to hear. The task tag of a command is the host's number.
use Rattle.std.specs.Prelude.{ℕ, ◌-◌, true, false, None}
use Rattle.ufs_spec.specs.Cdbs.{cdb_bytes}
use Rattle.ufs_spec.specs.declared.messages.Message.{Message}
use Rattle.ufs_spec.specs.declared.messages.Message.TheVariants.{Command, DataIn, DataOut, ReadyToTransfer, Response}
use Rattle.ufs_spec.specs.declared.messages.Message.TheVariants.{TaskRequest, TaskResponse}
use Rattle.ufs_spec.specs.declared.Cdb.TheVariants.{Nothing, Read, Write}
use Rattle.stress.specs.Writes.{address_of, content_of}

-- ## What it sends

-- a TEST UNIT READY for unit 0, which carries no data
abbrev pub is_ready : ℕ → Message
is_ready host = Command 0x00 0 host 0 (cdb_bytes Nothing)

-- a WRITE(10) of one block with FUA
abbrev pub write_one : ℕ → ℕ → Message
write_one host write = Command 0x20 0 host 4096 (cdb_bytes (Write (address_of host write) 1 true))

-- the DATA OUT with the block of the WRITE
abbrev pub bring : ℕ → ℕ → Message
bring host write = DataOut 0 host 0 (record { items = content_of host write })

-- a READ(10) of one block
abbrev pub read_one : ℕ → ℕ → Message
read_one host write = Command 0x40 0 host 4096 (cdb_bytes (Read (address_of host write) 1))

-- the task tag of a request to abort, which no host has as its number
abbrev pub abort_tag : ℕ → ℕ
abort_tag host = 255 - host

-- a TASK MANAGEMENT REQUEST that aborts the command of the host (abort task, 01h)
abbrev pub abort : ℕ → Message
abort host = TaskRequest 0 (abort_tag host) 0x01 host

-- ## What it has to hear

-- the RESPONSE that says GOOD: the command of this host went well
abbrev pub good : ℕ → Message
good host = Response 0 0 host 0 0 0 None

-- the device asks for the block
abbrev pub asked : ℕ → Message
asked host = ReadyToTransfer 0 host 0 4096

-- the block as it was written
abbrev pub shown : ℕ → ℕ → Message
shown host write = DataIn 0 host 0 (record { items = content_of host write })

-- the TASK MANAGEMENT RESPONSE that says that the command is aborted (function complete, 00h)
abbrev pub aborted : ℕ → Message
aborted host = TaskResponse 0 (abort_tag host) 0x00
