-- The fields of a COMMAND and of a DATA OUT, and the messages of these fields.
use Rattle.std.specs.Prelude.{List, ℕ, ◌+◌, slice_index, slice_range}
use Rattle.ufs_bytes.specs.Fields.{field_at}
use Rattle.ufs_spec.specs.Messages.{segment_length}
use Rattle.ufs_spec.specs.declared.messages.Message.{Message}
use Rattle.ufs_spec.specs.declared.messages.Message.TheVariants as message
use Rattle.upiu.specs.declared.host_messages.Command.{Command}
use Rattle.upiu.specs.declared.host_messages.DataOut.{DataOut}

-- the DATA OUT of these fields, whose data follow the header (JESD220, 10.7.3)
abbrev pub data_out_of : DataOut → List ℕ → Message
data_out_of d bytes = message.DataOut d.lun d.tag d.offset (record { items = slice_range bytes 32 (32 + d.count) })

-- the COMMAND of these fields (JESD220, 10.7.1)
abbrev pub command_of : Command → Message
command_of c = message.Command c.flags c.lun c.tag c.expected c.cdb

-- what the bytes of a DATA OUT name
abbrev pub data_out_in : List ℕ → DataOut
data_out_in bytes =
    record {
      lun = slice_index bytes 2;
      tag = slice_index bytes 3;
      offset = field_at 4 12 bytes;
      count = segment_length bytes;
    }

-- what the bytes of a COMMAND name
abbrev pub command_in : List ℕ → Command
command_in bytes =
    record {
      flags = slice_index bytes 1;
      lun = slice_index bytes 2;
      tag = slice_index bytes 3;
      expected = field_at 4 12 bytes;
      cdb = slice_range bytes 16 32;
    }
