-- What the messages of a host and the replies to them tell of a life (JESD220, 10.7 and 12.4; SBC; SPC). A WRITE is
-- accepted with its last DATA OUT and an UNMAP with its list, if that names blocks, unless the device is locked; a key
-- or a write of the RPMB with its frames, if they pass their checks. What was accepted is acknowledged as durable by
-- GOOD: a WRITE with FUA, a key or a write of the RPMB, and all before it, by the command's own, and what was accepted
-- before the COMMAND of a SYNCHRONIZE CACHE without IMMED by that one's. A setting is accepted with its QUERY REQUEST
-- or refused at once, which its answer tells; one that was accepted, and all before it, is acknowledged by the response
-- code 00h. A command that is aborted gets no data and no answer any more, and what it had accepted stays accepted.
use Rattle.std.specs.Prelude.{ℕ, ◌+◌, ◌==◌, ◌&&◌, ◌||◌, ◌^◌, nat_le, nat_lt, max, Bool, false, if◌then◌else◌}
use Rattle.std.specs.Prelude.{List, [], ◌∷◌, ◌++◌, length, take, drop, slice_index, slice_index_or, slice_set}
use Rattle.std.specs.Prelude.{Option, Some, None, option_map}
use Rattle.ufs_bytes.specs.Fields.{field_at}
use Rattle.ufs_spec.specs.CdbFields.{spelled_cdb}
use Rattle.ufs_spec.specs.Cdbs.{brought as command_brought}
use Rattle.ufs_spec.specs.Commands.{Command}
use Rattle.ufs_spec.specs.Messages.{is_short}
use Rattle.ufs_spec.specs.declared.configs.Numbers.{Numbers}
use Rattle.ufs_spec.specs.declared.scsi.Cdb.{Cdb}
use Rattle.ufs_spec.specs.declared.scsi.Cdb.TheVariants as cdb
use Rattle.rpmb.specs.Requests.{frames_of}
use Rattle.rpmb.specs.declared.regions.RegionState.{RegionState}
use Rattle.journal.specs.Entries.{Accepted, Doubted, Noted, Refused, setting_command}
use Rattle.journal.specs.Queries.{asked_setting, query_in}
use Rattle.journal.specs.Requests.{accepted_by, state_after, state_at}
use Rattle.journal.specs.Tasks.{left_open, open_with, without}
use Rattle.journal.specs.Unmaps.{zeros_accepted}
use Rattle.journal.specs.Writes.{WriteBegun, is_whole, with_block, write_of}
use Rattle.journal.specs.declared.entries.Setting.{Setting}
use Rattle.journal.specs.declared.tasks.Awaited.{Awaited}
use Rattle.journal.specs.declared.tasks.Awaited.TheVariants.{Blocks, Frames, UnmapList, Nothing, Verdict}
use Rattle.journal.specs.declared.tasks.OpenTask.{OpenTask}
use Rattle.journal.specs.declared.tasks.TaskName.{TaskName}

-- the numbers of the device; what is noted of the commands of the life, in order; up to how many of them, from the
-- first on, what was accepted was acknowledged as durable; the commands and settings that have no answer yet; whether
-- the device is locked; the key and the counter of each RPMB region that the accepted ones made
pub record Heard : Type 0 where
  pub numbers : Numbers
  pub entries : List Noted
  pub held : ℕ
  pub tasks : List OpenTask
  pub locked : Bool
  pub regions : List RegionState

-- a life of a device with these numbers begins with these keys and counters: whatever else it begins with, nothing
-- came yet
abbrev pub life_begun : Numbers → List RegionState → Heard
life_begun n regions =
    record { numbers = n; entries = []; held = 0; tasks = []; locked = false; regions = regions }

-- one command more is open
abbrev pub with_open : Heard → OpenTask → Heard
with_open j t = record j { tasks = j.tasks ++ t ∷ [] }

-- ## A COMMAND

-- a WRITE of one block or more, none of which came yet. No unit has an address that four bytes do not hold
abbrev pub begun_write : ℕ → ℕ → ℕ → Bool → Option WriteBegun
begun_write unit address count forced =
    if count == 0 || nat_le (2 ^ 32) address then None
    else Some (record { unit = unit; address = address; count = count; forced = forced; blocks = [] })

-- a command waits for the blocks of its WRITE, if it is one
abbrev pub awaited_blocks : Option WriteBegun → Awaited
awaited_blocks None = Nothing
awaited_blocks (Some w) = Blocks w

-- the data that a command to a unit waits for: a WRITE its blocks that come, UNMAP its list (SBC), and SECURITY
-- PROTOCOL OUT frames for its region (SPC; JESD220). A CDB that spells no command is refused, so it gets none
abbrev pub awaited_by : ℕ → Option Cdb → Awaited
awaited_by unit (Some (cdb.Write address blocks forced)) = awaited_blocks (begun_write unit address blocks forced)
awaited_by unit (Some (cdb.Unmap list)) = UnmapList
awaited_by unit (Some (cdb.SecurityOut region length)) = Frames region
awaited_by unit command = Nothing

-- how many of the accepted commands, of which there are so many, the GOOD of a command acknowledges as it came: all, if
-- it is a SYNCHRONIZE CACHE without IMMED (SBC)
abbrev pub promised_by : ℕ → Option Cdb → ℕ
promised_by accepted (Some (cdb.Flush immediate)) = if immediate then 0 else accepted
promised_by accepted command = 0

-- the command is open from now on, and what had its tag no more
abbrev pub begun : Heard → TaskName → Option Cdb → Heard
begun j name command =
    with_open (record j { tasks = without name.tag j.tasks })
    (record { name = name; awaited = awaited_by name.lun command; promised = promised_by (length j.entries) command })

-- what a COMMAND brings data for whose host sends so many bytes, if its CDB spells a command
abbrev pub brought_by : (expected : ℕ) → Option Cdb → Option Cdb
brought_by expected command = option_map (command_brought expected) command

-- the same of a COMMAND: its host sends as many bytes as its bytes 12..15 say, and its CDB is in bytes 16..31
abbrev pub command_in : List ℕ → Option Cdb
command_in message = brought_by (field_at 4 12 message) (spelled_cdb (take 16 (drop 16 message)))

-- ## A DATA OUT

-- the 4096 bytes of a message's data
abbrev pub block_of : List ℕ → Option (List ℕ)
block_of message = if nat_le 4128 (length message) then Some (take 4096 (drop 32 message)) else None

-- the command of this name is open again, and waits for this; its GOOD acknowledges so many commands
abbrev pub open_again : Heard → TaskName → ℕ → Awaited → Heard
open_again j name promised awaited = with_open j (record { name = name; awaited = awaited; promised = promised })

-- the command is accepted
abbrev pub with_command : Heard → Command → Heard
with_command j c = record j { entries = j.entries ++ Accepted c ∷ [] }

-- all blocks of the WRITE came: it is accepted, unless the device is locked. Its GOOD acknowledges it and all before it,
-- if it has FUA
abbrev pub written : Heard → TaskName → ℕ → WriteBegun → Heard
written j name promised w =
    if j.locked then open_again j name promised Nothing
    else open_again (with_command j (write_of w)) name (if w.forced then length j.entries + 1 else promised) Nothing

-- the WRITE has one block more; less than a block changes nothing
abbrev pub gathered : Heard → TaskName → ℕ → WriteBegun → Option (List ℕ) → Heard
gathered j name promised w None = open_again j name promised (Blocks w)
gathered j name promised w (Some block) =
    if is_whole (with_block w block) then written j name promised (with_block w block)
    else open_again j name promised (Blocks (with_block w block))

-- the list of an UNMAP came, with which this command is accepted, if one is. Its GOOD acknowledges nothing more: the
-- device gives it at once
abbrev pub unmapped : Heard → TaskName → ℕ → Option Command → Heard
unmapped j name promised None = open_again j name promised Nothing
unmapped j name promised (Some c) = open_again (with_command j c) name promised Nothing

-- the key and the counter of the region of this number after this command
abbrev pub with_state : Heard → ℕ → Command → Heard
with_state j number c =
    record j { regions = slice_set j.regions number (state_after (state_at j.regions number) (Some c)) }

-- the frames of a request to the region of this number came, of which this command is accepted, if one is: its GOOD
-- acknowledges it and all before it
abbrev pub brought : Heard → TaskName → ℕ → ℕ → Option Command → Heard
brought j name promised number None = open_again j name promised Nothing
brought j name promised number (Some c) =
    open_again (with_state (with_command j c) number c) name (length j.entries + 1) Nothing

-- the command that the region of this number accepts of these frames, if it accepts one
abbrev pub accepted_of : Heard → ℕ → List ℕ → Option Command
accepted_of j number bytes = accepted_by number (state_at j.regions number) j.locked (frames_of bytes)

-- the data of this message came for this command
abbrev pub taken : Heard → OpenTask → Awaited → List ℕ → Heard
taken j t Nothing message = open_again j t.name t.promised Nothing
taken j t (Blocks w) message = gathered j t.name t.promised w (block_of message)
taken j t (Verdict place) message = open_again j t.name t.promised (Verdict place)
taken j t UnmapList message =
    unmapped j t.name t.promised (zeros_accepted j.numbers j.locked t.name.lun (drop 32 message))
taken j t (Frames number) message =
    brought j t.name t.promised number (accepted_of j number (drop 32 message))

-- data whose tag no open command has change nothing
abbrev pub taken_by : Heard → Option OpenTask → List ℕ → Heard
taken_by j None message = j
taken_by j (Some t) message = taken j t t.awaited message

-- the data of this message came for the command with this tag
abbrev pub received : Heard → ℕ → List ℕ → Heard
received j tag message = taken_by (record j { tasks = without tag j.tasks }) (open_with tag j.tasks) message

-- ## A TASK MANAGEMENT REQUEST

-- the function is carried out for the LUN and the tag that is meant: an aborted command is open no more. To a LUN that
-- is not there no function is carried out, and no command accepts anything
abbrev pub managed : Heard → ℕ → ℕ → ℕ → Heard
managed j function lun meant = record j { tasks = left_open function lun meant j.tasks }

-- ## A QUERY REQUEST

-- a setting is asked for, and its answer is open: until it comes the setting is in doubt
abbrev pub doubted : Heard → TaskName → Setting → Heard
doubted j name s =
    with_open (record j { entries = j.entries ++ Doubted s ∷ []; tasks = without name.tag j.tasks })
    (record { name = name; awaited = Verdict (length j.entries); promised = 0 })

-- a query of this name asks for this setting, if for one. A locked device refuses each
abbrev pub asked : Heard → TaskName → Option Setting → Heard
asked j name None = j
asked j name (Some s) = if j.locked then j else doubted j name s

-- ## What a message and a reply tell

-- the LUN and the tag of a message
abbrev pub name_in : List ℕ → TaskName
name_in message = record { lun = slice_index message 2; tag = slice_index message 3 }

-- the device took this message: a COMMAND (01h), a DATA OUT (02h), a TASK MANAGEMENT REQUEST (04h), a QUERY REQUEST
-- (16h), a LINK EVENT (1Fh), after which nothing is open, or another one
abbrev pub heard : Heard → List ℕ → Heard
heard j message =
    if is_short message then j
    else if slice_index message 0 == 0x01 then begun j (name_in message) (command_in message)
    else if slice_index message 0 == 0x02 then received j (slice_index message 3) message
    else if slice_index message 0 == 0x04
    then managed j (slice_index message 5) (slice_index message 2) (slice_index message 19)
    else if slice_index message 0 == 0x16 then asked j (name_in message) (asked_setting (query_in message))
    else if slice_index message 0 == 0x1F then record j { tasks = [] }
    else j

-- the response and the status are zero: target success, and GOOD
abbrev pub says_good : List ℕ → Bool
says_good reply = (slice_index reply 6 == 0x00) && (slice_index reply 7 == 0x00)

-- how many commands the GOOD of this one acknowledges
abbrev pub promised_to : Option OpenTask → ℕ
promised_to None = 0
promised_to (Some t) = t.promised

-- the command with the tag has its RESPONSE
abbrev pub answered : Heard → ℕ → Bool → Heard
answered j tag good =
    record j {
      tasks = without tag j.tasks;
      held = (if good then max j.held (promised_to (open_with tag j.tasks)) else j.held);
    }

-- what the response code of its answer makes of a setting in doubt: 00h says that it was accepted, and any other code
-- that it was refused. But once the device is locked FFh may also be told of a setting that was accepted before, and
-- then waited: it stays in doubt (JESD220, 10.7.9)
abbrev pub settled_by : Bool → ℕ → Setting → Noted
settled_by locked code s =
    if code == 0x00 then Accepted (setting_command s)
    else if (code == 0xFF) && locked then Doubted s
    else Refused

-- what an answer makes of an entry: only one in doubt changes
abbrev pub settled : Bool → ℕ → Noted → Noted
settled locked code (Accepted c) = Accepted c
settled locked code (Doubted s) = settled_by locked code s
settled locked code Refused = Refused

-- the answer to the setting that is noted at this place has this code; 00h acknowledges it and all before it
abbrev pub ruled : Heard → ℕ → ℕ → Heard
ruled j place code =
    if nat_lt place (length j.entries)
    then record j {
      entries = slice_set j.entries place (settled j.locked code (slice_index_or j.entries place Refused));
      held = (if code == 0x00 then max j.held (place + 1) else j.held);
    }
    else j

-- what the answer to a query tells, if the exchange was open and waits for this
abbrev pub ruled_on : Heard → Awaited → ℕ → Heard
ruled_on j (Verdict place) code = ruled j place code
ruled_on j Nothing code = j
ruled_on j (Blocks w) code = j
ruled_on j UnmapList code = j
ruled_on j (Frames number) code = j

-- what it tells of the open exchange with its tag, if there is one
abbrev pub ruled_by : Heard → Option OpenTask → ℕ → Heard
ruled_by j None code = j
ruled_by j (Some t) code = ruled_on j t.awaited code

-- the query with the tag is answered with this code
abbrev pub query_answered : Heard → ℕ → ℕ → Heard
query_answered j tag code = ruled_by (record j { tasks = without tag j.tasks }) (open_with tag j.tasks) code

-- the device handed out this reply: a RESPONSE (21h), a QUERY RESPONSE (36h) or another one
abbrev pub told : Heard → List ℕ → Heard
told j reply =
    if is_short reply then j
    else if slice_index reply 0 == 0x21 then answered j (slice_index reply 3) (says_good reply)
    else if slice_index reply 0 == 0x36 then query_answered j (slice_index reply 3) (slice_index reply 6)
    else j
