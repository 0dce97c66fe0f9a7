-- What is open between a host and the device: tasks, short exchanges, and what lasts until the next power cycle
-- (JESD220, 10.7 UPIUs, 12.4 RPMB; SAM, tasks).
use Rattle.std.specs.Prelude.{ℕ, ◌+◌, ◌-◌, ◌*◌, ◌==◌, ◌&&◌, min, not, Bool, true, false, if◌then◌else◌, List, [], ◌∷◌}
use Rattle.std.specs.Prelude.{filter, find, length, take, Option, Some, None}
use Rattle.ufs_spec.specs.Cdbs.{Residual, carried, fixed_sense, residual_of}
use Rattle.ufs_spec.specs.Frames.{Frame}
use Rattle.ufs_spec.specs.declared.exchanges.Purpose.{Purpose}
use Rattle.ufs_spec.specs.declared.exchanges.Purpose.TheVariants.{ForFrames, ForUnmap, ForWrite}
use Rattle.ufs_spec.specs.declared.exchanges.ReadState.{ReadState}
use Rattle.ufs_spec.specs.declared.exchanges.Status.{Status}
use Rattle.ufs_spec.specs.declared.exchanges.Status.TheVariants.{Busy, CheckCondition, Good, TaskSetFull}
use Rattle.ufs_spec.specs.declared.messages.Message.{Message}
use Rattle.ufs_spec.specs.declared.messages.Message.TheVariants as message
use Rattle.ufs_spec.specs.declared.scsi.Cdb.{Cdb}
use Rattle.ufs_spec.specs.declared.scsi.Sense.{Sense}

-- ## Statuses and sense

-- the status in byte 7 of a RESPONSE (SAM)
abbrev pub status_byte : Status → ℕ
status_byte Good = 0x00
status_byte (CheckCondition sense) = 0x02
status_byte Busy = 0x08
status_byte TaskSetFull = 0x28

-- byte 6 of a RESPONSE: 01h, target failure, exactly if the status is not GOOD (this profile; JESD220 may be read as
-- 00h whenever the target answered at all)
abbrev pub response_byte : Status → ℕ
response_byte Good = 0x00
response_byte status = 0x01

-- the status is GOOD: what was asked for was done, or is accepted
abbrev pub is_good : Status → Bool
is_good Good = true
is_good (CheckCondition sense) = false
is_good Busy = false
is_good TaskSetFull = false

-- a RESPONSE has sense data with CHECK CONDITION alone: a length of 18 in two bytes, and fixed sense data
abbrev pub sense_data : Status → Option (List ℕ)
sense_data (CheckCondition sense) = Some (0 ∷ 0x12 ∷ fixed_sense sense)
sense_data status = None

-- sense data say what went wrong by a key, a code and a qualifier, here 0 (SPC, sense key
-- and additional sense code definitions)
abbrev pub sense : ℕ → ℕ → Sense
sense key asc = record { key = key; asc = asc; ascq = 0 }

-- CHECK CONDITION whose sense has this key and code, and qualifier 0
abbrev pub check : ℕ → ℕ → Status
check key asc = CheckCondition (sense key asc)

-- 2/04/01, NOT READY, in process of becoming ready: the device is not mended yet
abbrev pub not_ready : Status
not_ready = CheckCondition (record { key = 0x02; asc = 0x04; ascq = 0x01 })

-- 3/11/00, MEDIUM ERROR, unrecovered read error: a page for a READ or a VERIFY could not be read, or was another one
abbrev pub read_error : Status
read_error = check 0x03 0x11

-- E/1D/00, MISCOMPARE, miscompare during verify operation: a block is not the one that the host of a VERIFY sent
abbrev pub miscompare : Status
miscompare = check 0x0E 0x1D

-- 3/0C/00, MEDIUM ERROR, write error: the lock came before the data of a WRITE, or before what the
-- command waits for was durable
abbrev pub write_error : Status
write_error = check 0x03 0x0C

-- 5/1A/00, ILLEGAL REQUEST, parameter list length error
abbrev pub list_length_error : Status
list_length_error = check 0x05 0x1A

-- 5/20/00, ILLEGAL REQUEST, invalid command operation code: not one that this unit takes now
abbrev pub invalid_operation : Status
invalid_operation = check 0x05 0x20

-- 5/21/00, ILLEGAL REQUEST, logical block address out of range
abbrev pub out_of_range : Status
out_of_range = check 0x05 0x21

-- 5/24/00, ILLEGAL REQUEST, invalid field in CDB, also for the flags and the expected length of a COMMAND
abbrev pub invalid_field : Status
invalid_field = check 0x05 0x24

-- 5/25/00, ILLEGAL REQUEST, logical unit not supported
abbrev pub no_unit : Status
no_unit = check 0x05 0x25

-- 5/26/00, ILLEGAL REQUEST, invalid field in parameter list: such as malformed RPMB frames
abbrev pub invalid_list_field : Status
invalid_list_field = check 0x05 0x26

-- 6/29/00, UNIT ATTENTION, power on or reset: a LUN tells it once after each opening and each reset
abbrev pub unit_attention : Status
unit_attention = check 0x06 0x29

-- B/49/00, ABORTED COMMAND, invalid message error: the COMMAND has another task attribute than SIMPLE
abbrev pub message_error : Status
message_error = check 0x0B 0x49

-- 5/39/00, ILLEGAL REQUEST, saving parameters not supported: saved mode pages are asked for
abbrev pub saving_unsupported : Status
saving_unsupported = check 0x05 0x39

-- 4/3E/03, HARDWARE ERROR, logical unit failed self-test: the device is locked
abbrev pub self_test_failed : Status
self_test_failed = CheckCondition (record { key = 0x04; asc = 0x3E; ascq = 0x03 })

-- 5/2C/00, ILLEGAL REQUEST, command sequence error: a result or response of the RPMB is asked for, and none is there
abbrev pub sequence_error : Status
sequence_error = check 0x05 0x2C

-- 7/27/00, DATA PROTECT, write protected: the unit is protected, or the device is locked
abbrev pub write_protected : Status
write_protected = check 0x07 0x27

-- the RESPONSE (JESD220, 10.7.2) with this residual, LUN, tag and status
abbrev pub response_message : Residual → ℕ → ℕ → Status → Message
response_message r lun tag status =
    message.Response r.flags lun tag (response_byte status) (status_byte status) r.count (sense_data status)

-- the RESPONSE of a command that expected so many bytes (the third number), and of which so many (the fourth) are the
-- command's or, if the answer is not GOOD, were carried
abbrev pub response : ℕ → ℕ → ℕ → ℕ → Status → Message
response lun tag expected length status = response_message (residual_of expected length) lun tag status

-- ## Tasks

-- a block of a READ or a VERIFY, or a page of the RPMB area: its content as it was when it was looked up, at the COMMAND
-- or at the last data, and whether it was read from its page
pub record ReadBlock : Type 0 where
  pub body : List ℕ
  pub state : ReadState

-- what a task still does
pub data Deed : Type 0 where
  -- it gathers data: those that came, and whether the next READY TO TRANSFER was handed out
  Gathering : (purpose : Purpose) → (gathered : List ℕ) → (asked : Bool) → Deed
  -- it sends the blocks of a READ, so many of which were handed out
  Sending : (blocks : List ReadBlock) → (sent : ℕ) → Deed
  -- it sends these bytes in one DATA IN
  SendingBytes : (bytes : List ℕ) → Deed
  -- its GOOD is due once so many accepted commands are durable
  Awaiting : (commands : ℕ) → Deed
  -- it reads these pages of the RPMB area, or these blocks of a VERIFY, all beside each other; its answer is due once
  -- each of them is at hand, was read or could not be read
  ReadingArea : (pages : List ReadBlock) → Deed
  -- it compares the blocks of a VERIFY with what its host sends: so many were compared, and whether the READY TO TRANSFER
  -- for the next one was handed out
  Comparing : (blocks : List ReadBlock) → (compared : ℕ) → (asked : Bool) → Deed
  -- its answer is due, and so many bytes are the command's or were carried
  Answering : (status : Status) → (carried : ℕ) → Deed

-- the request of a SECURITY PROTOCOL OUT (JESD220, 12.4), from its last data on: its region, its frames, its result,
-- and whether its register was filled
pub record RpmbRequest : Type 0 where
  pub region : ℕ
  pub frames : List Frame
  pub result : ℕ
  pub filled : Bool

-- there is a request, and it has not filled its register yet
abbrev pub is_unfilled : Option RpmbRequest → Bool
is_unfilled None = false
is_unfilled (Some request) = not request.filled

-- the request has filled its register from now on; where there is none, there still is none
abbrev pub filled : Option RpmbRequest → Option RpmbRequest
filled None = None
filled (Some request) = Some (record request { filled = true })

-- an open command, from its COMMAND until its RESPONSE was handed out or it was aborted. Only a SECURITY
-- PROTOCOL OUT has a request
pub record Task : Type 0 where
  pub lun : ℕ
  pub tag : ℕ
  -- E: how many bytes the host sends or has room for; of a WRITE the whole blocks of them if it sends fewer than it has
  pub expected : ℕ
  -- its CDB, of a WRITE with the blocks that are taken; None if it was refused
  pub command : Option Cdb
  -- how many bytes it transfers if the host expects enough; 0 if it was refused
  pub length : ℕ
  pub deed : Deed
  pub request : Option RpmbRequest

-- how many tasks may be open at once (this profile); one more COMMAND gets TASK SET FULL
abbrev pub most_tasks : ℕ
most_tasks = 32

-- how many exchanges of one reply may be open (this profile)
abbrev pub most_short_exchanges : ℕ
most_short_exchanges = 32

-- an exchange of one reply: due at once, or once so many accepted commands are durable; if a lock ends it before, the
-- reply is another one. Its `tag` is the number by which it is found (`number_of`)
pub record Short : Type 0 where
  pub tag : ℕ
  pub awaits : Option ℕ
  pub reply : Message
  pub locked_reply : Message

-- an exchange whose reply is due at once, whatever becomes of the device
abbrev pub short_reply : ℕ → Message → Short
short_reply tag reply = record { tag = tag; awaits = None; reply = reply; locked_reply = reply }

-- what lasts of a region from one RPMB request to the next, until the next power cycle (JESD220, 12.4)
pub record Registers : Type 0 where
  -- the frame that a result read gives, if a request left one
  pub result : Option (List ℕ)
  -- the frames that wait for SECURITY PROTOCOL IN
  pub response : List (List ℕ)

-- as a life begins: no result, and nothing waits
abbrev pub empty_registers : Registers
empty_registers = record { result = None; response = [] }

-- the registers of each region as a life begins
abbrev pub all_empty : ℕ → Registers
all_empty region = empty_registers

-- the registers of each region, with those of one changed
abbrev pub at_region : (ℕ → Registers) → ℕ → Registers → ℕ → Registers
at_region f region registers other = if other == region then registers else f other

-- ## Tags and numbers

-- the number by which an exchange is found. Task management has tags of its own (SAM, task management functions), so
-- that a tag alone may name two exchanges: the number of one that is of task management is 256 above its tag
abbrev pub number_of : (manages : Bool) → (tag : ℕ) → ℕ
number_of true tag = 256 + tag
number_of false tag = tag

-- a number that no exchange has, of a message that belongs to none
abbrev pub no_number : ℕ
no_number = 512

-- the task is the one that a message with this tag is about; the LUN is not compared
abbrev pub is_task_of : ℕ → Task → Bool
is_task_of tag task = task.tag == tag

-- the short exchange is the one of this number
abbrev pub is_short_of : ℕ → Short → Bool
is_short_of number short = short.tag == number

-- the open task with this tag; there is at most one, since a tag in use is refused
abbrev pub task_of : ℕ → List Task → Option Task
task_of tag tasks = find (is_task_of tag) tasks

-- the task of the tag does this from now on; any other task stays
abbrev pub with_deed : ℕ → Deed → Task → Task
with_deed tag deed task = if is_task_of tag task then record task { deed = deed } else task

-- the tasks but the one with this tag, in their order
abbrev pub without_task : ℕ → List Task → List Task
without_task tag tasks = filter (λ task. not (is_task_of tag task)) tasks

-- the short exchanges but the one with this number, in their order
abbrev pub without_short : ℕ → List Short → List Short
without_short number shorts = filter (λ short. not (is_short_of number short)) shorts

-- ## Transfers

-- how many bytes of its data a command sends: no more than the host expects
abbrev pub bytes_sent : Task → ℕ
bytes_sent task = carried task.expected task.length

-- how many bytes the transfer at an offset has: a block of 4096, or the rest of all bytes
abbrev pub count_at : ℕ → ℕ → ℕ
count_at total offset = min 4096 (total - offset)

-- how many bytes of data a task gathers for this purpose, of a command of so many: the blocks of a WRITE that are taken,
-- else all
abbrev pub to_gather : Purpose → ℕ → ℕ
to_gather (ForWrite unit address blocks forced) total = 4096 * blocks
to_gather (ForUnmap unit) total = total
to_gather (ForFrames region) total = total

-- READY TO TRANSFER (JESD220, 10.7.5): the host is asked for the bytes after those that were gathered for this purpose
abbrev pub ready_message : Task → Purpose → List ℕ → Message
ready_message task purpose gathered =
    message.ReadyToTransfer task.lun task.tag (length gathered)
    (count_at (to_gather purpose task.length) (length gathered))

-- READY TO TRANSFER (JESD220, 10.7.5): the host is asked for the block that is compared after so many
abbrev pub ready_for_block : Task → (compared : ℕ) → Message
ready_for_block task compared = message.ReadyToTransfer task.lun task.tag (4096 * compared) 4096

-- DATA IN (JESD220, 10.7.4) with these bytes, which are at this offset in the command's data
abbrev pub data_message : Task → ℕ → List ℕ → Message
data_message task offset bytes = message.DataIn task.lun task.tag offset (record { items = bytes })

-- the DATA IN of a block of a READ after so many were sent, cut where the host expects no more
abbrev pub block_message : Task → ℕ → List ℕ → Message
block_message task sent body = data_message task (4096 * sent) (take (count_at (bytes_sent task) (4096 * sent)) body)

-- a DATA OUT brings what the task asked for: its LUN, offset and count are those of the READY TO TRANSFER that was
-- handed out and not met yet
abbrev pub is_asked_in : Task → ℕ → ℕ → ℕ → Deed → Bool
is_asked_in task lun offset count (Gathering purpose gathered asked) =
    asked && (task.lun == lun) && (offset == length gathered)
    && (count == count_at (to_gather purpose task.length) (length gathered))
is_asked_in task lun offset count (Sending blocks sent) = false
is_asked_in task lun offset count (SendingBytes bytes) = false
is_asked_in task lun offset count (Awaiting commands) = false
is_asked_in task lun offset count (ReadingArea pages) = false
is_asked_in task lun offset count (Comparing blocks compared asked) =
    asked && (task.lun == lun) && (offset == 4096 * compared) && (count == 4096)
is_asked_in task lun offset count (Answering status carried) = false

-- the same of the task with the DATA OUT's tag; without one nothing was asked for
abbrev pub is_asked_of : Option Task → ℕ → ℕ → ℕ → Bool
is_asked_of None lun offset count = false
is_asked_of (Some task) lun offset count = is_asked_in task lun offset count task.deed
