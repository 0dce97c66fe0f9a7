-- The state of a device with its dies, and the table by which a command is refused: the first line that applies decides
-- (JESD220, 10.8 logical units; SPC and SBC for the commands; the order of the lines is this profile's).
use Rattle.std.specs.Prelude.{ℕ, ◌+◌, ◌*◌, ◌%◌, ◌==◌, ◌&&◌, ◌||◌, nat_le, nat_lt, not, Bool, true, false, if◌then◌else◌}
use Rattle.std.specs.Prelude.{bit_and, is_some, slice_set, unwrap_or}
use Rattle.std.specs.Prelude.{is_none, List, [], ◌∷◌, length, position, slice_get, Option, Some, None}
use Rattle.std.specs.List.{list_any}
use Rattle.ufs_spec.specs.CdbFields.{has_only, page_control, row_of, usage_of}
use Rattle.ufs_spec.specs.Cdbs.{Direction, NoData, ToDevice, ToHost, address_of, blocks_meant, blocks_of, direction_of}
use Rattle.ufs_spec.specs.Cdbs.{length_of}
pub use Rattle.ufs_spec.specs.Cdbs.{blocks_brought, brought}
use Rattle.ufs_spec.specs.Cells.{Array}
use Rattle.ufs_spec.specs.Commands.{Command}
use Rattle.ufs_spec.specs.Configs.{command_blocks}
use Rattle.ufs_spec.specs.Exchanges.{Registers, Short, Task, invalid_field, invalid_operation, list_length_error}
use Rattle.ufs_spec.specs.Exchanges.{message_error, unit_attention}
use Rattle.ufs_spec.specs.Exchanges.{no_unit, not_ready, out_of_range, saving_unsupported, self_test_failed}
use Rattle.ufs_spec.specs.Exchanges.{sequence_error, write_protected}
use Rattle.ufs_spec.specs.Identities.{is_reported, modes_bytes, operations_told, page_bytes, vpd_pages}
use Rattle.ufs_spec.specs.declared.exchanges.Status.{Status}
use Rattle.ufs_spec.specs.declared.exchanges.Status.TheVariants.{Busy}
use Rattle.ufs_spec.specs.Messages.{is_among}
use Rattle.ufs_spec.specs.Plain.{Plain, after, steps_of}
use Rattle.ufs_spec.specs.Translation.{Translation, free_slots, has_pending, is_locked, is_mended}
use Rattle.ufs_spec.specs.declared.configs.Numbers.{Numbers}
use Rattle.ufs_spec.specs.declared.configs.UnitSpec.{UnitSpec}
use Rattle.ufs_spec.specs.declared.operations.Kind.{Kind}
use Rattle.ufs_spec.specs.declared.operations.Kind.TheVariants as kind
use Rattle.ufs_spec.specs.declared.operations.Row.{Row}
use Rattle.ufs_spec.specs.declared.operations.Told.{Told}
use Rattle.ufs_spec.specs.declared.operations.Told.TheVariants as told
use Rattle.ufs_spec.specs.declared.scsi.Cdb.{Cdb}
use Rattle.ufs_spec.specs.declared.scsi.Cdb.TheVariants as cdb
use Rattle.ufs_spec.specs.declared.volatile.Volatile.{Volatile}

-- ## The state

-- all that can be read off one life so far. What the code keeps is said to describe such a state
pub record State : Type 0 where
  -- the pages of the dies, as they are now; a job in flight has done nothing yet
  pub array : Array
  -- the plain state at the life's start, and the commands accepted since, in order
  pub base : Plain
  pub accepted : List Command
  -- what is owed to each die, and where the contents are (Translation)
  pub translation : Translation
  -- the open commands and the exchanges of one reply, in the order in which they were opened (Exchanges)
  pub tasks : List Task
  pub shorts : List Short
  -- what lasts until the next power cycle, with the registers of each RPMB region
  pub volatile : Volatile
  pub registers : ℕ → Registers

-- the configuration, which stays through a life. `numbers_of` of Configs is another one: it makes the record
abbrev pub numbers_of : State → Numbers
numbers_of s = s.translation.numbers

-- what the device has after all that it accepted, durable or not
abbrev pub plain_now : State → Plain
plain_now s = after s.base s.accepted

-- whether the mending is over: all that was lost has its repairs, and a mark without a fence is finished. Before it
-- most commands are refused, unless the device is locked (line 8)
abbrev pub mended : State → Bool
mended s = is_mended s.translation.work.mending

-- whether the device takes no writes any more: more blocks are bad than may be, or no number for a group is left.
-- In one life a lock never goes again
abbrev pub locked : State → Bool
locked s = is_locked s.translation

-- whether nothing can be accepted now: the device is locked, or not mended yet
abbrev pub accepts_nothing : State → Bool
accepts_nothing s = locked s || not (mended s)

-- ## Units

-- what a LUN byte names: a unit by its number, or one of the well-known ones (JESD220, 10.8.5)
pub data Lun : Type 0 where
  -- a unit of the configuration, 00h to 07h
  UnitOf : (unit : ℕ) → Lun
  -- 81h
  ReportLunsUnit : Lun
  -- B0h: the blocks of the unit that boots
  BootUnit : Lun
  -- C4h: the replay protected memory block
  RpmbUnit : Lun
  -- D0h: the device as a whole
  DeviceUnit : Lun

-- the well-known unit with this LUN byte
abbrev pub well_known : ℕ → Option Lun
well_known byte =
    if byte == 0x81 then Some ReportLunsUnit
    else if byte == 0xB0 then Some BootUnit
    else if byte == 0xC4 then Some RpmbUnit
    else if byte == 0xD0 then Some DeviceUnit
    else None

-- what a LUN byte names on a device of this configuration: a unit of it, or a well-known one
abbrev pub lun_of : Numbers → ℕ → Option Lun
lun_of n byte = if nat_lt byte (length n.units.items) then Some (UnitOf byte) else well_known byte

-- the LUN takes the commands of this row (this profile): a well-known one takes only a few
abbrev pub takes : Lun → Row → Bool
takes (UnitOf unit) row = row.takers.units
takes ReportLunsUnit row = row.takers.report_luns
takes BootUnit row = row.takers.boot
takes RpmbUnit row = row.takers.rpmb
takes DeviceUnit row = row.takers.device

-- the unit whose boot number is the boot setting, if that is not 0 (JESD220, 13.1)
abbrev pub boot_unit : Numbers → ℕ → Option ℕ
boot_unit n boot = if boot == 0 then None else position (λ (u : UnitSpec). u.boot == boot) n.units.items

-- the unit whose blocks are read or written through a LUN: its own, or for the boot LUN those of the unit that the boot
-- setting names. A LUN without blocks has none
abbrev pub unit_named : Numbers → ℕ → Lun → Option ℕ
unit_named n boot (UnitOf unit) = Some unit
unit_named n boot BootUnit = boot_unit n boot
unit_named n boot lun = None

-- ## Requests

-- a COMMAND (JESD220, 10.7.1)
pub record Request : Type 0 where
  pub flags : ℕ
  pub lun : ℕ
  pub tag : ℕ
  -- E: how many bytes the host sends or has room for
  pub expected : ℕ
  -- the CDB, and the command that it spells, if it spells one
  pub bytes : List ℕ
  pub cdb : Option Cdb

-- the row of its operation code, if the table has one, whatever the rest of the CDB spells
abbrev pub row_in : Request → Option Row
row_in r = row_of r.bytes

-- the unit that the request reads or writes through this LUN. The boot setting is judged at the COMMAND, as it was
-- accepted by then, durable or not
abbrev pub unit_in : State → Request → Option Lun → Option ℕ
unit_in s r None = None
unit_in s r (Some lun) = unit_named (numbers_of s) (plain_now s).boot lun

-- the same for the LUN byte of the request
abbrev pub unit_of_request : State → Request → Option ℕ
unit_of_request s r = unit_in s r (lun_of (numbers_of s) r.lun)

-- how many blocks that unit has, its boot number and its protection
abbrev pub unit_numbers_at : Numbers → Option ℕ → Option UnitSpec
unit_numbers_at n None = None
unit_numbers_at n (Some unit) = slice_get n.units.items unit

-- the same for the unit of the request, if it has one
abbrev pub unit_numbers_of : State → Request → Option UnitSpec
unit_numbers_of s r = unit_numbers_at (numbers_of s) (unit_of_request s r)

-- how many units REPORT LUNS lists: the ordinary ones, the four well-known ones, or both
abbrev pub units_listed : Numbers → Cdb → ℕ
units_listed n (cdb.Tell told.Units select allocation) =
    if select == 0 then length n.units.items else if select == 1 then 4 else length n.units.items + 4
units_listed n command = 0

-- how many bytes there are to tell at this LUN (SPC, SBC): of fixed sense data 18, of INQUIRY data 36, of READ CAPACITY(10)
-- data 8, of a list of units 8 and 8 a unit, of READ CAPACITY(16) data 32; of pages as many as they have, behind a
-- header; of commands as many as what is told of them has
abbrev pub told_length : Numbers → (lun : ℕ) → Told → (select : ℕ) → ℕ
told_length n lun told.Sense select = 18
told_length n lun told.Identity select = 36
told_length n lun told.Capacity select = 8
told_length n lun told.Units select = 8 + 8 * units_listed n (cdb.Tell told.Units select 0)
told_length n lun told.LongCapacity select = 32
told_length n lun told.Page select = length (page_bytes n lun select)
told_length n lun told.Modes select = 8 + length (modes_bytes select)
told_length n lun told.ShortModes select = 4 + length (modes_bytes select)
told_length n lun told.Operations select = length (operations_told select)

-- the same of a command; nothing is told by any other
abbrev pub told_count : Numbers → (lun : ℕ) → Cdb → ℕ
told_count n lun (cdb.Tell what select allocation) = told_length n lun what select
told_count n lun command = 0

-- how many bytes of data the command has on this device
abbrev pub length_in : State → Request → Cdb → ℕ
length_in s r command = length_of (told_count (numbers_of s) r.lun command) command

-- ## Lines of the table

-- 1: a command of this kind needs blocks that can be read: READ and READ CAPACITY
abbrev pub needs_blocks : Kind → Bool
needs_blocks kind.Read = true
needs_blocks (kind.Tell told.Capacity) = true
needs_blocks (kind.Tell told.LongCapacity) = true
needs_blocks other = false

-- the same of a row, if there is one and the device's profile has it
abbrev pub is_boot_read : Numbers → Option Row → Bool
is_boot_read n None = false
is_boot_read n (Some row) = nat_le row.profile n.profile && needs_blocks row.kind

-- 1: a command of this kind is answered also where there is no unit, on a device of profile 1: INQUIRY, which tells that
-- there is none, and REQUEST SENSE, which tells why (SPC)
abbrev pub tells_of_none : Kind → Bool
tells_of_none (kind.Tell told.Identity) = true
tells_of_none (kind.Tell told.Sense) = true
tells_of_none other = false

-- 1: the same of a row, if there is one
abbrev pub is_told_anywhere : Numbers → Option Row → Bool
is_told_anywhere n None = false
is_told_anywhere n (Some row) = nat_lt 0 n.profile && tells_of_none row.kind

-- 1 (5/25/00): there is no such unit; or the request needs the blocks of the boot unit, and no unit boots. In profile 0 it
-- refuses every command, INQUIRY too, for which SPC has a peripheral qualifier
abbrev pub lacks_unit : State → Request → Option Lun → Bool
lacks_unit s r None = not (is_told_anywhere (numbers_of s) (row_in r))
lacks_unit s r (Some BootUnit) =
    is_boot_read (numbers_of s) (row_in r) && is_none (boot_unit (numbers_of s) (plain_now s).boot)
lacks_unit s r (Some lun) = false

-- 2: where the attention of a LUN stands among those of all LUNs: the units by their numbers, then 81h, B0h, C4h and D0h
abbrev pub attention_place : Lun → ℕ
attention_place (UnitOf unit) = unit
attention_place ReportLunsUnit = 8
attention_place BootUnit = 9
attention_place RpmbUnit = 10
attention_place DeviceUnit = 11

-- 2: the LUN has an attention that no host was told of (SAM, unit attention condition); in profile 0 none is told
abbrev pub has_attention : State → Lun → Bool
has_attention s lun =
    nat_lt 0 (numbers_of s).profile && unwrap_or (slice_get s.volatile.attentions (attention_place lun)) false

-- 2: what is volatile once the LUN has an attention, or none any more
abbrev pub with_attention : Lun → Bool → Volatile → Volatile
with_attention lun is volatile =
    record volatile { attentions = slice_set volatile.attentions (attention_place lun) is }

-- 2: a command of this kind does not meet an attention: REQUEST SENSE, which tells it, INQUIRY and REPORT LUNS (SPC)
abbrev pub passes_attention : Kind → Bool
passes_attention (kind.Tell told.Sense) = true
passes_attention (kind.Tell told.Identity) = true
passes_attention (kind.Tell told.Units) = true
passes_attention other = false

-- 2: the same of a row; an operation code that has none meets it
abbrev pub is_passing : Option Row → Bool
is_passing None = false
is_passing (Some row) = passes_attention row.kind

-- 2 (6/29/00): the LUN has an attention, and the command meets it
abbrev pub meets_attention : State → Request → Option Lun → Bool
meets_attention s r None = false
meets_attention s r (Some lun) = has_attention s lun && not (is_passing (row_in r))

-- 2: the attention of a LUN ends, if there is such a LUN
abbrev pub without_attention : Option Lun → Volatile → Volatile
without_attention None volatile = volatile
without_attention (Some lun) volatile = with_attention lun false volatile

-- 2 (B/49/00): the COMMAND has a task attribute, and not SIMPLE (JESD220, 10.7.1). In profile 0 it is not taken at all
abbrev pub is_not_simple : Request → Bool
is_not_simple r = not (bit_and r.flags 0x03 == 0)

-- 2: the LUN takes the commands of this row, if there is one and the device's profile has it
abbrev pub takes_row : Numbers → Lun → Option Row → Bool
takes_row n lun None = false
takes_row n lun (Some row) = nat_le row.profile n.profile && takes lun row

-- 2 (5/20/00): the unit does not take the operation code
abbrev pub not_taken : Numbers → Request → Option Lun → Bool
not_taken n r None = false
not_taken n r (Some lun) = not (takes_row n lun (row_in r))

-- 3: the CDB has a bit set that profile 0 does not take
abbrev pub goes_beyond : List ℕ → Option Row → Bool
goes_beyond bytes None = false
goes_beyond bytes (Some row) = not (has_only (usage_of 0 row) bytes)

-- 3 (5/24/00): the same on a device of profile 0
abbrev pub is_beyond : Numbers → Request → Bool
is_beyond n r = (n.profile == 0) && goes_beyond r.bytes (row_in r)

-- 3 (5/24/00): the RPMB region of the command is not there, since its area has no bytes
abbrev pub lacks_region : Numbers → Cdb → Bool
lacks_region n (cdb.SecurityIn region size) = steps_of n region == 0
lacks_region n (cdb.SecurityOut region size) = steps_of n region == 0
lacks_region n command = false

-- 3 (5/24/00): the unit has no such page of vital product data, or there is no such unit
abbrev pub lacks_page : Numbers → (lun : ℕ) → Cdb → Bool
lacks_page n lun (cdb.Tell told.Page page allocation) =
    not (is_some (lun_of n lun) && is_among (vpd_pages lun) page)
lacks_page n lun command = false

-- 3 (5/24/00): REPORT SUPPORTED OPERATION CODES asks for an operation code without its service action, for a service
-- action of a code that has none, or by reporting options that there are not
abbrev pub lacks_operation : Cdb → Bool
lacks_operation (cdb.Tell told.Operations select allocation) = not (is_reported select)
lacks_operation command = false

-- 3 (5/39/00): MODE SENSE asks for saved values, and none are saved
abbrev pub wants_saved : Cdb → Bool
wants_saved (cdb.Tell told.Modes select allocation) = page_control select == 3
wants_saved (cdb.Tell told.ShortModes select allocation) = page_control select == 3
wants_saved command = false

-- 4: the length of 1 to 8 RPMB frames
abbrev pub is_frames : ℕ → Bool
is_frames n = nat_le 512 n && nat_le n 4096 && (n % 512 == 0)

-- 4 (5/24/00): more blocks than a command may have (`command_blocks`), or a security length that is not 512 to
-- 4096 in steps of 512
abbrev pub is_too_long : Numbers → Cdb → Bool
is_too_long n (cdb.SecurityIn region size) = not (is_frames size)
is_too_long n (cdb.SecurityOut region size) = not (is_frames size)
is_too_long n command = nat_lt (command_blocks n) (blocks_of command)

-- 5 (5/1A/00): UNMAP's list is not of 0 bytes, of 8 (its header) or of 24 (with one descriptor)
abbrev pub has_wrong_list : Cdb → Bool
has_wrong_list (cdb.Unmap list) = not (is_among (0 ∷ 8 ∷ 24 ∷ []) list)
has_wrong_list command = false

-- 6: the flag of a direction, whatever the priority and the task attribute below it are (JESD220, 10.7.1)
abbrev pub direction_flag : Request → ℕ
direction_flag r = bit_and r.flags 0xF8

-- 6: the host may send fewer bytes than the command has: than a WRITE, of which a device of profile 1 takes the whole
-- blocks that come (`brought`)
abbrev pub may_be_cut : Numbers → Cdb → Bool
may_be_cut n (cdb.Write address blocks forced) = nat_lt 0 n.profile
may_be_cut n command = false

-- 6 (5/24/00): there are data, and the flag of their direction is not set (20h to the device, 40h to the host); or the
-- host sends fewer bytes than the command has, and may not. A READ or WRITE of no blocks needs no flag
abbrev pub lacks_data : Request → Direction → (cut : Bool) → ℕ → Bool
lacks_data r NoData cut n = false
lacks_data r ToDevice cut n = nat_lt 0 n && (not (direction_flag r == 0x20) || (not cut && nat_lt r.expected n))
lacks_data r ToHost cut n = nat_lt 0 n && not (direction_flag r == 0x40)

-- 7 (5/21/00): address plus blocks is above the unit's count
abbrev pub is_past : Cdb → Option UnitSpec → Bool
is_past command None = false
is_past command (Some u) = nat_lt u.blocks (address_of command + blocks_meant command)

-- 8: the command is taken only once the device is ready: each one but those that tell of the device
abbrev pub needs_mended : Cdb → Bool
needs_mended (cdb.Tell what select allocation) = false
needs_mended command = true

-- 8: the command asks whether the device is ready
abbrev pub tests_unit : Cdb → Bool
tests_unit cdb.Nothing = true
tests_unit command = false

-- 8: the device is ready for the command: once it is mended for each one. A locked device need not be mended, but for
-- TEST UNIT READY: what it holds is known from its opening on, and it accepts nothing any more
abbrev pub is_ready_for : State → Cdb → Bool
is_ready_for s command = mended s || (not (tests_unit command) && locked s)

-- 8 (2/04/01): the command needs a device that is ready for it, and this one is not
abbrev pub is_unready : State → Cdb → Bool
is_unready s command = needs_mended command && not (is_ready_for s command)

-- 9: the command changes blocks: a WRITE of at least one, or an UNMAP of one descriptor
abbrev pub writes : Cdb → Bool
writes (cdb.Write address blocks forced) = nat_lt 0 blocks
writes (cdb.Unmap list) = list == 24
writes command = false

-- 9: the unit is protected: with protection 1 while fPowerOnWPEn is set, with 2 while fPermanentWPEn is set,
-- with 0 never (JESD220, 14.1.4.5)
abbrev pub is_protected : State → Option UnitSpec → Bool
is_protected s None = false
is_protected s (Some u) = ((u.protect == 1) && s.volatile.power_on) || ((u.protect == 2) && (plain_now s).permanent)

-- 9: the unit takes no writes now
abbrev pub is_guarded : State → Option UnitSpec → Bool
is_guarded s u = is_protected s u || locked s

-- 9 (4/3E/03): SEND DIAGNOSTIC asks for a self-test of a locked device
abbrev pub fails_test : State → Cdb → Bool
fails_test s (cdb.Diagnose tests) = tests && locked s
fails_test s command = false

-- 9: the command is a flush, with IMMED or without
abbrev pub flushes : Cdb → Bool
flushes (cdb.Flush immediate) = true
flushes command = false

-- 9 (7/27/00): a write to a protected unit or a locked device; a flush of a locked device with something
-- accepted that is not durable
abbrev pub is_refused_write : State → Option UnitSpec → Cdb → Bool
is_refused_write s u command =
    (writes command && is_guarded s u) || (flushes command && locked s && has_pending s.translation)

-- 10 (5/2C/00): SECURITY PROTOCOL IN while no response frames wait in its region
abbrev pub lacks_response : State → Cdb → Bool
lacks_response s (cdb.SecurityIn region n) = length (s.registers region).response == 0
lacks_response s command = false

-- 10 (5/24/00): SECURITY PROTOCOL IN of another length than the waiting frames have
abbrev pub has_other_response : State → Cdb → Bool
has_other_response s (cdb.SecurityIn region n) = not (n == 512 * length (s.registers region).response)
has_other_response s command = false

-- 11: how many slots a SECURITY PROTOCOL OUT claims: one for each page that an RPMB write may have, two of the area and
-- the settings
abbrev pub slots_for_frames : ℕ
slots_for_frames = 3

-- 11: how many slots of the write cache a command claims at its COMMAND: a WRITE one for each block, an UNMAP of one
-- descriptor as many as a command may have blocks
abbrev pub slots_needed : Numbers → Cdb → ℕ
slots_needed n (cdb.Write address blocks forced) = blocks
slots_needed n (cdb.Unmap list) = if list == 24 then command_blocks n else 0
slots_needed n (cdb.SecurityOut region size) = slots_for_frames
slots_needed n command = 0

-- 11: the command brings frames of the RPMB
abbrev pub is_security_out : Cdb → Bool
is_security_out (cdb.SecurityOut region size) = true
is_security_out command = false

-- 11: the same, for this region
abbrev pub is_security_out_for : ℕ → Cdb → Bool
is_security_out_for region (cdb.SecurityOut other size) = other == region
is_security_out_for region command = false

-- 11: the command of an open task brings frames; a refused task has no command, so that it does not count
abbrev pub sends_frames : Option Cdb → Bool
sends_frames None = false
sends_frames (Some command) = is_security_out command

-- the same, for this region
abbrev pub sends_frames_to : ℕ → Option Cdb → Bool
sends_frames_to region None = false
sends_frames_to region (Some command) = is_security_out_for region command

-- 11 (status 08h): SECURITY PROTOCOL OUT while another is open, of whatever region; or fewer slots are free than are
-- needed
abbrev pub is_crowded : State → Cdb → Bool
is_crowded s command =
    (is_security_out command && list_any (λ (task : Task). sends_frames task.command) s.tasks)
    || nat_lt (free_slots s.translation) (slots_needed (numbers_of s) command)

-- ## The table. Line 0 comes before it: TASK SET FULL (28h) if 32 tasks are open (`command_taken` in Begins)

-- a line of the table: whether it applies to the request, the status that it answers with, and what it makes of what
-- is volatile
pub record Line : Type 0 where
  pub applies : Bool
  pub status : Status
  pub becomes : Volatile → Volatile

-- a line that changes nothing; it stands in the lists below in one row each
abbrev pub line : Bool → Status → Line
line applies status = record { applies = applies; status = status; becomes = λ volatile. volatile }

-- the status of the first line that applies; None if none does
abbrev pub first_line : List Line → Option Status
first_line [] = None
first_line (l ∷ ls) = if l.applies then Some l.status else first_line ls

-- what the first line that applies makes of what is volatile; where none does it stays
abbrev pub volatile_by : List Line → Volatile → Volatile
volatile_by [] volatile = volatile
volatile_by (l ∷ ls) volatile = if l.applies then l.becomes volatile else volatile_by ls volatile

-- the rest of line 3 and lines 4 to 11, for a CDB that spells a command
abbrev pub lines_for : State → Request → Cdb → List Line
lines_for s r command =
    line (lacks_region (numbers_of s) command || (lacks_page (numbers_of s) r.lun command || lacks_operation command))
    invalid_field
    ∷ line (wants_saved command) saving_unsupported
    ∷ line (is_too_long (numbers_of s) command) invalid_field
    ∷ line (has_wrong_list command) list_length_error
    ∷ line
    (lacks_data r (direction_of command) (may_be_cut (numbers_of s) command) (length_in s r command))
    invalid_field
    ∷ line (is_past command (unit_numbers_of s r)) out_of_range
    ∷ line (is_unready s command) not_ready
    ∷ line (is_refused_write s (unit_numbers_of s r) command) write_protected
    ∷ line (fails_test s command) self_test_failed
    ∷ line (lacks_response s command) sequence_error
    ∷ line (has_other_response s command) invalid_field
    ∷ line (is_crowded s (brought r.expected command)) Busy
    ∷ []

-- line 3 (5/24/00) for a CDB that spells none: one of its fields, or a byte that must be zero, is wrong. For any
-- other the lines after it, and before them whether it goes beyond profile 0
abbrev pub lines_after : State → Request → Option Cdb → List Line
lines_after s r None = line true invalid_field ∷ []
lines_after s r (Some command) = line (is_beyond (numbers_of s) r) invalid_field ∷ lines_for s r command

-- all lines
abbrev pub table : State → Request → List Line
table s r =
    line (lacks_unit s r (lun_of (numbers_of s) r.lun)) no_unit
    ∷ record {
      applies = meets_attention s r (lun_of (numbers_of s) r.lun);
      status = unit_attention;
      becomes = without_attention (lun_of (numbers_of s) r.lun);
    }
    ∷ line (is_not_simple r) message_error
    ∷ line (not_taken (numbers_of s) r (lun_of (numbers_of s) r.lun)) invalid_operation
    ∷ lines_after s r r.cdb

-- why a request is refused: what the first line says that applies. None if no line applies, and then the command begins
abbrev pub refusal : State → Request → Option Status
refusal s r = first_line (table s r)

-- the state with what the line that refuses a request makes of it
abbrev pub refused_state : State → Request → State
refused_state s r = record s { volatile = volatile_by (table s r) s.volatile }
