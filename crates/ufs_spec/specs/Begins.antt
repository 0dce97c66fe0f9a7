-- What a COMMAND makes of the state: it is refused, or begins (JESD220, 10.7.1; SPC and SBC for the commands).
use Rattle.std.specs.Prelude.{Bool, List, None, Option, Some, [], false, if◌then◌else◌, length, map, nat_le, nat_lt, not}
use Rattle.std.specs.Prelude.{is_some, take, true, ℕ, ◌*◌, ◌+◌, ◌/◌, ◌==◌, ◌||◌, ◌∷◌}
use Rattle.std.specs.List.{flat_map}
use Rattle.std.specs.Int.{div_ceil}
use Rattle.ufs_spec.specs.Cdbs.{carried, fixed_sense}
use Rattle.ufs_spec.specs.Changes.{with_moves, with_short, with_task}
use Rattle.ufs_spec.specs.Exchanges.{Answering, Awaiting, Comparing, Deed, Gathering, ReadBlock, ReadingArea, Sending}
use Rattle.ufs_spec.specs.Exchanges.{SendingBytes, at_region}
use Rattle.ufs_spec.specs.Exchanges.{most_tasks, response, sense, short_reply}
use Rattle.ufs_spec.specs.declared.exchanges.Status.TheVariants.{Good, TaskSetFull}
use Rattle.ufs_spec.specs.declared.exchanges.Purpose.TheVariants.{ForFrames, ForUnmap, ForWrite}
use Rattle.ufs_spec.specs.declared.exchanges.ReadState.TheVariants.{Unread}
use Rattle.ufs_spec.specs.declared.exchanges.Status.{Status}
use Rattle.ufs_spec.specs.declared.exchanges.Purpose.{Purpose}
use Rattle.ufs_spec.specs.Identities.{device_type, inquiry_bytes, long_capacity_bytes, luns_bytes, modes_told, operations_told}
use Rattle.ufs_spec.specs.Identities.{page_bytes, short_modes_told}
pub use Rattle.ufs_spec.specs.Identities.{capacity_bytes}
use Rattle.ufs_spec.specs.Keys.{below, data_key}
use Rattle.ufs_spec.specs.Moves.{Claim, Keep, Move, look_now}
use Rattle.ufs_spec.specs.Plain.{block_at}
use Rattle.ufs_spec.specs.Refusals.{Lun, Request, State, has_attention, is_guarded, lun_of, mended, numbers_of, plain_now}
use Rattle.ufs_spec.specs.Refusals.{blocks_brought, refusal, refused_state, slots_needed, without_attention}
use Rattle.ufs_spec.specs.Refusals.{unit_numbers_of, unit_of_request}
use Rattle.ufs_spec.specs.Translation.{Pin}
use Rattle.ufs_spec.specs.declared.operations.Told.{Told}
use Rattle.ufs_spec.specs.declared.operations.Told.TheVariants as told
use Rattle.ufs_spec.specs.declared.scsi.Cdb.{Cdb}
use Rattle.ufs_spec.specs.declared.scsi.Sense.{Sense}
use Rattle.ufs_spec.specs.declared.volatile.Volatile.{Volatile}
use Rattle.ufs_spec.specs.declared.scsi.Cdb.TheVariants as cdb

-- the n blocks of a READ that are sent, from an address on. Their content is that of this moment, the COMMAND:
-- writes accepted before it are seen, durable or not, and later ones are not. SAM lets a device reorder simple
-- tasks; this one does not, so that each answer has one right content
abbrev pub read_blocks : State → ℕ → ℕ → ℕ → List ReadBlock
read_blocks s unit address n =
    map (λ i. record { body = block_at unit (address + i) (plain_now s); state = Unread }) (below n)

-- what the task keeps of its block i: where it is found now. Its page is wanted at once only of the first block;
-- each other one is wanted after the block before it was handed out
abbrev pub kept_at : State → ℕ → ℕ → ℕ → ℕ → Pin
kept_at s tag unit address i =
    record { tag = tag; index = i; looked = look_now s.translation (data_key unit (address + i)); wanted = i == 0 }

-- a READ keeps each of its n blocks, so that no page that it still needs is erased before it is handed out
abbrev pub keeps : State → ℕ → ℕ → ℕ → ℕ → List Move
keeps s tag unit address n = map (λ i. Keep (data_key unit (address + i)) (kept_at s tag unit address i)) (below n)

-- how many blocks of n bytes of data are sent: those of which the host expects at least one byte
abbrev pub blocks_expected : Request → ℕ → ℕ
blocks_expected r n = div_ceil (carried r.expected n) 4096

-- a READ sends these blocks; if the host expects none of them, or there are none, GOOD is due at once
abbrev pub sending : List ReadBlock → ℕ → Deed
sending [] n = Answering Good n
sending (b ∷ bs) n = Sending (b ∷ bs) 0

-- a READ of n bytes begins: only blocks that the host expects are taken and kept, with their content now.
-- FUA changes nothing in a READ
abbrev pub read_begun : State → Request → Cdb → ℕ → ℕ → ℕ → State
read_begun s r command unit address n =
    with_task
    (with_moves s (keeps s r.tag unit address (blocks_expected r n)))
    r (Some command) n (sending (read_blocks s unit address (blocks_expected r n)) n)

-- what a VERIFY that compares nothing keeps of its block i: what a READ would, but the page of each block is wanted at once
abbrev pub wanted_at : State → ℕ → ℕ → ℕ → ℕ → Pin
wanted_at s tag unit address i = record (kept_at s tag unit address i) { wanted = true }

-- it keeps each of its n blocks until it is answered
abbrev pub keeps_wanted : State → ℕ → ℕ → ℕ → ℕ → List Move
keeps_wanted s tag unit address n =
    map (λ i. Keep (data_key unit (address + i)) (wanted_at s tag unit address i)) (below n)

-- a VERIFY with BYTCHK 00 reads its blocks, as they are at this moment, and sends none. It has no data, so that all that
-- the host expects is left over
abbrev pub reads_begun : State → Request → Cdb → ℕ → ℕ → ℕ → State
reads_begun s r command unit address n =
    with_task (with_moves s (keeps_wanted s r.tag unit address n)) r (Some command) 0
    (ReadingArea (read_blocks s unit address n))

-- a VERIFY with BYTCHK 01 compares its blocks, as they are at this moment, with what its host sends, one after another. It
-- keeps them as a READ does, and claims nothing
abbrev pub compare_begun : State → Request → Cdb → ℕ → ℕ → ℕ → State
compare_begun s r command unit address n =
    with_task (with_moves s (keeps s r.tag unit address n)) r (Some command) (4096 * n)
    (Comparing (read_blocks s unit address n) 0 false)

-- a VERIFY of no blocks is answered GOOD at once; any other reads its blocks, or compares them
abbrev pub verify_begun : State → Request → Cdb → ℕ → ℕ → ℕ → Bool → State
verify_begun s r command unit address n compared =
    if n == 0 then with_task s r (Some command) 0 (Answering Good 0)
    else if compared then compare_begun s r command unit address n
    else reads_begun s r command unit address n

-- what counts as expected of a WRITE of n bytes: where the host sends fewer, the whole blocks of what it sends. So what
-- is told as left over is all that is not taken (this profile)
abbrev pub expected_of_write : (expected n : ℕ) → ℕ
expected_of_write expected n = if nat_lt expected n then 4096 * (expected / 4096) else expected

-- the request of a WRITE of n bytes with what counts as expected
abbrev pub of_write : Request → ℕ → Request
of_write r n = record r { expected = expected_of_write r.expected n }

-- a WRITE of n bytes claims a slot for each of the blocks that its host brings and gathers their data; no block changes
-- before the last of these came. Where it brings none GOOD is due at once, on a locked device too
abbrev pub write_begun : State → Request → ℕ → ℕ → ℕ → Bool → ℕ → State
write_begun s r unit address blocks forced n =
    if blocks == 0
    then with_task s (of_write r n) (Some (cdb.Write address blocks forced)) n (Answering Good n)
    else
    with_task (with_moves s (Claim blocks ∷ [])) (of_write r n) (Some (cdb.Write address blocks forced)) n
    (Gathering (ForWrite unit address blocks forced) [] false)

-- SYNCHRONIZE CACHE covers the whole device, whatever range it names: SBC lets a device do more than was asked.
-- With IMMED it is answered at once, else once all that was accepted before it is durable. A locked device that is not
-- mended has accepted nothing in this life, and so answers at once
abbrev pub flush_begun : State → Request → Cdb → Bool → State
flush_begun s r command immediate =
    with_task s r (Some command) 0
    (if immediate || not (mended s) then Answering Good 0 else Awaiting (length s.accepted))

-- data that are known go out in one DATA IN, cut to what the host expects; if that is nothing, GOOD is due at once
abbrev pub sending_bytes : Request → List ℕ → Deed
sending_bytes r bytes = if carried r.expected (length bytes) == 0 then Answering Good (length bytes)
    else SendingBytes bytes

-- a command begins whose data are known at once: REQUEST SENSE, READ CAPACITY(10), INQUIRY and REPORT LUNS, and the
-- frames of SECURITY PROTOCOL IN
abbrev pub data_begun : State → Request → Cdb → List ℕ → State
data_begun s r command bytes = with_task s r (Some command) (length bytes) (sending_bytes r bytes)

-- the sense that says nothing: all but the format is zero (SPC, fixed format sense data)
abbrev pub nothing_wrong : Sense
nothing_wrong = record { key = 0; asc = 0; ascq = 0 }

-- what REQUEST SENSE tells at a LUN of a device of profile 1, the first of these that applies (SPC): that there is no such
-- unit, 5/25/00; the attention of this one, 6/29/00; that the device is not ready, 2/04/01; or nothing
abbrev pub sense_at : State → Option Lun → Sense
sense_at s None = sense 0x05 0x25
sense_at s (Some lun) =
    if has_attention s lun then sense 0x06 0x29
    else if mended s then nothing_wrong
    else record { key = 0x02; asc = 0x04; ascq = 0x01 }

-- the same on a device of either profile: that of profile 0 has nothing to tell
abbrev pub sense_told : State → Request → Sense
sense_told s r =
    if (numbers_of s).profile == 0 then nothing_wrong else sense_at s (lun_of (numbers_of s) r.lun)

-- REQUEST SENSE ends the attention that it tells; whatever else is told leaves it
abbrev pub volatile_told : State → Request → Told → Volatile
volatile_told s r told.Sense = without_attention (lun_of (numbers_of s) r.lun) s.volatile
volatile_told s r what = s.volatile

-- the device type that INQUIRY tells (SPC): 7Fh where there is no unit
abbrev pub type_told : State → Request → ℕ
type_told s r = if is_some (lun_of (numbers_of s) r.lun) then device_type r.lun else 0x7F

-- the unit of a command; for a command that needs no unit's blocks any number does, here 0
abbrev pub unit_or_first : Option ℕ → ℕ
unit_or_first None = 0
unit_or_first (Some unit) = unit

-- a command with data from the host claims its slots and gathers n bytes
abbrev pub gathering_begun : State → Request → Cdb → ℕ → Purpose → State
gathering_begun s r command n purpose =
    with_task (with_moves s (Claim (slots_needed (numbers_of s) command) ∷ [])) r (Some command) n
    (Gathering purpose [] false)

-- an UNMAP without a list has nothing to unmap and is answered GOOD at once (SBC); any other gathers its list
abbrev pub unmap_begun : State → Request → ℕ → ℕ → State
unmap_begun s r unit list =
    if list == 0 then with_task s r (Some (cdb.Unmap list)) 0 (Answering Good 0)
    else gathering_begun s r (cdb.Unmap list) list (ForUnmap unit)

-- SECURITY PROTOCOL IN sends the frames that wait in the response register of its region. That register is empty from
-- this moment, the COMMAND, on, also if the host expects fewer bytes or the task is aborted (JESD220, 12.4)
abbrev pub frames_begun : State → Request → ℕ → ℕ → State
frames_begun s r region n =
    record (data_begun s r (cdb.SecurityIn region n) (flat_map (λ frame. frame) (s.registers region).response)) {
      registers = at_region s.registers region (record (s.registers region) { response = [] });
    }

-- what a command tells that is about this request
abbrev pub told_bytes : State → Request → Told → ℕ → List ℕ
told_bytes s r told.Sense select = fixed_sense (sense_told s r)
told_bytes s r told.Identity select = inquiry_bytes (type_told s r)
told_bytes s r told.Capacity select = capacity_bytes (unit_numbers_of s r)
told_bytes s r told.Units select = luns_bytes (numbers_of s) select
told_bytes s r told.LongCapacity select = long_capacity_bytes (unit_numbers_of s r)
told_bytes s r told.Page select = page_bytes (numbers_of s) r.lun select
told_bytes s r told.Modes select = modes_told select (is_guarded s (unit_numbers_of s r))
told_bytes s r told.ShortModes select = short_modes_told select (is_guarded s (unit_numbers_of s r))
told_bytes s r told.Operations select = operations_told select

-- a command that is not refused begins on this unit: TEST UNIT READY, PRE-FETCH and SEND DIAGNOSTIC are answered GOOD at
-- once; the others begin as the definitions above say. A PRE-FETCH reads nothing
abbrev pub begun : State → Request → ℕ → Cdb → State
begun s r unit cdb.Nothing = with_task s r (Some cdb.Nothing) 0 (Answering Good 0)
begun s r unit (cdb.Tell what select allocation) =
    data_begun (record s { volatile = volatile_told s r what }) r (cdb.Tell what select allocation)
    (take allocation (told_bytes s r what select))
begun s r unit (cdb.Read address blocks) = read_begun s r (cdb.Read address blocks) unit address (4096 * blocks)
begun s r unit (cdb.Write address blocks forced) =
    write_begun s r unit address (blocks_brought r.expected blocks) forced (4096 * blocks)
begun s r unit (cdb.Flush immediate) = flush_begun s r (cdb.Flush immediate) immediate
begun s r unit (cdb.Verify address blocks compared) =
    verify_begun s r (cdb.Verify address blocks compared) unit address blocks compared
begun s r unit (cdb.Prefetch address blocks) =
    with_task s r (Some (cdb.Prefetch address blocks)) 0 (Answering Good 0)
begun s r unit (cdb.Diagnose tests) = with_task s r (Some (cdb.Diagnose tests)) 0 (Answering Good 0)
begun s r unit (cdb.Unmap list) = unmap_begun s r unit list
begun s r unit (cdb.SecurityIn region n) = frames_begun s r region n
begun s r unit (cdb.SecurityOut region n) = gathering_begun s r (cdb.SecurityOut region n) n (ForFrames region)

-- the command that the CDB spells begins. A CDB that spells none is refused before (line 3), so nothing happens
abbrev pub begun_if_any : State → Request → Option Cdb → State
begun_if_any s r None = s
begun_if_any s r (Some command) = begun s r (unit_or_first (unit_of_request s r)) command

-- a refused command is a task too, until its answer is handed out: its tag is in use, and task management finds it.
-- It has no command and no length, since nothing was carried. The line that refuses it may change what is volatile
abbrev pub refused_or_begun : State → Request → Option Status → State
refused_or_begun s r (Some status) = with_task (refused_state s r) r None 0 (Answering status 0)
refused_or_begun s r None = begun_if_any s r r.cdb

-- line 0 of the table of refusals: if 32 tasks are open, a command gets TASK SET FULL, as a short exchange, which task
-- management does not find; all that the host expected is residual. Else the table decides (Refusals)
abbrev pub command_taken : State → Request → State
command_taken s r =
    if nat_le most_tasks (length s.tasks)
    then with_short s (short_reply r.tag (response r.lun r.tag r.expected 0 TaskSetFull))
    else refused_or_begun s r (refusal s r)
