-- The specification machine: which answers to the five calls are right, and what each call makes of the state. It is a
-- function of the state, but for what the device may choose: which of several replies goes first, and which of several
-- reads (JESD220, 10.7 and 10.8; this profile).
use Rattle.std.specs.Prelude.{Bool, Err, List, None, Ok, Option, Result, Some, [], false, filter, find, fold}
use Rattle.std.specs.Prelude.{bit_and, if◌then◌else◌, length, map, nat_le, nat_lt, slice_get, slice_set, true, ℕ, ◌&&◌, ◌+◌}
use Rattle.std.specs.Prelude.{not, ◌==◌, ◌||◌, ◌∷◌, ◌≡◌, ◌≢◌, ◌⊎◌}
use Rattle.std.specs.List.{list_any}
use Rattle.ufs_spec.specs.CdbFields.{spelled_cdb}
use Rattle.ufs_spec.specs.Cells.{Array}
use Rattle.ufs_spec.specs.Dies.{blank_page}
use Rattle.ufs_spec.specs.Disk.{Erasing, Flight, Programming, Reading, Spot, at_place, page_of, same_spot, spot_of}
use Rattle.ufs_spec.specs.Exchanges.{Answering, Awaiting, Comparing, Deed, Gathering, ReadBlock, ReadingArea, Registers}
use Rattle.ufs_spec.specs.Exchanges.{Sending, SendingBytes, Short, Task, filled, is_asked_of, is_good, is_short_of, is_task_of}
use Rattle.ufs_spec.specs.Exchanges.{is_unfilled, most_short_exchanges, most_tasks, no_number, number_of, response}
use Rattle.ufs_spec.specs.Exchanges.{short_reply, task_of, without_short, without_task, write_error}
use Rattle.ufs_spec.specs.declared.exchanges.ReadState.{ReadState}
use Rattle.ufs_spec.specs.declared.exchanges.ReadState.TheVariants.{NotRead, Unread, WasRead}
use Rattle.ufs_spec.specs.declared.exchanges.Status.TheVariants.{Good}
use Rattle.ufs_spec.specs.Codes.{link_event_code}
use Rattle.ufs_spec.specs.Messages.{Spells, code_of, host_fault_of}
use Rattle.ufs_spec.specs.Moves.{Acknowledge, EndJob, Ending, GiveJob, LetGo, LetGoAll, Move, ReadRight, ReadWrong}
use Rattle.ufs_spec.specs.Moves.{TakeStep, WantPage, WentWell, WentWrong, ending_fits}
use Rattle.ufs_spec.specs.QueryAnswers.{query_heard}
use Rattle.ufs_spec.specs.Refusals.{State, locked, numbers_of}
use Rattle.ufs_spec.specs.Translation.{MayTake, is_step_due}
use Rattle.ufs_spec.specs.declared.configs.Numbers.{Numbers}
use Rattle.ufs_spec.specs.declared.faults.HostFault.{HostFault}
use Rattle.ufs_spec.specs.declared.faults.HostFault.TheVariants.{Backlog, Code, NotAskedFor, Reserved, TagInUse}
use Rattle.ufs_spec.specs.declared.flash.Place.{Place}
use Rattle.ufs_spec.specs.declared.messages.Message.{Message}
use Rattle.ufs_spec.specs.declared.scsi.Cdb.{Cdb}
use Rattle.ufs_spec.specs.declared.messages.Message.TheVariants as message
use Rattle.ufs_spec.specs.Replies.{is_area_read}
pub use Rattle.ufs_spec.specs.Changes.{accepts, claimed_by, set_deed, with_moves, with_short, with_task}
pub use Rattle.ufs_spec.specs.Replies.{Due, MayLeave, block_reply, deed_reply, durable, is_at_hand, is_durable}
pub use Rattle.ufs_spec.specs.Replies.{needs_no_read, next_block_reply, pin_of}
pub use Rattle.ufs_spec.specs.Begins.{begun, begun_if_any, blocks_expected, capacity_bytes, command_taken, data_begun}
pub use Rattle.ufs_spec.specs.Begins.{flush_begun, keeps, kept_at, read_begun, read_blocks}
pub use Rattle.ufs_spec.specs.Begins.{refused_or_begun, sending, sending_bytes, unit_or_first, write_begun}
pub use Rattle.ufs_spec.specs.FrameRequests.{filled_registers}
pub use Rattle.ufs_spec.specs.DataOuts.{blocks_in, complete, data_for, data_heard, gathered_more, write_complete}
pub use Rattle.ufs_spec.specs.DataOuts.{write_deed}
pub use Rattle.ufs_spec.specs.LinkEvents.{link_reset, volatile_reset}
pub use Rattle.ufs_spec.specs.Management.{abort_moves, aborts, carried_out, is_aborted, is_named, managed}
pub use Rattle.ufs_spec.specs.Management.{registers_after, service, service_found, without_tasks}
use Rattle.ufs_spec.specs.declared.layer.Reader.{Reader}
use Rattle.ufs_spec.specs.declared.layer.Reader.TheVariants.{ForNobody, ForRest, ForStep, ForTask}

-- ## Calls and answers

-- what a host's bytes are: a message, with the command that its CDB spells if it spells one; or bytes with a fault
pub data Heard : Type 0 where
  Spelled : (spelled : Message) → (taken : Option Cdb) → Heard
  Faulty : (fault : HostFault) → Heard
  -- with the transaction code of LINK EVENT, and no LINK EVENT. Its fault depends on the profile
  NoEvent : Heard

-- the sixteen bytes of a COMMAND's CDB; no other message has one
abbrev pub cdb_of : Message → Option (List ℕ)
cdb_of (message.Command flags lun tag expected bytes) = Some bytes
cdb_of other = None

-- the command is the one that the CDB spells. There is none if the message has no CDB, or if its CDB spells
-- no command that is taken
abbrev pub IsCdbIn : Option (List ℕ) → Option Cdb → Type 0
IsCdbIn None c = c ≡ None
IsCdbIn (Some bytes) c = c ≡ spelled_cdb bytes

-- bytes that spell no message, though none of the faults 1 to 5 is found in them
abbrev pub SpellNone : List ℕ → Type 0
SpellNone bytes = (host_fault_of bytes ≡ None) × ((m : Message) → Spells m bytes → ⊥)

-- what these bytes are heard as; the lowest fault is told. Faults 1 to 5 are found in bytes alone (`host_fault_of`).
-- The sixth, a reserved byte or a field outside its set, is told if none of them applies and the bytes still spell no
-- message. Faults 7 to 9 depend on what is open (`message_fault`)
abbrev pub IsHeard : List ℕ → Heard → Type 0
IsHeard bytes (Spelled m c) = Spells m bytes × (host_fault_of bytes ≡ None) × IsCdbIn (cdb_of m) c
IsHeard bytes (Faulty fault) =
    (host_fault_of bytes ≡ Some fault)
    ⊎ (SpellNone bytes × (code_of bytes ≢ link_event_code) × (fault ≡ Reserved))
IsHeard bytes NoEvent = SpellNone bytes × (code_of bytes ≡ link_event_code)

-- the five calls, with what went in
pub data Call : Type 0 where
  -- a message came from the host
  Host : (heard : Heard) → Call
  -- the die asks for a job
  Take : (die : ℕ) → Call
  -- the job of the die ended; after a failed program or erase the dies hold what is left, else nothing is read off it
  Done : (die : ℕ) → (ending : Ending) → (left : Array) → Call
  -- a step of mending or collection may be ordered
  Turn : Call
  -- the host asks for a reply
  Reply : Call

-- and what came out
pub data Answer : Type 0 where
  -- the message is taken, or its fault
  OfHost : (result : Result Unit HostFault) → Answer
  -- the job that the die is given, if one is owed to it
  OfTake : (flight : Option Flight) → Answer
  -- whether the die had a job that can end so
  OfDone : (known : Bool) → Answer
  -- whether a step was due
  OfTurn : (due : Bool) → Answer
  -- the reply that goes out, if one is due
  OfReply : (reply : Option Message) → Answer

-- ## Answers that are right

-- a task or a short exchange has this number, whatever the LUN. SAM has tags apart for each unit
abbrev pub is_open : State → ℕ → Bool
is_open s number = list_any (is_task_of number) s.tasks || list_any (is_short_of number) s.shorts

-- a tag is in use if an exchange has it that is of task management, or that is not, as the message with this tag is. In
-- profile 0 there is one set of tags: it is in use if any exchange has it
abbrev pub in_use : State → (manages : Bool) → (tag : ℕ) → Bool
in_use s manages tag =
    is_open s (number_of manages tag)
    || (((numbers_of s).profile == 0) && is_open s (number_of (not manages) tag))

-- whether the exchange that a message opens is a short one: every one is, but for a COMMAND that becomes a task.
-- With 32 tasks open a COMMAND is answered TASK SET FULL, as a short exchange
abbrev pub opens_short : State → Message → Bool
opens_short s (message.Command flags lun tag expected bytes) = nat_le most_tasks (length s.tasks)
opens_short s m = true

-- why no exchange may be opened with this tag: fault 7 if the tag is in use; then fault 9 if it would be a short
-- exchange and as many of those are open as may be (this profile)
abbrev pub opening_fault : State → (manages : Bool) → ℕ → Bool → Option HostFault
opening_fault s manages tag short =
    if in_use s manages tag then Some TagInUse
    else if short && nat_le most_short_exchanges (length s.shorts) then Some Backlog
    else None

-- fault 6 of a COMMAND on a device of profile 0: it has a priority or a task attribute (JESD220, 10.7.1)
abbrev pub has_attribute : Numbers → (flags : ℕ) → Bool
has_attribute n flags = (n.profile == 0) && not (bit_and flags 0x07 == 0)

-- fault 8 for data for which no READY TO TRANSFER asked
abbrev pub asked_fault : Bool → Option HostFault
asked_fault true = None
asked_fault false = Some NotAskedFor

-- fault 5 of a LINK EVENT on a device of profile 0, which knows no such message
abbrev pub event_fault : Numbers → Option HostFault
event_fault n = if n.profile == 0 then Some Code else None

-- the fault of bytes that have its code and are none: in profile 0 the same, else a reserved byte is set (6)
abbrev pub no_event_fault : Numbers → HostFault
no_event_fault n = if n.profile == 0 then Code else Reserved

-- why a message is not taken. A COMMAND of profile 0 has no task attribute (6). Data must be those that a READY TO
-- TRANSFER asked for (8); what opens an exchange needs a free tag (7) and room (9); no host sends what a device sends
-- (5; bytes of such a kind have it before)
abbrev pub message_fault : State → Message → Option HostFault
message_fault s (message.DataOut lun tag offset «data») =
    asked_fault (is_asked_of (task_of tag s.tasks) lun offset (length «data».items))
message_fault s (message.NopOut tag) = opening_fault s false tag true
message_fault s (message.Command flags lun tag expected bytes) =
    if has_attribute (numbers_of s) flags then Some Reserved
    else opening_fault s false tag (opens_short s (message.Command flags lun tag expected bytes))
message_fault s (message.TaskRequest lun tag function meant) = opening_fault s true tag true
message_fault s (message.QueryRequest tag function asked size value «data») = opening_fault s false tag true
message_fault s (message.LinkEvent kind) = event_fault (numbers_of s)
message_fault s (message.NopIn tag) = Some Code
message_fault s (message.Response flags lun tag response status residual sense) = Some Code
message_fault s (message.DataIn lun tag offset «data») = Some Code
message_fault s (message.TaskResponse lun tag answer) = Some Code
message_fault s (message.ReadyToTransfer lun tag offset count) = Some Code
message_fault s (message.QueryResponse tag function response asked size value «data») = Some Code

-- a message without a fault is taken, one with a fault is answered with it
abbrev pub result_of : Option HostFault → Result Unit HostFault
result_of None = Ok tt
result_of (Some fault) = Err fault

-- the right answer to what was heard: of a message the fault that it has in this state, or that it is taken;
-- of faulty bytes their fault
abbrev pub MayHear : State → Heard → Result Unit HostFault → Type 0
MayHear s (Spelled m c) result = result ≡ result_of (message_fault s m)
MayHear s (Faulty fault) result = result ≡ Err fault
MayHear s NoEvent result = result ≡ Err (no_event_fault (numbers_of s))

-- any reply that is due may go out; that there is none may be answered only if none is due, so that
-- no due reply is withheld
abbrev pub MayReply : State → Option Message → Type 0
MayReply s (Some m) = Due s m
MayReply s None = (m : Message) → Due s m → ⊥

-- the answer to the call is right. A message is taken, or its lowest fault told; a job is one that `MayTake` gives;
-- the end of a job is known exactly if it fits the job; a turn is answered yes exactly if a step is due; a reply is one
-- that `MayReply` gives. An answer to another call is never right. The contracts of the five calls cite this
abbrev pub Allowed : State → Call → Answer → Type 0
Allowed s (Host heard) (OfHost result) = MayHear s heard result
Allowed s (Host heard) answer = ⊥
Allowed s (Take die) (OfTake flight) = MayTake s.translation die flight
Allowed s (Take die) answer = ⊥
Allowed s (Done die ending left) (OfDone known) = known ≡ ending_fits (s.translation.disk.flights die) ending
Allowed s (Done die ending left) answer = ⊥
Allowed s Turn (OfTurn due) = due ≡ is_step_due s.translation
Allowed s Turn answer = ⊥
Allowed s Reply (OfReply reply) = MayReply s reply
Allowed s Reply answer = ⊥

-- ## What the calls make of the state

-- what a message that is taken makes of the state (JESD220, 10.7). A COMMAND opens a task, a DATA OUT
-- brings data to one; NOP OUT, a task management request and a query open a short exchange with their
-- answer. A LINK EVENT ends all of them. A device's own kinds are never taken
abbrev pub heard : State → Message → Option Cdb → State
heard s (message.NopOut tag) c = with_short s (short_reply tag (message.NopIn tag))
heard s (message.Command flags lun tag expected bytes) c =
    command_taken s (record { flags = flags; lun = lun; tag = tag; expected = expected; bytes = bytes; cdb = c })
heard s (message.DataOut lun tag offset «data») c = data_heard s (task_of tag s.tasks) «data».items
heard s (message.TaskRequest lun tag function meant) c =
    with_short (managed s lun function meant)
    (short_reply (number_of true tag) (message.TaskResponse lun tag (service s lun function meant)))
heard s (message.QueryRequest tag function asked size value «data») c =
    query_heard s tag (record { function = function; asked = asked; length = size; value = value })
heard s (message.LinkEvent kind) c = link_reset s kind
heard s (message.NopIn tag) c = s
heard s (message.Response flags lun tag response status residual sense) c = s
heard s (message.DataIn lun tag offset «data») c = s
heard s (message.TaskResponse lun tag answer) c = s
heard s (message.ReadyToTransfer lun tag offset count) c = s
heard s (message.QueryResponse tag function response asked size value «data») c = s

-- what becomes of the state when this was heard and taken; bytes with a fault change nothing
abbrev pub hears : State → Heard → State
hears s (Spelled m c) = heard s m c
hears s (Faulty fault) = s
hears s NoEvent = s

-- after one more block of a READ was handed out: the next one is to be sent, or after the last one GOOD is due
abbrev pub deed_after_sent : Task → List ReadBlock → ℕ → Deed
deed_after_sent task blocks sent =
    if nat_lt (sent + 1) (length blocks) then Sending blocks (sent + 1) else Answering Good task.length

-- the same, by how the block was found. A block that could not be read has ended the READ with 3/11/00, so that
-- nothing is left to do
abbrev pub deed_after_state : Task → List ReadBlock → ℕ → ReadState → Option Deed
deed_after_state task blocks sent Unread = Some (deed_after_sent task blocks sent)
deed_after_state task blocks sent WasRead = Some (deed_after_sent task blocks sent)
deed_after_state task blocks sent NotRead = None

-- the same for the block that came next; without one nothing was handed out
abbrev pub deed_after_block : Task → List ReadBlock → ℕ → Option ReadBlock → Option Deed
deed_after_block task blocks sent None = None
deed_after_block task blocks sent (Some block) = deed_after_state task blocks sent block.state

-- after the READY TO TRANSFER for a block of a VERIFY that block is to come. One that could not be read has ended the VERIFY
-- with 3/11/00, so that nothing is left to do
abbrev pub deed_after_asked : List ReadBlock → (compared : ℕ) → ReadState → Option Deed
deed_after_asked blocks compared Unread = Some (Comparing blocks compared true)
deed_after_asked blocks compared WasRead = Some (Comparing blocks compared true)
deed_after_asked blocks compared NotRead = None

-- the same for the block that comes next; without one nothing was handed out
abbrev pub deed_after_compare : List ReadBlock → (compared : ℕ) → Option ReadBlock → Option Deed
deed_after_compare blocks compared None = None
deed_after_compare blocks compared (Some block) = deed_after_asked blocks compared block.state

-- what a task does after the reply that was due was handed out; None if that was its last
abbrev pub deed_after : Task → Deed → Option Deed
deed_after task (Gathering purpose gathered asked) = Some (Gathering purpose gathered true)
deed_after task (Sending blocks sent) =
    deed_after_block task blocks sent (slice_get blocks sent)
deed_after task (SendingBytes bytes) = Some (Answering Good task.length)
deed_after task (Awaiting commands) = None
deed_after task (ReadingArea pages) = None
deed_after task (Comparing blocks compared asked) =
    deed_after_compare blocks compared (slice_get blocks compared)
deed_after task (Answering status carried) = None

-- what the layer does after that reply: a block that was handed out is let go, and the page of the next one is wanted;
-- a GOOD that waited acknowledges as durable the commands that it awaited
abbrev pub moves_after : Task → Deed → List Move
moves_after task (Gathering purpose gathered asked) = []
moves_after task (Sending blocks sent) = LetGo task.tag sent ∷ WantPage task.tag (sent + 1) ∷ []
moves_after task (SendingBytes bytes) = []
moves_after task (Awaiting commands) = Acknowledge commands ∷ []
moves_after task (ReadingArea pages) = []
moves_after task (Comparing blocks compared asked) = []
moves_after task (Answering status carried) = []

-- the task goes on, or it has handed out its last reply: then it ends, its tag is free, and it keeps nothing
abbrev pub task_goes_on : State → Task → Option Deed → State
task_goes_on s task (Some deed) = set_deed s task.tag deed
task_goes_on s task None = with_moves (record s { tasks = without_task task.tag s.tasks }) (LetGoAll task.tag ∷ [])

-- the task has handed out the reply that was due
abbrev pub task_replied : State → Task → State
task_replied s task = task_goes_on (with_moves s (moves_after task task.deed)) task (deed_after task task.deed)

-- an answer that awaited so many commands acknowledges them as durable when it is handed out
abbrev pub acknowledges : Option ℕ → List Move
acknowledges None = []
acknowledges (Some commands) = Acknowledge commands ∷ []

-- the short exchange has handed out its reply and is over
abbrev pub short_replied : State → Option Short → State
short_replied s None = s
short_replied s (Some short) = with_moves (record s { shorts = without_short short.tag s.shorts })
    (acknowledges short.awaits)

-- the number of the exchange to which a message belongs; a LINK EVENT belongs to none. `tag_in` of Pages is another one:
-- the tag of a flash page
abbrev pub tag_in : Message → ℕ
tag_in (message.NopOut tag) = tag
tag_in (message.Command flags lun tag expected bytes) = tag
tag_in (message.DataOut lun tag offset «data») = tag
tag_in (message.TaskRequest lun tag function meant) = number_of true tag
tag_in (message.QueryRequest tag function asked size value «data») = tag
tag_in (message.LinkEvent kind) = no_number
tag_in (message.NopIn tag) = tag
tag_in (message.Response flags lun tag response status residual sense) = tag
tag_in (message.DataIn lun tag offset «data») = tag
tag_in (message.TaskResponse lun tag service) = number_of true tag
tag_in (message.ReadyToTransfer lun tag offset count) = tag
tag_in (message.QueryResponse tag function response asked size value «data») = tag

-- the reply was that of the task with this number, or of the short exchange if no task has it
abbrev pub replied_by : State → ℕ → Option Task → State
replied_by s number (Some task) = task_replied s task
replied_by s number None = short_replied s (find (is_short_of number) s.shorts)

-- the task or the short exchange with the message's number has handed out this message
abbrev pub replied : State → Message → State
replied s m = replied_by s (tag_in m) (task_of (tag_in m) s.tasks)

-- the block of a READ or a VERIFY, now known to be read, or not to be readable
abbrev pub set_state : ReadState → ReadBlock → ReadBlock
set_state state block = record block { state = state }

-- the same in a list of blocks, at an index. `with_block` of Dies is another one: a block of flash pages
abbrev pub with_block : List ReadBlock → ℕ → ReadState → Option ReadBlock → List ReadBlock
with_block blocks index state None = blocks
with_block blocks index state (Some block) = slice_set blocks index (set_state state block)

-- a READ or a VERIFY is told how the read of its block at an index ended, a request for data that of its page; whatever
-- else a task does stays
abbrev pub deed_read : ℕ → ReadState → Deed → Deed
deed_read index state (Gathering purpose gathered asked) = Gathering purpose gathered asked
deed_read index state (Sending blocks sent) = Sending (with_block blocks index state (slice_get blocks index)) sent
deed_read index state (SendingBytes bytes) = SendingBytes bytes
deed_read index state (Awaiting commands) = Awaiting commands
deed_read index state (ReadingArea pages) = ReadingArea (with_block pages index state (slice_get pages index))
deed_read index state (Comparing blocks compared asked) =
    Comparing (with_block blocks index state (slice_get blocks index)) compared asked
deed_read index state (Answering status carried) = Answering status carried

-- the same, if the task has the tag
abbrev pub task_read : ℕ → ℕ → ReadState → Task → Task
task_read tag index state task =
    if is_task_of tag task then record task { deed = deed_read index state task.deed } else task

-- a task is told how a read for it ended. What a step or a rest reads is the layer's (`EndJob`); for a task that
-- is gone nobody is told
abbrev pub read_noted : State → Reader → ReadState → State
read_noted s (ForTask tag index) state = record s { tasks = map (task_read tag index state) s.tasks }
read_noted s ForStep state = s
read_noted s (ForRest number index) state = s
read_noted s ForNobody state = s

-- the place is in this block of a die, at one of its pages
abbrev pub in_block : Numbers → Spot → Place → Bool
in_block n spot p = same_spot (spot_of p) spot && nat_lt p.page n.pages

-- what the dies hold after a job that ended well: a read changes nothing, a program leaves its page, an erase leaves
-- every page of its block blank
abbrev pub array_done : State → Flight → Array
array_done s (Reading reader place) = s.array
array_done s (Programming place cell) = at_place s.array place (page_of cell)
array_done s (Erasing spot) = λ p. if in_block (numbers_of s) spot p then blank_page else s.array p

-- what the dies hold after a job that ended so; after a failed program or erase it is what came with the call
abbrev pub array_after : State → Flight → Ending → Array → Array
array_after s flight ReadRight left = s.array
array_after s flight ReadWrong left = s.array
array_after s flight WentWell left = array_done s flight
array_after s flight (WentWrong cells) left = left

-- the end of a read is told to whom it was for; programs and erases are told to nobody
abbrev pub read_noted_after : State → Flight → Ending → State
read_noted_after s (Reading reader place) ReadRight = read_noted s reader WasRead
read_noted_after s (Reading reader place) ReadWrong = read_noted s reader NotRead
read_noted_after s (Reading reader place) WentWell = s
read_noted_after s (Reading reader place) (WentWrong left) = s
read_noted_after s (Programming place cell) ending = s
read_noted_after s (Erasing spot) ending = s

-- the job of a die ended so: of a die without a job nothing changes
abbrev pub ends_with : State → ℕ → Option Flight → Ending → Array → State
ends_with s die None ending left = s
ends_with s die (Some flight) ending left =
    with_moves (record (read_noted_after s flight ending) { array = array_after s flight ending left })
    (EndJob die ending ∷ [])

-- a die was given this job, or none
abbrev pub given : State → ℕ → Option Flight → State
given s die None = s
given s die (Some flight) = with_moves s (GiveJob die flight ∷ [])

-- ## Requests that fill a register (JESD220, 12.4)

-- GOOD is due to this task, handed out or not: at once, once the commands that it awaits are durable, or once its pages
-- of the RPMB area are read
abbrev pub is_good_due : State → Task → Deed → Bool
is_good_due s task (Gathering purpose gathered asked) = false
is_good_due s task (Sending blocks sent) = false
is_good_due s task (SendingBytes bytes) = false
is_good_due s task (Awaiting commands) = nat_le commands (durable s)
is_good_due s task (ReadingArea pages) = is_area_read s task pages
is_good_due s task (Comparing blocks compared asked) = false
is_good_due s task (Answering status carried) = is_good status

-- a request fills its register once, when its GOOD is due, handed out or not; a task without a request fills nothing
abbrev pub is_to_fill : State → Task → Bool
is_to_fill s task = is_unfilled task.request && is_good_due s task task.deed

-- its request counts as having filled its register from now on
abbrev pub task_filled : State → Task → Task
task_filled s task = if is_to_fill s task then record task { request = filled task.request } else task

-- a task whose request fills its register keeps nothing any more: all that it reads for its answer is read
abbrev pub fill_moves : List Task → List Move
fill_moves tasks = map (λ (task : Task). LetGoAll task.tag) tasks

-- each task whose GOOD became due fills its register and lets go of what it keeps, in the order in
-- which the tasks were opened
abbrev pub fills : State → State
fills s =
    record (with_moves s (fill_moves (filter (is_to_fill s) s.tasks))) {
      tasks = map (task_filled s) s.tasks;
      registers =
          fold (λ (registers : ℕ → Registers) (task : Task). filled_registers s task registers) s.registers
          (filter (is_to_fill s) s.tasks);
    }

-- ## The lock

-- the lock ends a task that waits for commands which are not durable, with MEDIUM ERROR, write error (3/0C/00). A GOOD
-- that is due stays due; READs, VERIFYs, requests for data of the RPMB and data that are under way go on
abbrev pub deed_locked : State → Task → Deed → Deed
deed_locked s task (Gathering purpose gathered asked) = Gathering purpose gathered asked
deed_locked s task (Sending blocks sent) = Sending blocks sent
deed_locked s task (SendingBytes bytes) = SendingBytes bytes
deed_locked s task (Awaiting commands) =
    if nat_le commands (durable s) then Awaiting commands else Answering write_error task.length
deed_locked s task (ReadingArea pages) = ReadingArea pages
deed_locked s task (Comparing blocks compared asked) = Comparing blocks compared asked
deed_locked s task (Answering status carried) = Answering status carried

-- a task with what the lock makes of its deed; nothing else of it changes
abbrev pub task_locked : State → Task → Task
task_locked s task = record task { deed = deed_locked s task task.deed }

-- a short exchange that still waits gets the other reply, which is due at once
abbrev pub short_locked : State → Short → Short
short_locked s short =
    if is_durable s short.awaits then short else record short { awaits = None; reply = short.locked_reply }

-- if the device is locked, all that waits for commands which are not durable is ended so. It ends answers and no work:
-- what was accepted stays accepted and is still programmed
abbrev pub lock_applied : State → State
lock_applied s =
    if locked s then record s { tasks = map (task_locked s) s.tasks; shorts = map (short_locked s) s.shorts } else s

-- what a call and its answer make of the state, before registers and lock. A message with a fault, an ending that does
-- not fit and an empty answer change nothing
abbrev pub behind : State → Call → Answer → State
behind s (Host h) (OfHost (Ok done)) = hears s h
behind s (Host h) answer = s
behind s (Take die) (OfTake flight) = given s die flight
behind s (Take die) answer = s
behind s (Done die ending left) (OfDone true) = ends_with s die (s.translation.disk.flights die) ending left
behind s (Done die ending left) answer = s
behind s Turn (OfTurn due) = with_moves s (TakeStep ∷ [])
behind s Turn answer = s
behind s Reply (OfReply (Some m)) = replied s m
behind s Reply answer = s

-- what a call and its answer make of the state. What became due fills its register, also if the lock begins in the same
-- call; at last the lock is applied, if it is there
abbrev pub observe : State → Call → Answer → State
observe s call answer = lock_applied (fills (behind s call answer))
