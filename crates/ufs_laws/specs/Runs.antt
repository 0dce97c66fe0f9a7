-- A run of a new device from end to end: its first mark is programmed, a block is written with FUA, and it is
-- read. Each call is listed with its answer, and each state is what the calls before it lead to.
use Rattle.std.specs.Prelude.{◌≡◌, ℕ, Bool, true, false, List, [], ◌∷◌, ◌++◌, length, Some, None, Ok}
use Rattle.std.specs.Global.{Vec}
use Rattle.ufs_laws.specs.GapRows.{first_mark, write_page}
use Rattle.ufs_spec.specs.Cdbs.{cdb_bytes, fixed_sense, option_byte, ten_bytes}
use Rattle.ufs_spec.specs.declared.operations.TheConstants.{FUA, READ_10}
use Rattle.ufs_spec.specs.Cells.{Array, MarkPage}
use Rattle.ufs_spec.specs.Configs.{numbers_of}
use Rattle.ufs_spec.specs.Dies.{blank_page}
use Rattle.ufs_spec.specs.Disk.{job_of, Erasing, Flight, Programming, Reading, Spot}
use Rattle.ufs_spec.specs.Exchanges.{sense}
use Rattle.ufs_spec.specs.Lives.{IsOpened, Life}
use Rattle.ufs_spec.specs.Machine.{Allowed, Answer, Reply, Call, Done, OfDone, Take, OfTake, Heard, OfHost, Host}
use Rattle.ufs_spec.specs.Machine.{IsHeard, OfReply, Spelled, Turn, OfTurn, observe}
use Rattle.ufs_spec.specs.Messages.{spelling}
use Rattle.ufs_spec.specs.Moves.{ReadRight, WentWell}
use Rattle.ufs_spec.specs.Refusals.{State}
use Rattle.ufs_spec.specs.Refusals as step
use Rattle.ufs_spec.specs.declared.configs.Numbers.{Numbers}
use Rattle.ufs_spec.specs.declared.configs.UnitSpec.{UnitSpec}
use Rattle.ufs_spec.specs.declared.events.Event.{Event}
use Rattle.ufs_spec.specs.declared.events.Event.TheVariants as event
use Rattle.ufs_spec.specs.declared.events.Output.{Output}
use Rattle.ufs_spec.specs.declared.events.Output.TheVariants as output
use Rattle.ufs_spec.specs.declared.flash.Place.{Place}
use Rattle.ufs_spec.specs.declared.layer.Reader.TheVariants.{ForTask}
use Rattle.ufs_spec.specs.declared.messages.Message.{Message}
use Rattle.ufs_spec.specs.declared.messages.Message.TheVariants as message
use Rattle.ufs_spec.specs.declared.scsi.Cdb.{Cdb}
use Rattle.ufs_spec.specs.declared.scsi.Cdb.TheVariants as cdb

-- The device

-- a unit of so many blocks, not protected; boot 1 and 2 are the boot units A and B, and 0 is none
abbrev pub unit : ℕ → ℕ → UnitSpec
unit blocks boot = record { blocks = blocks; boot = boot; protect = 0 }

-- 4 dies of 16 blocks of 64 pages, three units, 128 KiB of RPMB area, 64 slots and 4 spare blocks
abbrev pub row : Numbers
row = numbers_of 4 16 64 (unit 256 0 ∷ unit 64 1 ∷ unit 64 2 ∷ []) (1 ∷ 0 ∷ 0 ∷ 0 ∷ []) 64 4

-- it was opened over new dies
pub record IsNew (s : State) : Type 0 where
  pub array : Array
  pub bad : Spot → Bool
  pub blank : (p : Place) → array p ≡ blank_page
  pub none_bad : (b : Spot) → bad b ≡ false
  pub opened : IsOpened row array bad s

-- of every new device and every block
abbrev pub Always : (State → List ℕ → Type 0) → Type 0
Always P = (s : State) (body : List ℕ) → IsNew s → length body ≡ 4096 → P s body

-- the answer to the call is right, and no other one is
pub record Gets (s : State) (call : Call) (answer : Answer) : Type 0 where
  pub right : Allowed s call answer
  pub only : (other : Answer) → Allowed s call other → other ≡ answer

-- What is told and heard

-- a page of block 0 of die 0, the one block that the run fills
abbrev pub place_of : ℕ → Place
place_of page = record { die = 0; block = 0; page = page }

-- the erase of that block, which comes before it is filled
abbrev pub erase : Flight
erase = Erasing (record { die = 0; block = 0 })

-- the mark has number 1, records frontier 0 and has no fence
abbrev pub mark_program : Flight
mark_program = Programming (place_of 0) (MarkPage (first_mark row))

-- the block is the one page of group 1, and records frontier 0
abbrev pub data_program : List ℕ → Flight
data_program body = Programming (place_of 1) (write_page 1 0xFF 0 body)

-- the read of that page for the first block of the READ, which has tag 8
abbrev pub data_read : Flight
data_read = Reading (ForTask 8 0) (place_of 1)

-- a COMMAND: flags, LUN, task tag, bytes expected, and the command that its CDB spells
abbrev pub command : ℕ → ℕ → ℕ → ℕ → Cdb → Heard
command flags lun tag expected c = Spelled (message.Command flags lun tag expected (cdb_bytes c)) (Some c)

-- a WRITE(10) with FUA of one block, the last of unit 0, with tag 7
abbrev pub the_write : Heard
the_write = command 0x20 0 7 4096 (cdb.Write 0xFF 1 true)

-- the block of that WRITE as one DATA OUT
abbrev pub the_data : List ℕ → Heard
the_data body = Spelled (message.DataOut 0 7 0 (record { items = body })) None

-- the READ that follows, without FUA and with tag 8
abbrev pub the_read : Heard
the_read = command 0x40 0 8 4096 (cdb.Read 0xFF 1)

-- there are bytes that say it
abbrev pub IsSaid : Heard → Type 0
IsSaid h = (bytes : List ℕ) × IsHeard bytes h

-- the message is heard without a fault
abbrev pub heard : Answer
heard = OfHost (Ok tt)

-- the device asks for all 4096 bytes of the WRITE at once
abbrev pub ready_message : Message
ready_message = message.ReadyToTransfer 0 7 0 4096

-- the reply handed out asks for the data
abbrev pub ready : Answer
ready = OfReply (Some ready_message)

-- the DATA IN with the block that was read
abbrev pub data_message : List ℕ → Message
data_message body = message.DataIn 0 8 0 (record { items = body })

-- the reply handed out brings the block
abbrev pub data_in : List ℕ → Answer
data_in body = OfReply (Some (data_message body))

-- RESPONSE with status GOOD and no residual count
abbrev pub good_message : ℕ → Message
good_message tag = message.Response 0x00 0 tag 0x00 0x00 0 None

-- the reply handed out is GOOD for this tag
abbrev pub good : ℕ → Answer
good tag = OfReply (Some (good_message tag))

-- the job of die 0 ends well
abbrev pub program_ends : State → Call
program_ends s = Done 0 WentWell s.array

-- the read of die 0 ends well, and gives the page that is there
abbrev pub read_ends : State → Call
read_ends s = Done 0 ReadRight s.array

-- The first mark

-- a step is due on new dies: the first mark is ordered
unfoldable pub state_1 : State → State
state_1 s = observe s Turn (OfTurn true)

-- no step is due while the mark is under way
unfoldable pub state_2 : State → State
state_2 s = observe (state_1 s) Turn (OfTurn false)

-- no block was erased in this life, and one must be before the mark can be programmed: die 0 is given its erase
unfoldable pub state_3 : State → State
state_3 s = observe (state_2 s) (Take 0) (OfTake (Some erase))

-- a die with a job in flight is given none
unfoldable pub state_4 : State → State
state_4 s = observe (state_3 s) (Take 0) (OfTake None)

-- the erase ended well: the block is free, and may be filled at once
unfoldable pub state_5 : State → State
state_5 s = observe (state_4 s) (program_ends (state_4 s)) (OfDone true)

-- die 0 is given the program of the mark, and fills the block from now on
unfoldable pub state_6 : State → State
state_6 s = observe (state_5 s) (Take 0) (OfTake (Some mark_program))

-- the mark is finished: the device is mended
unfoldable pub state_7 : State → State
state_7 s = observe (state_6 s) (program_ends (state_6 s)) (OfDone true)

-- nothing was lost, so no step is due any more
unfoldable pub state_8 : State → State
state_8 s = observe (state_7 s) Turn (OfTurn false)

-- A block is written

-- the WRITE is heard, and its task has claimed a slot
unfoldable pub state_9 : State → State
state_9 s = observe (state_8 s) (Host the_write) heard

-- the device asks for the data of the WRITE
unfoldable pub state_10 : State → State
state_10 s = observe (state_9 s) Reply ready

-- no reply is due while the data are awaited
unfoldable pub state_11 : State → State
state_11 s = observe (state_10 s) Reply (OfReply None)

-- the data come, and the WRITE is accepted as group 1
unfoldable pub state_12 : State → List ℕ → State
state_12 s body = observe (state_11 s) (Host (the_data body)) heard

-- with FUA no GOOD is due before the block is durable
unfoldable pub state_13 : State → List ℕ → State
state_13 s body = observe (state_12 s body) Reply (OfReply None)

-- die 0 is given the program of the block
unfoldable pub state_14 : State → List ℕ → State
state_14 s body = observe (state_13 s body) (Take 0) (OfTake (Some (data_program body)))

-- no GOOD is due while the program is in flight
unfoldable pub state_15 : State → List ℕ → State
state_15 s body = observe (state_14 s body) Reply (OfReply None)

-- the program ended well: group 1 is durable
unfoldable pub state_16 : State → List ℕ → State
state_16 s body = observe (state_15 s body) (program_ends (state_15 s body)) (OfDone true)

-- the WRITE is answered GOOD, so it is held over any stop
unfoldable pub state_17 : State → List ℕ → State
state_17 s body = observe (state_16 s body) Reply (good 7)

-- It is read

-- the READ is heard, and keeps the page of its block
unfoldable pub state_18 : State → List ℕ → State
state_18 s body = observe (state_17 s body) (Host the_read) heard

-- no reply is due before the page was read
unfoldable pub state_19 : State → List ℕ → State
state_19 s body = observe (state_18 s body) Reply (OfReply None)

-- die 0 is given the read of the page
unfoldable pub state_20 : State → List ℕ → State
state_20 s body = observe (state_19 s body) (Take 0) (OfTake (Some data_read))

-- the read ended well: the task has its block
unfoldable pub state_21 : State → List ℕ → State
state_21 s body = observe (state_20 s body) (read_ends (state_20 s body)) (OfDone true)

-- the block is handed out
unfoldable pub state_22 : State → List ℕ → State
state_22 s body = observe (state_21 s body) Reply (data_in body)

-- the READ is answered GOOD
unfoldable pub state_23 : State → List ℕ → State
state_23 s body = observe (state_22 s body) Reply (good 8)

-- no reply is due any more
unfoldable pub state_24 : State → List ℕ → State
state_24 s body = observe (state_23 s body) Reply (OfReply None)

-- The run as events and outputs

-- the events of the run, in which the host sends these bytes
abbrev pub run_events : (write block read : Vec ℕ) → List Event
run_events write block read =
    event.Turn ∷ event.Turn
    ∷ event.Take 0 ∷ event.Take 0 ∷ event.Finish 0 ∷ event.Take 0 ∷ event.Finish 0 ∷ event.Turn
    ∷ event.Host write ∷ event.Reply ∷ event.Reply
    ∷ event.Host block ∷ event.Reply ∷ event.Take 0 ∷ event.Reply ∷ event.Finish 0 ∷ event.Reply
    ∷ event.Host read ∷ event.Reply ∷ event.Take 0 ∷ event.Finish 0 ∷ event.Reply ∷ event.Reply ∷ event.Reply
    ∷ []

-- what a reply shows: the bytes that spell the message
abbrev pub told : Message → Output
told m = output.Reply (Some (record { items = spelling m }))

-- what a die is told when it is given this job
abbrev pub begins : Flight → Output
begins flight = output.Take (Some (job_of flight))

-- what the events of the run show, one by one
abbrev pub run_outputs : List ℕ → List Output
run_outputs body =
    output.Turn true ∷ output.Turn false
    ∷ begins erase ∷ output.Take None ∷ output.Ended ∷ begins mark_program ∷ output.Ended ∷ output.Turn false
    ∷ output.Host (Ok tt) ∷ told ready_message ∷ output.Reply None
    ∷ output.Host (Ok tt) ∷ output.Reply None ∷ begins (data_program body) ∷ output.Reply None ∷ output.Ended
    ∷ told (good_message 7)
    ∷ output.Host (Ok tt) ∷ output.Reply None ∷ begins data_read ∷ output.Ended ∷ told (data_message body)
    ∷ told (good_message 8) ∷ output.Reply None
    ∷ []

-- the run up to the block that waits for a place
abbrev pub pending_events : (write block : Vec ℕ) → List Event
pending_events write block =
    event.Turn ∷ event.Turn
    ∷ event.Take 0 ∷ event.Take 0 ∷ event.Finish 0 ∷ event.Take 0 ∷ event.Finish 0 ∷ event.Turn
    ∷ event.Host write ∷ event.Reply ∷ event.Reply
    ∷ event.Host block ∷ event.Reply
    ∷ []

-- what they show up to there
abbrev pub pending_outputs : List Output
pending_outputs =
    output.Turn true ∷ output.Turn false
    ∷ begins erase ∷ output.Take None ∷ output.Ended ∷ begins mark_program ∷ output.Ended ∷ output.Turn false
    ∷ output.Host (Ok tt) ∷ told ready_message ∷ output.Reply None
    ∷ output.Host (Ok tt) ∷ output.Reply None
    ∷ []

-- the run up to the program of the block, which is in flight then
abbrev pub write_events : (write block : Vec ℕ) → List Event
write_events write block = pending_events write block ++ event.Take 0 ∷ event.Reply ∷ []

-- what they show up to there: the program is given, and no GOOD is due yet
abbrev pub write_outputs : List ℕ → List Output
write_outputs body = pending_outputs ++ begins (data_program body) ∷ output.Reply None ∷ []

-- with these outputs the events are a life
abbrev pub IsRunOf : State → List ℕ → Type 0
IsRunOf s body =
    (write block read : Vec ℕ) → IsHeard write.items the_write → IsHeard block.items (the_data body) →
    IsHeard read.items the_read → Life s (run_events write block read) (run_outputs body) (state_24 s body)

-- Refused commands

-- the device has the configuration of the run, and no task or short exchange is open
pub record IsIdle (s : State) : Type 0 where
  pub numbers : step.numbers_of s ≡ row
  pub no_tasks : s.tasks ≡ []
  pub no_shorts : s.shorts ≡ []

-- a COMMAND is taken, and this RESPONSE is the one reply
pub record IsAnswered (s : State) (h : Heard) (m : Message) : Type 0 where
  pub taken : Gets s (Host h) heard
  pub reply : Gets (observe s (Host h) heard) Reply (OfReply (Some m))

-- RESPONSE with CHECK CONDITION and ILLEGAL REQUEST: underflow, of all that was expected
abbrev pub refused : ℕ → ℕ → ℕ → ℕ → Message
refused lun tag expected asc =
    message.Response 0x20 lun tag 0x01 0x02 expected (Some (0 ∷ 0x12 ∷ fixed_sense (sense 0x05 asc)))

-- the bytes of a READ(10), with FUA or without it
abbrev pub read_bytes : ℕ → ℕ → Bool → List ℕ
read_bytes address blocks forced = ten_bytes READ_10 (option_byte FUA forced) address blocks

-- READ(10) of so many blocks of unit 0 from an address on
abbrev pub read_of : ℕ → ℕ → Bool → ℕ → ℕ → Heard
read_of address blocks forced tag expected =
    Spelled (message.Command 0x40 0 tag expected (read_bytes address blocks forced)) (Some (cdb.Read address blocks))
