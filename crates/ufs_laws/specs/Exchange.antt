-- What the laws of the exchange speak of: requests as they are heard, and tasks of commands that are known.
use Rattle.std.specs.Prelude.{◌≡◌, ◌≢◌, ◌<◌, ℕ, ◌*◌, ◌+◌, ◌-◌, ◌==◌, min, Bool, true, List, [], ◌∷◌, length, map, Option, Some}
use Rattle.std.specs.Prelude.{None}
use Rattle.std.specs.List.{AllByRecursion, list_any}
use Rattle.ufs_spec.specs.Exchanges.{Answering, Awaiting, Comparing, Deed, Gathering, ReadBlock, ReadingArea, Sending}
use Rattle.ufs_spec.specs.declared.exchanges.Purpose.{Purpose}
use Rattle.ufs_spec.specs.Exchanges.{SendingBytes, Task, count_at, invalid_operation, to_gather}
use Rattle.ufs_spec.specs.Machine.{Call, Done, Faulty, Heard, Host, IsHeard, NoEvent, Reply, Spelled, Take, Turn}
use Rattle.ufs_spec.specs.Refusals.{Lun, Request, State, takes, tells_of_none}
use Rattle.ufs_spec.specs.Translation.{Pin}
use Rattle.ufs_spec.specs.declared.configs.Numbers.{Numbers}
use Rattle.ufs_spec.specs.declared.messages.Message.{Message}
use Rattle.ufs_spec.specs.declared.messages.Message.TheVariants as message
use Rattle.ufs_spec.specs.declared.operations.Row.{Row}
use Rattle.ufs_spec.specs.declared.scsi.Cdb.{Cdb}

-- some bytes are heard as this COMMAND
abbrev pub IsRequest : Request → Type 0
IsRequest r = (bytes : List ℕ) × IsHeard bytes (Spelled (message.Command r.flags r.lun r.tag r.expected r.bytes) r.cdb)

-- what a host says are bytes
abbrev pub IsSpoken : Call → Type 0
IsSpoken (Host heard) = (bytes : List ℕ) × IsHeard bytes heard
IsSpoken (Take die) = Unit {0}
IsSpoken (Done die ending left) = Unit {0}
IsSpoken Turn = Unit {0}
IsSpoken Reply = Unit {0}

-- the LUN takes commands of this row; or it is not there, and on a device of profile 1 they are answered all the same
abbrev pub IsAnsweredAt : Numbers → Option Lun → Row → Type 0
IsAnsweredAt n None row = (0 < n.profile) × (tells_of_none row.kind ≡ true)
IsAnsweredAt n (Some lun) row = takes lun row ≡ true

-- something holds of each of the tasks
abbrev pub Every : (Task → Type 0) → List Task → Type 0
Every = AllByRecursion

-- it does not end with an invalid operation code
abbrev pub IsKnownDeed : Deed → Type 0
IsKnownDeed (Gathering purpose gathered asked) = Unit {0}
IsKnownDeed (Sending blocks sent) = Unit {0}
IsKnownDeed (SendingBytes bytes) = Unit {0}
IsKnownDeed (Awaiting commands) = Unit {0}
IsKnownDeed (ReadingArea pages) = Unit {0}
IsKnownDeed (Comparing blocks compared asked) = Unit {0}
IsKnownDeed (Answering status carried) = status ≢ invalid_operation

-- a command that the CDB spells does not end with an invalid operation code; a refused one may
abbrev pub IsKnownTask : Option Cdb → Deed → Type 0
IsKnownTask None deed = Unit {0}
IsKnownTask (Some command) deed = IsKnownDeed deed

-- no open command that was taken ends with an invalid operation code
abbrev pub AllKnown : State → Type 0
AllKnown s = Every (λ task. IsKnownTask task.command task.deed) s.tasks

-- segments of a command of so many bytes, from an offset on: each has as many bytes as are asked for there
abbrev pub AreAsked : ℕ → ℕ → List (List ℕ) → Type 0
AreAsked total offset [] = Unit {0}
AreAsked total offset (segment ∷ segments) =
    (length segment ≡ count_at total offset) × AreAsked total (offset + length segment) segments

-- the READY TO TRANSFER of a task was handed out that asks for these data
pub record WasAsked (task : Task) (lun offset count : ℕ) : Type 0 where
  pub purpose : Purpose
  pub gathered : List ℕ
  pub deed : task.deed ≡ Gathering purpose gathered true
  pub lun_is : lun ≡ task.lun
  pub offset_is : offset ≡ length gathered
  pub count_is : count ≡ min 4096 (to_gather purpose task.length - length gathered)

-- the READY TO TRANSFER of a VERIFY was handed out that asks for these data
pub record WasAskedToCompare (task : Task) (lun offset count : ℕ) : Type 0 where
  pub blocks : List ReadBlock
  pub compared : ℕ
  pub deed : task.deed ≡ Comparing blocks compared true
  pub lun_is : lun ≡ task.lun
  pub offset_is : offset ≡ 4096 * compared
  pub count_is : count ≡ 4096

-- a READ sends blocks of these contents, whichever of them were read, or has sent them and answers
abbrev pub SendsThese : List (List ℕ) → Deed → Type 0
SendsThese bodies (Sending blocks sent) = map (λ block. block.body) blocks ≡ bodies
SendsThese bodies (Answering status carried) = Unit {0}
SendsThese bodies (Gathering purpose gathered asked) = ⊥
SendsThese bodies (SendingBytes bytes) = ⊥
SendsThese bodies (Awaiting commands) = ⊥
SendsThese bodies (ReadingArea pages) = ⊥
SendsThese bodies (Comparing blocks compared asked) = ⊥

-- the open task of this tag does so
abbrev pub TagSends : ℕ → List (List ℕ) → State → Type 0
TagSends tag bodies s = Every (λ task. task.tag ≡ tag → SendsThese bodies task.deed) s.tasks

-- ## Aborted tags

-- the task has not this tag
abbrev pub HasOtherTag : ℕ → Task → Type 0
HasOtherTag tag task = task.tag ≢ tag

-- no open task has this tag
abbrev pub NoTask : ℕ → State → Type 0
NoTask tag s = Every (HasOtherTag tag) s.tasks

-- what is asked of the request, if the call is a COMMAND
abbrev pub IsAskedIn : (Request → Type 0) → Message → Option Cdb → Type 0
IsAskedIn Asked (message.Command flags lun tag expected bytes) c =
    Asked (record { flags = flags; lun = lun; tag = tag; expected = expected; bytes = bytes; cdb = c })
IsAskedIn Asked m c = Unit {0}

-- what is asked of the request, if a COMMAND was heard; a fault is not asked for anything
abbrev pub IsAskedBy : (Request → Type 0) → Heard → Type 0
IsAskedBy Asked (Spelled m c) = IsAskedIn Asked m c
IsAskedBy Asked (Faulty fault) = Unit {0}
IsAskedBy Asked NoEvent = Unit {0}

-- what is asked of the request, if the call is a COMMAND of the host; no other call is asked for anything
abbrev pub Asks : (Request → Type 0) → Call → Type 0
Asks Asked (Host heard) = IsAskedBy Asked heard
Asks Asked (Take die) = Unit {0}
Asks Asked (Done die ending left) = Unit {0}
Asks Asked Turn = Unit {0}
Asks Asked Reply = Unit {0}

-- the tag is kept for a task
abbrev pub Pinned : ℕ → List Pin → Bool
Pinned tag pins = list_any (λ (pin : Pin). pin.tag == tag) pins
