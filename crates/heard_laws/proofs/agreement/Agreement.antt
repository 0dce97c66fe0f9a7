-- What a state and a journal of its life have in common, tag by tag: the invariant that each event keeps.
use Rattle.ufs_spec.specs.Exchanges.{Comparing}
use Rattle.heard_laws.proofs.Common.{Answering, AreRegionsOf, Awaited, Awaiting, Blocks, Bool, Deed, ForFrames}
use Rattle.heard_laws.proofs.Common.{ForUnmap, ForWrite, Frames, Gathering, List, Message, None, Noted, Numbers}
use Rattle.heard_laws.proofs.Common.{OpenTask, Option, Plain, ReadingArea, Sending, SendingBytes, Some, State}
use Rattle.heard_laws.proofs.Common.{TagsDiffer, Task, UnmapList, Verdict, WriteBegun, [], after, blocks_in, false}
use Rattle.heard_laws.proofs.Common.{find, has_tag, is_command, is_good, is_none, is_short_of, length, locked, lun_of}
use Rattle.heard_laws.proofs.Common.{mended, numbers_of, slice_get, task_of, true, ℕ, ◌*◌, ◌+◌, ◌≡◌, ◌≤◌}
use Rattle.std.proofs.Common.{◌||◌}
use Rattle.ufs_spec.specs.Commands.{Command}
use Rattle.ufs_spec.specs.Exchanges.{Short}
use Rattle.ufs_spec.specs.declared.messages.Message.TheVariants as message
use Rattle.journal.specs.Heard.{Heard}
use Rattle.journal.specs.declared.tasks.Awaited.TheVariants.{Nothing}
use Rattle.heard_laws.proofs.rolls.Rolls.{Roll, count, somes}
use Rattle.heard_laws.proofs.rolls.StandingRolls.{Stand}

-- ## Entries

-- the entries stand for the accepted commands, and what is acknowledged is among the first `held` of these
pub record Books (accepted : List Command) (held : ℕ) (entries : List Noted) (acknowledged : ℕ) (roll : Roll) : Type 0
  where
    pub stand : Stand entries roll
    pub accepted_are : somes roll ≡ accepted
    pub inside : acknowledged ≤ length roll
    pub few : count acknowledged roll ≤ held

-- ## Tasks

-- the GOOD of an open command, if one is open, acknowledges no more than so many commands
abbrev pub AtMost : ℕ → Roll → Option OpenTask → Type 0
AtMost most roll open_task = (t : OpenTask) → open_task ≡ Some t → count t.promised roll ≤ most

-- a command is open that waits for this, to a LUN that is there, and whose GOOD acknowledges nothing yet
pub record Waits (n : Numbers) (lun : ℕ) (awaited : Awaited) (open_task : Option OpenTask) : Type 0 where
  pub task : OpenTask
  pub is : open_task ≡ Some task
  pub awaits : task.awaited ≡ awaited
  pub nothing : task.promised ≡ 0
  pub there : is_none (lun_of n lun) ≡ false

-- the WRITE is that of the task, and so are the blocks that came for it
pub record SameWrite (unit address blocks : ℕ) (forced : Bool) (gathered : List ℕ) (w : WriteBegun) : Type 0 where
  pub unit_is : w.unit ≡ unit
  pub address_is : w.address ≡ address
  pub count_is : w.count ≡ blocks
  pub forced_is : w.forced ≡ forced
  pub came : w.blocks ≡ blocks_in (length w.blocks) gathered
  pub long : length gathered ≡ 4096 * length w.blocks

-- the WRITE that the open command waits for
pub record WaitsForBlocks (n : Numbers) (lun unit address blocks : ℕ) (forced : Bool) (gathered : List ℕ)
    (open_task : Option OpenTask) : Type 0 where
  pub write : WriteBegun
  pub waits : Waits n lun (Blocks write) open_task
  pub same : SameWrite unit address blocks forced gathered write

-- what a task does, and what its open command waits for and promises. Frames come only to a device that is mended or
-- locked; what a VERIFY compares is waited for by nothing
abbrev pub DeedAgrees : Numbers → Bool → Roll → ℕ → Deed → Option OpenTask → Type 0
DeedAgrees n ready roll lun (Gathering (ForWrite unit address blocks forced) gathered asked) o =
    WaitsForBlocks n lun unit address blocks forced gathered o
DeedAgrees n ready roll lun (Gathering (ForUnmap unit) gathered asked) o =
    Waits n lun UnmapList o × (gathered ≡ []) × (unit ≡ lun)
DeedAgrees n ready roll lun (Gathering (ForFrames region) gathered asked) o =
    Waits n lun (Frames region) o × (gathered ≡ []) × (ready ≡ true)
DeedAgrees n ready roll lun (Awaiting commands) o = AtMost commands roll o
DeedAgrees n ready roll lun (Answering status carried) o = is_good status ≡ true → AtMost 0 roll o
DeedAgrees n ready roll lun (Sending blocks sent) o = AtMost 0 roll o
DeedAgrees n ready roll lun (SendingBytes bytes) o = AtMost 0 roll o
DeedAgrees n ready roll lun (ReadingArea pages) o = AtMost 0 roll o
DeedAgrees n ready roll lun (Comparing blocks compared asked) o = Waits n lun Nothing o

-- the open command, if one is open, is that of the LUN and the tag, and promises no more than was noted
pub record IsNamed (lun tag : ℕ) (roll : Roll) (t : OpenTask) : Type 0 where
  pub lun_is : t.name.lun ≡ lun
  pub tag_is : t.name.tag ≡ tag
  pub is_task : is_command t.awaited ≡ true
  pub inside : t.promised ≤ length roll

pub record TaskAgrees (n : Numbers) (ready : Bool) (roll : Roll) (task : Task) (open_task : Option OpenTask) : Type 0
  where
    pub named : (t : OpenTask) → open_task ≡ Some t → IsNamed task.lun task.tag roll t
    pub deed : DeedAgrees n ready roll task.lun task.deed open_task

-- ## Short exchanges

-- the answer to a query, with this code
abbrev pub IsCode : ℕ → Message → Type 0
IsCode code (message.QueryResponse tag function told asked size value «data») = told ≡ code
IsCode code other = ⊥

-- an answer to a query with a code that is not that of success
abbrev pub IsRefusal : Message → Type 0
IsRefusal m = (code : ℕ) × IsCode code m × (code ≡ 0x00 → ⊥)

-- what the short exchange of a setting answers: success, once the commands up to the setting are durable; a refusal,
-- where it was not accepted; or FFh, once a lock ended it
pub data Settles (is_locked : Bool) (roll : Roll) (place : ℕ) (short : Short) : Type 0 where
  Succeeds : (c : Command) → (n : ℕ) → slice_get roll place ≡ Some (Some c) → short.awaits ≡ Some n →
      count (place + 1) roll ≤ n → IsCode 0x00 short.reply → IsCode 0xFF short.locked_reply →
      Settles is_locked roll place short
  Fails : slice_get roll place ≡ Some None → short.awaits ≡ None → IsRefusal short.reply →
      Settles is_locked roll place short
  Ends : (c : Command) → slice_get roll place ≡ Some (Some c) → short.awaits ≡ None → IsCode 0xFF short.reply →
      is_locked ≡ true → Settles is_locked roll place short

-- a RESPONSE that is not GOOD
abbrev pub IsBad : Message → Type 0
IsBad (message.Response flags lun tag response status residual sense) = response ≡ 0x01
IsBad other = ⊥

-- what is open under the tag of a short exchange: a setting, or a command that got TASK SET FULL
abbrev pub OpenAgrees : Bool → Roll → Short → Awaited → Type 0
OpenAgrees is_locked roll short (Verdict place) = Settles is_locked roll place short
OpenAgrees is_locked roll short (Blocks w) = IsBad short.reply × (short.awaits ≡ None)
OpenAgrees is_locked roll short Nothing = IsBad short.reply × (short.awaits ≡ None)
OpenAgrees is_locked roll short UnmapList = IsBad short.reply × (short.awaits ≡ None)
OpenAgrees is_locked roll short (Frames number) = IsBad short.reply × (short.awaits ≡ None)

abbrev pub ShortAgrees : Bool → Roll → Short → Option OpenTask → Type 0
ShortAgrees is_locked roll short o =
    (t : OpenTask) → o ≡ Some t → (t.promised ≤ length roll) × OpenAgrees is_locked roll short t.awaited

-- ## All of it

-- what stands under one tag: nothing is open in a journal under a tag that is free
abbrev pub AgreesAt : Numbers → Bool → Bool → Roll → Option Task → Option Short → Option OpenTask → Type 0
AgreesAt n is_locked ready roll (Some task) short o = TaskAgrees n ready roll task o
AgreesAt n is_locked ready roll None (Some short) o = ShortAgrees is_locked roll short o
AgreesAt n is_locked ready roll None None o = o ≡ None

-- the tag of an open command or setting
abbrev pub tag_of : OpenTask → ℕ
tag_of t = t.name.tag

-- the open tasks and short exchanges of a device, and what is open in a journal
pub record Pairs (n : Numbers) (is_locked ready : Bool) (roll : Roll) (tasks : List Task) (shorts : List Short)
    (opens : List OpenTask) : Type 0 where
  pub differ : TagsDiffer tag_of opens
  pub at : (tag : ℕ) →
      AgreesAt n is_locked ready roll (task_of tag tasks) (find (is_short_of tag) shorts) (find (has_tag tag) opens)

-- a device and a journal that agree. Before the device is mended nothing is accepted
pub record Agree (n : Numbers) (is_locked is_mended : Bool) (base : Plain) (accepted : List Command) (held : ℕ)
    (tasks : List Task) (shorts : List Short) (j : Heard) : Type 0 where
  pub numbers : j.numbers ≡ n
  pub lock : j.locked ≡ is_locked
  pub roll : Roll
  pub books : Books accepted held j.entries j.held roll
  pub pairs : Pairs n is_locked (is_locked || is_mended) roll tasks shorts j.tasks
  pub regions : AreRegionsOf j.regions (after base accepted)
  pub unmended : is_mended ≡ false → accepted ≡ []

-- the device and the journal agree in what comes of a state, by the numbers, the lock and the mending that it had
abbrev pub AgreeIn : State → ℕ → State → Heard → Type 0
AgreeIn s held t j = Agree (numbers_of s) (locked s) (mended s) s.base t.accepted held t.tasks t.shorts j
