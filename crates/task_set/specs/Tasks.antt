-- What becomes of a task.
use Rattle.std.specs.Prelude.{ℕ, ◌+◌, ◌-◌, ◌*◌, ◌/◌, ◌%◌, ◌==◌, ◌&&◌, nat_lt, Bool, true, false, if◌then◌else◌, List, Option}
use Rattle.std.specs.Prelude.{Some, None, option_map}
use Rattle.ufs_spec.specs.Exchanges.{to_gather}
use Rattle.ufs_spec.specs.declared.scsi.Sense.{Sense}
use Rattle.ufs_spec.specs.declared.exchanges.Purpose.{Purpose}
use Rattle.ufs_spec.specs.declared.exchanges.Purpose.TheVariants.{ForFrames, ForUnmap, ForWrite}
use Rattle.ufs_spec.specs.declared.exchanges.ReadState.TheVariants.{NotRead, WasRead}
use Rattle.ufs_spec.specs.declared.exchanges.Status.TheVariants.{CheckCondition, Good}
use Rattle.task_set.specs.declared.tasks.Phase.{Phase}
use Rattle.task_set.specs.declared.tasks.Phase.TheVariants as phase
use Rattle.task_set.specs.declared.tasks.Meant.{Meant}
use Rattle.task_set.specs.declared.tasks.Comparing.{Comparing}
use Rattle.task_set.specs.declared.tasks.Sending.{Sending}
use Rattle.task_set.specs.declared.tasks.Verifying.{Verifying}
use Rattle.task_set.specs.declared.tasks.TaskEvent.{TaskEvent}
use Rattle.task_set.specs.declared.tasks.TaskEvent.TheVariants as event
use Rattle.task_set.specs.declared.frames.Frames.{Frames}
use Rattle.task_set.specs.declared.frames.Frames.TheVariants.{Answered, Decided, NotBrought, Undecided}
use Rattle.task_set.specs.declared.tasks.Wanted.{Wanted}
use Rattle.task_set.specs.Frames.{frames_after, page_ended, page_put, reading_of}
use Rattle.task_set.specs.Kept.{OpenTask}

-- the sense of a READ whose block could not be read: MEDIUM ERROR, 3/11/00
abbrev pub read_error : Sense
read_error = record { key = 0x03; asc = 0x11; ascq = 0x00 }

-- the sense of a WRITE or a flush whose blocks a locked device can make durable no more: MEDIUM ERROR, 3/0C/00
abbrev pub write_error : Sense
write_error = record { key = 0x03; asc = 0x0C; ascq = 0x00 }

-- the sense of a VERIFY of which a block is not the one that its host sent: MISCOMPARE, E/1D/00
abbrev pub miscompare : Sense
miscompare = record { key = 0x0E; asc = 0x1D; ascq = 0x00 }

-- the command failed with this sense, and so many bytes were carried
abbrev pub failed : Sense → ℕ → Phase
failed sense carried = phase.Answer (CheckCondition sense) carried

-- a WRITE whose group was accepted under this number: with FUA it waits until the group is durable
abbrev pub group_done : Bool → ℕ → ℕ → Phase
group_done true number size = phase.AwaitFrontier number size
group_done false number size = phase.Answer Good size

-- which block of the data is asked for, counted from 0, in 16 bits
abbrev pub wanted_block : Wanted → ℕ
wanted_block w = (w.came / 4096) % 65536

-- what is asked for once a block more came
abbrev pub next_wanted : Wanted → Option Wanted
next_wanted w = if nat_lt 4096 (to_gather w.purpose w.length - w.came) then Some (record w { came = w.came + 4096 }) else None

-- what is still to be sent of a READ once one block more was handed out
abbrev pub next_sending : Sending → Option Sending
next_sending x = if nat_lt (x.sent + 1) x.blocks then Some (record x { sent = x.sent + 1 }) else None

-- after a block of the data: the next one is asked for, if one is to come; the last one is told apart
abbrev pub asked_next : Wanted → Option Wanted → Phase
asked_next w None = phase.Await w
asked_next w (Some more) = phase.Ask more

-- after a block of a READ: the next one is sent, if there is one, else GOOD is due
abbrev pub sent_next : Sending → Option Sending → Phase
sent_next x None = phase.Answer Good x.length
sent_next x (Some y) = phase.SendBlocks y

-- how many bytes are asked for: a block of a WRITE, or all at once
abbrev pub count_for : Purpose → ℕ → ℕ
count_for (ForWrite unit address blocks forced) size = 4096
count_for (ForUnmap unit) size = size
count_for (ForFrames region) size = size

abbrev pub wanted_count : Wanted → ℕ
wanted_count w = count_for w.purpose w.length

-- what is still to be compared of a VERIFY once one block more was found to be the same
abbrev pub next_comparing : Comparing → Option Comparing
next_comparing x = if nat_lt (x.compared + 1) x.blocks then Some (record x { compared = x.compared + 1 }) else None

-- after a block that was found to be the same: the host is asked for the next one, if there is one, else GOOD is due
abbrev pub same_next : Comparing → Option Comparing → Phase
same_next x None = phase.Answer Good (4096 * x.blocks)
same_next x (Some y) = phase.AskBlock y

-- whether so many bytes at this offset are the block that is compared next
abbrev pub is_compared : Comparing → ℕ → ℕ → Bool
is_compared x offset count = (4096 * x.compared == offset) && (count == 4096)

-- one of the blocks of a VERIFY could not be read
abbrev pub block_unread : Verifying → Verifying
block_unread x = record x { failed = true }

-- whether so many bytes at this offset are what was asked for
abbrev pub is_wanted : Wanted → ℕ → ℕ → Bool
is_wanted w offset count = (w.came == offset) && (count == wanted_count w)

-- the data are for a WRITE with FUA
abbrev pub is_forced : Purpose → Bool
is_forced (ForWrite unit address blocks forced) = forced
is_forced (ForUnmap unit) = false
is_forced (ForFrames region) = false

-- how far a task is that awaited this, after this happened: data of a WRITE come block by block, and frames (JESD220,
-- 12.4) or the list of an UNMAP (SBC) at once; once all came, they are decided
abbrev pub came : Wanted → TaskEvent → Phase
came w event.BlockGathered = asked_next w (next_wanted w)
came w (event.GroupAccepted number) = group_done (is_forced w.purpose) number w.length
came w (event.DataRefused sense) = failed sense w.length
came w event.DataTaken = phase.Answer Good w.length
came w (event.RequestAnswered code) = phase.Answer Good w.length
came w (event.RequestAccepted code number) = phase.AwaitFrontier number w.length
came w (event.AreaAsked code address count) = phase.ReadArea (reading_of address count w.length)
came w e = phase.Await w

-- the table of a task's phases: how far it is after this happened; what does not concern its phase changes nothing
abbrev pub phase_after : Phase → TaskEvent → Phase
phase_after (phase.Ask w) event.DataAskedFor = phase.Await w
phase_after (phase.Await w) e = came w e
phase_after (phase.AwaitFrontier number size) (event.Locked frontier) =
    if nat_lt frontier number then failed write_error size else phase.AwaitFrontier number size
phase_after (phase.ReadArea r) (event.PageLoaded index) = phase.ReadArea (page_ended r index WasRead)
phase_after (phase.ReadArea r) (event.BlockLost index) = phase.ReadArea (page_ended r index NotRead)
phase_after (phase.Verify x) (event.BlockLost index) = phase.Verify (block_unread x)
phase_after (phase.AskBlock x) event.BlockAskedFor = phase.AwaitBlock x
phase_after (phase.AskBlock x) (event.BlockLost index) = failed read_error (4096 * x.compared)
phase_after (phase.AwaitBlock x) event.BlockSame = same_next x (next_comparing x)
phase_after (phase.AwaitBlock x) event.BlockDiffers = failed miscompare (4096 * (x.compared + 1))
phase_after (phase.SendBlocks x) event.BlockSent = sent_next x (next_sending x)
phase_after (phase.SendBlocks x) (event.BlockLost index) = failed read_error (4096 * x.sent)
phase_after (phase.SendHeld size) event.DataSent = phase.Answer Good size
phase_after p e = p

-- the block that a task in this phase keeps: once it was handed out or compared it is not there, and nothing else changes
-- it
abbrev pub block_after : TaskEvent → Phase → Option (List ℕ) → Option (List ℕ)
block_after event.BlockSent (phase.SendBlocks x) block = None
block_after event.BlockSame (phase.AwaitBlock x) block = None
block_after event.BlockDiffers (phase.AwaitBlock x) block = None
block_after e p block = block

-- this happened to the task
abbrev pub task_after : TaskEvent → OpenTask → OpenTask
task_after e t =
    record t {
      phase = phase_after t.phase e;
      frames = frames_after t.frames e;
      block = block_after e t.phase t.block;
    }

-- a die read this for a task in this phase: the page of the area of this index, of which the part that is asked for is
-- put behind the frame; nothing of a block of a VERIFY that is not compared, or is the one that its host was asked for;
-- else the next block that the task sends or compares
abbrev pub read_for : ℕ → List ℕ → OpenTask → Phase → OpenTask
read_for index body t (phase.ReadArea r) =
    task_after (event.PageLoaded index) (record t { held = option_map (page_put r index body) t.held })
read_for index body t (phase.Verify x) = t
read_for index body t (phase.AwaitBlock x) = t
read_for index body t p = record t { block = Some body; held = None }

-- a die read this for the task of this tag
abbrev pub after_read : ℕ → ℕ → List ℕ → OpenTask → OpenTask
after_read tag index body t = if t.tag == tag then read_for index body t t.phase else t

-- the block or the page of this index could not be read for the task of this tag
abbrev pub after_lost_read : ℕ → ℕ → OpenTask → OpenTask
after_lost_read tag index t = if t.tag == tag then task_after (event.BlockLost index) t else t

-- the task keeps these bytes from now on
abbrev pub bytes_kept : List ℕ → OpenTask → OpenTask
bytes_kept frames t = record t { block = None; held = Some frames }

-- the task keeps this block from now on
abbrev pub block_kept : List ℕ → OpenTask → OpenTask
block_kept block t = record t { block = Some block; held = None }

-- the number is the one that is meant, a LUN byte or a tag; without one all are
abbrev pub is_any_meant : Option ℕ → ℕ → Bool
is_any_meant None number = true
is_any_meant (Some meant) number = meant == number

-- whether a task of this LUN byte and tag is one of those that a task management request (JESD220, 10.7.6) or a reset
-- of the link is about
abbrev pub is_meant : Meant → ℕ → ℕ → Bool
is_meant m lun tag = is_any_meant m.lun lun && is_any_meant m.tag tag

-- the task is one of them
abbrev pub is_task_meant : Meant → OpenTask → Bool
is_task_meant m t = is_meant m t.lun t.tag

-- the task has this tag
abbrev pub is_task_of : ℕ → OpenTask → Bool
is_task_of tag t = t.tag == tag

-- the command of a task that has this to do with frames brings some
abbrev pub brings_frames : Frames → Bool
brings_frames NotBrought = false
brings_frames Undecided = true
brings_frames (Decided code) = true
brings_frames Answered = true

-- the command of the task brings frames
abbrev pub is_sender : OpenTask → Bool
is_sender t = brings_frames t.frames

-- the request is yet to fill its register
abbrev pub is_unanswered : Frames → Bool
is_unanswered (Decided code) = true
is_unanswered NotBrought = false
is_unanswered Undecided = false
is_unanswered Answered = false

-- the task has such a request
abbrev pub is_decided : OpenTask → Bool
is_decided t = is_unanswered t.frames
