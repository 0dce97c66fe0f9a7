-- What the calls make of the layer and of what the device keeps.
use Rattle.std.specs.Prelude.{◌≡◌, ℕ, ◌+◌, ◌-◌, ◌*◌, ◌==◌, ◌≤◌, ◌<◌, nat_le, Bool, false, if◌then◌else◌, List, []}
use Rattle.std.specs.Prelude.{fold, length, map, replicate, slice_get, Option, Some, None, Result, Ok, Err}
use Rattle.std.specs.List.{list_any}
use Rattle.ufs_spec.specs.Keys.{IsKey}
use Rattle.ufs_spec.specs.Ledger.{Ledger, next_number}
use Rattle.ufs_spec.specs.Moves.{Accept, Claim, IsAllowedMove, Move, Release, moved}
use Rattle.ufs_spec.specs.Plain.{greatest_command, shape_of_numbers, zero_block}
use Rattle.ufs_spec.specs.Translation.{Translation, free_slots, is_locked, is_mended}
use Rattle.ufs_spec.specs.declared.flash.Key.{Key}
use Rattle.ftl_core.specs.Public.{Claims, Core, PinsDiffer, group_of_blocks, keeps_area_of, keeps_for, keeps_of}
use Rattle.ftl_core.specs.Public.{key_behind}
use Rattle.ftl_core.specs.Public.{EndedNow, with_block, with_claimed}
use Rattle.ftl_core.specs.Ended as ended
use Rattle.ufs_spec.specs.declared.exchanges.Status.{Status}
use Rattle.ufs_spec.specs.declared.exchanges.Status.TheVariants as status
use Rattle.task_set.specs.declared.tasks.Phase.{Phase}
use Rattle.task_set.specs.declared.tasks.Phase.TheVariants as phase
use Rattle.device.specs.declared.plans.Plan.{Plan}
use Rattle.device.specs.declared.plans.Plan.TheVariants as plan
use Rattle.task_set.specs.declared.tasks.TaskEvent.{TaskEvent}
use Rattle.task_set.specs.declared.tasks.TaskEvent.TheVariants as event
use Rattle.device.specs.Kept.{DeviceCore, IsLayerWith}
use Rattle.task_set.specs.Lists.{task_happened}
use Rattle.task_set.specs.Shorts.{short_locked}
use Rattle.task_set.specs.Tasks.{after_lost_read, after_read, next_wanted, task_after, wanted_block, write_error}
use Rattle.ufs_spec.specs.Exchanges.{most_tasks}
use Rattle.task_set.specs.declared.tasks.Wanted.{Wanted}

-- this happened to the task at this position
abbrev pub with_event : DeviceCore → ℕ → TaskEvent → DeviceCore
with_event d k e = record d { tasks = task_happened d.tasks k e (slice_get d.tasks k) }

-- A task begins

-- a READ or a VERIFY looks these addresses up, and keeps nothing else
pub record MayKeep (t : Translation) (tag : ℕ) (key : Key) (blocks : ℕ) : Type 0 where
  pub of_data : key.kind ≡ 1
  pub there : (i : ℕ) → i < blocks → IsKey (shape_of_numbers t.numbers) (key_behind key i)
  pub new : list_any (keeps_for tag) t.pins ≡ false

-- whether there is room for so many pins more: all tasks have together no more than so many blocks
abbrev pub has_room : Translation → ℕ → Bool
has_room t blocks = nat_le (length t.pins + blocks) (most_tasks * greatest_command)

-- how far a READ is that begins, of a command of so many bytes, and a VERIFY that compares its blocks
abbrev pub sending_first : (blocks size : ℕ) → Phase
sending_first blocks size = phase.SendBlocks (record { blocks = blocks; sent = 0; length = size })

abbrev pub comparing_first : (blocks : ℕ) → Phase
comparing_first blocks = phase.AskBlock (record { blocks = blocks; compared = 0 })

-- how far such a command is that begins, and the layer then: it keeps what it looks up. As no block is kept twice, there
-- is room wherever a task may be opened
pub record HasKept (after : Core) (t : Translation) (claims : Claims) (tag : ℕ) (key : Key) (blocks : ℕ)
    (first p : Phase) : Type 0 where
  pub phase_is : p ≡ (if has_room t blocks then first else phase.Answer status.Busy 0)
  pub differ : PinsDiffer t.pins
  pub layer : MayKeep t tag key blocks →
      IsLayerWith after (if has_room t blocks then fold moved t (keeps_of t tag key blocks) else t) claims

-- how far a VERIFY is that begins, and the layer then: it keeps its blocks, and wants the pages of all of them
pub record HasKeptAll (after : Core) (t : Translation) (claims : Claims) (tag : ℕ) (key : Key) (blocks : ℕ)
    (p : Phase) : Type 0 where
  pub phase_is : p ≡
      (if has_room t blocks then phase.Verify (record { blocks = blocks; failed = false })
      else phase.Answer status.Busy 0)
  pub differ : PinsDiffer t.pins
  pub layer : MayKeep t tag key blocks →
      IsLayerWith after (if has_room t blocks then fold moved t (keeps_area_of t tag key blocks) else t) claims

-- whether so many slots are free
abbrev pub has_slots : Translation → ℕ → Bool
has_slots t blocks = nat_le blocks (free_slots t)

-- how far a command is that begins, and the layer then, if it claims so many slots: with them it asks for its data
pub record HasClaimedFor (after : Core) (t : Translation) (claims : Claims) (tag slots : ℕ) (asks p : Phase) : Type 0
  where
    pub phase_is : p ≡ (if has_slots t slots then asks else phase.Answer status.Busy 0)
    pub layer : claims tag ≡ [] → IsLayerWith after (if has_slots t slots then moved t (Claim slots) else t)
        (if has_slots t slots then with_claimed claims tag (replicate slots zero_block) else claims)

-- how far a command is that begins with what its task keeps to send, so many bytes: where its host takes nothing, it is
-- done
abbrev pub held_phase : ℕ → ℕ → Phase
held_phase size taken = if taken == 0 then phase.Answer status.Good size else phase.SendHeld size

-- the number of the last group, so that what waits for it waits for all that was accepted
abbrev pub last_number : Ledger → ℕ
last_number l = next_number l - 1

-- how far a flush is that begins: before the device is mended nothing was accepted, and nothing is waited for
abbrev pub flush_phase : Translation → Phase
flush_phase t =
    if is_mended t.work.mending then phase.AwaitFrontier (last_number t.ledger) 0 else phase.Answer status.Good 0

-- how far a task is that begins what was planned for it, and the layer then
abbrev pub HasBegun : Core → Translation → Claims → ℕ → Result Plan Status → Phase → Type 0
HasBegun after t claims tag (Ok (plan.Read key blocks size)) p =
    HasKept after t claims tag key blocks (sending_first blocks size) p
HasBegun after t claims tag (Ok (plan.Compare key blocks)) p =
    HasKept after t claims tag key blocks (comparing_first blocks) p
HasBegun after t claims tag (Ok (plan.Verify key blocks)) p = HasKeptAll after t claims tag key blocks p
HasBegun after t claims tag (Ok (plan.Gather w slots)) p = HasClaimedFor after t claims tag slots (phase.Ask w) p
HasBegun after t claims tag (Err refused) p = (p ≡ phase.Answer refused 0) × IsLayerWith after t claims
HasBegun after t claims tag (Ok (plan.Nothing n)) p = (p ≡ phase.Answer status.Good n) × IsLayerWith after t claims
HasBegun after t claims tag (Ok (plan.Drop n)) p = (p ≡ phase.Answer status.Good n) × IsLayerWith after t claims
HasBegun after t claims tag (Ok (plan.Send from size taken)) p =
    (p ≡ held_phase size taken) × IsLayerWith after t claims
HasBegun after t claims tag (Ok plan.Flush) p =
    (p ≡ flush_phase t) × IsLayerWith after t claims

-- Blocks come

-- the blocks may be accepted as a group, from this address on
pub record MayAccept (t : Translation) (key : Key) (bodies : List (List ℕ)) : Type 0 where
  pub of_data : key.kind ≡ 1
  pub of_unit : key.unit ≤ 7
  pub allowed : IsAllowedMove t (Accept (length bodies) (group_of_blocks key bodies))

-- where all blocks of a task came: they are accepted as a group, or the claimed slots are given back where the device
-- is locked
abbrev pub taken_move : Translation → Key → List (List ℕ) → Move
taken_move t key bodies =
    if is_locked t then Release (length bodies) else Accept (length bodies) (group_of_blocks key bodies)

-- what its task is told, and the layer then
pub record HasTaken (after : Core) (t : Translation) (claims : Claims) (tag : ℕ) (key : Key) (e : TaskEvent) : Type 0
  where
    pub event_is : e ≡ (if is_locked t then event.DataRefused write_error else event.GroupAccepted (next_number t.ledger))
    pub layer : (is_locked t ≡ false → MayAccept t key (claims tag)) →
        IsLayerWith after (moved t (taken_move t key (claims tag))) (with_claimed claims tag [])

-- where more blocks are to come nothing else happens, and with the last one the group is taken
abbrev pub HasGatheredThen : Core → Translation → Claims → ℕ → Key → TaskEvent → Option Wanted → Type 0
HasGatheredThen after t claims tag key e (Some more) = (e ≡ event.BlockGathered) × IsLayerWith after t claims
HasGatheredThen after t claims tag key e None = HasTaken after t claims tag key e

-- a block of a WRITE came: it lies in its slot, and with the last block the group is accepted, or refused by a locked
-- device
abbrev pub HasGathered : Core → Translation → Claims → ℕ → Wanted → Key → List ℕ → TaskEvent → Type 0
HasGathered after t claims tag w key bytes e =
    HasGatheredThen after t (with_block claims tag (wanted_block w) bytes) tag key e (next_wanted w)

-- What the end of a job told

-- where the layer is locked, each task and each short exchange that waits for a block that is not durable ends
abbrev pub lock_told : Translation → DeviceCore → DeviceCore
lock_told t d =
    if is_locked t
    then
    record d {
      tasks = map (task_after (event.Locked t.ledger.frontier)) d.tasks;
      shorts = map (short_locked t.ledger.frontier) d.shorts;
    }
    else d

-- what the die gave to the task of this tag of its block or page of this index: the block, or none
abbrev pub read_told : DeviceCore → ℕ → ℕ → Option (List ℕ) → DeviceCore
read_told d tag index (Some body) = record d { tasks = map (after_read tag index body) d.tasks }
read_told d tag index None = record d { tasks = map (after_lost_read tag index) d.tasks }

-- what the end of a job tells the tasks: a read for one gives it its block or none, and any other job tells nothing
abbrev pub told : DeviceCore → EndedNow → DeviceCore
told d (ended.Read reader index body) = read_told d reader index body
told d ended.Other = d
