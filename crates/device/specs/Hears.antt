-- What a message of the host is answered, and what it makes of what the device keeps.
use Rattle.std.specs.Prelude.{Bool, Err, List, None, Ok, Option, Result, Some, [], false, true, ℕ, ◌++◌, ◌+◌, ◌==◌}
use Rattle.std.specs.Prelude.{◌∷◌, ◌≡◌}
use Rattle.ufs_spec.specs.Moves.{LetGo, LetGoAll, WantPage, moved}
use Rattle.ufs_spec.specs.Refusals.{Request, State}
use Rattle.ufs_spec.specs.Rpmb.{same_bytes}
use Rattle.ufs_spec.specs.Translation.{Translation}
use Rattle.ufs_spec.specs.declared.configs.Numbers.{Numbers}
use Rattle.ufs_spec.specs.declared.faults.HostFault.{HostFault}
use Rattle.ufs_spec.specs.declared.faults.HostFault.TheVariants.{NotAskedFor}
use Rattle.ftl_core.specs.Public.{Claims, Core, Describes}
use Rattle.task_set.specs.declared.tasks.AskedFor.{AskedFor}
use Rattle.task_set.specs.declared.tasks.ComparedWith.{ComparedWith}
use Rattle.task_set.specs.declared.tasks.Phase.{Phase}
use Rattle.device.specs.declared.plans.Plan.{Plan}
use Rattle.task_set.specs.declared.tasks.Short.{Short}
use Rattle.ufs_spec.specs.declared.exchanges.Status.{Status}
use Rattle.task_set.specs.Kept.{OpenTask, newly_open}
use Rattle.task_set.specs.declared.tasks.TaskEvent.{TaskEvent}
use Rattle.task_set.specs.declared.tasks.TaskEvent.TheVariants as event
pub use Rattle.device.specs.Calls.{with_event}
use Rattle.device.specs.Attentions.{volatile_left}
use Rattle.device.specs.Calls.{HasBegun, HasGathered, lock_told}
use Rattle.device.specs.Frames.{HasDecided, HasFilled, frames_brought, region_brought, sent_kept}
use Rattle.task_set.specs.declared.tasks.Wanted.{Wanted}
use Rattle.ufs_spec.specs.Keys.{data_key}
use Rattle.ufs_spec.specs.declared.exchanges.Purpose.{Purpose}
use Rattle.ufs_spec.specs.declared.exchanges.Purpose.TheVariants.{ForFrames, ForUnmap, ForWrite}
use Rattle.ufs_spec.specs.declared.flash.Key.{Key}
use Rattle.device.specs.Kept.{DeviceCore, IsLayerWith}
use Rattle.device.specs.Bare.{IsBare}
use Rattle.device.specs.Plans.{IsPlanned, IsRequest, expected_for}
use Rattle.device.specs.Unmaps.{HasListCome}
use Rattle.task_set.specs.Lists.{asked_among, compared_among, is_in_use, read_at, short_allowed}

-- Commands

-- the tag is in use, for task management or for another exchange. In profile 0 there is one set of tags
abbrev pub uses : DeviceCore → Numbers → (manages : Bool) → ℕ → Bool
uses d n manages tag = is_in_use d.tasks d.shorts (n.profile == 0) manages tag

-- one task more is open, behind all others
abbrev pub with_task : DeviceCore → OpenTask → DeviceCore
with_task d task = record d { tasks = d.tasks ++ task ∷ [] }

-- one short exchange more is open, behind all others
abbrev pub with_short : DeviceCore → Short → DeviceCore
with_short d short = record d { shorts = d.shorts ++ short ∷ [] }

-- whether one more short exchange of this tag may be open, one of task management or not
abbrev pub short_answer : DeviceCore → Numbers → (manages : Bool) → ℕ → Result Unit HostFault
short_answer d n manages tag = short_allowed d.tasks d.shorts (n.profile == 0) manages tag

-- a command became a task, refused or not: how far it is, and what its plan made of the layer and of the attention of
-- its LUN
pub record IsTaskOpened (before after : DeviceCore) (flags lun tag expected : ℕ) (bytes : List ℕ) : Type 0
  where
    pub layer : Core
    pub phase : Phase
    -- the plan is the one that the table of refusals has for it
    pub todo : Result Plan Status
    pub plan : (s : State) (r : Request) → Describes before.ftl s.translation → IsBare s before →
        IsRequest r flags lun expected bytes → IsPlanned s r todo
    pub begun : (t : Translation) (claims : Claims) → IsLayerWith before.ftl t claims →
        HasBegun layer t claims tag todo phase
    -- then its task keeps what it sends
    pub more : (t : Translation) → Describes layer t →
        after
        ≡ sent_kept t.numbers
        (record
        (with_task before (newly_open (record {
          tag = tag;
          lun = lun;
          expected = expected_for expected todo;
          phase = phase;
          frames = frames_brought todo;
          region = region_brought todo;
        })))
        { ftl = layer; volatile = volatile_left t.numbers lun todo before.volatile }) todo

-- Data

-- the task that asked for these data, and what it asked for
abbrev pub asked_for : DeviceCore → ℕ → ℕ → ℕ → ℕ → Option AskedFor
asked_for d lun tag offset count = asked_among d.tasks lun tag offset count

-- a block of a WRITE came, whose first block has this key; with the last its group was accepted or not
pub record HasBlock (before after : DeviceCore) (tag index : ℕ) (w : Wanted) (key : Key) (bytes : List ℕ) : Type 0
  where
    pub layer : Core
    pub event : TaskEvent
    pub taken : (t : Translation) (claims : Claims) → IsLayerWith before.ftl t claims →
        HasGathered layer t claims tag w key bytes event
    pub after_is : after ≡ record (with_event before index event) { ftl = layer }

-- what was asked for came: a block of a WRITE, all frames of a SECURITY PROTOCOL OUT, or the list of an UNMAP
abbrev pub HasComeFor : DeviceCore → DeviceCore → ℕ → ℕ → Wanted → List ℕ → Purpose → Type 0
HasComeFor before after tag index w bytes (ForWrite unit address blocks forced) =
    HasBlock before after tag index w (data_key unit address) bytes
HasComeFor before after tag index w bytes (ForUnmap unit) = HasListCome before after tag index unit bytes
HasComeFor before after tag index w bytes (ForFrames region) = HasDecided before after tag index bytes

abbrev pub HasCome : DeviceCore → DeviceCore → ℕ → ℕ → Wanted → List ℕ → Type 0
HasCome before after tag index w bytes = HasComeFor before after tag index w bytes w.purpose

-- what a task asked for came; then what became due filled its register, and the lock was told
pub record IsDataTaken (before after : DeviceCore) (tag : ℕ) (asked : AskedFor) (bytes : List ℕ) : Type 0 where
  pub come : DeviceCore
  pub has_come : HasCome before come tag asked.index asked.wanted bytes
  pub filled : DeviceCore
  pub has_filled : HasFilled come filled
  pub told : (t : Translation) → Describes filled.ftl t → after ≡ lock_told t filled

-- the VERIFY that compares these data next, and how far it is
abbrev pub compared_with : DeviceCore → ℕ → ℕ → ℕ → ℕ → Option ComparedWith
compared_with d lun tag offset count = compared_among d.tasks lun tag offset count

-- the block that the task at this position keeps has these bytes
abbrev pub is_block_kept : List ℕ → Option (List ℕ) → Bool
is_block_kept bytes None = false
is_block_kept bytes (Some block) = same_bytes bytes block

-- the VERIFY of this tag compared a block with these results: it is the same, so that it is let go and the next one is
-- wanted; or it is another one, so that all that is kept is let go
abbrev pub HasCompared : DeviceCore → DeviceCore → (tag : ℕ) → ComparedWith → (same : Bool) → Type 0
HasCompared before after tag found true =
    (after ≡ record (with_event before found.index event.BlockSame) { ftl = after.ftl })
    × ((t : Translation) (claims : Claims) → IsLayerWith before.ftl t claims →
    IsLayerWith after.ftl
    (moved (moved t (LetGo tag found.comparing.compared)) (WantPage tag (found.comparing.compared + 1))) claims)
HasCompared before after tag found false =
    (after ≡ record (with_event before found.index event.BlockDiffers) { ftl = after.ftl })
    × ((t : Translation) (claims : Claims) → IsLayerWith before.ftl t claims →
    IsLayerWith after.ftl (moved t (LetGoAll tag)) claims)

-- data that no task gathers are compared with the block of a VERIFY that asked for them, or nothing asked for them
abbrev pub IsBlockHeard : DeviceCore → DeviceCore → ℕ → List ℕ → Option ComparedWith → Result Unit HostFault → Type 0
IsBlockHeard before after tag bytes None result = (result ≡ Err NotAskedFor) × (after ≡ before)
IsBlockHeard before after tag bytes (Some found) result =
    (result ≡ Ok tt)
    × HasCompared before after tag found (is_block_kept bytes (read_at before.tasks found.index))

-- data are taken that a task asked for, to gather or to compare them
abbrev pub IsDataHeard : DeviceCore → DeviceCore → ℕ → List ℕ → Option AskedFor → Option ComparedWith →
    Result Unit HostFault → Type 0
IsDataHeard before after tag bytes None compared result = IsBlockHeard before after tag bytes compared result
IsDataHeard before after tag bytes (Some asked) compared result =
    (result ≡ Ok tt) × IsDataTaken before after tag asked bytes
