-- What a call makes of a device that a C program holds.
use Rattle.std.specs.Prelude.{◌<◌, ◌≡◌, ◌⊎◌, ℕ, Bool, true, false, List, [], Option, Some, None, Result, Ok, Err, length}
use Rattle.std.specs.Prelude.{IfNone, OnErr, replicate, slice_set}
use Rattle.ufs_spec.specs.Cells.{Array}
use Rattle.ufs_spec.specs.Dies.{CanDo, DieState, after_job, outcome_of}
use Rattle.ufs_spec.specs.Lives.{Fit, IsOpened, array_of, bad_of}
use Rattle.ufs_spec.specs.Machine.{Done, MayLeave, OfDone, OfReply, OfTurn, Reply, Turn}
use Rattle.ufs_spec.specs.Moves.{Ending, IsEndingOf, outcome_fits}
use Rattle.ufs_spec.specs.Refusals.{State}
use Rattle.ufs_spec.specs.Sound.{Sound, Suits}
use Rattle.ufs_spec.specs.declared.configs.Numbers.{Numbers}
use Rattle.ufs_spec.specs.declared.faults.HostFault.{HostFault}
use Rattle.ufs_spec.specs.declared.flash.Job.{Job}
use Rattle.ufs_spec.specs.declared.flash.Outcome.{Outcome}
use Rattle.device.specs.Describes.{Describes, IsAnswered, IsGiven, IsHeardAs, IsReplied}
use Rattle.device.specs.Kept.{DeviceCore}
use Rattle.device.specs.Opened.{HasScanned, HoldAnotherConfig}
use Rattle.ufs_handle.specs.Kept.{HeldState, die_at, job_at, jobs_given}
use Rattle.ufs_handle.specs.Left.{failed_by, failed_outcome, stopped}
use Rattle.ufs_handle.specs.declared.fault.Fault.{Fault}
use Rattle.ufs_handle.specs.declared.fault.Fault.TheVariants as fault
use Rattle.ufs_handle.specs.declared.left.Left.{Left}

-- ## A handle

-- a call of a handle: one that holds no device, or one whose power is off, answers nothing and stays as it is; any other
-- holds one afterwards too, which is as `Made` says
abbrev pub Called : {A : Type 0} → (HeldState → A → HeldState → Type 0) → Option HeldState → Option A → Option HeldState → Type 0
Called Made None None None = Unit {0}
Called Made (Some h) None (Some after) = (h.is_off ≡ true) × (after ≡ h)
Called Made (Some h) (Some answer) (Some after) = (h.is_off ≡ false) × Made h answer after
Called Made before answer after = ⊥

-- the handle holds no device, or one whose power is off
abbrev pub IsOff : Option HeldState → Type 0
IsOff None = Unit {0}
IsOff (Some h) = h.is_off ≡ true

-- ## The five calls

-- all but what the device keeps is as before
abbrev pub IsElseSame : HeldState → HeldState → Type 0
IsElseSame h after = after ≡ record h { core = after.core }

-- the device heard the message
pub record Hears (message : List ℕ) (h : HeldState) (answer : Result (Unit {0}) HostFault) (after : HeldState) : Type 0 where
  pub rest : IsElseSame h after
  -- a message that is refused changes nothing
  pub refused : OnErr answer (after ≡ h)
  pub heard : (s : State) → Describes h.core s → IsHeardAs s message answer after.core

-- a step was ordered, or none was due
pub record Turns (h : HeldState) (answer : Bool) (after : HeldState) : Type 0 where
  pub rest : IsElseSame h after
  pub nothing : answer ≡ false → after ≡ h
  pub turned : (s : State) → Describes h.core s → IsAnswered s Turn (OfTurn answer) after.core

-- these bytes are a reply that was due, in place of the ones before; or none was due, they are the ones before, and
-- nothing changed
abbrev pub RepliesSo : List ℕ → List ℕ → DeviceCore → Bool → DeviceCore → Type 0
RepliesSo before bytes core true after = (s : State) → Describes core s → IsReplied s bytes after
RepliesSo before bytes core false after =
    (bytes ≡ before) × (after ≡ core) × ((s : State) → Describes core s → IsAnswered s Reply (OfReply None) after)

pub record Replies (before bytes : List ℕ) (h : HeldState) (answer : Bool) (after : HeldState) : Type 0 where
  pub rest : IsElseSame h after
  pub replied : RepliesSo before bytes h.core answer after.core

-- the die was given a job, or none was due
pub record Takes (die : ℕ) (h : HeldState) (answer : Option Job) (after : HeldState) : Type 0 where
  pub rest : after ≡ record h { core = after.core; jobs = jobs_given h.jobs die answer }
  pub nothing : IfNone answer (after ≡ h)
  pub given : (s : State) → Describes h.core s → IsGiven s die answer after.core

-- the device was told that the die's job ended so
abbrev pub IsTold : ℕ → Outcome → DeviceCore → DeviceCore → Type 0
IsTold die outcome core after =
    (s : State) (ending : Ending) (left : Array) → Describes core s →
    IsEndingOf s.translation.disk.cells (s.translation.disk.flights die) outcome ending → MayLeave s die ending left →
    IsAnswered s (Done die ending left) (OfDone true) after

-- the program's own die ended its job so; nothing changes where the dies are in memory, or the die has no job of this
-- kind in flight
abbrev pub Ends : ℕ → Outcome → HeldState → Bool → HeldState → Type 0
Ends die outcome h true after =
    (length h.dies ≡ 0) × (after ≡ record h { core = after.core; jobs = slice_set h.jobs die None })
    × IsTold die outcome h.core after.core
Ends die outcome h false after =
    (after ≡ h)
    × (h.dies ≡ [] → (s : State) → Describes h.core s → outcome_fits (s.translation.disk.flights die) outcome ≡ false)

-- ## Dies in memory

-- the die did its job in flight, and the device was told; nothing changes where it has none that it can do
abbrev pub Works : ℕ → HeldState → Bool → HeldState → Type 0
Works die h true after =
    (job : Job) × (job_at h.jobs die ≡ Some job) × CanDo (die_at h.dies die) job
    × (after ≡ record h {
      core = after.core;
      dies = slice_set h.dies die (after_job (die_at h.dies die) job);
      jobs = slice_set h.jobs die None;
    })
    × IsTold die (outcome_of (die_at h.dies die) job) h.core after.core
Works die h false after =
    (after ≡ h) × ((job : Job) → job_at h.jobs die ≡ Some job → CanDo (die_at h.dies die) job → ⊥)

-- the job in flight of the die failed, and left what is said of it: the block of a program or an erase is bad from then
-- on. The device was told. Nothing changes where the die has no job in flight that it can do
abbrev pub Fails : ℕ → Left → HeldState → Bool → HeldState → Type 0
Fails die left h true after =
    (job : Job) × (job_at h.jobs die ≡ Some job) × CanDo (die_at h.dies die) job
    × (after ≡ record h {
      core = after.core;
      dies = slice_set h.dies die (failed_by h.config.pages left job (die_at h.dies die));
      jobs = slice_set h.jobs die None;
    })
    × IsTold die (failed_outcome job) h.core after.core
Fails die left h false after =
    (after ≡ h) × ((job : Job) → job_at h.jobs die ≡ Some job → CanDo (die_at h.dies die) job → ⊥)

-- ## Opening

-- the device was opened over these dies: over sound ones it is the one that the definitions open over them; over any it
-- has what a scan of them finds, and they suit the configuration
pub record OpensOver (n : Numbers) (dies : List DieState) (core : DeviceCore) : Type 0 where
  pub described : (s : State) → Sound (array_of dies) → IsOpened n (array_of dies) (bad_of dies) s → Describes core s
  pub found : HasScanned n dies core
  pub suits : Suits n (array_of dies)
  pub fit : Fit n dies

-- why no device of this configuration is opened over the dies: memory was refused; or they are not as many and as large as
-- it says, or hold another one, whether they are sound or not
abbrev pub IsUnopened : Numbers → List DieState → Fault → Type 0
IsUnopened n dies fault.NoMemory = Unit {0}
IsUnopened n dies fault.OtherConfig = Fit n dies → HoldAnotherConfig n dies
IsUnopened n dies f = ⊥

-- the same of a handle, which is to hold none before
abbrev pub IsNotOpened : Numbers → List DieState → Option HeldState → Fault → Type 0
IsNotOpened n dies None f = IsUnopened n dies f
IsNotOpened n dies (Some h) f = f ≡ fault.Open

-- the handle holds a device of this configuration over these dies, with no job in flight
abbrev pub IsOpen : Numbers → List DieState → Option HeldState → Type 0
IsOpen n dies None = ⊥
IsOpen n dies (Some h) =
    (h.is_off ≡ false) × (h.config ≡ n) × (h.dies ≡ dies) × (h.jobs ≡ replicate (length dies) None)
    × OpensOver n dies h.core

-- the dies once the power went from all that the device has in memory
abbrev pub dies_stopped : List Left → HeldState → List DieState
dies_stopped lefts h = stopped h.config.pages lefts h.jobs (length h.dies) h.dies

-- the power went, and is off: each die holds what its job leaves, and no die has a job
abbrev pub left_off : List Left → HeldState → HeldState
left_off lefts h =
    record h { dies = dies_stopped lefts h; jobs = replicate (length h.jobs) None; is_off = true }

-- the power went, and the device was opened again: each die holds what its job leaves, and no die has a job
pub record Stopped (lefts : List Left) (h after : HeldState) : Type 0 where
  pub on : after.is_off ≡ false
  pub config : after.config ≡ h.config
  pub dies : after.dies ≡ dies_stopped lefts h
  pub jobs : after.jobs ≡ replicate (length h.jobs) None
  pub opened : OpensOver after.config after.dies after.core

-- the dies in memory were given up
abbrev pub GivesUp : HeldState → Unit {0} → HeldState → Type 0
GivesUp h _ after = after ≡ record h { dies = [] }

-- the power went from dies in memory, also where it was off; or there are none, and nothing changed; or the device could
-- not be opened again over what they hold then: the power is off, and the handle keeps them
abbrev pub StopsSo : List Left → Option HeldState → Option (Result (Unit {0}) Fault) → Option HeldState → Type 0
StopsSo lefts None None None = Unit {0}
StopsSo lefts (Some h) (Some (Ok _)) (Some after) = (0 < length h.dies) × Stopped lefts h after
StopsSo lefts (Some h) (Some (Err f)) (Some after) =
    ((f ≡ fault.OwnDies) × (length h.dies ≡ 0) × (after ≡ h))
    ⊎ ((0 < length h.dies) × IsUnopened h.config (dies_stopped lefts h) f × (after ≡ left_off lefts h))
StopsSo lefts before answer after = ⊥
