-- A handle with dies in memory as a device of a run: how it fits a state of the specified device, and which events of a
-- run its calls are.
use Rattle.std.specs.Prelude.{◌≡◌, ◌⊎◌, ◌++◌, ◌∷◌, [], ℕ, Bool, true, false, List, length, replicate}
use Rattle.std.specs.Prelude.{Option, Some, None, Result, Ok}
use Rattle.std.specs.Global.{Vec}
use Rattle.ufs_spec.specs.Dies.{DieState}
use Rattle.ufs_spec.specs.Lives.{Fit, Runs, Stops, array_of, bad_in, bad_of}
use Rattle.ufs_spec.specs.Refusals.{State, numbers_of}
use Rattle.ufs_spec.specs.Sound.{Sound}
use Rattle.ufs_spec.specs.declared.configs.Numbers.{Numbers}
use Rattle.ufs_spec.specs.declared.events.Event.{Event}
use Rattle.ufs_spec.specs.declared.events.Event.TheVariants as event
use Rattle.ufs_spec.specs.declared.events.Leftover.{Leftover}
use Rattle.ufs_spec.specs.declared.events.Output.{Output}
use Rattle.ufs_spec.specs.declared.events.Output.TheVariants as output
use Rattle.ufs_spec.specs.declared.faults.HostFault.{HostFault}
use Rattle.ufs_spec.specs.declared.flash.Job.{Job}
use Rattle.power_loss.specs.Exchange.{ValidState}
use Rattle.heard_laws.specs.HeardHeadline.{HeardHeadline}
use Rattle.device.specs.Kept.{WorldState}
use Rattle.device.specs.Worlds.{Fits, KeepsThePromise}
use Rattle.ufs_handle.specs.Calls.{Fails, Hears, IsOpen, Replies, StopsSo, Takes, Turns, Works}
use Rattle.ufs_handle.specs.Kept.{HeldState}
use Rattle.ufs_handle.specs.declared.fault.Fault.{Fault}
use Rattle.ufs_handle.specs.declared.left.Left.{Left}

-- ## A handle between two calls

-- the device that a handle holds, with its dies in memory, as the world of a run
abbrev pub world_held : HeldState → WorldState
world_held h =
    record { core = h.core; config = h.config; dies = h.dies; jobs = h.jobs; steps = 0; is_over = false }

-- the handle holds the device of this state, with the pages and the jobs in flight that the state has
pub record FitsHeld (h : HeldState) (s : State) : Type 0 where
  pub on : h.is_off ≡ false
  pub world : Fits (world_held h) s

-- the power went in this state and is off: the dies hold what a stop may leave, and none has a job
pub record IsOffAfter (h : HeldState) (s : State) : Type 0 where
  pub off : h.is_off ≡ true
  pub config : h.config ≡ numbers_of s
  pub valid : ValidState s
  pub lefts : Vec Leftover
  pub stops : Stops s lefts.items (array_of h.dies)
  pub bad : bad_in s ≡ bad_of h.dies
  pub sizes : Fit (numbers_of s) h.dies
  pub idle : h.jobs ≡ replicate (length h.dies) None

-- what holds of a handle between two calls: it holds the device of this state, or its power went in it
abbrev pub StandsAt : HeldState → State → Type 0
StandsAt h s = FitsHeld h s ⊎ IsOffAfter h s

-- ## Calls

-- a call of a handle, with what it answered. A Save is a save of the dies whose image a handle opens again, in this
-- process or in another
pub data Call : Type 0 where
  Host : (message : Vec ℕ) → (answer : Result (Unit {0}) HostFault) → Call
  Reply : (bytes : List ℕ) → (due : Bool) → Call
  Turn : (due : Bool) → Call
  Take : (die : ℕ) → (job : Option Job) → Call
  Work : (die : ℕ) → (did : Bool) → Call
  Fail : (die : ℕ) → (left : Left) → (did : Bool) → Call
  Stop : (lefts : List Left) → (answer : Result (Unit {0}) Fault) → Call
  Save : Call

-- the dies hold the same pages, and the same blocks are bad: an image keeps just these
abbrev pub HoldTheSame : List DieState → List DieState → Type 0
HoldTheSame dies others = (array_of others ≡ array_of dies) × (bad_of others ≡ bad_of dies)

-- what the call makes of a device that a handle holds. With the power off a stop and a save alone do anything
abbrev pub Makes : Call → HeldState → HeldState → Type 0
Makes (Host message answer) h after = (h.is_off ≡ false) × Hears message.items h answer after
Makes (Reply bytes due) h after = (h.is_off ≡ false) × Replies [] bytes h due after
Makes (Turn due) h after = (h.is_off ≡ false) × Turns h due after
Makes (Take die job) h after = (h.is_off ≡ false) × Takes die h job after
Makes (Work die did) h after = (h.is_off ≡ false) × Works die h did after
Makes (Fail die left did) h after = (h.is_off ≡ false) × Fails die left h did after
Makes (Stop lefts answer) h after = StopsSo lefts (Some h) (Some answer) (Some after)
Makes Save h after = (others : List DieState) × HoldTheSame h.dies others × IsOpen h.config others (Some after)

-- what the calls make of it, each of what the one before it left
abbrev pub MakeAll : List Call → HeldState → HeldState → Type 0
MakeAll [] h after = after ≡ h
MakeAll (c ∷ cs) h after = (next : HeldState) × Makes c h next × MakeAll cs next after

-- ## Events

-- which event the call is, and what the event shows: a message and its fault, the bytes of a reply, a job, a step. A call
-- that finds nothing to do is none, and nor is a stop after which the power stays off: the device that is opened later has
-- that stop behind it
abbrev pub Shows : Call → List Event → List Output → Type 0
Shows (Host message answer) es os = (es ≡ event.Host message ∷ []) × (os ≡ output.Host answer ∷ [])
Shows (Reply bytes true) es os =
    (es ≡ event.Reply ∷ []) × (os ≡ output.Reply (Some (record { items = bytes })) ∷ [])
Shows (Reply bytes false) es os = (es ≡ event.Reply ∷ []) × (os ≡ output.Reply None ∷ [])
Shows (Turn due) es os = (es ≡ event.Turn ∷ []) × (os ≡ output.Turn due ∷ [])
Shows (Take die job) es os = (es ≡ event.Take die ∷ []) × (os ≡ output.Take job ∷ [])
Shows (Work die true) es os = (es ≡ event.Finish die ∷ []) × (os ≡ output.Ended ∷ [])
Shows (Fail die left true) es os =
    ((l : Option Leftover) × (es ≡ event.Fail die l ∷ [])) × (os ≡ output.Ended ∷ [])
Shows (Stop lefts (Ok done)) es os = ((v : Vec Leftover) × (es ≡ event.Stop v ∷ [])) × (os ≡ output.Stopped ∷ [])
Shows Save es os = ((v : Vec Leftover) × (es ≡ event.Stop v ∷ [])) × (os ≡ output.Stopped ∷ [])
Shows c es os = (es ≡ []) × (os ≡ [])

-- the events of several calls, one call's behind another's
abbrev pub ShowAll : List Call → List Event → List Output → Type 0
ShowAll [] es os = (es ≡ []) × (os ≡ [])
ShowAll (c ∷ cs) es os =
    (first rest : List Event) × (shown later : List Output)
    × Shows c first shown × ShowAll cs rest later × (es ≡ first ++ rest) × (os ≡ shown ++ later)

-- a call is the event that it shows, and leaves a handle for which the same holds
pub record IsEvent (c : Call) (s : State) (after : HeldState) : Type 0 where
  pub events : List Event
  pub outputs : List Output
  pub shows : Shows c events outputs
  pub next : State
  pub runs : Runs (numbers_of s) s events outputs next
  pub stands : StandsAt after next

-- the calls are a run over these dies, the run keeps the promise, and the handle stands at its end. The dies that it holds
-- then are sound, so a device may be opened over them
pub record AreARun (n : Numbers) (dies : List DieState) (cs : List Call) (after : HeldState) : Type 0 where
  pub events : List Event
  pub outputs : List Output
  pub shown : ShowAll cs events outputs
  pub promise : KeepsThePromise n dies events outputs
  -- the same in the bytes that crossed the handle: they tell what was accepted, and what was acknowledged
  pub heard : HeardHeadline n dies events outputs
  pub start : State
  pub now : State
  pub runs : Runs n start events outputs now
  pub stands : StandsAt after now
  pub sound : Sound (array_of after.dies)
