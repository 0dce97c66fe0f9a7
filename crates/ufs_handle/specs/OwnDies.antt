-- A handle whose dies are the program's own: how it fits a state of the specified device together with what these dies
-- hold, what the program owes, and which events of a run its calls are.
use Rattle.std.specs.Prelude.{◌≡◌, ◌≢◌, ◌++◌, ◌∷◌, [], ℕ, Bool, true, false, List, Some, None, slice_set}
use Rattle.std.specs.List.{All, AllPairs}
use Rattle.std.specs.Global.{Vec}
use Rattle.ufs_spec.specs.Dies.{DieState, Did}
use Rattle.ufs_spec.specs.Lives.{Runs, array_of, die_of}
use Rattle.ufs_spec.specs.Refusals.{State, numbers_of}
use Rattle.ufs_spec.specs.Sound.{Sound}
use Rattle.ufs_spec.specs.declared.configs.Numbers.{Numbers}
use Rattle.ufs_spec.specs.declared.events.Event.{Event}
use Rattle.ufs_spec.specs.declared.events.Event.TheVariants as event
use Rattle.ufs_spec.specs.declared.events.Leftover.{Leftover}
use Rattle.ufs_spec.specs.declared.events.Output.{Output}
use Rattle.ufs_spec.specs.declared.events.Output.TheVariants as output
use Rattle.ufs_spec.specs.declared.flash.Job.{Job}
use Rattle.ufs_spec.specs.declared.flash.Outcome.{Outcome}
use Rattle.ufs_spec.specs.declared.flash.Outcome.TheVariants as outcome
use Rattle.heard_laws.specs.HeardHeadline.{HeardHeadline}
use Rattle.device.specs.Kept.{WorldState}
use Rattle.device.specs.Leftovers.{IsOfDie, MayDieLeave}
use Rattle.device.specs.Worlds.{Fits, KeepsThePromise, dies_stopped}
use Rattle.ufs_handle.specs.Calls.{Ends, GivesUp, IsOpen}
use Rattle.ufs_handle.specs.Kept.{HeldState, die_at, job_at}
use Rattle.ufs_handle.specs.Runs.{Call, HoldTheSame, Host, Makes, Reply, Shows, Take, Turn}

-- ## A handle between two calls

-- the device that a handle holds, with dies that hold this, as the world of a run
abbrev pub world_with : HeldState → List DieState → WorldState
world_with h dies =
    record { core = h.core; config = h.config; dies = dies; jobs = h.jobs; steps = 0; is_over = false }

-- the handle has no dies in memory, and holds the device of this state, with the pages of the program's dies and the jobs
-- in flight that the state has
pub record FitsOwn (h : HeldState) (dies : List DieState) (s : State) : Type 0 where
  pub on : h.is_off ≡ false
  pub none : h.dies ≡ []
  pub world : Fits (world_with h dies) s

-- ## What the program owes

-- the die did its job in flight, or failed at it, and nothing else became of the dies
pub record DidOn (h : HeldState) (dies : List DieState) (die : ℕ) (end : Outcome) (others : List DieState) : Type 0
  where
    pub job : Job
    pub flies : job_at h.jobs die ≡ Some job
    pub failed : ℕ
    pub now : ℕ
    pub after : DieState
    pub did : Did failed now (die_at dies die) job end after
    pub others_are : others ≡ slice_set dies die after

-- what a power cut leaves: of each die at most one leftover, one of the job that it has in flight, and each page as it
-- was, as intended, or with a check that fails
pub record MayBeCut (h : HeldState) (dies : List DieState) (lefts : List Leftover) : Type 0 where
  pub of_jobs : All (λ l. IsOfDie (world_with h dies) (die_of l) l) lefts
  pub apart : AllPairs (λ l m. die_of l ≢ die_of m) lefts
  pub lawful : All (λ l. MayDieLeave (world_with h dies) (die_of l) l) lefts

-- ## Calls

-- a call that asks nothing of the dies; the end of a job on one of them, as it is reported; a power cut, behind which the
-- program opens a handle over its dies again
pub data OwnCall : Type 0 where
  Quiet : (call : Call) → OwnCall
  Done : (die : ℕ) → (end : Outcome) → (known : Bool) → OwnCall
  Cut : (lefts : Vec Leftover) → OwnCall

-- the calls that ask nothing of the dies
abbrev pub IsQuiet : Call → Type 0
IsQuiet (Host message answer) = Unit {0}
IsQuiet (Reply bytes due) = Unit {0}
IsQuiet (Turn due) = Unit {0}
IsQuiet (Take die job) = Unit {0}
IsQuiet c = ⊥

-- what the call makes of a handle with the program's own dies, and of these
abbrev pub OwnMakes : OwnCall → HeldState → List DieState → HeldState → List DieState → Type 0
OwnMakes (Quiet c) h dies after others = IsQuiet c × Makes c h after × (others ≡ dies)
OwnMakes (Done die end true) h dies after others = Ends die end h true after × DidOn h dies die end others
OwnMakes (Done die end false) h dies after others = Ends die end h false after × (others ≡ dies)
OwnMakes (Cut lefts) h dies after others =
    MayBeCut h dies lefts.items × HoldTheSame (dies_stopped dies lefts.items) others
    × ((opened : HeldState) × IsOpen h.config others (Some opened) × GivesUp opened tt after)

-- what the calls make of them, one after another
abbrev pub OwnMakeAll : List OwnCall → HeldState → List DieState → HeldState → List DieState → Type 0
OwnMakeAll [] h dies after others = (after ≡ h) × (others ≡ dies)
OwnMakeAll (c ∷ cs) h dies after others =
    (next : HeldState) × (between : List DieState) × OwnMakes c h dies next between
    × OwnMakeAll cs next between after others

-- ## Events

-- the event that the reported end of a job is
abbrev pub IsEndOf : ℕ → Outcome → Event → Type 0
IsEndOf die (outcome.Read page) e = e ≡ event.Finish die
IsEndOf die outcome.Done e = e ≡ event.Finish die
IsEndOf die outcome.ReadFailed e = e ≡ event.Fail die None
IsEndOf die outcome.Failed e = (l : Leftover) × (e ≡ event.Fail die (Some l))

-- which event the call is, and what the event shows
abbrev pub OwnShows : OwnCall → List Event → List Output → Type 0
OwnShows (Quiet c) es os = Shows c es os
OwnShows (Done die end true) es os = ((e : Event) × IsEndOf die end e × (es ≡ e ∷ [])) × (os ≡ output.Ended ∷ [])
OwnShows (Done die end false) es os = (es ≡ []) × (os ≡ [])
OwnShows (Cut lefts) es os = (es ≡ event.Stop lefts ∷ []) × (os ≡ output.Stopped ∷ [])

-- the events of several calls, one call's behind another's
abbrev pub OwnShowAll : List OwnCall → List Event → List Output → Type 0
OwnShowAll [] es os = (es ≡ []) × (os ≡ [])
OwnShowAll (c ∷ cs) es os =
    (first rest : List Event) × (shown later : List Output)
    × OwnShows c first shown × OwnShowAll cs rest later × (es ≡ first ++ rest) × (os ≡ shown ++ later)

-- a call is the event that it shows, and leaves a handle and dies for which the same holds
pub record IsOwnEvent (c : OwnCall) (s : State) (after : HeldState) (others : List DieState) : Type 0 where
  pub events : List Event
  pub outputs : List Output
  pub shows : OwnShows c events outputs
  pub next : State
  pub runs : Runs (numbers_of s) s events outputs next
  pub fits : FitsOwn after others next

-- the calls are a run over these dies, and the run keeps the promise; what the dies hold then is sound
pub record AreAnOwnRun (n : Numbers) (dies : List DieState) (cs : List OwnCall) (others : List DieState) : Type 0 where
  pub events : List Event
  pub outputs : List Output
  pub shown : OwnShowAll cs events outputs
  pub promise : KeepsThePromise n dies events outputs
  -- the same in the bytes that crossed the handle
  pub heard : HeardHeadline n dies events outputs
  pub sound : Sound (array_of others)
