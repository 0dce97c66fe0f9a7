-- What threads do, as the events of a run, and a stop among them.
use Rattle.std.specs.Prelude.{◌≡◌, ◌≢◌, ◌⊎◌, ℕ, ◌≤◌, All, AllPairs, Bool, List, [], ◌∷◌, ◌++◌, length, map, take}
use Rattle.std.specs.Global.{Vec}
use Rattle.ufs_spec.specs.Dies.{DieState, page_at}
use Rattle.ufs_spec.specs.Disk.{Spot}
use Rattle.ufs_spec.specs.Lives.{IsOpened, Life, array_of, die_of, held}
use Rattle.ufs_spec.specs.Plain.{after}
use Rattle.ufs_spec.specs.Refusals.{State, numbers_of}
use Rattle.ufs_spec.specs.declared.events.Event.{Event}
use Rattle.ufs_spec.specs.declared.events.Event.TheVariants as event
use Rattle.ufs_spec.specs.declared.events.Leftover.{Leftover}
use Rattle.ufs_spec.specs.declared.events.Output.{Output}
use Rattle.ufs_spec.specs.declared.events.Output.TheVariants as output
use Rattle.ufs_spec.specs.declared.flash.Job.{Job}
use Rattle.device.specs.Kept.{WorldState}
use Rattle.device.specs.Leftovers.{IsOfDie, IsOfJob, MayDieLeave, MayJobLeave}
use Rattle.device.specs.Worlds.{KeepsThePromise, die_left, dies_stopped}
use Rattle.lanes.specs.declared.view.Entry.{Entry}
use Rattle.lanes.specs.declared.view.Opening.{Opening}
use Rattle.lanes.specs.Legal.{AreToldAs, Legal}

-- the steps of the list as the events of a life
pub record IsLife (s : State) (list : List Entry) (t : State) : Type 0 where
  pub events : List Event
  pub outputs : List Output
  pub told_as : AreToldAs list events outputs
  pub life : Life s events outputs t

-- the steps of the list as events, and then these events, keep the promise over the dies that the device was opened
-- over
pub record KeepsItsPromise {D : Type 0} (state : D → DieState) (opening : Opening D) (list : List Entry)
    (more : List Event) (shown : List Output) : Type 0 where
  pub events : List Event
  pub outputs : List Output
  pub told_as : AreToldAs list events outputs
  pub promise : KeepsThePromise opening.device.value.ftl.numbers (map state opening.dies.value.items) (events ++ more)
      (outputs ++ shown)

-- A stop

-- what a stop leaves: of each die at most one leftover, which is one of the job that the die has in flight
pub record MayBeStopped (w : WorldState) (lefts : List Leftover) : Type 0 where
  pub of_jobs : All (λ l. IsOfDie w (die_of l) l) lefts
  pub apart : AllPairs (λ l m. die_of l ≢ die_of m) lefts
  pub lawful : All (λ l. MayDieLeave w (die_of l) l) lefts

-- the steps of the list as events, and then a stop, keep the promise over the dies of the opening
abbrev pub KeepsItsPromiseStopped : {D : Type 0} → (D → DieState) → Opening D → List Entry → Vec Leftover → Type 0
KeepsItsPromiseStopped state opening list lefts =
    KeepsItsPromise state opening list (event.Stop lefts ∷ []) (output.Stopped ∷ [])

-- a device that is opened over what the dies hold then has the plain state after a prefix of the accepted commands, and
-- the prefix holds each one acknowledged as durable
pub record OpensWithAPrefix (start now : State) (dies : List DieState) : Type 0 where
  pub opens : (next : State) (bad : Spot → Bool) → IsOpened (numbers_of now) (array_of dies) bad next →
      (k : ℕ) × (held now ≤ k) × (k ≤ length now.accepted) × (next.base ≡ after start.base (take k now.accepted))

-- the list leads to a state, and a stop there is no loss
pub record IsStoppedSafely {D : Type 0} (state : D → DieState) (opening : Opening D) (list : List Entry)
    (w : WorldState) (lefts : List Leftover) (start : State) : Type 0 where
  pub now : State
  pub legal : Legal start list now
  pub prefix : OpensWithAPrefix start now (dies_stopped w.dies lefts)

-- A die that has done its job, which is not ended yet

-- the pages of the second die are those of the first
abbrev pub HasPagesOf : DieState → DieState → Type 0
HasPagesOf before now = (block page : ℕ) → page_at now block page ≡ page_at before block page

-- the die's pages are as they were, or as a leftover of the job says that the job may leave
abbrev pub IsAsLeft : ℕ → DieState → Job → DieState → Type 0
IsAsLeft pages before j now =
    HasPagesOf before now
    ⊎ ((l : Leftover) × IsOfJob pages j l × MayJobLeave before j l × HasPagesOf (die_left before l) now)
