-- A device with its dies: how it fits a state, and what an event and a run make of it.
use Rattle.std.specs.Prelude.{◌≡◌, ◌⊎◌, ℕ, zero, suc, ◌<◌, false, List, [], ◌∷◌, ◌++◌, Contains, length, map, slice_get}
use Rattle.std.specs.Prelude.{slice_index_or, slice_set, take, Option, Some, None, option_map, Result, Ok, Err}
use Rattle.ufs_spec.specs.Cells.{Array}
use Rattle.ufs_spec.specs.Dies.{DieState, new_die, power_cycle_ended, ready_page, with_bad, with_block, with_page}
use Rattle.ufs_spec.specs.Disk.{BlockState, Erasing, Filling, Flight, Free, Reading, Ready, Spot, Vacancy, job_of}
use Rattle.ufs_spec.specs.Lives.{AreLeftovers, Fit, GoesOn, Headline, IsLawfulLeftover, IsLeftoverOf, IsOpened, Runs}
use Rattle.ufs_spec.specs.Lives.{Stops, array_of, bad_of, die_of}
use Rattle.ufs_spec.specs.Sound.{Sound}
use Rattle.ufs_spec.specs.Translation.{is_bad}
use Rattle.ufs_spec.specs.Refusals.{State, numbers_of}
use Rattle.ufs_spec.specs.declared.configs.Numbers.{Numbers}
use Rattle.ufs_spec.specs.declared.events.Event.{Event}
use Rattle.ufs_spec.specs.declared.events.Event.TheVariants as event
use Rattle.ufs_spec.specs.declared.events.Leftover.{Leftover}
use Rattle.ufs_spec.specs.declared.events.Leftover.TheVariants as leftover
use Rattle.ufs_spec.specs.declared.events.Output.{Output}
use Rattle.ufs_spec.specs.declared.events.RunFault.{RunFault}
use Rattle.ufs_spec.specs.declared.events.RunFaultKind.{RunFaultKind}
use Rattle.ufs_spec.specs.declared.events.RunFaultKind.TheVariants as kind
use Rattle.ufs_spec.specs.declared.flash.Job.{Job}
use Rattle.power_loss.specs.Exchange.{IsSpot, ValidState}
use Rattle.power_loss.specs.Runs.{LivesRight}
use Rattle.device.specs.Describes.{Describes}
use Rattle.device.specs.Kept.{WorldState}
use Rattle.device.specs.Opened.{HasScanned, HoldAnotherConfig}

-- Dies

-- the die of this number; where there is none, a die without blocks
abbrev pub die_at : List DieState → ℕ → DieState
die_at dies die = slice_index_or dies die (new_die 0 0)

-- the job that the die has in flight
abbrev pub job_at : List (Option Job) → ℕ → Option Job
job_at jobs die = slice_index_or jobs die None

-- the jobs in flight once the die was given this one, or none
abbrev pub jobs_given : List (Option Job) → ℕ → Option Job → List (Option Job)
jobs_given jobs die None = jobs
jobs_given jobs die (Some job) = slice_set jobs die (Some job)

-- the page of a block that is programmed next, if one may be: of a block that is being filled it is known, and of a
-- free block that was erased in this life it is the first
abbrev pub next_of : BlockState → Vacancy → Option ℕ
next_of (Filling next) vacancy = Some next
next_of Free Ready = Some 0
next_of state vacancy = None

-- where the layer says which page of a block is programmed next, the die lets it be programmed, and the blocks that are
-- bad to the layer are those that are bad to the dies
pub record BlocksFit (n : Numbers) (dies : List DieState) (blocks : Spot → BlockState) (vacancies : Spot → Vacancy) :
    Type 0 where
  pub ready : (spot : Spot) (next : ℕ) → spot.die < n.dies → spot.block < n.blocks →
      next_of (blocks spot) (vacancies spot) ≡ Some next → ready_page (die_at dies spot.die) spot.block ≡ Some next
  pub bad : (spot : Spot) → is_bad (blocks spot) ≡ bad_of dies spot

-- the dies hold the pages, and each has the job that is in flight on it
pub record DiesFit (n : Numbers) (array : Array) (blocks : Spot → BlockState) (vacancies : Spot → Vacancy)
    (flights : ℕ → Option Flight) (dies : List DieState) (jobs : List (Option Job)) : Type 0 where
  pub sizes : Fit n dies
  pub pages : array ≡ array_of dies
  pub as_many : length jobs ≡ length dies
  pub jobs_are : (die : ℕ) → job_at jobs die ≡ option_map job_of (flights die)
  pub blocks_fit : BlocksFit n dies blocks vacancies
  -- a block that is being erased is one of theirs
  pub erases : (die : ℕ) (spot : Spot) → flights die ≡ Some (Erasing spot) → IsSpot n spot

-- the dies hold the pages of this state, and have the jobs that it has in flight
abbrev pub FitState : List DieState → List (Option Job) → State → Type 0
FitState dies jobs s =
    DiesFit (numbers_of s) s.array s.translation.disk.blocks s.translation.disk.vacancies
    s.translation.disk.flights dies jobs

-- the world is the device in this state with its dies: one configuration, a core that describes the state, and dies
-- with the pages and the jobs in flight that the state has
pub record Fits (w : WorldState) (s : State) : Type 0 where
  pub config : w.config ≡ numbers_of s
  pub describes : Describes w.core s
  pub valid : ValidState s
  pub dies_fit : FitState w.dies w.jobs s

-- What jobs leave that were interrupted or failed

-- the block of its die in which a leftover lies
abbrev pub block_of : Leftover → ℕ
block_of (leftover.Page p page) = p.block
block_of (leftover.Block die block pages) = block

-- the pages that the leftover names are as it says
abbrev pub die_left : DieState → Leftover → DieState
die_left d (leftover.Page p page) = with_page d p.block p.page page
die_left d (leftover.Block die block pages) = with_block d block pages.items

-- the dies with one leftover, which changes its own die alone
abbrev pub dies_left_by : List DieState → Leftover → List DieState
dies_left_by dies l = slice_set dies (die_of l) (die_left (die_at dies (die_of l)) l)

-- the dies with all that the leftovers of a stop say, one leftover after another
abbrev pub dies_left : List DieState → List Leftover → List DieState
dies_left dies [] = dies
dies_left dies (l ∷ ls) = dies_left (dies_left_by dies l) ls

-- the dies after a stop: what the jobs in flight leave, and the power cycle is over
abbrev pub dies_stopped : List DieState → List Leftover → List DieState
dies_stopped dies ls = map power_cycle_ended (dies_left dies ls)

-- the die after its job failed: what it leaves, and the block of the job is bad
abbrev pub dies_failed : List DieState → ℕ → Leftover → List DieState
dies_failed dies die l = slice_set dies die (with_bad (die_left (die_at dies die) l) (block_of l))

-- a read that failed changes nothing
abbrev pub dies_after_failure : List DieState → ℕ → Option Leftover → List DieState
dies_after_failure dies die None = dies
dies_after_failure dies die (Some l) = dies_failed dies die l

-- Events that are refused

-- a read that fails leaves nothing, and a program or an erase what is said of just its pages
abbrev pub IsFailureOf : Numbers → Option Flight → Option Leftover → Type 0
IsFailureOf n (Some (Reading reader place)) None = Unit {0}
IsFailureOf n flight (Some l) = IsLeftoverOf n flight l
IsFailureOf n flight None = ⊥

-- the event does not fit: no job is in flight to finish or to fail, or a leftover is not that of its die's job
abbrev pub IsWrong : State → Event → Type 0
IsWrong s (event.Finish die) = s.translation.disk.flights die ≡ None
IsWrong s (event.Fail die l) = IsFailureOf (numbers_of s) (s.translation.disk.flights die) l → ⊥
IsWrong s (event.Stop lefts) = AreLeftovers s lefts.items → ⊥
IsWrong s e = ⊥

-- the event fits, but a leftover is none that its job may leave
abbrev pub IsBad : State → Event → Type 0
IsBad s (event.Fail die (Some l)) =
    IsFailureOf (numbers_of s) (s.translation.disk.flights die) (Some l) × (IsLawfulLeftover s l → ⊥)
IsBad s (event.Stop lefts) =
    AreLeftovers s lefts.items × (((l : Leftover) → Contains lefts.items l → IsLawfulLeftover s l) → ⊥)
IsBad s e = ⊥

-- there was no memory to open a device over what a lawful stop left
abbrev pub IsUnopened : State → Event → Type 0
IsUnopened s (event.Stop lefts) = (left : Array) × Stops s lefts.items left
IsUnopened s e = ⊥

-- why a world refuses an event
abbrev pub IsRefusedAs : State → Event → RunFaultKind → Type 0
IsRefusedAs s e kind.NoMemory = IsUnopened s e
IsRefusedAs s e kind.BadLeftover = IsBad s e
IsRefusedAs s e kind.WrongEvent = IsWrong s e

-- what the dies hold once an event was refused: all that they held, but for a stop that could not be opened behind
abbrev pub dies_refused : RunFaultKind → List DieState → Event → List DieState
dies_refused kind.NoMemory dies (event.Stop lefts) = dies_stopped dies lefts.items
dies_refused k dies e = dies

-- Events

-- what the event showed leads on, in the life or over a stop, to a state that the world then fits; or it is refused,
-- and why
abbrev pub Went : State → Event → WorldState → Result Output RunFaultKind → Type 0
Went s e after (Ok o) = (t : State) × GoesOn (numbers_of s) s e o t × Fits after t
Went s e after (Err k) = IsRefusedAs s e k

-- one step of a world, as `Went` says it; of a fault the kind says why
abbrev pub Stepped : State → Event → WorldState → Result Output RunFault → Type 0
Stepped s e after (Ok o) = (t : State) × GoesOn (numbers_of s) s e o t × Fits after t
Stepped s e after (Err f) = IsRefusedAs s e f.kind

-- why an event of a run shows nothing: it is refused; or there was no memory for what it shows, and so it shows
-- something
abbrev pub IsRefused : State → Event → RunFaultKind → Type 0
IsRefused s e k =
    IsRefusedAs s e k ⊎ ((k ≡ kind.NoMemory) × (o : Output) × (t : State) × GoesOn (numbers_of s) s e o t)

-- one output more, of an event that went so; or the trace stays, and why
abbrev pub Played : State → Event → WorldState → List Output → List Output → Result Unit RunFaultKind → Type 0
Played s e after before trace (Ok done) = (o : Output) × (trace ≡ before ++ o ∷ []) × Went s e after (Ok o)
Played s e after before trace (Err k) = (trace ≡ before) × IsRefused s e k

-- behind a stop the device has what a scan of the dies finds, whether they are sound or not
abbrev pub IsReopened : Event → WorldState → Type 0
IsReopened (event.Stop lefts) after = HasScanned after.config after.dies after.core
IsReopened e after = Unit {0}

-- Runs

-- a device may be opened over the dies, and so it was: the events led on to a state that the world fits
pub record IsUnderWay (n : Numbers) (dies : List DieState) (events : List Event) (trace : List Output)
    (w : WorldState) : Type 0 where
  pub start : State
  pub now : State
  pub opened : IsOpened n (array_of dies) (bad_of dies) start
  pub runs : Runs n start events trace now
  pub fits : Fits w now

-- so many events were played, and the trace is what they showed
pub record IsPlayed (n : Numbers) (dies : List DieState) (events : List Event) (k : ℕ) (trace : List Output)
    (w : WorldState) : Type 0 where
  pub counted : length trace ≡ k
  pub going_on : w.is_over ≡ false
  pub under_way : Sound (array_of dies) → IsUnderWay n dies (take k events) trace w

-- The promise of a run: over any number of stops each life begins with what a prefix of the commands accepted before
-- its stop makes of the base before it, and the prefix holds every command acknowledged as durable; and each of the
-- lives is right, in its replies, its jobs and its turns
pub record KeepsThePromise (n : Numbers) (dies : List DieState) (events : List Event) (trace : List Output) :
    Type 0 where
  pub headline : Headline n dies events trace
  pub right : LivesRight n (array_of dies) (bad_of dies) headline.first headline.later

-- the event at this position, counted from 0, was refused, or memory for what it showed was; the trace is that of the
-- events before it, and keeps the promise
pub record IsBroken (n : Numbers) (dies : List DieState) (events : List Event) (k : ℕ) (f : RunFault) : Type 0 where
  pub start : State
  pub before : State
  pub opened : IsOpened n (array_of dies) (bad_of dies) start
  pub runs : Runs n start (take k events) f.trace.items before
  pub promise : KeepsThePromise n dies (take k events) f.trace.items
  pub broken : Event
  pub there : slice_get events k ≡ Some broken
  pub why : IsRefused before broken f.kind

-- a fault at position 0 is that of the opening: memory was refused; or the dies do not fit the configuration, or hold
-- another, whether they are sound or not
abbrev pub IsOpeningFault : Numbers → List DieState → RunFaultKind → Type 0
IsOpeningFault n dies kind.NoMemory = Fit n dies
IsOpeningFault n dies kind.WrongEvent = Fit n dies → HoldAnotherConfig n dies
IsOpeningFault n dies kind.BadLeftover = ⊥

-- why a run broke off: at position 0 the opening failed and nothing was played; at position k + 1 the event k did, and
-- this is promised over sound dies
abbrev pub IsRunFault : Numbers → List DieState → List Event → ℕ → RunFault → Type 0
IsRunFault n dies events zero f = IsOpeningFault n dies f.kind × (f.trace.items ≡ [])
IsRunFault n dies events (suc k) f = Sound (array_of dies) → IsBroken n dies events k f
