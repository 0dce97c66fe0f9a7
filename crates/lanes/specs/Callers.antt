-- What is seen of a port, a lane and a keeper.
use Rattle.std.specs.Prelude.{◌≡◌, ℕ, ◌+◌, List, [], Option, Some, None}
use Rattle.atomic_table.specs.Seated.{TableId}
use Rattle.ufs_spec.specs.Dies as dies
use Rattle.ufs_spec.specs.Dies.{DieState}
use Rattle.ufs_spec.specs.declared.flash.Job.{Job}
use Rattle.ufs_spec.specs.declared.flash.Outcome.{Outcome}
use Rattle.ufs_spec.specs.declared.flash.Outcome.TheVariants as outcome
use Rattle.lanes.specs.declared.view.LaneView.{LaneView}
use Rattle.device.specs.Kept.{DeviceCore}
use Rattle.lanes.specs.Rule.{lane_at}
use Rattle.lanes.specs.declared.view.Opening.{Opening}
use Rattle.lanes.specs.declared.view.View.{View}
use Rattle.ufs_spec.specs.declared.flash.Tag.{Tag}
use Rattle.page_tag.specs.Jobs.{IsTagRead}
use Rattle.lanes.specs.declared.went.Went.{Went}

-- at which table, and what its seat knows
pub record Caller (D : Type 0) : Type 0 where
  pub table : TableId
  pub view : View D

-- a lane has its die too, and how the job that it worked and has not ended yet went
pub record LaneCaller (D : Type 0) : Type 0 where
  pub table : TableId
  pub view : View D
  pub number : ℕ
  pub die : D
  pub ended : Option Outcome

-- the job that the lane was handed out last and that is not ended
abbrev pub job_of : {D : Type 0} → Option (LaneView D) → Option Job
job_of None = None
job_of (Some l) = l.job

-- how the job went that was worked and is not ended, if there is one
abbrev pub outcome_in : Option Went → Option Outcome
outcome_in None = None
outcome_in (Some w) = Some w.outcome

-- of a page that was read the tag is known
abbrev pub KnowsTag : Option Outcome → Option Tag → Type 0
KnowsTag None tag = Unit {0}
KnowsTag (Some o) tag = IsTagRead o tag

-- the die holds what the view says, save its one job in flight
abbrev pub DieIs : {D : Type 0} → (D → DieState) → (D → ℕ) → LaneView D → D → Option Outcome → Type 0
DieIs state failed l die None = die ≡ l.content
DieIs state failed l die (Some o) = (j : Job) × (l.job ≡ Some j)
    × dies.Did (failed l.content) (failed die) (state l.content) j o (state die)

-- the caller has a lane, and its die is the one of this number, as the lane's view knows it
abbrev pub HasDie : {D : Type 0} → (D → DieState) → (D → ℕ) → Option (LaneView D) → ℕ → D → Option Outcome → Type 0
HasDie state failed None number die ended = ⊥
HasDie state failed (Some l) number die ended = (l.die ≡ number) × DieIs state failed l die ended

-- a failure comes only if the die's failures rose
abbrev pub FailedOnlyIf : Outcome → Type 0 → Type 0
FailedOnlyIf (outcome.Read page) rose = Unit {0}
FailedOnlyIf outcome.ReadFailed rose = rose
FailedOnlyIf outcome.Done rose = Unit {0}
FailedOnlyIf outcome.Failed rose = rose

-- New callers

-- a port that was just dealt: it knows the opening, and has seen no step
pub record IsNewPort {D : Type 0} (opening : Option (Opening D)) (id : TableId) (p : Caller D) : Type 0 where
  pub table : p.table ≡ id
  pub opened : p.view.opening ≡ opening
  pub nothing_seen : p.view.seen ≡ []

-- a lane that was just dealt: it knows the opening, has seen no step, and its die has no job
pub record IsNewLane {D : Type 0} (opening : Option (Opening D)) (id : TableId) (p : LaneCaller D) : Type 0 where
  pub table : p.table ≡ id
  pub opened : p.view.opening ≡ opening
  pub nothing_seen : p.view.seen ≡ []
  pub no_job : (job_of p.view.lane ≡ None) × (p.ended ≡ None)

-- the dies that are not dealt are these
abbrev pub Undealt : {D : Type 0} → Option (Opening D) → List D → Type 0
Undealt None dies = ⊥
Undealt (Some opening) dies = opening.dies.value.items ≡ dies

-- this is the die that is dealt next
abbrev pub IsNextDie : {D : Type 0} → View D → ℕ → D → Type 0
IsNextDie dealer number die = (dealer.lanes ≡ number + 1)
    × (lane_at dealer.opening number ≡ Some record { die = number; content = die; job = None })

-- what the table was opened with
abbrev pub IsOpenedWith : {D : Type 0} → Option (Opening D) → DeviceCore → List D → Type 0
IsOpenedWith None core dies = ⊥
IsOpenedWith (Some opening) core dies = (opening.device.value ≡ core) × (opening.dies.value.items ≡ dies)
