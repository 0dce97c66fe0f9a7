-- What a lane and the keeper have done when they come back from serving.
use Rattle.std.specs.Prelude.{◌≡◌, ◌⊎◌, ℕ, suc, zero, Bool, Option, None}
use Rattle.ufs_spec.specs.Dies.{DieState}
use Rattle.ufs_spec.specs.declared.flash.Job.{Job}
use Rattle.ufs_spec.specs.declared.flash.Outcome.{Outcome}
use Rattle.lanes.specs.declared.view.Made.TheVariants as made
use Rattle.lanes.specs.declared.view.View.{View}
use Rattle.lanes.specs.Rule.{Did, lane_ended, lane_given}

-- The keeper

-- the seat made so many turns, each with its answer, and no other step
abbrev pub TurnedTimes : {D : Type 0} → (D → DieState) → ℕ → View D → View D → Type 0
TurnedTimes state zero v w = w ≡ v
TurnedTimes {D} state (suc n) v w =
    (between : View D) × TurnedTimes state n v between × ((due : Bool) × Did state between (made.Turn due) None w)

-- the seat made some number of turns, and no other step
abbrev pub HasTurned : {D : Type 0} → (D → DieState) → View D → View D → Type 0
HasTurned state v w = (n : ℕ) × TurnedTimes state n v w

-- A lane

-- the seat asked for the next job of its die
abbrev pub HasAsked : {D : Type 0} → (D → DieState) → ℕ → View D → View D → Type 0
HasAsked state number v w = (job : Option Job) × Did state v (made.Take number job) (lane_given v.lane job) w

-- the seat ended the job of its die, which the die then holds
abbrev pub HasFinished : {D : Type 0} → (D → DieState) → ℕ → View D → View D → Type 0
HasFinished {D} state number v w =
    (outcome : Outcome) × (known : Bool) × (die : D)
    × Did state v (made.Done number outcome known) (lane_ended v.lane die) w

-- so many steps, each of which asks for a job or ends one
abbrev pub ServedTimes : {D : Type 0} → (D → DieState) → ℕ → ℕ → View D → View D → Type 0
ServedTimes state number zero v w = w ≡ v
ServedTimes {D} state number (suc n) v w =
    (between : View D) × ServedTimes state number n v between
    × (HasAsked state number between w ⊎ HasFinished state number between w)

-- the seat made some number of steps, each of which asks for a job or ends one
abbrev pub HasServed : {D : Type 0} → (D → DieState) → ℕ → View D → View D → Type 0
HasServed state number v w = (n : ℕ) × ServedTimes state number n v w
