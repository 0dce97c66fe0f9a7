-- Lists of steps, and which are legal: those that are a life of the specified device.
use Rattle.std.specs.Prelude.{◌≡◌, ℕ, ◌==◌, List, [], ◌∷◌, ◌++◌, Bool, true, cond, Option, Some, None}
use Rattle.ufs_spec.specs.Disk.{Erasing, Flight, Programming, Reading}
use Rattle.ufs_spec.specs.Lives.{Leads}
use Rattle.ufs_spec.specs.Refusals.{State}
use Rattle.ufs_spec.specs.declared.events.Event.{Event}
use Rattle.ufs_spec.specs.declared.events.Event.TheVariants as event
use Rattle.ufs_spec.specs.declared.events.Output.{Output}
use Rattle.ufs_spec.specs.declared.events.Output.TheVariants as output
use Rattle.ufs_spec.specs.declared.flash.Outcome.{Outcome}
use Rattle.ufs_spec.specs.declared.flash.Outcome.TheVariants as outcome
use Rattle.lanes.specs.declared.view.Entry.{Entry}
use Rattle.lanes.specs.declared.view.Made.{Made}
use Rattle.lanes.specs.declared.view.Made.TheVariants as made

-- Steps as events

-- the reply that was handed out, if one was
abbrev pub shown : Bool → List ℕ → Option (List ℕ)
shown due bytes = cond due (Some bytes) None

-- the reply of the step is the one that the event shows, byte by byte, or both are none
abbrev pub IsReplyTold : Option (List ℕ) → Output → Type 0
IsReplyTold None (output.Reply None) = Unit {0}
IsReplyTold (Some bytes) (output.Reply (Some told)) = told.items ≡ bytes
IsReplyTold reply told = ⊥

-- the die did the job as it was told
abbrev pub WentWell : Outcome → Type 0
WentWell (outcome.Read page) = Unit {0}
WentWell outcome.Done = Unit {0}
WentWell o = ⊥

-- the die reported that the job failed
abbrev pub HasFailed : Outcome → Type 0
HasFailed outcome.ReadFailed = Unit {0}
HasFailed outcome.Failed = Unit {0}
HasFailed o = ⊥

-- the event that a step is, and what it shows
abbrev pub IsToldAs : Made → Event → Output → Type 0
IsToldAs (made.Host bytes result) (event.Host told) (output.Host answer) = (told.items ≡ bytes) × (answer ≡ result)
IsToldAs (made.Reply reply) event.Reply told = IsReplyTold reply told
IsToldAs (made.Take die job) (event.Take other) (output.Take told) = (other ≡ die) × (told ≡ job)
IsToldAs (made.Done die o known) (event.Finish other) output.Ended = (other ≡ die) × (known ≡ true) × WentWell o
IsToldAs (made.Done die o known) (event.Fail other left) output.Ended =
    (other ≡ die) × (known ≡ true) × HasFailed o
IsToldAs (made.Turn due) event.Turn (output.Turn told) = told ≡ due
IsToldAs step e o = ⊥

-- an outcome is one of the job in flight, and a page that was read is the one that lies there
abbrev pub IsOutcomeOf : State → Option Flight → Outcome → Type 0
IsOutcomeOf s (Some (Reading reader p)) (outcome.Read page) = page ≡ s.array p
IsOutcomeOf s (Some (Reading reader p)) outcome.ReadFailed = Unit {0}
IsOutcomeOf s (Some (Programming p cell)) outcome.Done = Unit {0}
IsOutcomeOf s (Some (Programming p cell)) outcome.Failed = Unit {0}
IsOutcomeOf s (Some (Erasing spot)) outcome.Done = Unit {0}
IsOutcomeOf s (Some (Erasing spot)) outcome.Failed = Unit {0}
IsOutcomeOf s flight o = ⊥

-- the outcome that the step tells, if it tells one, is right
abbrev pub IsToldRight : State → Made → Type 0
IsToldRight s (made.Done die o known) = IsOutcomeOf s (s.translation.disk.flights die) o
IsToldRight s step = Unit {0}

-- the step is right in the first state, and leads to the second
pub record Follows (s : State) (step : Made) (t : State) : Type 0 where
  pub event : Event
  pub output : Output
  pub told_as : IsToldAs step event output
  pub told_right : IsToldRight s step
  pub leads : Leads s event output t

-- Lists of steps

-- each step of the list is right in the state that those before it lead to
abbrev pub Legal : State → List Entry → State → Type 0
Legal s [] t = t ≡ s
Legal s (e ∷ es) t = (next : State) × Follows s e.made next × Legal next es t

-- a step, with the number of the seat that made it
abbrev pub step_by : ℕ → Made → Entry
step_by by made = record { by = by; made = made }

-- of a list the steps that one seat made, in their order
abbrev pub mine : ℕ → List Entry → List Entry
mine by [] = []
mine by (e ∷ es) = cond (e.by == by) (e ∷ mine by es) (mine by es)

-- the second list begins with the first
abbrev pub Begins : List Entry → List Entry → Type 0
Begins seen list = (more : List Entry) × (list ≡ seen ++ more)

-- the steps of the list are these events, with what they showed
abbrev pub AreToldAs : List Entry → List Event → List Output → Type 0
AreToldAs [] [] [] = Unit {0}
AreToldAs (e ∷ es) (f ∷ fs) (o ∷ os) = IsToldAs e.made f o × AreToldAs es fs os
AreToldAs es fs os = ⊥
