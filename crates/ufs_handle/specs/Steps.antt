-- The steps of a device with dies in memory that need no word of a host, one after another.
use Rattle.std.specs.Prelude.{◌≡◌, ℕ, zero, suc, Bool, List, [], ◌∷◌, ◌++◌, Option, length, min}
use Rattle.ufs_spec.specs.declared.flash.Job.{Job}
use Rattle.ufs_handle.specs.Calls.{Takes, Turns, Works}
use Rattle.ufs_handle.specs.Kept.{HeldState}

-- a turn; a job that is asked for a die; the job that a die in memory does
pub data Step : Type 0 where
  Turning : Step
  Taking : (die : ℕ) → Step
  Working : (die : ℕ) → Step

-- what the call of a step makes of the device, whatever it answers
abbrev pub StepsTo : Step → HeldState → HeldState → Type 0
StepsTo Turning h after = (answer : Bool) × Turns h answer after
StepsTo (Taking die) h after = (answer : Option Job) × Takes die h answer after
StepsTo (Working die) h after = (answer : Bool) × Works die h answer after

-- what these steps make of the device, each of what the one before it left
abbrev pub Walks : List Step → HeldState → HeldState → Type 0
Walks [] h after = after ≡ h
Walks (step ∷ steps) h after = (next : HeldState) × StepsTo step h next × Walks steps next after

-- the first dies, so many of them, take a job each, and do it
abbrev pub die_steps : ℕ → List Step
die_steps zero = []
die_steps (suc die) = die_steps die ++ Taking die ∷ Working die ∷ []

-- a turn, and a job of each of so many dies
abbrev pub round_steps : ℕ → List Step
round_steps dies = Turning ∷ die_steps dies

-- so many such rounds
abbrev pub settle_steps : ℕ → ℕ → List Step
settle_steps dies zero = []
settle_steps dies (suc round) = settle_steps dies round ++ round_steps dies

-- how many dies in memory a byte can name
abbrev pub dies_named : HeldState → ℕ
dies_named h = min (length h.dies) 256

-- rounds of a turn and of a job of each die in memory, and nothing else
abbrev pub Settles : ℕ → HeldState → Unit {0} → HeldState → Type 0
Settles rounds h _ after = Walks (settle_steps (dies_named h) rounds) h after
