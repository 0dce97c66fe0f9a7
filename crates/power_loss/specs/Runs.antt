-- What a run over stops carries: over which arrays a device may be opened, and what is right of each life.
use Rattle.std.specs.Prelude.{◌≡◌, ℕ, ◌+◌, ◌≤◌, Bool, false, List, [], ◌∷◌, length}
use Rattle.std.specs.List.{All}
use Rattle.ufs_spec.specs.Cells.{Array}
use Rattle.ufs_spec.specs.Dies.{DieState, IsOfSize, blank_page, page_at}
use Rattle.ufs_spec.specs.Disk.{Spot}
use Rattle.ufs_spec.specs.Lives.{IsLived, Life, Lived, Stops, bad_in}
use Rattle.ufs_spec.specs.Openings.{AreLost}
use Rattle.ufs_spec.specs.Sound.{Sound, Suits}
use Rattle.ufs_spec.specs.Refusals.{State, mended}
use Rattle.ufs_spec.specs.declared.configs.Numbers.{Numbers}
use Rattle.ufs_spec.specs.declared.events.Event.{Event}
use Rattle.ufs_spec.specs.declared.events.Leftover.{Leftover}
use Rattle.ufs_spec.specs.declared.events.Output.{Output}
use Rattle.ufs_spec.specs.declared.flash.Key.{Key}
use Rattle.power_loss.specs.Exchange.{IsArrayOf, ValidState}
use Rattle.power_loss.specs.Mending.{true_turns}

-- a device may be opened over the array: it is one of the dies, it is sound, and it suits the numbers
pub record MayBeOpened (n : Numbers) (array : Array) : Type 0 where
  pub inside : IsArrayOf n array
  pub sound : Sound array
  pub suits : Suits n array

-- the die is new: it has the size of the numbers, and each of its pages is blank; any of its blocks may be bad
abbrev pub IsNewDie : Numbers → DieState → Type 0
IsNewDie n d = IsOfSize n.blocks n.pages d × ((block page : ℕ) → page_at d block page ≡ blank_page)

-- there are as many dies as the configuration says, and each is new
abbrev pub AreNewDies : Numbers → List DieState → Type 0
AreNewDies n dies = (length dies ≡ n.dies) × All (IsNewDie n) dies

-- the life begins over an array that a device may be opened over
pub record LifeRight (n : Numbers) (array : Array) (bad : Spot → Bool) (l : Lived) : Type 0 where
  pub lived : IsLived n array bad l
  pub opens : MayBeOpened n array
  -- its end is valid, and a device may be opened over what stands there then
  pub valid : ValidState l.finish
  pub ends : MayBeOpened n l.finish.array
  -- and over whatever a stop leaves of it
  pub stops : (lefts : List Leftover) (left : Array) → Stops l.finish lefts left → MayBeOpened n left
  -- up to each of its events that does not find it mended, at most two turns more than there are keys with a lost page
  -- were answered true
  pub mends : (lost : List Key) →
      AreLost lived.0.cells l.start.translation.ledger.first_lost l.start.translation.ledger.greatest_seen lost →
      (es : List Event) (os : List Output) (middle : State) → Life l.start es os middle → mended middle ≡ false →
      true_turns os ≤ length lost + 2

-- each of several lives is right, and each later one begins over what a stop of the life before it left
abbrev pub LivesRight : Numbers → Array → (Spot → Bool) → Lived → List Lived → Type 0
LivesRight n array bad l [] = LifeRight n array bad l
LivesRight n array bad l (m ∷ ls) =
    LifeRight n array bad l
    × ((lefts : List Leftover) × (left : Array) × Stops l.finish lefts left × LivesRight n left (bad_in l.finish) m ls)

-- the state at the end of the last life
abbrev pub last_state : Lived → List Lived → State
last_state l [] = l.finish
last_state l (m ∷ ls) = last_state m ls
