-- How much room a mending needs, how much of it is left, and that a mending is not stuck.
use Rattle.std.specs.Prelude.{◌≡◌, ◌≢◌, ◌⊎◌, ℕ, ◌+◌, ◌-◌, ◌*◌, ◌<◌, ◌≤◌, if◌then◌else◌, Bool, true, false, [], All}
use Rattle.std.specs.Prelude.{List, count_by, sum_by, Option, Some, None}
use Rattle.ufs_spec.specs.Cells.{Cell}
use Rattle.ufs_spec.specs.Disk.{BlockState, Filling, Flight, Free, Programming, Spot, spot_of}
use Rattle.ufs_spec.specs.Lives.{Life, Lived}
use Rattle.ufs_spec.specs.Moves.{EndJob, Move, WentWrong}
use Rattle.ufs_spec.specs.Refusals.{State, mended}
use Rattle.ufs_spec.specs.Translation.{CopyStep, MarkStep, MayTake, Pin, RepairStep, Step, StepKind, Translation, Want}
use Rattle.ufs_spec.specs.Translation.{flies_mark, flies_name, has_mark_number, has_number, is_step_due, spots}
use Rattle.ufs_spec.specs.Translation.{count_blocks, is_free, least_room, want_of_kind}
use Rattle.ufs_spec.specs.declared.configs.Numbers.{Numbers}
use Rattle.ufs_spec.specs.declared.events.Event.{Event}
use Rattle.ufs_spec.specs.declared.events.Event.TheVariants as event
use Rattle.ufs_spec.specs.declared.events.Output.{Output}
use Rattle.ufs_spec.specs.declared.flash.Place.{Place}
use Rattle.ufs_spec.specs.declared.layer.Looked.{Looked}
use Rattle.ufs_spec.specs.declared.layer.Looked.TheVariants.{OnPage}
use Rattle.power_loss.specs.Mending.{turns_left}

-- Room

-- how many pages may still be programmed in a block of so many pages: all once it is erased, if it is free; from its
-- next page on, if it is being filled; none of any other block
abbrev pub page_room : ℕ → BlockState → ℕ
page_room pages Free = pages
page_room pages (Filling next) = pages - next
page_room pages state = 0

-- how many pages may still be programmed in all blocks together
abbrev pub pages_left : Translation → ℕ
pages_left t = sum_by (λ s. page_room t.numbers.pages (t.disk.blocks s)) (spots t.numbers)

-- the step under way still programs one page
abbrev pub page_of_step : Option Step → ℕ
page_of_step None = 0
page_of_step (Some step) = 1

-- how many pages the mending still programs at most: one for each turn that is left, and that of the step under way
abbrev pub pages_needed : Translation → ℕ
pages_needed t = turns_left t + page_of_step t.work.step

-- the mending finds a place for each page that it still programs, even if so many blocks become bad meanwhile
abbrev pub HasRoom : ℕ → Translation → Type 0
HasRoom failures t = pages_needed t + failures * t.numbers.pages ≤ pages_left t

-- Nothing but the mending

-- whether a die with this job programs the page of such a step
abbrev pub flies_kind : StepKind → Option Flight → Bool
flies_kind (MarkStep number fence) = flies_mark
flies_kind (CopyStep name from) = flies_name name
flies_kind (RepairStep name from) = flies_name name

-- what was looked up is on no page of a free block
abbrev pub IsOffFree : (Spot → BlockState) → Looked → Type 0
IsOffFree blocks (OnPage name place) = blocks (spot_of place) ≢ Free
IsOffFree blocks looked = Unit {0}

-- what tasks keep lies in no free block, so that each of these may be erased
abbrev pub ArePinsOffFree : Translation → Type 0
ArePinsOffFree t = All (λ (pin : Pin). IsOffFree t.disk.blocks pin.looked) t.pins

-- the mending alone takes pages: no group waits for the rest of one, what tasks keep stands in nothing's way, and what
-- dies program is one page at most, that of the step under way
pub record MendsAlone (t : Translation) : Type 0 where
  pub pins : ArePinsOffFree t
  pub no_rests : t.work.rests ≡ []
  -- a step whose content is not there yet has a page to read it from
  pub readable : (step : Step) → t.work.step ≡ Some step → step.there ≡ false →
      (want : Want) × (want_of_kind step.kind ≡ Some want)
  -- a page that a die programs is that of the step under way
  pub of_step : (die : ℕ) (p : Place) (cell : Cell) → t.disk.flights die ≡ Some (Programming p cell) →
      (step : Step) × (t.work.step ≡ Some step) × (flies_kind step.kind (Some (Programming p cell)) ≡ true)
  -- and no other die programs one meanwhile
  pub one_die : (die other : ℕ) (p q : Place) (cell more : Cell) → t.disk.flights die ≡ Some (Programming p cell) →
      t.disk.flights other ≡ Some (Programming q more) → die ≡ other

-- Moves

-- a program or an erase fails by this move
abbrev pub fails_job : Move → Bool
fails_job (EndJob die (WentWrong left)) = true
fails_job move = false

-- how many programs and erases fail by this move
abbrev pub failures_of : Move → ℕ
failures_of move = if fails_job move then 1 else 0

-- Events

-- a program or an erase fails in this event, and makes its block bad: of a read that fails nothing is left
abbrev pub makes_bad : Event → Bool
makes_bad (event.Fail die (Some leftover)) = true
makes_bad happening = false

-- Not stuck

-- a die has a job, which will end
abbrev pub HasJob : Translation → Type 0
HasJob t = (die : ℕ) × (flight : Flight) × (die < t.numbers.dies) × (t.disk.flights die ≡ Some flight)

-- a job is owed to a die that has none
abbrev pub OwesJob : Translation → Type 0
OwesJob t = (die : ℕ) × (flight : Flight) × MayTake t die (Some flight)

-- no number is left for one more mark, or none for one more group
abbrev pub IsOutOfNumbers : Translation → Type 0
IsOutOfNumbers t = (has_mark_number t ≡ false) ⊎ (has_number t ≡ false)

-- the device may go on: a die has a job or is owed one, a turn finds a step due, or the numbers are used up
abbrev pub MayGoOn : Translation → Type 0
MayGoOn t = HasJob t ⊎ (OwesJob t ⊎ ((is_step_due t ≡ true) ⊎ IsOutOfNumbers t))

-- Lives

-- up to each of its events that does not find it mended, a life may go on, if it began with as many free blocks as the
-- device's own pages need, less one for each die, and with one more for each program and erase that failed
abbrev pub IsNeverStuck : Numbers → Lived → Type 0
IsNeverStuck n l = (es : List Event) (os : List Output) (middle : State) → Life l.start es os middle →
    least_room n - n.dies + count_by makes_bad es ≤ count_blocks l.start.translation is_free → mended middle ≡ false →
    MayGoOn middle.translation
