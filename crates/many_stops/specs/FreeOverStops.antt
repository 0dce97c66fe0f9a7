-- When a stop costs no free block: what a life has to be like, and which of its moves may not fail.
use Rattle.std.specs.Prelude.{◌≡◌, ◌≢◌, ◌⊎◌, ℕ, ◌<◌, Bool, List, [], ◌∷◌, Option, Some, None}
use Rattle.ufs_spec.specs.Cells.{Cell, Cells, GroupPage, Mark, Nothing}
use Rattle.ufs_spec.specs.Disk.{BlockState, Erasing, Flight, Free, Programming, Spot, Stale, Vacancy, spot_of}
use Rattle.ufs_spec.specs.Kept.{IsNewestMark}
use Rattle.ufs_spec.specs.Moves.{EndJob, Move, WentWrong, moved}
use Rattle.ufs_spec.specs.Openings.{AreFirstBlocks, IsAtMost}
use Rattle.ufs_spec.specs.Translation.{Mended, Mending, Step, Translation}
use Rattle.ufs_spec.specs.declared.configs.Numbers.{Numbers}
use Rattle.ufs_spec.specs.declared.flash.Place.{Place}
use Rattle.power_loss.specs.Invariant.{AreNoneStale}

-- Before the first step of a life

-- a page of a group whose number is above the given one
abbrev pub IsNewPage : ℕ → Cell → Type 0
IsNewPage top (GroupPage tag body) = top < tag.number
IsNewPage top cell = ⊥

-- what became of a page of a block that was free when the life began: it is gone; or it is there still and so is its
-- block, free; or a page of a group of this life is there, and the block is not free any more
abbrev pub IsThinned : ℕ → Cell → Cell → BlockState → Type 0
IsThinned top opened now state =
    (now ≡ Nothing) ⊎ (((now ≡ opened) × (state ≡ Free)) ⊎ (IsNewPage top now × (state ≢ Free)))

-- no step was ordered in this life: only blocks that were free when it began were erased since, or filled, and that
-- with pages of groups of this life
pub record IsAsOpened (newest : Option Mark) (top : ℕ) (cells : Cells) (blocks : Spot → BlockState)
    (flights : ℕ → Option Flight) (step : Option Step) : Type 0 where
  -- what the life began over, and what each block was then
  pub opening : Cells
  pub bad : Spot → Bool
  pub first : Spot → BlockState
  pub found : AreFirstBlocks opening newest bad first
  pub is_newest : IsNewestMark opening newest
  pub seen : IsAtMost opening newest top
  pub no_step : step ≡ None
  -- blocks that were not free are as they were
  pub stays : (s : Spot) → first s ≢ Free → blocks s ≡ first s
  pub same : (p : Place) → first (spot_of p) ≢ Free → cells p ≡ opening p
  pub thinned : (p : Place) → first (spot_of p) ≡ Free → IsThinned top (opening p) (cells p) (blocks (spot_of p))
  pub flies : (die : ℕ) (p : Place) (cell : Cell) → flights die ≡ Some (Programming p cell) → IsNewPage top cell

-- Afterwards

-- one block at most is free and to be erased for what is in it: it was collected last, and no step is under way
pub record IsOneStale (numbers : Numbers) (blocks : Spot → BlockState) (vacancies : Spot → Vacancy) (mending : Mending)
    (step : Option Step) : Type 0 where
  pub spot : Spot
  pub alone : (s : Spot) → s.die < numbers.dies → s.block < numbers.blocks → blocks s ≡ Free → vacancies s ≡ Stale →
      s ≡ spot
  pub mended : mending ≡ Mended
  pub no_step : step ≡ None

-- a stop costs no free block: none is to be erased for what is in it, or one alone is, or no step was ordered yet
abbrev pub KeepsFree : Translation → Type 0
KeepsFree t =
    AreNoneStale t.numbers t.disk.blocks t.disk.vacancies
    ⊎ (IsOneStale t.numbers t.disk.blocks t.disk.vacancies t.work.mending t.work.step
    ⊎ IsAsOpened t.ledger.newest t.ledger.greatest_seen t.disk.cells t.disk.blocks t.disk.flights t.work.step)

-- Moves

-- the block is one of the dies', free, and to be erased for what is in it
abbrev pub IsStaleBlock : Translation → Spot → Type 0
IsStaleBlock t s =
    (s.die < t.numbers.dies) × (s.block < t.numbers.blocks) × (t.disk.blocks s ≡ Free) × (t.disk.vacancies s ≡ Stale)

-- by this move the erase of such a block fails while another one is there. The block is bad then, and a page that is
-- left in it counts for those that it stands in for: a closed block that had to keep only these may be found free at
-- the next opening, and several blocks that are free since it keeps their pages may then not be
abbrev pub FailsStale : Translation → Move → Type 0
FailsStale t (EndJob die (WentWrong left)) =
    (s : Spot) × (other : Spot) × (t.disk.flights die ≡ Some (Erasing s)) × (t.disk.vacancies s ≡ Stale) × (other ≢ s)
    × IsStaleBlock t other
FailsStale t move = ⊥

-- no such erase fails by these moves
abbrev pub NoneFailsStale : Translation → List Move → Type 0
NoneFailsStale t [] = Unit {0}
NoneFailsStale t (move ∷ moves) = (FailsStale t move → ⊥) × NoneFailsStale (moved t move) moves
