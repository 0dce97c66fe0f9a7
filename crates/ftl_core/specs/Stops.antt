-- What a stop may leave of the layer, and which blocks are erased, in the words of the laws of power loss. The layer
-- sees pages as cells: a stop that leaves pages leaves their cells so (the laws tell why).
use Rattle.std.specs.Prelude.{◌≡◌, ℕ, false, Option, option_map}
use Rattle.ufs_spec.specs.Cells.{AreWithin, Cells, Mark}
use Rattle.ufs_spec.specs.Disk as disk
use Rattle.ufs_spec.specs.Disk.{CellCrash, MayErase, Spot}
use Rattle.ufs_spec.specs.Kept.{IsKept, IsNewestMark}
use Rattle.ufs_spec.specs.Sound.{CellsSound, CellsSuit}
use Rattle.ufs_spec.specs.Translation.{Translation, is_pinned}
use Rattle.ufs_spec.specs.declared.flash.Job.{Job}
use Rattle.power_loss.specs.Stops.{IsFront}
use Rattle.ftl_core.specs.Core.{Core}
use Rattle.ftl_core.specs.Describes.{Kept, given}

-- the cells lie within the device and suit it, are sound, and stand for what is durable in the layer after a front of
-- what is pending in it
pub record IsLeftRight (t : Translation) (left : Cells) : Type 0 where
  pub within : AreWithin t.numbers left
  pub newest : Option Mark
  pub is_newest : IsNewestMark left newest
  pub sound : CellsSound left newest
  pub suits : CellsSuit t.numbers left newest
  pub kept_number : ℕ
  pub is_kept : IsKept left newest kept_number
  pub front : IsFront t left newest kept_number

-- what is kept describes the layer, and all that a stop may leave of its cells with its jobs in flight is right
pub record StopsRight (core : Core) (t : Translation) : Type 0 where
  pub kept : Kept core t
  pub each : (left : Cells) → CellCrash t.disk.cells t.disk.flights left → IsLeftRight t left

-- what a stop may leave is right also once the die has the job that it was told, or none
abbrev pub StopsRightGiven : Translation → ℕ → Option Job → Core → Type 0
StopsRightGiven t die told after =
    (job : Option disk.Flight) × (told ≡ option_map disk.job_of job) × StopsRight after (given t die job)

-- the block is one of this die, no pin is in it, and each of its pages that opens is spent
pub record MayGo (t : Translation) (die : ℕ) (block : Spot) : Type 0 where
  pub here : block.die ≡ die
  pub unpinned : is_pinned t block ≡ false
  pub spent : MayErase t.disk block
