-- Cells that lose pages of one block.
use Rattle.std.specs.Prelude.{◌≡◌, ◌⊎◌, ◌<◌, Bool, true, false, Some, None}
use Rattle.ufs_spec.specs.Cells.{Cells, Mark, MarkPage, Nothing}
use Rattle.ufs_spec.specs.Disk.{Spot, spot_of}
use Rattle.ufs_spec.specs.Kept.{fence_in, recorded_in}
use Rattle.ufs_spec.specs.Openings.{number_of}
use Rattle.ufs_spec.specs.Translation.{Mended, Mending, Repairing, Translation, Unmarked}
use Rattle.ufs_spec.specs.declared.flash.Fence.{Fence}
use Rattle.ufs_spec.specs.declared.flash.Place.{Place}

-- pages of the block are gone or as they were, and all other pages are as they were
abbrev pub LosesIn : Spot → Cells → Cells → Type 0
LosesIn s before left = (p : Place) → (left p ≡ before p) ⊎ ((spot_of p ≡ s) × (left p ≡ Nothing))

-- the first mark of the life is finished, or the life needed none
abbrev pub is_marked : Mending → Bool
is_marked (Unmarked fence lost) = false
is_marked (Repairing left) = true
is_marked Mended = true

-- until the first mark of the life is finished: exactly what this life wrote is not finished, and of the numbers that
-- the newest mark records those in its fence are lost, and no others
pub record StartsRight (t : Translation) : Type 0 where
  pub unfinished : (p : Place) → t.disk.finished p ≡ false →
      (t.disk.cells p ≡ Nothing) ⊎ ((m : Mark) × (t.disk.cells p ≡ MarkPage m) × (number_of t.ledger.newest < m.number))
  pub own : (p : Place) (m : Mark) → t.disk.cells p ≡ MarkPage m → number_of t.ledger.newest < m.number →
      t.disk.finished p ≡ false
  pub fence : (f : Fence) → fence_in t.ledger.newest ≡ Some f → t.ledger.first_lost ≡ f.first
  pub none : fence_in t.ledger.newest ≡ None → recorded_in t.ledger.newest < t.ledger.first_lost

-- what holds of marks and fences while the first mark of the life is not finished; afterwards nothing is said
abbrev pub IsStartRight : Translation → Type 0
IsStartRight t = is_marked t.work.mending ≡ false → StartsRight t
