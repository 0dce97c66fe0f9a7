-- What is found when the pages of all dies were read (this profile).
use Rattle.std.specs.Prelude.{◌≡◌, ◌+◌, ℕ, Bool, List, length, map, Option, Some, option_map, slice_get, sum}
use Rattle.ufs_spec.specs.Cells.{AreWithin, Cells, Mark}
use Rattle.ufs_spec.specs.Dies.{DieState, is_bad_block}
use Rattle.ufs_spec.specs.Disk.{Spot, Untouched}
use Rattle.ufs_spec.specs.Disk as disk
use Rattle.ufs_spec.specs.Keys.{area_pages, below, settings_key}
use Rattle.ufs_spec.specs.Kept.{IsKept, IsNewestMark, fence_in}
use Rattle.ufs_spec.specs.Openings.{AreLost, IsGreatestSeen, IsVacancyAt, lost_from}
use Rattle.ufs_spec.specs.Plain.{shape_of_numbers}
use Rattle.ufs_spec.specs.Sound.{CellsSuit}
use Rattle.power_loss.specs.FreeBlocks.{AreFoundFree, blocks_by}
use Rattle.ufs_spec.specs.Translation.{spots}
use Rattle.ufs_spec.specs.declared.configs.Numbers.{Numbers}
use Rattle.ufs_spec.specs.declared.faults.OpenFault.{OpenFault}
use Rattle.ufs_spec.specs.declared.faults.OpenFault.TheVariants as fault
use Rattle.ufs_spec.specs.declared.flash.Key.{Key}
use Rattle.page_tag.specs.Contents.{mark_of}
use Rattle.geometry.specs.Keys.{IsIndex}
use Rattle.recovery.specs.KeysInOrder.{state_of_found}
use Rattle.recovery.specs.Listed.{AreInRange, IsContentPage, outside}
use Rattle.recovery.specs.Reading.{IsReadingFault}
use Rattle.recovery.specs.declared.keys.FoundBlock.{FoundBlock}
use Rattle.recovery.specs.declared.keys.FoundBlock.TheVariants.{Bad, Closed, Free, Stale}
use Rattle.recovery.specs.declared.pages.FoundPage.{FoundPage}
use Rattle.recovery.specs.declared.found.Found.{Found}

-- for each block of a die whether it is bad, in order
abbrev pub bad_in : {D : Type 0} → (D → DieState) → ℕ → D → List Bool
bad_in state blocks die = map (is_bad_block (state die)) (below blocks)

-- the newest mark that was found
abbrev pub newest_found : Found → Option Mark
newest_found f = option_map mark_of f.newest

-- what the content of a key is looked up by is what the definitions say of these cells: the newest mark, the kept
-- number, and which blocks are free. Tags decide which are, so the cells need not be sound
pub record IsBasis (n : Numbers) (c : Cells) (bad : Spot → Bool) (f : Found) : Type 0 where
  pub within : AreWithin n c
  pub newest : IsNewestMark c (newest_found f)
  pub kept : IsKept c (newest_found f) f.kept
  -- which blocks are free
  pub free : Spot → Bool
  pub free_right : AreFoundFree c (newest_found f) bad free

-- what a free block was found to be is what is in it: nothing that opens, or a page at least that does. Of the others
-- this says nothing
abbrev pub IsVacancyFound : Cells → Spot → FoundBlock → Type 0
IsVacancyFound c s Free = IsVacancyAt c s Untouched
IsVacancyFound c s Stale = IsVacancyAt c s disk.Stale
IsVacancyFound c s Closed = Unit {0}
IsVacancyFound c s Bad = Unit {0}

-- what was found is what the definitions say of these cells: the newest mark, the kept number, the greatest number
-- seen, the lost numbers with their keys, the content of each key, and what each block is
pub record IsFound (n : Numbers) (c : Cells) (bad : Spot → Bool) (f : Found) : Type 0 where
  pub basis : IsBasis n c bad f
  pub suits : CellsSuit n c (newest_found f)
  pub in_range : AreInRange c
  pub greatest_seen : IsGreatestSeen c (newest_found f) f.greatest_seen
  pub first_lost : f.first_lost ≡ lost_from (fence_in (newest_found f)) f.kept
  -- of each key the page that has its content, outside of the free blocks
  pub contents : (k : Key) (i : ℕ) → IsIndex (shape_of_numbers n) k i →
      (e : Option FoundPage) × (slice_get f.contents.items i ≡ Some e)
      × IsContentPage (outside basis.free c) (newest_found f) f.kept k e
  pub lost : AreLost c f.first_lost f.greatest_seen f.lost.items
  -- of each block of each die, in order, what it is, and of a free one whether a page of it opens
  pub as_many : length f.blocks.items ≡ length (spots n)
  pub blocks : (i : ℕ) (s : Spot) → slice_get (spots n) i ≡ Some s →
      (b : FoundBlock) × (slice_get f.blocks.items i ≡ Some b) × (state_of_found b ≡ blocks_by bad basis.free s)
      × IsVacancyFound c s b

-- the page of the settings is the one that has their content outside of the free blocks
pub record HasSettings (n : Numbers) (c : Cells) (bad : Spot → Bool) (f : Found) : Type 0 where
  pub basis : IsBasis n c bad f
  pub page : (e : Option FoundPage)
      × (slice_get f.contents.items (sum (shape_of_numbers n).blocks + area_pages (shape_of_numbers n)) ≡ Some e)
      × IsContentPage (outside basis.free c) (newest_found f) f.kept settings_key e

-- why a scan was refused: memory was refused, the read of the place failed meanwhile, or the dies hold another
-- configuration
abbrev pub IsScanFault : Numbers → Cells → List ℕ → List ℕ → OpenFault → Type 0
IsScanFault n c before after fault.NoMemory = Unit {0}
IsScanFault n c before after (fault.ReadFault p) = IsReadingFault before after (fault.ReadFault p)
IsScanFault n c before after fault.OtherConfig = (m : Option Mark) × IsNewestMark c m × (CellsSuit n c m → ⊥)
