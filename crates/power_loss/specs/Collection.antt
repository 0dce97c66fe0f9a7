-- Which block is to be collected, and when.
use Rattle.std.specs.Prelude.{◌≡◌, ◌≢◌, ◌⊎◌, ◌+◌, ◌*◌, ◌<◌, ◌≤◌, true, false, None}
use Rattle.ufs_spec.specs.Disk.{Bad, Closed, Free, Spot, Stale}
use Rattle.ufs_spec.specs.Translation.{Translation, count_blocks, has_mark_number, is_bad, is_free, is_mended}
use Rattle.ufs_spec.specs.Translation.{is_pinned, least_room, live_count, may_go_bad}
use Rattle.power_loss.specs.Exchange.{IsSpot}

-- a block for each that may still go bad left out, fewer blocks are free than two for each die and four, or fewer than
-- two more than the device's own pages need
abbrev pub AreFewFree : Translation → Type 0
AreFewFree t =
    (count_blocks t is_free < 2 * t.numbers.dies + 4 + may_go_bad t.numbers (count_blocks t is_bad))
    ⊎ (count_blocks t is_free < least_room t.numbers + 2 + may_go_bad t.numbers (count_blocks t is_bad))

-- no task keeps a page of the block, and to collect it gains something: while few blocks are free it is closed and not
-- wholly live, so that it is free afterwards; else it is bad with live pages, which leave it
pub record CanBeCollected (t : Translation) (s : Spot) : Type 0 where
  pub inside : IsSpot t.numbers s
  pub unpinned : is_pinned t s ≡ false
  pub gain : ((t.disk.blocks s ≡ Closed) × AreFewFree t × (live_count t s < t.numbers.pages))
      ⊎ ((t.disk.blocks s ≡ Bad) × (AreFewFree t → ⊥) × (0 < live_count t s))

-- blocks are counted die by die
abbrev pub IsBefore : Spot → Spot → Type 0
IsBefore a b = (a.die < b.die) ⊎ ((a.die ≡ b.die) × (a.block < b.block))

-- of the blocks that can be collected it has the fewest live pages, and it is the lowest of several
pub record IsVictim (t : Translation) (s : Spot) : Type 0 where
  pub can : CanBeCollected t s
  pub least : (a : Spot) → CanBeCollected t a → live_count t s ≤ live_count t a
  pub lowest : (a : Spot) → CanBeCollected t a → live_count t a ≡ live_count t s → IsBefore a s → ⊥

-- a bad block holds live pages, and no task keeps a page of it
pub record IsBadWithLive (t : Translation) (s : Spot) : Type 0 where
  pub inside : IsSpot t.numbers s
  pub bad : t.disk.blocks s ≡ Bad
  pub unpinned : is_pinned t s ≡ false
  pub live : 0 < live_count t s

-- few blocks are free, or a bad block holds live pages
abbrev pub IsRoomScarce : Translation → Type 0
IsRoomScarce t = AreFewFree t ⊎ ((s : Spot) × IsBadWithLive t s)

-- no free block is to be erased for pages of it that may go
abbrev pub IsNoneStale : Translation → Type 0
IsNoneStale t = (s : Spot) → IsSpot t.numbers s → t.disk.blocks s ≡ Free → t.disk.vacancies s ≢ Stale

-- collection is due: the device is mended, nothing is under way, no free block is to be erased first, a block can be
-- collected and room is scarce
pub record IsCollectionDue (t : Translation) : Type 0 where
  pub mended : is_mended t.work.mending ≡ true
  pub no_step : t.work.step ≡ None
  pub no_plan : t.work.plan ≡ None
  pub none_stale : IsNoneStale t
  pub number : has_mark_number t ≡ true
  pub some : (s : Spot) × CanBeCollected t s
  pub scarce : IsRoomScarce t
