-- How many pins each block has: one for each page of it that a reader keeps, and one for each page that is still to be
-- read from it for a rest (this profile).
use Rattle.std.specs.Prelude.{List, Some, filter, length, slice_get, true, ℕ, ◌+◌, ◌≡◌}
use Rattle.ufs_spec.specs.Disk.{Spot}
use Rattle.block_table.specs.Lives.{Lives, block_place, has_block}
use Rattle.readers.specs.declared.pin.Pin.{Pin}
use Rattle.write_cache.specs.declared.slots.Pending.{Pending}
use Rattle.ftl_core.specs.Pinned.{keeps, reads_block}

-- What is counted

-- how many of the pins keep a page of the block
abbrev pub pins_on : Spot → List Pin → ℕ
pins_on s ps = length (filter (keeps s.die s.block) ps)

-- how many of the pending pages still have their rest to be read from the block
abbrev pub rests_on : Spot → List Pending → ℕ
rests_on s pages = length (filter (reads_block s.die s.block) pages)

-- each block of the dies has so many pins
abbrev pub ArePinsCounted : Lives → List Pin → List Pending → Type 0
ArePinsCounted l ps pages =
    (s : Spot) → has_block l.sizes s ≡ true →
    slice_get l.pins (block_place l.sizes s) ≡ Some (pins_on s ps + rests_on s pages)
