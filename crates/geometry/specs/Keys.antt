-- The keys of a device in order, each at its index (this profile).
use Rattle.std.specs.Prelude.{◌≡◌, ℕ, ◌+◌, ◌<◌, ◌==◌, ◌&&◌, Option, Some, None, if◌then◌else◌, length, nat_lt}
use Rattle.std.specs.Prelude.{slice_index_or, sum, take}
use Rattle.ufs_spec.specs.Keys.{area_pages, region_pages}
use Rattle.ufs_spec.specs.Plain.{Shape, regions}
use Rattle.ufs_spec.specs.declared.flash.Key.{Key}

-- Indexes

-- how many keys there are: the blocks of all units, the pages of all RPMB areas, and the settings
abbrev pub key_total : Shape → ℕ
key_total s = sum s.blocks + area_pages s + 1

-- the key stands at this index: the blocks of each unit behind those of the units before it, then the pages of each
-- RPMB area behind those of the regions before it, then the settings
pub data IsIndex (s : Shape) (k : Key) (i : ℕ) : Type 0 where
  AtData : k.kind ≡ 1 → k.unit < length s.blocks → k.address < slice_index_or s.blocks k.unit 0 →
      i ≡ sum (take k.unit s.blocks) + k.address → IsIndex s k i
  AtArea : k.kind ≡ 2 → k.unit < regions → k.address < slice_index_or (region_pages s) k.unit 0 →
      i ≡ sum s.blocks + sum (take k.unit (region_pages s)) + k.address → IsIndex s k i
  AtSettings : k.kind ≡ 3 → k.unit ≡ 0 → k.address ≡ 0 → i ≡ sum s.blocks + area_pages s → IsIndex s k i

-- the index of a block of a unit: behind the blocks of the units before it. None if the device has not this key
abbrev pub data_index : Shape → Key → Option ℕ
data_index s k =
    if nat_lt k.unit (length s.blocks) && nat_lt k.address (slice_index_or s.blocks k.unit 0)
    then Some (sum (take k.unit s.blocks) + k.address)
    else None

-- the index of a page of an RPMB area: behind the blocks of all units and the areas of the regions before it. None if
-- there is no such page
abbrev pub area_index : Shape → Key → Option ℕ
area_index s k =
    if nat_lt k.unit regions && nat_lt k.address (slice_index_or (region_pages s) k.unit 0)
    then Some (sum s.blocks + sum (take k.unit (region_pages s)) + k.address)
    else None

-- the index of the settings, which is behind all other keys; none if the key is not theirs
abbrev pub settings_index : Shape → Key → Option ℕ
settings_index s k = if (k.unit == 0) && (k.address == 0) then Some (sum s.blocks + area_pages s) else None

-- the index of any key by its kind; none if the device has not this key
abbrev pub index_of : Shape → Key → Option ℕ
index_of s k =
    if k.kind == 1 then data_index s k
    else if k.kind == 2 then area_index s k
    else if k.kind == 3 then settings_index s k
    else None
