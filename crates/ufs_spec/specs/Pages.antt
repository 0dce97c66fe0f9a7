-- How a flash page holds a block, what its tag says and the check of both. The layouts are this profile's; the check
-- is the SHA-256 of FIPS 180-4. A page has 4096 body bytes and 96 spare bytes. A tag stands in the first 64 spare
-- bytes in one of two layouts. The device writes version 2 alone, and reads version 1 too.
--
-- Each accepted command is one group with the next number, and each page of the group has an index. The
-- frontier is the number at or under which every group is lost or was wholly on the dies. A mark is a page of
-- the device's own, with the configuration and perhaps a fence, a range of numbers whose pages do not count.
-- Groups and marks are numbered apart.
use Rattle.std.specs.Prelude.{◌≡◌, ◌⊎◌, ◌-◌, ◌^◌, ◌<◌, ◌≤◌, ◌==◌, ℕ, List, [], ◌∷◌, ◌++◌, Option, None, Some, drop}
use Rattle.std.specs.Prelude.{if◌then◌else◌, length, replicate, slice_index, take}
use Rattle.std.specs.List.{flat_map}
use Rattle.byteorder.specs.Endian.{big_bytes}
use Rattle.sha2.specs.Sha256.{sha256}
use Rattle.ufs_bytes.specs.Fields.{field_at}
use Rattle.ufs_spec.specs.Plain.{regions, steps_of}
use Rattle.ufs_spec.specs.declared.configs.Numbers.{Numbers}
use Rattle.ufs_spec.specs.declared.configs.UnitSpec.{UnitSpec}
use Rattle.ufs_spec.specs.declared.flash.Fence.{Fence}
use Rattle.ufs_spec.specs.declared.flash.Page.{Page}
use Rattle.ufs_spec.specs.declared.flash.Tag.{Tag}

-- the first 64 spare bytes of either version: `UFSP`, the version, and what the tag says: the kind is byte 5, the unit
-- 6, the address 8..11, the number 12..19, the recorded frontier 24..31. Bytes 20..23 place the page in its group. All
-- other bytes are zero
abbrev pub front_with : ℕ → List ℕ → Tag → List ℕ
front_with version in_group t =
    (85 ∷ 70 ∷ 83 ∷ 80 ∷ version ∷ t.kind ∷ t.unit ∷ 0 ∷ [])
    ++ big_bytes 4 t.address ++ big_bytes 8 t.number
    ++ in_group
    ++ big_bytes 8 t.frontier
    ++ replicate 32 0

-- the first 64 spare bytes in version 2, which is written: the index is bytes 20..21, the size 22..23
abbrev pub spare_front : Tag → List ℕ
spare_front t = front_with 2 (big_bytes 2 t.index ++ big_bytes 2 t.size) t

-- the same in version 1, which is read but no longer written: the index is byte 20, the size 21, and 22..23 are zero
abbrev pub old_front : Tag → List ℕ
old_front t = front_with 1 (t.index ∷ t.size ∷ 0 ∷ 0 ∷ []) t

-- how many pages a group may have as its tags say it, whatever the configuration and the greatest command
abbrev pub group_bound : ℕ
group_bound = 128

-- how many of them it may have in version 1
abbrev pub old_group_bound : ℕ
old_group_bound = 32

-- the bytes are those of this tag, in version 2 or in version 1; in version 1 no group has more than 32 pages
abbrev pub IsFrontOf : Tag → List ℕ → Type 0
IsFrontOf t front = (front ≡ spare_front t) ⊎ ((t.size ≤ old_group_bound) × (front ≡ old_front t))

-- the index that spare bytes of this version name
abbrev pub index_in : ℕ → List ℕ → ℕ
index_in version s = if version == 1 then slice_index s 20 else field_at 2 20 s

-- the size that they name
abbrev pub size_in : ℕ → List ℕ → ℕ
size_in version s = if version == 1 then slice_index s 21 else field_at 2 22 s

-- the tag that spare bytes name, whether or not it is in its ranges. Byte 4 is their version
abbrev pub tag_in : List ℕ → Tag
tag_in s = record {
  kind = slice_index s 5;
  unit = slice_index s 6;
  address = field_at 4 8 s;
  number = field_at 8 12 s;
  index = index_in (slice_index s 4) s;
  size = size_in (slice_index s 4) s;
  frontier = field_at 8 24 s;
}

-- the greatest number that a group or a mark may have (this profile): no device lives to see it
abbrev pub greatest_number : ℕ
greatest_number = 2 ^ 62

-- the ranges of a tag. Kind 1 is data, 2 the area of an RPMB region, 3 settings and 4 a mark; data have the number of
-- their unit, area pages that of their region, only these two have an address, and a mark is alone in its group
pub record IsTag (t : Tag) : Type 0 where
  pub kind_known : (1 ≤ t.kind) × (t.kind ≤ 4)
  pub unit_known : t.unit < 8
  pub region_known : t.kind ≡ 2 → t.unit < regions
  pub unit_of_blocks_alone : 3 ≤ t.kind → t.unit ≡ 0
  pub address_fits : t.address < 2 ^ 32
  pub address_of_blocks_alone : 3 ≤ t.kind → t.address ≡ 0
  pub number_given : (1 ≤ t.number) × (t.number ≤ greatest_number)
  pub group_not_long : (1 ≤ t.size) × (t.size ≤ group_bound)
  pub index_in_group : t.index < t.size
  pub mark_alone : t.kind ≡ 4 → (t.index ≡ 0) × (t.size ≡ 1)
  pub frontier_fits : t.frontier ≤ greatest_number

-- the check of 4096 body bytes and spare bytes 0 to 63: their SHA-256 (FIPS 180-4)
abbrev pub check_of : List ℕ → List ℕ → List ℕ
check_of body front = sha256 (body ++ front)

-- the page that is programmed for a tag and a block, in version 2: the check of both is its last 32 spare bytes
abbrev pub seal_page : Tag → List ℕ → Page
seal_page t body = record { body = body; spare = spare_front t ++ check_of body (spare_front t) }

-- the last 32 spare bytes are the check of all that is before them, whatever that says; a
-- page without this opens to nothing
abbrev pub IsCheckRight : Page → Type 0
IsCheckRight p = drop 64 p.spare ≡ check_of p.body (take 64 p.spare)

-- the page holds this block with this tag, in either version, and its check is right
pub record IsSealedAs (page : Page) (tag : Tag) (body : List ℕ) : Type 0 where
  pub front : IsFrontOf tag (take 64 page.spare)
  pub check : IsCheckRight page
  pub holds : page.body ≡ body

-- what a stop or a failed job may leave of one page: the old content, the intended one, or one whose check fails.
-- That no other page with a right check is left is a premise of the promise of power loss
abbrev pub MayBeLeft : Page → Page → Page → Type 0
MayBeLeft before intended after = (after ≡ before) ⊎ (after ≡ intended) ⊎ (¬ IsCheckRight after)

-- bytes, and zeros after them up to a length
unfoldable pub zero_filled : ℕ → List ℕ → List ℕ
zero_filled n bytes = bytes ++ replicate (n - length bytes) 0

-- the first and the last number of a fence, eight bytes each; all zero says that there is none
abbrev pub fence_bytes : Option Fence → List ℕ
fence_bytes None = replicate 16 0
fence_bytes (Some fence) = big_bytes 8 fence.first ++ big_bytes 8 fence.last

-- sixteen bytes of a configuration's numbers, with the count of its units but not what each unit has. The sizes of RPMB
-- regions 1 to 3 stand behind all that marks had when there was one region
abbrev pub numbers_bytes : Numbers → List ℕ
numbers_bytes n =
    (n.dies ∷ length n.units.items ∷ [])
    ++ big_bytes 2 n.blocks ++ big_bytes 2 n.pages
    ++ (steps_of n 0 ∷ 0 ∷ [])
    ++ big_bytes 2 n.slots ++ big_bytes 2 n.spare
    ++ (steps_of n 1 ∷ steps_of n 2 ∷ steps_of n 3 ∷ 0 ∷ [])

-- the eight bytes of a unit: its blocks, its boot number and its protection
abbrev pub unit_bytes : UnitSpec → List ℕ
unit_bytes u = big_bytes 4 u.blocks ++ (u.boot ∷ u.protect ∷ 0 ∷ 0 ∷ [])

-- the body of a mark: its fence, the configuration's numbers, an entry for each unit, and zeros
abbrev pub mark_bytes : Numbers → Option Fence → List ℕ
mark_bytes n fence =
    zero_filled 4096 (fence_bytes fence ++ numbers_bytes n ++ flat_map unit_bytes n.units.items)
