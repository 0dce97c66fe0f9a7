-- Which arrays a device may be opened over: new dies, and what stops leave (this profile). That every stop leaves a
-- sound array is shown by the laws of power loss.
use Rattle.std.specs.Prelude.{◌≡◌, ◌⊎◌, ◌∷◌, [], ℕ, ◌<◌, ◌≤◌, List, Option, Some}
use Rattle.ufs_spec.specs.Cells.{Array, Cells, DataHold, GroupPage, Mark, MarkPage, Opens, Shows, key_of}
use Rattle.ufs_spec.specs.Configs.{marked}
use Rattle.ufs_spec.specs.Keys.{IsKey}
use Rattle.ufs_spec.specs.Kept.{Counts, Holds, IsNewestMark, IsRecorded, IsWhole, fence_in, recorded_in}
use Rattle.ufs_spec.specs.Plain.{shape_of_numbers, steps_of}
use Rattle.ufs_spec.specs.declared.configs.Numbers.{Numbers}
use Rattle.ufs_spec.specs.declared.flash.Fence.{Fence}
use Rattle.ufs_spec.specs.declared.flash.Place.{Place}
use Rattle.ufs_spec.specs.declared.flash.Tag.{Tag}

-- the pages are copies of each other: equal in key, number, index, size and data. What they record may differ,
-- since a copy records the frontier of its own moment
abbrev pub SamePage : Tag → List ℕ → Tag → List ℕ → Type 0
SamePage t body u other =
    (key_of t ≡ key_of u) × (t.number ≡ u.number) × (t.index ≡ u.index) × (t.size ≡ u.size) × (body ≡ other)

-- what holds of cells that honest dies and stops leave, with the newest mark m
pub record CellsSound (c : Cells) (m : Option Mark) : Type 0 where
  -- two pages of one group with one index, or with one key, are copies of each other
  pub pages : (p q : Place) (t u : Tag) (body other : List ℕ) →
      c p ≡ GroupPage t body → c q ≡ GroupPage u other → t.number ≡ u.number →
      (t.index ≡ u.index) ⊎ (key_of t ≡ key_of u) → SamePage t body u other
  -- two marks of one number are wholly equal
  pub marks : (p q : Place) (a b : Mark) → c p ≡ MarkPage a → c q ≡ MarkPage b → a.number ≡ b.number → a ≡ b
  -- each group above what the newest mark records, up to the greatest recorded frontier, is whole: it was durable
  pub whole : (r n : ℕ) → IsRecorded c m r → recorded_in m < n → n ≤ r → IsWhole c n
  -- a mark with a fence records the fence's last number
  pub fence : (f : Fence) → fence_in m ≡ Some f → recorded_in m ≡ f.last
  -- a page that counts above the fence has the content that its key has below the fence, so mending may begin anew
  pub repairs : (f : Fence) → fence_in m ≡ Some f → (p : Place) (t : Tag) (body : List ℕ) →
      Counts c m p t body → f.last < t.number → Holds c m f.first (key_of t) body

-- the same numbers with RPMB region 0 alone
abbrev pub with_one_region : Numbers → Numbers
with_one_region n = record n { rpmb = steps_of n 0 ∷ 0 ∷ 0 ∷ 0 ∷ [] }

-- a mark with these numbers is of a device with those, whatever its profile: they are the same, or the mark was written
-- before the device had other RPMB regions than the first
abbrev pub MarkSuits : Numbers → Numbers → Type 0
MarkSuits n said = (said ≡ marked n) ⊎ (said ≡ with_one_region (marked n))

-- the cells are of a device with these numbers: its newest mark suits them, and each page of a group
-- is of one of its keys
pub record CellsSuit (n : Numbers) (c : Cells) (m : Option Mark) : Type 0 where
  pub config : (newest : Mark) → m ≡ Some newest → MarkSuits n newest.numbers
  pub keys : (p : Place) (t : Tag) (body : List ℕ) → c p ≡ GroupPage t body → IsKey (shape_of_numbers n) (key_of t)

-- the array is sound: its cells are, and the data of each page that opens keep the rules of its kind
pub record Sound (array : Array) : Type 0 where
  pub cells : Cells
  pub shown : Shows array cells
  pub newest : Option Mark
  pub is_newest : IsNewestMark cells newest
  pub sound : CellsSound cells newest
  pub hold : (p : Place) (t : Tag) (body : List ℕ) → Opens (array p) t body → DataHold t body

-- the array is of a device with these numbers
pub record Suits (n : Numbers) (array : Array) : Type 0 where
  pub cells : Cells
  pub shown : Shows array cells
  pub newest : Option Mark
  pub is_newest : IsNewestMark cells newest
  pub suit : CellsSuit n cells newest
