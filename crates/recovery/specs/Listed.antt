-- A list of the pages of groups that stand on the dies, and what is read off it (this profile).
use Rattle.std.specs.Prelude.{◌≡◌, ◌≢◌, ◌⊎◌, ℕ, suc, ◌<◌, ◌≤◌, Bool, if◌then◌else◌, List, Option, Some, None, slice_get}
use Rattle.ufs_spec.specs.Pages.{IsTag, greatest_number}
use Rattle.ufs_spec.specs.Cells.{Cells, GroupPage, Mark, MarkPage, Nothing, key_of}
use Rattle.ufs_spec.specs.Disk.{Spot, spot_of}
use Rattle.ufs_spec.specs.Kept.{Counts, HasNone, IsNewest}
use Rattle.ufs_spec.specs.Openings.{IsNotHigher}
use Rattle.ufs_spec.specs.declared.flash.Key.{Key}
use Rattle.ufs_spec.specs.declared.flash.Place.{Place}
use Rattle.ufs_spec.specs.declared.flash.Tag.{Tag}
use Rattle.recovery.specs.declared.pages.FoundMark.{FoundMark}
use Rattle.recovery.specs.declared.pages.FoundPage.{FoundPage}

-- the pages of groups that stand in the cells, in the order of their places
pub record AreListed (c : Cells) (pages : List FoundPage) : Type 0 where
  pub there : (i : ℕ) (e : FoundPage) → slice_get pages i ≡ Some e →
      (body : List ℕ) × (c e.place ≡ GroupPage e.tag body)
  pub tags : (i : ℕ) (e : FoundPage) → slice_get pages i ≡ Some e → IsTag e.tag × (e.tag.kind ≢ 4)
  pub all : (p : Place) (t : Tag) (body : List ℕ) → c p ≡ GroupPage t body →
      (i : ℕ) × (slice_get pages i ≡ Some (record { place = p; tag = t }))
  pub rising : (i j : ℕ) (a b : FoundPage) → slice_get pages i ≡ Some a → slice_get pages j ≡ Some b → i < j →
      IsNotHigher a.place b.place

-- the cells outside of the blocks that are free
abbrev pub outside : (Spot → Bool) → Cells → Cells
outside free c p = if free (spot_of p) then Nothing else c p

-- the marks that stand in the cells
pub record AreMarksListed (c : Cells) (marks : List FoundMark) : Type 0 where
  pub there : (i : ℕ) (e : FoundMark) → slice_get marks i ≡ Some e →
      (m : Mark) × (c e.place ≡ MarkPage m) × (m.number ≡ e.number) × (m.records ≡ e.records)
  pub all : (p : Place) (m : Mark) → c p ≡ MarkPage m →
      (i : ℕ) × (slice_get marks i ≡ Some (record { place = p; number = m.number; records = m.records }))

-- the greatest frontier that a mark records; 0 if there is no mark
abbrev pub IsMarksRecord : Cells → ℕ → Type 0
IsMarksRecord c r =
    ((p : Place) (m : Mark) → c p ≡ MarkPage m → m.records ≤ r)
    × ((r ≡ 0) ⊎ ((p : Place) × (m : Mark) × (c p ≡ MarkPage m) × (m.records ≡ r)))

-- the page that has the key's content in the kept state: of those that count the newest, at the lowest of the places
-- where a page of the key with this number stands; or none
abbrev pub IsContentPage : Cells → Option Mark → ℕ → Key → Option FoundPage → Type 0
IsContentPage c m kept k None = HasNone c m (suc kept) k
IsContentPage c m kept k (Some e) =
    (body : List ℕ)
    × IsNewest c m (suc kept) k e.place e.tag body
    × ((q : Place) (u : Tag) (other : List ℕ) → Counts c m q u other → key_of u ≡ k → u.number ≡ e.tag.number →
    IsNotHigher e.place q)

-- no number or frontier that a page or a mark says is above the greatest
pub record AreInRange (c : Cells) : Type 0 where
  pub pages : (p : Place) (t : Tag) (body : List ℕ) → c p ≡ GroupPage t body →
      (t.number ≤ greatest_number) × (t.frontier ≤ greatest_number)
  pub marks : (p : Place) (m : Mark) → c p ≡ MarkPage m → (m.number ≤ greatest_number) × (m.records ≤ greatest_number)
