-- What is computed of the keys of pages that were found (this profile).
use Rattle.std.specs.Prelude.{◌≡◌, ◌⊎◌, ℕ, ◌<◌, ◌≤◌, ◌&&◌, Bool, true, false, List, Option, Some, None}
use Rattle.std.specs.Prelude.{if◌then◌else◌, nat_le, nat_lt, not, slice_get}
use Rattle.ufs_spec.specs.Cells.{Cells, GroupPage, key_of}
use Rattle.ufs_spec.specs.Disk.{BlockState}
use Rattle.ufs_spec.specs.Disk as disk
use Rattle.ufs_spec.specs.Keys.{IsKey, same_key}
use Rattle.ufs_spec.specs.Kept.{IsFenced}
use Rattle.ufs_spec.specs.Openings.{IsBefore}
use Rattle.ufs_spec.specs.Plain.{Shape}
use Rattle.ufs_spec.specs.declared.flash.Fence.{Fence}
use Rattle.ufs_spec.specs.declared.flash.Key.{Key}
use Rattle.ufs_spec.specs.declared.flash.Place.{Place}
use Rattle.ufs_spec.specs.declared.flash.Tag.{Tag}
use Rattle.geometry.specs.Keys.{IsIndex}
use Rattle.recovery.specs.declared.keys.FoundBlock.{FoundBlock}
use Rattle.recovery.specs.declared.keys.FoundBlock.TheVariants.{Bad, Closed, Free, Stale}
use Rattle.recovery.specs.declared.pages.FoundPage.{FoundPage}

-- Keys that the device has

-- the device has the key of each page
abbrev pub AreKnown : Shape → Cells → Type 0
AreKnown s c = (p : Place) (t : Tag) (body : List ℕ) → c p ≡ GroupPage t body → IsKey s (key_of t)

-- The newest page of a key

-- the page is of the key, its number is not fenced, and is no greater than the kept one
pub record IsKeptPage (fence : Option Fence) (kept : ℕ) (k : Key) (e : FoundPage) : Type 0 where
  pub key : key_of e.tag ≡ k
  pub free : IsFenced fence e.tag.number → ⊥
  pub within : e.tag.number ≤ kept

-- of the first n pages the one with the key's content: of the kept pages of the key the first with the greatest number
abbrev pub IsNewestOf : List FoundPage → ℕ → Option Fence → ℕ → Key → Option FoundPage → Type 0
IsNewestOf pages n fence kept k None =
    (i : ℕ) (e : FoundPage) → i < n → slice_get pages i ≡ Some e → IsKeptPage fence kept k e → ⊥
IsNewestOf pages n fence kept k (Some newest) =
    (at : ℕ) × (at < n) × (slice_get pages at ≡ Some newest) × IsKeptPage fence kept k newest
    × ((i : ℕ) (e : FoundPage) → i < n → slice_get pages i ≡ Some e → IsKeptPage fence kept k e →
    (e.tag.number < newest.tag.number) ⊎ ((e.tag.number ≡ newest.tag.number) × (at ≤ i)))

-- the fence of the newest mark, if it has one, covers the number, so a page of this number does not count
abbrev pub is_fenced : Option Fence → ℕ → Bool
is_fenced None number = false
is_fenced (Some f) number = nat_le f.first number && nat_le number f.last

-- the page may have the key's content, as `IsKeptPage` says it
abbrev pub is_kept_page : Option Fence → ℕ → Key → FoundPage → Bool
is_kept_page fence kept k e =
    same_key (key_of e.tag) k && not (is_fenced fence e.tag.number) && nat_le e.tag.number kept

-- there is none yet, or its number is smaller
abbrev pub is_newer : FoundPage → Option FoundPage → Bool
is_newer e None = true
is_newer e (Some old) = nat_lt old.tag.number e.tag.number

-- what stands for a key after one page more
abbrev pub with_page : Option Fence → ℕ → Key → FoundPage → Option FoundPage → Option FoundPage
with_page fence kept k e old = if is_kept_page fence kept k e && is_newer e old then Some e else old

-- Keys with a lost page

-- one of the first n pages is of the key, and its number is lost
abbrev pub IsLostAmong : List FoundPage → ℕ → ℕ → Key → Type 0
IsLostAmong pages n low k =
    (i : ℕ) × (e : FoundPage) × (i < n) × (slice_get pages i ≡ Some e) × (key_of e.tag ≡ k) × (low ≤ e.tag.number)

-- the marked keys with an index below n, each once, in order
pub record AreMarked (s : Shape) (marked : List Bool) (n : ℕ) (keys : List Key) : Type 0 where
  pub ordered : (i j : ℕ) (a b : Key) → slice_get keys i ≡ Some a → slice_get keys j ≡ Some b → i < j → IsBefore a b
  pub marked_before : (i : ℕ) (k : Key) → slice_get keys i ≡ Some k →
      (x : ℕ) × (x < n) × IsIndex s k x × (slice_get marked x ≡ Some true)
  pub all : (k : Key) (x : ℕ) → x < n → IsIndex s k x → slice_get marked x ≡ Some true →
      (i : ℕ) × (slice_get keys i ≡ Some k)

-- Blocks

-- the state that a block has in an opened translation layer
abbrev pub state_of_found : FoundBlock → BlockState
state_of_found Free = disk.Free
state_of_found Stale = disk.Free
state_of_found Closed = disk.Closed
state_of_found Bad = disk.Bad

-- what a block is by whether it is free, whether a page of it opens, and whether its die says that it is bad
abbrev pub found_block : Bool → Bool → Bool → FoundBlock
found_block free opens true = Bad
found_block true true false = Stale
found_block true false false = Free
found_block false opens false = Closed
