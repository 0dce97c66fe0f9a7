-- What an array of pages stands for. All of it is said of cells, with the newest mark: which pages count, which
-- groups are whole, up to which number all is kept, and the content of each key (this profile).
use Rattle.std.specs.Prelude.{◌≡◌, ◌⊎◌, ℕ, suc, ◌<◌, ◌≤◌, List, Option, Some, None}
use Rattle.ufs_spec.specs.Cells.{Array, Cells, GroupPage, Mark, MarkPage, Shows, key_of}
use Rattle.ufs_spec.specs.Keys.{Contents, IsKey, content, IsPlain}
use Rattle.ufs_spec.specs.Plain.{Plain, shape_of, shape_of_numbers, zero_block}
use Rattle.ufs_spec.specs.declared.configs.Numbers.{Numbers}
use Rattle.ufs_spec.specs.declared.flash.Fence.{Fence}
use Rattle.ufs_spec.specs.declared.flash.Key.{Key}
use Rattle.ufs_spec.specs.declared.flash.Place.{Place}
use Rattle.ufs_spec.specs.declared.flash.Tag.{Tag}

-- The newest mark

-- this mark is there, and no mark has a greater number; `None` says that no mark is there
abbrev pub IsNewestMark : Cells → Option Mark → Type 0
IsNewestMark c None = (p : Place) (m : Mark) → c p ≡ MarkPage m → ⊥
IsNewestMark c (Some newest) =
    ((p : Place) × (c p ≡ MarkPage newest)) × ((p : Place) (m : Mark) → c p ≡ MarkPage m → m.number ≤ newest.number)

-- the fence of a mark; none without a mark. Only the newest mark's fence is heeded
abbrev pub fence_in : Option Mark → Option Fence
fence_in None = None
fence_in (Some m) = m.fence

-- the frontier that a mark records; 0 without a mark
abbrev pub recorded_in : Option Mark → ℕ
recorded_in None = 0
recorded_in (Some m) = m.records

-- the number lies within the fence, both ends included; without a fence none does
abbrev pub IsFenced : Option Fence → ℕ → Type 0
IsFenced None n = ⊥
IsFenced (Some f) n = (f.first ≤ n) × (n ≤ f.last)

-- Pages that count

-- the page of a group there counts: its number is not within the newest mark's fence. Every mark counts
pub record Counts (c : Cells) (m : Option Mark) (p : Place) (t : Tag) (body : List ℕ) : Type 0 where
  pub there : c p ≡ GroupPage t body
  pub free : IsFenced (fence_in m) t.number → ⊥

-- this is the greatest frontier that a page which counts records, marks included; 0 if there is none. Each group at
-- or under it was durable or fenced when that page was handed to its die
pub record IsRecorded (c : Cells) (m : Option Mark) (r : ℕ) : Type 0 where
  pub pages : (p : Place) (t : Tag) (body : List ℕ) → Counts c m p t body → t.frontier ≤ r
  pub marks : (p : Place) (other : Mark) → c p ≡ MarkPage other → other.records ≤ r
  -- something that counts records it, unless it is 0
  pub reached : (r ≡ 0)
      ⊎ (((p : Place) × (t : Tag) × (body : List ℕ) × Counts c m p t body × (t.frontier ≡ r))
      ⊎ ((p : Place) × (other : Mark) × (c p ≡ MarkPage other) × (other.records ≡ r)))

-- Kept groups

-- a page of the group with this number and index is there, whether it counts or not
abbrev pub HasPage : Cells → ℕ → ℕ → Type 0
HasPage c n i = (p : Place) × (t : Tag) × (body : List ℕ) × (c p ≡ GroupPage t body) × (t.number ≡ n) × (t.index ≡ i)

-- the group is whole: all its pages that are there say one size, and one with each index below that size is there
pub record IsWhole (c : Cells) (n : ℕ) : Type 0 where
  pub size : ℕ
  pub some : 0 < size
  pub one_size : (p : Place) (t : Tag) (body : List ℕ) → c p ≡ GroupPage t body → t.number ≡ n → t.size ≡ size
  pub each : (i : ℕ) → i < size → HasPage c n i

-- the kept number: from the greatest recorded frontier on, the last at or under which each group is whole. It stops
-- at the first group that is not, whatever comes after it, so that no write is kept without the writes before it
pub record IsKept (c : Cells) (m : Option Mark) (k : ℕ) : Type 0 where
  -- the greatest recorded frontier: what is at or under it need not be whole, since
  -- later pages may have replaced it
  pub from : ℕ
  pub recorded : IsRecorded c m from
  pub above : from ≤ k
  pub whole : (n : ℕ) → from < n → n ≤ k → IsWhole c n
  -- the next group is not whole
  pub stops : IsWhole c (suc k) → ⊥

-- Contents

-- of the pages of the key that count and have a number below the bound, the one there has the greatest number
pub record IsNewest (c : Cells) (m : Option Mark) (bound : ℕ) (k : Key) (p : Place) (t : Tag) (body : List ℕ) : Type 0
  where
    pub counts : Counts c m p t body
    pub key : key_of t ≡ k
    pub within : t.number < bound
    pub greatest : (q : Place) (u : Tag) (other : List ℕ) → Counts c m q u other → key_of u ≡ k → u.number < bound →
        u.number ≤ t.number

-- no page of the key counts and has a number below the bound
abbrev pub HasNone : Cells → Option Mark → ℕ → Key → Type 0
HasNone c m bound k = (p : Place) (t : Tag) (body : List ℕ) → Counts c m p t body → key_of t ≡ k → bound ≤ t.number

-- the content of the key below the bound: that of its newest page, or zeros if there is none
abbrev pub Holds : Cells → Option Mark → ℕ → Key → List ℕ → Type 0
Holds c m bound k x =
    ((p : Place) × (t : Tag) × IsNewest c m bound k p t x)
    ⊎ (HasNone c m bound k × (x ≡ zero_block))

-- the content of each key of the configuration that the cells hold up to the kept number;
-- pages above it do not show
abbrev pub HoldAll : Numbers → Cells → Option Mark → ℕ → Contents → Type 0
HoldAll n c m kept f = (k : Key) → IsKey (shape_of_numbers n) k → Holds c m (suc kept) k (f k)

-- the plain state that cells stand for: that whose keys have the contents that the cells hold up to the kept number
pub record CellsStandFor (n : Numbers) (c : Cells) (p : Plain) : Type 0 where
  pub newest : Option Mark
  pub is_newest : IsNewestMark c newest
  pub kept : ℕ
  pub is_kept : IsKept c newest kept
  pub shape : shape_of p ≡ shape_of_numbers n
  pub plain : IsPlain p
  pub holds : HoldAll n c newest kept (content p)

-- the plain state that an array stands for, as its cells do
abbrev pub StandsFor : Numbers → Array → Plain → Type 0
StandsFor n array p = (c : Cells) × Shows array c × CellsStandFor n c p
