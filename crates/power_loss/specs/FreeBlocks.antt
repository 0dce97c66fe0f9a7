-- Which blocks are free when a life begins, as they are found: the older block first.
use Rattle.std.specs.Prelude.{◌≡◌, ◌≢◌, ◌⊎◌, ◌<◌, Bool, true, false, List, ℕ, Option, Some, None}
use Rattle.ufs_spec.specs.Cells.{Cell, Cells, GroupPage, Mark, MarkPage, Nothing}
use Rattle.ufs_spec.specs.Disk.{BlockState, Bad, Closed, Free, Spot, spot_of}
use Rattle.ufs_spec.specs.Kept.{IsFenced}
use Rattle.ufs_spec.specs.Openings.{HasName, IsOlder, Overwrites}
use Rattle.ufs_spec.specs.Translation.{name_of}
use Rattle.ufs_spec.specs.declared.flash.Place.{Place}
use Rattle.ufs_spec.specs.declared.flash.Tag.{Tag}

-- a copy of the page lies outside of these blocks: a page of the same number and index. The tags alone say so, over any
-- cells; over sound cells such pages are equal in all but what they record
abbrev pub HasCopyOutside : Cells → (Spot → Type 0) → Tag → Type 0
HasCopyOutside c blocks t = (q : Place) × HasName c (name_of t) q × (blocks (spot_of q) → ⊥)

-- a page overwrites it, wherever that one lies
abbrev pub IsOverwrittenIn : Cells → Mark → Tag → Type 0
IsOverwrittenIn c m t = (q : Place) × (u : Tag) × (other : List ℕ) × (c q ≡ GroupPage u other) × Overwrites m u t

-- the page need not be kept in these blocks: it is a mark that is older than the newest, or shut out by the newest
-- mark's fence, or overwritten, or has a copy outside of them. Without a mark each page has to be kept
abbrev pub MayGoWith : Cells → Option Mark → (Spot → Type 0) → Cell → Type 0
MayGoWith c None blocks cell = ⊥
MayGoWith c (Some m) blocks Nothing = ⊥
MayGoWith c (Some m) blocks (GroupPage t body) =
    IsFenced m.fence t.number ⊎ (IsOverwrittenIn c m t ⊎ HasCopyOutside c blocks t)
MayGoWith c (Some m) blocks (MarkPage other) = other.number < m.number

-- the block itself, and those that were found free before it
abbrev pub IsItOrFoundFree : Cells → (Spot → Bool) → Spot → Spot → Type 0
IsItOrFoundFree c free s other = (other ≡ s) ⊎ ((free other ≡ true) × IsOlder c other s)

-- which blocks are found free, the older ones first: those that are not bad and of which no page has to be kept
pub record AreFoundFree (c : Cells) (m : Option Mark) (bad free : Spot → Bool) : Type 0 where
  pub good : (s : Spot) → free s ≡ true → bad s ≡ false
  pub goes : (s : Spot) → free s ≡ true → (p : Place) → spot_of p ≡ s → c p ≢ Nothing →
      MayGoWith c m (IsItOrFoundFree c free s) (c p)
  pub stays : (s : Spot) → bad s ≡ false → free s ≡ false →
      (p : Place) × (spot_of p ≡ s) × (c p ≢ Nothing) × (MayGoWith c m (IsItOrFoundFree c free s) (c p) → ⊥)

-- what a block is by whether it is bad and whether it is found free
abbrev pub block_by : Bool → Bool → BlockState
block_by true free = Bad
block_by false true = Free
block_by false false = Closed

-- what each block is, by which are bad and which are free
abbrev pub blocks_by : (Spot → Bool) → (Spot → Bool) → Spot → BlockState
blocks_by bad free s = block_by (bad s) (free s)
