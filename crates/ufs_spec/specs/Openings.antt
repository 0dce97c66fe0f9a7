-- What the translation layer is when a life begins over an array: a relation, since it is read
-- off the whole array (this profile).
use Rattle.std.specs.Prelude.{◌≡◌, ◌≢◌, ◌⊎◌, ℕ, suc, ◌<◌, ◌≤◌, Bool, true, false, List, [], Option, Some, None}
use Rattle.std.specs.Prelude.{slice_get}
use Rattle.ufs_spec.specs.Cells.{Cell, Cells, GroupPage, Mark, MarkPage, Nothing, key_of}
use Rattle.ufs_spec.specs.Configs.{marked}
use Rattle.ufs_spec.specs.Disk.{BlockState, Bad, Closed, Disk, Free, Ready, Spot, Stale, Untouched, Vacancy, spot_of}
use Rattle.ufs_spec.specs.Keys.{IsKey}
use Rattle.ufs_spec.specs.Kept.{HasNone, HoldAll, IsFenced, IsKept, IsNewest, IsNewestMark, fence_in}
use Rattle.ufs_spec.specs.Ledger.{Entry, Ledger}
use Rattle.ufs_spec.specs.Plain.{shape_of_numbers}
use Rattle.ufs_spec.specs.Sound.{CellsSuit, SamePage}
use Rattle.ufs_spec.specs.Translation.{Mended, Mending, Translation, Unmarked, is_free, name_of}
use Rattle.ufs_spec.specs.declared.configs.Numbers.{Numbers}
use Rattle.ufs_spec.specs.declared.flash.Fence.{Fence}
use Rattle.ufs_spec.specs.declared.flash.Key.{Key}
use Rattle.ufs_spec.specs.declared.flash.Place.{Place}
use Rattle.ufs_spec.specs.declared.flash.Tag.{Tag}
use Rattle.ufs_spec.specs.declared.layer.Name.{Name}

-- Numbers seen

-- no number seen is above it: that of a group's page, whether it counts or not, a recorded frontier, or the last
-- number of the newest mark's fence
pub record IsAtMost (c : Cells) (m : Option Mark) (top : ℕ) : Type 0 where
  pub numbers : (p : Place) (t : Tag) (body : List ℕ) → c p ≡ GroupPage t body → t.number ≤ top
  pub frontiers : (p : Place) (t : Tag) (body : List ℕ) → c p ≡ GroupPage t body → t.frontier ≤ top
  pub marks : (p : Place) (other : Mark) → c p ≡ MarkPage other → other.records ≤ top
  pub fence : (f : Fence) → fence_in m ≡ Some f → f.last ≤ top

-- the greatest number seen; the groups of this life are numbered from the one after it on
abbrev pub IsGreatestSeen : Cells → Option Mark → ℕ → Type 0
IsGreatestSeen c m top = IsAtMost c m top × ((other : ℕ) → IsAtMost c m other → top ≤ other)

-- the first lost number: that of the old fence, since what it shut out must stay out, else the one after the kept
-- number. All from it to the greatest number seen is lost
abbrev pub lost_from : Option Fence → ℕ → ℕ
lost_from None kept = suc kept
lost_from (Some f) kept = f.first

-- Keys in order

-- the order of keys: by kind, then by unit, then by address
abbrev pub IsBefore : Key → Key → Type 0
IsBefore j k =
    (j.kind < k.kind)
    ⊎ (((j.kind ≡ k.kind) × (j.unit < k.unit))
    ⊎ ((j.kind ≡ k.kind) × (j.unit ≡ k.unit) × (j.address < k.address)))

-- the key has a lost page: one that opens, with a lost number
abbrev pub IsLost : Cells → ℕ → ℕ → Key → Type 0
IsLost c low top k =
    (p : Place) × (t : Tag) × (body : List ℕ)
    × (c p ≡ GroupPage t body) × (key_of t ≡ k) × (low ≤ t.number) × (t.number ≤ top)

-- the keys with a lost page, each once, in order
pub record AreLost (c : Cells) (low top : ℕ) (keys : List Key) : Type 0 where
  pub ordered : (i j : ℕ) (a b : Key) → slice_get keys i ≡ Some a → slice_get keys j ≡ Some b → i < j → IsBefore a b
  pub lost : (i : ℕ) (k : Key) → slice_get keys i ≡ Some k → IsLost c low top k
  pub all : (k : Key) → IsLost c low top k → (i : ℕ) × (slice_get keys i ≡ Some k)

-- Pages by name

-- the order of places: p is no later than q by die, then by block, then by page
abbrev pub IsNotHigher : Place → Place → Type 0
IsNotHigher p q =
    (p.die < q.die)
    ⊎ (((p.die ≡ q.die) × (p.block < q.block))
    ⊎ ((p.die ≡ q.die) × (p.block ≡ q.block) × (p.page ≤ q.page)))

-- a page with this number and index is there
abbrev pub HasName : Cells → Name → Place → Type 0
HasName c name p = (t : Tag) × (body : List ℕ) × (c p ≡ GroupPage t body) × (name_of t ≡ name)

-- of two places of one page the first is taken before the second: it lies outside the free blocks and the second in
-- one, or both do or neither does, and it is not higher
abbrev pub IsTakenBefore : (Spot → BlockState) → Place → Place → Type 0
IsTakenBefore blocks p q =
    ((blocks (spot_of p) ≢ Free) × (blocks (spot_of q) ≡ Free))
    ⊎ ((is_free (blocks (spot_of p)) ≡ is_free (blocks (spot_of q))) × IsNotHigher p q)

-- where the page of this name is taken to be: at the lowest of the places outside the free blocks that hold it, at the
-- lowest of all if only free blocks do, and nowhere if none does
abbrev pub StandsAt : Cells → (Spot → BlockState) → Name → Option Place → Type 0
StandsAt c blocks name None = (p : Place) → HasName c name p → ⊥
StandsAt c blocks name (Some p) = HasName c name p × ((q : Place) → HasName c name q → IsTakenBefore blocks p q)

-- what the page of the name has; all pages of one name are copies of each other in a sound array
abbrev pub IsEntry : Cells → Name → Option Entry → Type 0
IsEntry c name None = (p : Place) → HasName c name p → ⊥
IsEntry c name (Some e) =
    (p : Place) × (t : Tag) × (c p ≡ GroupPage t e.item.body) × (name_of t ≡ name)
    × (e.item.key ≡ key_of t) × (e.size ≡ t.size)

-- the name of the page that has the key's kept content; none if no page has it, so that it is zeros
abbrev pub IsFirst : Cells → Option Mark → ℕ → Key → Option Name → Type 0
IsFirst c m kept k None = HasNone c m (suc kept) k
IsFirst c m kept k (Some name) =
    (p : Place) × (t : Tag) × (body : List ℕ) × IsNewest c m (suc kept) k p t body × (name_of t ≡ name)

-- Free blocks

-- the frontier that a page records
abbrev pub recorded_by : Cell → ℕ
recorded_by Nothing = 0
recorded_by (GroupPage t body) = t.frontier
recorded_by (MarkPage m) = m.records

-- the greatest frontier that a page of the block records, marks included; 0 if none records one
pub record IsLatestIn (c : Cells) (s : Spot) (latest : ℕ) : Type 0 where
  pub within : (p : Place) → spot_of p ≡ s → recorded_by (c p) ≤ latest
  pub reached : (latest ≡ 0) ⊎ ((p : Place) × (spot_of p ≡ s) × (recorded_by (c p) ≡ latest))

-- the order of blocks: by die, then by number
abbrev pub IsLowerSpot : Spot → Spot → Type 0
IsLowerSpot a b = (a.die < b.die) ⊎ ((a.die ≡ b.die) × (a.block < b.block))

-- the first block is older than the second: what it records last is less, or as much and it is lower
abbrev pub IsOlder : Cells → Spot → Spot → Type 0
IsOlder c a b =
    (x y : ℕ) × IsLatestIn c a x × IsLatestIn c b y × ((x < y) ⊎ ((x ≡ y) × IsLowerSpot a b))

-- by the newest mark, a page with the first tag overwrites one with the second: it is of the same key, newer, counts,
-- and is at or under the frontier that the mark records
pub record Overwrites (m : Mark) (u t : Tag) : Type 0 where
  pub key : key_of u ≡ key_of t
  pub newer : t.number < u.number
  pub recorded : u.number ≤ m.records
  pub counts : IsFenced m.fence u.number → ⊥

-- a page outside of these blocks stands in for the page: a copy of it, or one that overwrites it
pub record HasStandIn (c : Cells) (m : Mark) (blocks : Spot → Type 0) (t : Tag) (body : List ℕ) : Type 0 where
  pub place : Place
  pub tag : Tag
  pub other : List ℕ
  pub there : c place ≡ GroupPage tag other
  pub outside : blocks (spot_of place) → ⊥
  pub instead : SamePage t body tag other ⊎ Overwrites m tag t

-- the page may go together with all of these blocks: a mark that is older than the newest, a page that is shut out by
-- the newest mark's fence, or one that has a stand-in outside of them. Without a mark nothing may go
abbrev pub IsSpare : Cells → Option Mark → (Spot → Type 0) → Cell → Type 0
IsSpare c None blocks cell = ⊥
IsSpare c (Some m) blocks Nothing = ⊥
IsSpare c (Some m) blocks (GroupPage t body) = IsFenced m.fence t.number ⊎ HasStandIn c m blocks t body
IsSpare c (Some m) blocks (MarkPage other) = other.number < m.number

-- the block is free when a life begins
abbrev pub IsFree : (Spot → BlockState) → Spot → Type 0
IsFree blocks s = blocks s ≡ Free

-- the block itself, and the free blocks that are older
abbrev pub IsItOrFreeBefore : Cells → (Spot → BlockState) → Spot → Spot → Type 0
IsItOrFreeBefore c blocks s other = (other ≡ s) ⊎ (IsFree blocks other × IsOlder c other s)

-- what each block is when a life begins. A block is bad if a job of it failed in an earlier life. Of the others a set
-- is free, and the rest are closed, so that no block that an earlier life began is filled further
pub record AreFirstBlocks (c : Cells) (m : Option Mark) (bad : Spot → Bool) (blocks : Spot → BlockState) : Type 0 where
  pub were_bad : (s : Spot) → bad s ≡ true → blocks s ≡ Bad
  pub were_good : (s : Spot) → bad s ≡ false → (blocks s ≡ Free) ⊎ (blocks s ≡ Closed)
  -- all free blocks may go together: each of their pages that is something is spare
  pub spare : (p : Place) → IsFree blocks (spot_of p) → c p ≢ Nothing → IsSpare c m (IsFree blocks) (c p)
  -- of such sets the one is taken in which the older block goes first: a block is closed only if one of its pages is
  -- not spare beside it and the free blocks that are older
  pub oldest_first : (s : Spot) → blocks s ≡ Closed →
      (p : Place) × (spot_of p ≡ s) × (c p ≢ Nothing) × (IsSpare c m (IsItOrFreeBefore c blocks s) (c p) → ⊥)

-- Mending

-- the fence of the first mark: over all that is lost; none if nothing is lost and there was no fence
abbrev pub IsFirstFence : Option Mark → ℕ → ℕ → Option Fence → Type 0
IsFirstFence m low top None = (fence_in m ≡ None) × (top < low)
IsFirstFence m low top (Some f) = (f.first ≡ low) × (f.last ≡ top) × (low ≤ top)

-- there is a mark, and the newest has these numbers
abbrev pub HasNumbers : Numbers → Option Mark → Type 0
HasNumbers n None = ⊥
HasNumbers n (Some m) = m.numbers ≡ marked n

-- the device is mended at once if there is a mark, the newest has its numbers and no fence, and nothing is lost
abbrev pub MayBeMended : Numbers → Option Mark → ℕ → ℕ → Type 0
MayBeMended n m low top = HasNumbers n m × (fence_in m ≡ None) × (top < low)

-- how far the mending is when a life begins: it is over at once, or it is before its first mark, with the fence and
-- the keys with a lost page
abbrev pub IsMendingAt : Numbers → Cells → Option Mark → ℕ → ℕ → Mending → Type 0
IsMendingAt n c m low top Mended = MayBeMended n m low top
IsMendingAt n c m low top (Unmarked fence lost) =
    (MayBeMended n m low top → ⊥) × IsFirstFence m low top fence × AreLost c low top lost
IsMendingAt n c m low top mending = ⊥

-- The opening

-- the number of a mark; 0 without one
abbrev pub number_of : Option Mark → ℕ
number_of None = 0
number_of (Some m) = m.number

-- what is in a block when a life begins, free or not: no page that opens, or one at least
abbrev pub IsVacancyAt : Cells → Spot → Vacancy → Type 0
IsVacancyAt c s Untouched = (p : Place) → spot_of p ≡ s → c p ≡ Nothing
IsVacancyAt c s Stale = (p : Place) × (spot_of p ≡ s) × (c p ≢ Nothing)
IsVacancyAt c s Ready = ⊥

-- what is known of the dies: all that is there is finished, and no job is in flight
pub record IsOpenedDisk (c : Cells) (m : Option Mark) (bad : Spot → Bool) (d : Disk) : Type 0 where
  pub cells : d.cells ≡ c
  pub finished : (p : Place) → d.finished p ≡ true
  pub blocks : AreFirstBlocks c m bad d.blocks
  pub vacancies : (s : Spot) → IsVacancyAt c s (d.vacancies s)
  pub idle : (die : ℕ) → d.flights die ≡ None
  pub none_erasing : (s : Spot) → d.erasing s ≡ false

-- what is known of numbers and contents: those of the array, with nothing of this life yet
pub record IsOpenedLedger (n : Numbers) (c : Cells) (blocks : Spot → BlockState) (l : Ledger) : Type 0 where
  pub newest : IsNewestMark c l.newest
  pub kept : ℕ
  pub is_kept : IsKept c l.newest kept
  pub holds : HoldAll n c l.newest kept l.base
  pub greatest_seen : IsGreatestSeen c l.newest l.greatest_seen
  pub first_lost : l.first_lost ≡ lost_from (fence_in l.newest) kept
  pub entries_before : (number index : ℕ) → IsEntry c (record { number = number; index = index })
      (l.entries_before number index)
  pub standing : (number index : ℕ) → StandsAt c blocks (record { number = number; index = index })
      (l.standing number index)
  pub first_page : (k : Key) → IsKey (shape_of_numbers n) k → IsFirst c l.newest kept k (l.first_page k)
  pub none_new : l.groups ≡ []
  pub none_repaired : l.repairs ≡ 0
  -- nothing is waited for: what was not kept is lost
  pub frontier : l.frontier ≡ l.greatest_seen
  pub marks : l.marks ≡ number_of l.newest
  pub none_held : l.held ≡ 0

-- a life begins: nothing is under way but the mending that is due
pub record IsOpenedTranslation (n : Numbers) (c : Cells) (bad : Spot → Bool) (t : Translation) : Type 0 where
  pub numbers : t.numbers ≡ n
  pub suits : CellsSuit n c t.ledger.newest
  pub disk : IsOpenedDisk c t.ledger.newest bad t.disk
  pub ledger : IsOpenedLedger n c t.disk.blocks t.ledger
  pub mending : IsMendingAt n c t.ledger.newest t.ledger.first_lost t.ledger.greatest_seen t.work.mending
  pub no_plan : t.work.plan ≡ None
  pub no_step : t.work.step ≡ None
  pub no_rests : t.work.rests ≡ []
  pub no_claims : t.claims ≡ 0
  pub no_pins : t.pins ≡ []
