-- What a reading of all pages writes down (this profile).
use Rattle.std.specs.Prelude.{◌≡◌, ◌⊎◌, ℕ, ◌+◌, ◌<◌, ◌≤◌, List, [], ◌∷◌, ◌++◌, Option, Some}
use Rattle.std.specs.Prelude.{None, if◌then◌else◌, nat_lt, option_map, slice_get, slice_index_or}
use Rattle.ufs_spec.specs.Cells.{Cell, Cells, GroupPage, IsCell, Mark, MarkPage, Nothing}
use Rattle.ufs_spec.specs.Dies.{DieState, page_at}
use Rattle.ufs_spec.specs.Kept.{IsNewestMark}
use Rattle.ufs_spec.specs.declared.configs.Numbers.{Numbers}
use Rattle.ufs_spec.specs.declared.faults.OpenFault.{OpenFault}
use Rattle.ufs_spec.specs.declared.faults.OpenFault.TheVariants as fault
use Rattle.ufs_spec.specs.declared.flash.Place.{Place}
use Rattle.page_tag.specs.Contents.{mark_of}
use Rattle.recovery.specs.Listed.{AreListed, AreMarksListed, IsMarksRecord}
use Rattle.recovery.specs.declared.pages.FoundMark.{FoundMark}
use Rattle.recovery.specs.declared.pages.FoundPage.{FoundPage}
use Rattle.recovery.specs.declared.reading.Table.{Table}

-- a page by the numbers of its die, its block and itself
abbrev pub place_at : ℕ → ℕ → ℕ → Place
place_at die block page = record { die = die; block = block; page = page }

-- ## Tables

-- the newest mark of the table, as one of the cells
abbrev pub newest_in : Table → Option Mark
newest_in t = option_map mark_of t.newest

-- what is read off the cells: their pages of groups, their marks, the newest of these, and the greatest frontier that
-- one records
pub record IsTable (n : Numbers) (c : Cells) (t : Table) : Type 0 where
  pub pages : AreListed c t.pages.items
  pub newest : IsNewestMark c (newest_in t)
  pub recorded : IsMarksRecord c t.recorded
  pub marks : AreMarksListed c t.marks.items

-- ## Reading page by page

-- the place stands before this page in the order by die, then by block, then by page
abbrev pub StandsBefore : ℕ → ℕ → ℕ → Place → Type 0
StandsBefore die block page p =
    (p.die < die)
    ⊎ (((p.die ≡ die) × (p.block < block))
    ⊎ ((p.die ≡ die) × (p.block ≡ block) × (p.page < page)))

-- the cells of the pages before this one, and nothing else
pub record AreRead (die block page : ℕ) (c seen : Cells) : Type 0 where
  pub read : (p : Place) → StandsBefore die block page p → seen p ≡ c p
  pub unread : (p : Place) → (StandsBefore die block page p → ⊥) → seen p ≡ Nothing

-- the table of the pages before this one
pub record IsTableTo (n : Numbers) (die block page : ℕ) (c : Cells) (t : Table) : Type 0 where
  pub seen : Cells
  pub are_read : AreRead die block page c seen
  pub pages : AreListed seen t.pages.items
  pub newest : IsNewestMark seen (newest_in t)
  pub recorded : IsMarksRecord seen t.recorded
  pub marks : AreMarksListed seen t.marks.items

-- what a page adds to the list of the pages of groups
abbrev pub listed : Place → Cell → List FoundPage
listed p Nothing = []
listed p (GroupPage tag body) = record { place = p; tag = tag } ∷ []
listed p (MarkPage m) = []

-- what a page adds to the list of marks
abbrev pub marked : Place → Cell → List FoundMark
marked p Nothing = []
marked p (GroupPage tag body) = []
marked p (MarkPage m) = record { place = p; number = m.number; records = m.records } ∷ []

-- the newer of two marks: the first unless the second has a greater number
abbrev pub newer : Option Mark → Mark → Mark
newer None m = m
newer (Some known) m = if nat_lt known.number m.number then m else known

-- the newest mark once this page was read too: only a mark can change it
abbrev pub newest_after : Cell → Option Mark → Option Mark
newest_after Nothing known = known
newest_after (GroupPage tag body) known = known
newest_after (MarkPage m) known = Some (newer known m)

-- the greatest frontier that a mark records, once this page was read too
abbrev pub recorded_after : Cell → ℕ → ℕ
recorded_after Nothing known = known
recorded_after (GroupPage tag body) known = known
recorded_after (MarkPage m) known = if nat_lt known m.records then m.records else known

-- the table with a page more
pub record IsNoted (p : Place) (x : Cell) (old new : Table) : Type 0 where
  pub pages : new.pages.items ≡ old.pages.items ++ listed p x
  pub newest : newest_in new ≡ newest_after x (newest_in old)
  pub recorded : new.recorded ≡ recorded_after x old.recorded
  pub marks : new.marks.items ≡ old.marks.items ++ marked p x

-- ## Die by die

-- the place lies on one of so many dies from the first on
abbrev pub LiesOn : ℕ → ℕ → Place → Type 0
LiesOn first count p = (first ≤ p.die) × (p.die < first + count)

-- the cells of these dies, and nothing else
pub record AreOfDies (first count : ℕ) (c seen : Cells) : Type 0 where
  pub inside : (p : Place) → LiesOn first count p → seen p ≡ c p
  pub outside : (p : Place) → (LiesOn first count p → ⊥) → seen p ≡ Nothing

-- the table of these dies: what was read off their cells alone
pub record IsTableOf (n : Numbers) (first count : ℕ) (c : Cells) (t : Table) : Type 0 where
  pub seen : Cells
  pub are_of : AreOfDies first count c seen
  pub pages : AreListed seen t.pages.items
  pub newest : IsNewestMark seen (newest_in t)
  pub recorded : IsMarksRecord seen t.recorded
  pub marks : AreMarksListed seen t.marks.items

-- the newer of two marks, if there are any: the first unless the second has a greater number
abbrev pub newer_of : Option Mark → Option Mark → Option Mark
newer_of known None = known
newer_of known (Some m) = Some (newer known m)

-- the greater of two recorded frontiers
abbrev pub greater_of : ℕ → ℕ → ℕ
greater_of one other = if nat_lt one other then other else one

-- the table of some dies with that of the dies behind them
pub record IsJoined (low high both : Table) : Type 0 where
  pub pages : both.pages.items ≡ low.pages.items ++ high.pages.items
  pub newest : newest_in both ≡ newer_of (newest_in low) (newest_in high)
  pub recorded : both.recorded ≡ greater_of low.recorded high.recorded
  pub marks : both.marks.items ≡ low.marks.items ++ high.marks.items

-- the cells are what the pages of the die with this number are
abbrev pub ShowsDie : ℕ → DieState → Cells → Type 0
ShowsDie number state c = (p : Place) → p.die ≡ number → IsCell (page_at state p.block p.page) (c p)

-- the cells are what the pages of these dies are, which have the numbers from the first one on
abbrev pub ShowsDies : ℕ → List DieState → Cells → Type 0
ShowsDies first states c =
    (i : ℕ) (state : DieState) → slice_get states i ≡ Some state → ShowsDie (first + i) state c

-- ## Failures

-- no count of failures is lower than it was
abbrev pub NoLower : List ℕ → List ℕ → Type 0
NoLower before after = (die : ℕ) → slice_index_or before die 0 ≤ slice_index_or after die 0

-- memory was refused, or the die of the place failed meanwhile
abbrev pub IsReadingFault : List ℕ → List ℕ → OpenFault → Type 0
IsReadingFault before after fault.NoMemory = Unit {0}
IsReadingFault before after (fault.ReadFault p) = slice_index_or before p.die 0 < slice_index_or after p.die 0
IsReadingFault before after fault.OtherConfig = ⊥

-- it tells the read of the page at this place, and the die failed meanwhile
abbrev pub IsPageFault : Place → ℕ → ℕ → OpenFault → Type 0
IsPageFault p before after e = (e ≡ fault.ReadFault p) × (before < after)

-- memory was refused, or the die of this block, that of the place, failed meanwhile
abbrev pub IsBlockFault : ℕ → ℕ → ℕ → ℕ → OpenFault → Type 0
IsBlockFault die block before after fault.NoMemory = Unit {0}
IsBlockFault die block before after (fault.ReadFault p) = (p.die ≡ die) × (p.block ≡ block) × (before < after)
IsBlockFault die block before after fault.OtherConfig = ⊥

-- memory was refused, or the die with this number, that of the place, failed meanwhile
abbrev pub IsDieFault : ℕ → ℕ → ℕ → OpenFault → Type 0
IsDieFault number before after fault.NoMemory = Unit {0}
IsDieFault number before after (fault.ReadFault p) = (p.die ≡ number) × (before < after)
IsDieFault number before after fault.OtherConfig = ⊥

-- memory was refused, or one of the dies from the first number on, that of the place, failed meanwhile
abbrev pub IsFaultOf : ℕ → List ℕ → List ℕ → OpenFault → Type 0
IsFaultOf first before after fault.NoMemory = Unit {0}
IsFaultOf first before after (fault.ReadFault p) =
    (i : ℕ) × (p.die ≡ first + i) × (slice_index_or before i 0 < slice_index_or after i 0)
IsFaultOf first before after fault.OtherConfig = ⊥
