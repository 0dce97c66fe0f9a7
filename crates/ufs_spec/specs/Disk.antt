-- What is known of the dies in one life: what their pages are, which programs have ended well, how far each block
-- is, the job of each die, and which blocks are being erased; what the endings of jobs and a stop make of them; and
-- which pages may go (this profile).
use Rattle.std.specs.Prelude.{◌≡◌, ◌≢◌, ◌⊎◌, ℕ, ◌+◌, ◌<◌, ◌≤◌, ◌==◌, ◌&&◌, Bool, true, false, if◌then◌else◌, List}
use Rattle.std.specs.Prelude.{Option, Some, None}
use Rattle.ufs_spec.specs.Cells.{Array, Cell, Cells, GroupPage, Mark, MarkPage, Nothing, key_of, mark_tag, same_place}
use Rattle.ufs_spec.specs.Dies.{blank_page}
use Rattle.ufs_spec.specs.Kept.{IsFenced}
use Rattle.ufs_spec.specs.Pages.{MayBeLeft, mark_bytes, seal_page}
use Rattle.ufs_spec.specs.Sound.{SamePage}
use Rattle.ufs_spec.specs.declared.flash.Job.{Job}
use Rattle.ufs_spec.specs.declared.flash.Job.TheVariants as job
use Rattle.ufs_spec.specs.declared.flash.Page.{Page}
use Rattle.ufs_spec.specs.declared.flash.Place.{Place}
use Rattle.ufs_spec.specs.declared.flash.Tag.{Tag}
use Rattle.ufs_spec.specs.declared.layer.Reader.{Reader}

-- Blocks

-- a block of a die
pub record Spot : Type 0 where
  pub die : ℕ
  pub block : ℕ

-- the block in which the place lies
abbrev pub spot_of : Place → Spot
spot_of p = record { die = p.die; block = p.block }

-- compares two blocks by die and number
abbrev pub same_spot : Spot → Spot → Bool
same_spot a b = (a.die == b.die) && (a.block == b.block)

-- a page of the block
abbrev pub place_in : Spot → ℕ → Place
place_in s page = record { die = s.die; block = s.block; page = page }

-- how far a block is in this life
pub data BlockState : Type 0 where
  -- nothing in it is needed: it may be erased
  Free : BlockState
  -- it was erased in this life, a program into it was handed out since, and this page of it is programmed next
  Filling : (next : ℕ) → BlockState
  -- it is full, or something in it was needed at the life's start
  Closed : BlockState
  -- one of its jobs failed, in this life or before
  Bad : BlockState

-- what is in a free block
pub data Vacancy : Type 0 where
  -- nothing that opens, as at the life's start: it is erased right before it is filled
  Untouched : Vacancy
  -- pages that open, none of which is needed: it is erased before any step is ordered, since what is not needed beside
  -- the pages of this moment may be needed beside those of a later one
  Stale : Vacancy
  -- nothing: it was erased in this life, and may be filled at once
  Ready : Vacancy

-- Jobs

-- what a die does: it reads a page, programs a page so that it becomes this cell, or erases a block
pub data Flight : Type 0 where
  Reading : (reader : Reader) → (place : Place) → Flight
  Programming : (place : Place) → (cell : Cell) → Flight
  Erasing : (spot : Spot) → Flight

-- the page that is programmed for a cell, and that opens to it
abbrev pub page_of : Cell → Page
page_of Nothing = blank_page
page_of (GroupPage tag body) = seal_page tag body
page_of (MarkPage m) = seal_page (mark_tag m) (mark_bytes m.numbers m.fence)

-- what the die is told: places and bytes, and no word of the reader
abbrev pub job_of : Flight → Job
job_of (Reading reader place) = job.Read place
job_of (Programming place cell) = job.Program place (page_of cell)
job_of (Erasing spot) = job.Erase spot.die spot.block

-- what one life knows of its dies
pub record Disk : Type 0 where
  -- what each page is
  pub cells : Cells
  -- whether the page was there at the life's start or its program has ended well
  pub finished : Place → Bool
  -- how far each block is
  pub blocks : Spot → BlockState
  -- what is in each free block; of the others it says nothing
  pub vacancies : Spot → Vacancy
  -- the job of each die
  pub flights : ℕ → Option Flight
  -- whether an erase of the block is in flight, or has failed in this life
  pub erasing : Spot → Bool

-- One value more

-- the function with one value changed: that of this place
abbrev pub at_place : {A : Type 0} → (Place → A) → Place → A → Place → A
at_place f p x q = if same_place q p then x else f q

-- the function with one value changed: that of this block
abbrev pub at_spot : {A : Type 0} → (Spot → A) → Spot → A → Spot → A
at_spot f s x t = if same_spot t s then x else f t

-- the function with one value changed: that of this die
abbrev pub at_die : {A : Type 0} → (ℕ → A) → ℕ → A → ℕ → A
at_die f d x e = if e == d then x else f e

-- What becomes of the dies

-- which blocks are being erased once this job is given: an erase counts from the moment at which it is handed out
abbrev pub erasing_begun : Disk → Flight → Spot → Bool
erasing_begun d (Erasing s) = at_spot d.erasing s true
erasing_begun d _ = d.erasing

-- how far each block is once this job is given: a block is being filled from the moment at which a program into it is
-- handed out
abbrev pub blocks_begun : Disk → Flight → Spot → BlockState
blocks_begun d (Programming p cell) = at_spot d.blocks (spot_of p) (Filling p.page)
blocks_begun d _ = d.blocks

-- the die has this job from now on
abbrev pub job_begun : Disk → ℕ → Flight → Disk
job_begun d die flight =
    record d {
      flights = at_die d.flights die (Some flight);
      blocks = blocks_begun d flight;
      erasing = erasing_begun d flight;
    }

-- the die has no job any more
abbrev pub ended : Disk → ℕ → Disk
ended d die = record d { flights = at_die d.flights die None }

-- what a block is after the program of this page: closed if that was its last
abbrev pub state_after : ℕ → ℕ → BlockState
state_after pages page = if page + 1 == pages then Closed else Filling (page + 1)

-- a program ended well, in blocks of so many pages: the page is what was intended, and is finished
abbrev pub programmed : ℕ → Disk → Place → Cell → Disk
programmed pages d p cell =
    record (ended d p.die) {
      cells = at_place d.cells p cell;
      finished = at_place d.finished p true;
      blocks = at_spot d.blocks (spot_of p) (state_after pages p.page);
    }

-- an erase ended well: each page of the block is nothing, it may be filled at once, and it no longer counts as being
-- erased
abbrev pub erased : Disk → Spot → Disk
erased d s =
    record (ended d s.die) {
      cells = λ p. if same_spot (spot_of p) s then Nothing else d.cells p;
      vacancies = at_spot d.vacancies s Ready;
      erasing = at_spot d.erasing s false;
    }

-- a program failed, and left these cells: its page is not finished and the block is bad
abbrev pub program_failed : Disk → Place → Cells → Disk
program_failed d p left =
    record (ended d p.die) {
      cells = left;
      finished = at_place d.finished p false;
      blocks = at_spot d.blocks (spot_of p) Bad;
    }

-- an erase failed, and left these cells: the block is bad, and counts as being erased for the rest of the life, so
-- that no page in it lets another page go
abbrev pub erase_failed : Disk → Spot → Cells → Disk
erase_failed d s left = record (ended d s.die) { cells = left; blocks = at_spot d.blocks s Bad }

-- What an interruption may leave

-- the job touches the page there, which is to become this cell: a program touches its own page, an erase each page
-- of its block, which is to become `Nothing`, and a read none
abbrev pub Touches : Option Flight → Place → Cell → Type 0
Touches (Some (Programming q cell)) p intended = (q ≡ p) × (intended ≡ cell)
Touches (Some (Erasing s)) p intended = (s ≡ spot_of p) × (intended ≡ Nothing)
Touches _ p intended = ⊥

-- what an interruption may leave of an array. Pages outside the jobs in flight are unchanged; a page that a job
-- touches has its old content, the intended one, or a check that fails
abbrev pub Crash : Array → (ℕ → Option Flight) → Array → Type 0
Crash array flights left = (p : Place) →
    (left p ≡ array p)
    ⊎ ((intended : Cell) × Touches (flights p.die) p intended × MayBeLeft (array p) (page_of intended) (left p))

-- the same of cells: a page that a job touches is what it was, what was intended, or `Nothing`
abbrev pub CellCrash : Cells → (ℕ → Option Flight) → Cells → Type 0
CellCrash cells flights left = (p : Place) →
    (left p ≡ cells p)
    ⊎ ((intended : Cell) × Touches (flights p.die) p intended × ((left p ≡ intended) ⊎ (left p ≡ Nothing)))

-- the job of one die alone: a failed job leaves what an interruption of only that job may
abbrev pub flight_alone : (ℕ → Option Flight) → ℕ → ℕ → Option Flight
flight_alone flights die other = if other == die then flights other else None

-- Pages that may go

-- the mark is at a place that is finished and outside every block being erased
pub record Stands (d : Disk) (m : Mark) : Type 0 where
  pub place : Place
  pub there : d.cells place ≡ MarkPage m
  pub finished : d.finished place ≡ true
  pub stays : d.erasing (spot_of place) ≡ false

-- the mark stands so, and no finished mark has a greater number, wherever that one lies. So while the newest
-- finished mark is itself being erased there is none, and nothing may go. An older mark would not do: it may be
-- erased at any time, and then the greatest recorded frontier could fall below a group that has lost pages
pub record IsNewestFinished (d : Disk) (m : Mark) : Type 0 where
  pub stands : Stands d m
  pub newest : (p : Place) (other : Mark) → d.cells p ≡ MarkPage other → d.finished p ≡ true → other.number ≤ m.number

-- a finished copy of the page lies outside every block being erased
pub record HasCopy (d : Disk) (t : Tag) (body : List ℕ) : Type 0 where
  pub place : Place
  pub tag : Tag
  pub there : d.cells place ≡ GroupPage tag body
  pub same : SamePage t body tag body
  pub finished : d.finished place ≡ true
  pub stays : d.erasing (spot_of place) ≡ false

-- a page of its key, wherever it lies, has a greater number that is outside the mark's fence and at or under
-- the frontier that the mark records
pub record IsReplaced (d : Disk) (m : Mark) (t : Tag) : Type 0 where
  pub place : Place
  pub tag : Tag
  pub body : List ℕ
  pub there : d.cells place ≡ GroupPage tag body
  pub counts : IsFenced m.fence tag.number → ⊥
  pub key : key_of tag ≡ key_of t
  pub newer : t.number < tag.number
  pub recorded : tag.number ≤ m.records

-- by this mark, the newest finished one, the page may go: its number is in the mark's fence, or it has a copy, or
-- it is replaced. A mark may go if it is older
abbrev pub SpentBy : Disk → Mark → Cell → Type 0
SpentBy d m Nothing = ⊥
SpentBy d m (GroupPage t body) = IsFenced m.fence t.number ⊎ (HasCopy d t body ⊎ IsReplaced d m t)
SpentBy d m (MarkPage other) = other.number < m.number

-- the dies with this block counted as being erased
abbrev pub with_erasing : Disk → Spot → Disk
with_erasing d s = record d { erasing = at_spot d.erasing s true }

-- the page there may go, even with its whole block: its own block counts as being erased, so it is not its own copy
abbrev pub Spent : Disk → Place → Type 0
Spent d p =
    (m : Mark) × IsNewestFinished (with_erasing d (spot_of p)) m × SpentBy (with_erasing d (spot_of p)) m (d.cells p)

-- the block may be erased: each page in it that is something may go
abbrev pub MayErase : Disk → Spot → Type 0
MayErase d s = (p : Place) → spot_of p ≡ s → d.cells p ≢ Nothing → Spent d p
