-- What holds of a device with its dies between any two events of a life: the translation layer is valid, its cells are
-- what the pages show, and its groups are those of the accepted commands.
use Rattle.std.specs.Prelude.{◌≡◌, ◌⊎◌, ℕ, ◌+◌, ◌*◌, ◌<◌, ◌≤◌, ◌==◌, Bool, true, false, List, [], ◌∷◌, length}
use Rattle.std.specs.Prelude.{Option, Some, None, slice_index_or}
use Rattle.std.specs.List.{AllByRecursion, list_any}
use Rattle.ufs_spec.specs.Pages.{greatest_number, group_bound}
use Rattle.ufs_spec.specs.Cells.{Array, Cell, DataHold, IsCell, IsPlace, Opens, Shows}
use Rattle.ufs_spec.specs.Configs.{IsConfig, command_blocks}
use Rattle.ufs_spec.specs.Dies.{blank_page}
use Rattle.ufs_spec.specs.Disk.{Erasing, Programming, Spot, page_of}
use Rattle.ufs_spec.specs.Exchanges.{Answering, Awaiting, Comparing, Deed, Gathering}
use Rattle.ufs_spec.specs.declared.exchanges.Purpose.TheVariants.{ForFrames, ForUnmap, ForWrite}
use Rattle.ufs_spec.specs.Exchanges.{ReadingArea, Sending, SendingBytes, Short, Task, is_short_of}
use Rattle.ufs_spec.specs.Keys.{CanApplyAll, IsBlock, IsKey, IsPlain, IsSettingsBody, content, groups_of}
use Rattle.ufs_spec.specs.Ledger.{Entry, accepted_groups, before_accepted}
use Rattle.ufs_spec.specs.Machine.{Call, Done, Host, IsHeard, MayLeave, claimed_by, tag_in}
use Rattle.ufs_spec.specs.Messages.{AreBytes}
use Rattle.ufs_spec.specs.Plain.{HasRegion, shape_of, shape_of_numbers}
use Rattle.ufs_spec.specs.Refusals.{State, numbers_of, slots_for_frames}
use Rattle.ufs_spec.specs.Translation.{is_mended}
use Rattle.ufs_spec.specs.declared.configs.Numbers.{Numbers}
use Rattle.ufs_spec.specs.declared.flash.Place.{Place}
use Rattle.ufs_spec.specs.declared.flash.Tag.{Tag}
use Rattle.power_loss.specs.Book.{Book, IsPageAt, book, last_number}
use Rattle.power_loss.specs.Invariant.{Valid}
use Rattle.power_loss.specs.LaidRests.{RestsLaid}

-- Pages as they are sealed

-- what an entry may hold: a block, of the settings one in their ranges, in a group that its tag can say
pub record EntryFits (e : Entry) (index : ℕ) : Type 0 where
  pub block : IsBlock e.item.body
  pub settings : e.item.key.kind ≡ 3 → IsSettingsBody e.item.body
  pub size : e.size ≤ group_bound
  pub inside : index < e.size

-- each page of the book can be sealed: its entry and its number fit into a tag
pub record BookFits (b : Book) : Type 0 where
  pub entries : (n i : ℕ) (e : Entry) → IsPageAt b n i e → EntryFits e i × (1 ≤ n)
  pub last : last_number b ≤ greatest_number
  -- where numbers are lost, the last of them is a number
  pub lost : b.first_lost ≤ b.greatest_seen → 1 ≤ b.greatest_seen

-- Tasks

-- a WRITE that gathers its data lies within its unit, and has less than its blocks that are taken; it is there once the
-- device is mended alone, and has claimed a slot for each of these blocks
pub record WriteFits (n : Numbers) (mended : Bool) (unit address blocks : ℕ) (gathered : List ℕ)
    (claimed : ℕ) : Type 0 where
  pub unit_in : unit < length (shape_of_numbers n).blocks
  pub some : 1 ≤ blocks
  pub not_long : blocks ≤ command_blocks n
  pub within : address + blocks ≤ slice_index_or (shape_of_numbers n).blocks unit 0
  pub short : length gathered < 4096 * blocks
  pub bytes : AreBytes gathered
  pub claimed_is : claimed ≡ blocks
  pub is_mended : mended ≡ true

-- what waits for commands waits for no more than are accepted, and for none before the device is mended
abbrev pub AwaitsFit : ℕ → Bool → ℕ → Type 0
AwaitsFit accepted mended commands = (commands ≤ accepted) × (mended ≡ true)

-- an UNMAP that gathers its list, of 8 bytes or of 24, is for a unit that is there, and has less than its length. With
-- a list of 24 bytes it has claimed a slot for each block that a command may have, and is there once the device is
-- mended alone. One of 8 bytes claims none, and changes no block
pub record UnmapFits (n : Numbers) (mended : Bool) (unit total : ℕ) (gathered : List ℕ) (claimed : ℕ) : Type 0 where
  pub unit_in : unit < length n.units.items
  pub list : ((total ≡ 8) × (claimed ≡ 0)) ⊎ ((total ≡ 24) × (claimed ≡ command_blocks n))
  pub short : length gathered < total
  pub bytes : AreBytes gathered
  pub is_mended : total ≡ 24 → mended ≡ true

-- a SECURITY PROTOCOL OUT that gathers its frames, one to eight of them, is for a region that is there, and has less
-- than its length; it has claimed the slots of an RPMB write
pub record FramesFit (n : Numbers) (region total : ℕ) (gathered : List ℕ) (claimed : ℕ) : Type 0 where
  pub region_in : HasRegion (shape_of_numbers n) region
  pub count : ℕ
  pub some : 1 ≤ count
  pub few : count ≤ 8
  pub total_is : total ≡ 512 * count
  pub short : length gathered < total
  pub bytes : AreBytes gathered
  pub claimed_is : claimed ≡ slots_for_frames

-- what a task does fits the device: what gathers data that may change blocks came once the device was mended, and so
-- did what waits. Frames may come to a locked device that is not mended
abbrev pub DeedFits : Numbers → ℕ → Bool → ℕ → ℕ → Deed → Type 0
DeedFits n accepted mended claimed total (Gathering (ForWrite unit address blocks forced) gathered asked) =
    WriteFits n mended unit address blocks gathered claimed
DeedFits n accepted mended claimed total (Gathering (ForUnmap unit) gathered asked) =
    UnmapFits n mended unit total gathered claimed
DeedFits n accepted mended claimed total (Gathering (ForFrames region) gathered asked) =
    FramesFit n region total gathered claimed
DeedFits n accepted mended claimed total (Awaiting commands) = AwaitsFit accepted mended commands
DeedFits n accepted mended claimed total (Sending blocks sent) = Unit {0}
DeedFits n accepted mended claimed total (SendingBytes bytes) = Unit {0}
DeedFits n accepted mended claimed total (ReadingArea pages) = Unit {0}
DeedFits n accepted mended claimed total (Comparing blocks compared asked) = Unit {0}
DeedFits n accepted mended claimed total (Answering status carried) = Unit {0}

-- how many slots the task has claimed by the command and by what it does now
abbrev pub claim_of : Numbers → Task → ℕ
claim_of n task = claimed_by n task.deed task.command

-- each of the tasks does what fits the device as it is now
abbrev pub DeedsFit : Numbers → ℕ → Bool → List Task → Type 0
DeedsFit n accepted mended =
    AllByRecursion (λ task. DeedFits n accepted mended (claim_of n task) task.length task.deed)

-- a short exchange that waits for commands waits for accepted ones, on a mended device
abbrev pub ShortAwaits : ℕ → Bool → Option ℕ → Type 0
ShortAwaits accepted mended None = Unit {0}
ShortAwaits accepted mended (Some commands) = AwaitsFit accepted mended commands

-- each reply of a short exchange has its tag
pub record ShortFits (accepted : ℕ) (mended : Bool) (short : Short) : Type 0 where
  pub awaits : ShortAwaits accepted mended short.awaits
  pub reply : tag_in short.reply ≡ short.tag
  pub locked_reply : tag_in short.locked_reply ≡ short.tag

-- each of the short exchanges fits the device as it is now
abbrev pub ShortsFit : ℕ → Bool → List Short → Type 0
ShortsFit accepted mended = AllByRecursion (ShortFits accepted mended)

-- no tag twice in a list
abbrev pub TagsDiffer : {A : Type 0} → (A → ℕ) → List A → Type 0
TagsDiffer tag_of [] = Unit {0}
TagsDiffer tag_of (x ∷ xs) = (list_any (λ y. tag_of y == tag_of x) xs ≡ false) × TagsDiffer tag_of xs

-- no two open tasks have one tag
abbrev pub TasksDiffer : List Task → Type 0
TasksDiffer = TagsDiffer (λ (task : Task). task.tag)

-- no two short exchanges have one tag
abbrev pub ShortsDiffer : List Short → Type 0
ShortsDiffer = TagsDiffer (λ (short : Short). short.tag)

-- no task has the tag of a short exchange
abbrev pub AreApart : List Short → List Task → Type 0
AreApart shorts = AllByRecursion (λ (task : Task). list_any (is_short_of task.tag) shorts ≡ false)

-- how many slots the tasks have claimed
abbrev pub claims_of : Numbers → List Task → ℕ
claims_of n [] = 0
claims_of n (task ∷ tasks) = claim_of n task + claims_of n tasks

-- what holds of the open tasks and short exchanges: each fits the device, each tag is in use once, and the claims of
-- the tasks are among those of the layer
pub record TasksRight (n : Numbers) (accepted : ℕ) (mended : Bool) (claims : ℕ) (tasks : List Task)
    (shorts : List Short) : Type 0 where
  pub deeds : DeedsFit n accepted mended tasks
  pub waits : ShortsFit accepted mended shorts
  pub tasks_differ : TasksDiffer tasks
  pub shorts_differ : ShortsDiffer shorts
  pub apart : AreApart shorts tasks
  -- what tasks have claimed is claimed
  pub claimed : claims_of n tasks ≤ claims

-- the open tasks and short exchanges of a state fit what the state has accepted, mended and claimed
abbrev pub TasksAreRight : State → Type 0
TasksAreRight s =
    TasksRight (numbers_of s) (length s.accepted) (is_mended s.translation.work.mending)
    s.translation.claims s.tasks s.shorts

-- The translation layer is valid, its cells are what the pages show, and its groups are those of the accepted commands

-- the parts of a state go together: its array, its layer, its base, its accepted commands and its tasks
pub record IsTied (s : State) : Type 0 where
  pub config : IsConfig (numbers_of s)
  pub shown : Shows s.array s.translation.disk.cells
  pub valid : Valid s.translation
  -- the rests that are owed are laid over the content below their groups
  pub laid : RestsLaid s.translation
  pub fits : BookFits (book s.translation)
  -- each page in flight shows the cell that it is meant to be
  pub flights : (die : ℕ) (p : Place) (cell : Cell) → s.translation.disk.flights die ≡ Some (Programming p cell) →
      IsCell (page_of cell) cell
  pub base : IsPlain s.base × (shape_of s.base ≡ shape_of_numbers (numbers_of s))
  pub contents : (k : _) → IsKey (shape_of_numbers (numbers_of s)) k → s.translation.ledger.base k ≡ content s.base k
  pub commands : CanApplyAll s.base s.accepted
  pub groups : accepted_groups s.translation.ledger ≡ groups_of s.base s.accepted
  pub tasks : TasksAreRight s
  -- marks have numbers that fit
  pub marks : s.translation.ledger.marks ≤ greatest_number
  -- once the device is mended each repair is durable
  pub repaired : is_mended s.translation.work.mending ≡ true →
      before_accepted s.translation.ledger ≤ s.translation.ledger.frontier

-- the block is one of the dies'
pub record IsSpot (n : Numbers) (spot : Spot) : Type 0 where
  pub die : spot.die < n.dies
  pub block : spot.block < n.blocks

-- All of it

-- what holds of a device with its dies between any two events of a life
pub record ValidState (s : State) : Type 0 where
  pub tied : IsTied s
  -- the data of each page that opens keep the rules of its kind
  pub hold : (p : Place) (t : Tag) (body : List ℕ) → Opens (s.array p) t body → DataHold t body
  -- a block that is being erased is one of the dies'
  pub erases : (die : ℕ) (spot : Spot) → s.translation.disk.flights die ≡ Some (Erasing spot) →
      IsSpot (numbers_of s) spot

-- Calls

-- a message of some bytes is heard, and a job that ends leaves what it may
abbrev pub MayCome : State → Call → Type 0
MayCome s (Host heard) = (bytes : List ℕ) × IsHeard bytes heard
MayCome s (Done die ending left) = MayLeave s die ending left
MayCome s call = Unit {0}

-- An array as a device may be opened over it

-- outside the dies all is blank
abbrev pub IsArrayOf : Numbers → Array → Type 0
IsArrayOf n array = (p : Place) → (IsPlace n p → ⊥) → array p ≡ blank_page
