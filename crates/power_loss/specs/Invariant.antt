-- What holds of the translation layer between any two of its moves. The records read single fields, so a move that
-- leaves these fields keeps the record as it is.
use Rattle.ufs_spec.specs.Configs.{marked as as_marked}
use Rattle.std.specs.Prelude.{◌≡◌, ◌≢◌, ◌⊎◌, ℕ, suc, ◌+◌, ◌<◌, ◌≤◌, Bool, true, false, All, List, [], length, take}
use Rattle.std.specs.Prelude.{Option, Some, None, slice_get}
use Rattle.ufs_spec.specs.Cells.{AreWithin, Cell, Cells, GroupPage, IsPlace, Mark, MarkPage, Nothing}
use Rattle.ufs_spec.specs.Disk.{BlockState, Bad, Closed, Disk, Erasing, Filling, Flight, Free, Programming}
use Rattle.ufs_spec.specs.Disk.{Reading, Ready, Spot, Stale, Vacancy, spot_of}
use Rattle.ufs_spec.specs.Keys.{Group, Item, put_groups}
use Rattle.ufs_spec.specs.Kept.{HoldAll, IsKept, IsNewestMark, recorded_in}
use Rattle.ufs_spec.specs.Ledger.{Entry, Ledger, accepted_groups, before_accepted}
use Rattle.ufs_spec.specs.Openings.{IsFirstFence, IsSpare, number_of}
use Rattle.ufs_spec.specs.Sound.{CellsSound, CellsSuit}
use Rattle.ufs_spec.specs.Translation.{CopyStep, FromPage, FromSlot, MarkStep, Mended, Mending, Pin, Plan, RepairStep}
use Rattle.ufs_spec.specs.Translation.{Repairing, Rest, Source, Step, StepKind, Translation, Unmarked, Want, is_mended}
use Rattle.ufs_spec.specs.Translation.{name_of, pending_pages, wants_of_step}
use Rattle.ufs_spec.specs.declared.configs.Numbers.{Numbers}
use Rattle.ufs_spec.specs.declared.flash.Fence.{Fence}
use Rattle.ufs_spec.specs.declared.flash.Key.{Key}
use Rattle.ufs_spec.specs.declared.flash.Place.{Place}
use Rattle.ufs_spec.specs.declared.flash.Tag.{Tag}
use Rattle.ufs_spec.specs.declared.layer.Looked.{Looked}
use Rattle.ufs_spec.specs.declared.layer.Looked.TheVariants.{InSlot, OnPage, Unwritten}
use Rattle.ufs_spec.specs.declared.layer.Name.{Name}
use Rattle.ufs_spec.specs.declared.layer.Reader.{Reader}
use Rattle.power_loss.specs.Book.{AreWholeAbove, Book, BookRight, HasKey, IsFenceMark, IsKnown, IsLostNumber}
use Rattle.power_loss.specs.Book.{IsOverwritten, IsPageAt, IsPlainMark, IsWritten, book, last_number}

-- by number and index, the place where a page of a group stands, if it does
abbrev pub Standing : Type 0
Standing = ℕ → ℕ → Option Place

-- the job that each die has in flight, if it has one
abbrev pub Flights : Type 0
Flights = ℕ → Option Flight

-- The frontier

-- the frontier is no lower than what the life began with and no higher than the last number, and each group up to it
-- stands with all its pages
pub record FrontierRight (b : Book) (standing : Standing) (frontier : ℕ) : Type 0 where
  pub above : b.greatest_seen ≤ frontier
  pub within : frontier ≤ last_number b
  -- at or under the frontier each page stands
  pub stand : (n i : ℕ) (e : Entry) → n ≤ frontier → IsPageAt b n i e → (p : Place) × (standing n i ≡ Some p)
  -- what stands is known
  pub known : (n i : ℕ) (p : Place) → standing n i ≡ Some p → (e : Entry) × IsPageAt b n i e

-- Pages

-- each page of a group lies on the dies and is known to the book, records no frontier that is not reached yet, and its
-- name stands somewhere once its program ended well
pub record PagesRight (b : Book) (standing : Standing) (frontier : ℕ) (cells : Cells) (finished : Place → Bool) : Type 0
  where
    pub within : AreWithin b.numbers cells
    pub known : (p : Place) (t : Tag) (body : List ℕ) → cells p ≡ GroupPage t body → IsKnown b t body
    pub recorded : (p : Place) (t : Tag) (body : List ℕ) → cells p ≡ GroupPage t body → t.frontier ≤ frontier
    -- the name of a finished page stands, there or elsewhere
    pub stands : (p : Place) (t : Tag) (body : List ℕ) →
        cells p ≡ GroupPage t body → finished p ≡ true → (q : Place) × (standing t.number t.index ≡ Some q)

-- Blocks

-- what the state of a block says of its pages, and of the erase that is in flight or failed
pub record BlocksRight (numbers : Numbers) (cells : Cells) (finished : Place → Bool) (blocks : Spot → BlockState)
    (erasing : Spot → Bool) : Type 0 where
  -- a page whose program failed lies in a bad block
  pub unfinished : (p : Place) → finished p ≡ false → blocks (spot_of p) ≡ Bad
  pub filling : (s : Spot) (next : ℕ) → blocks s ≡ Filling next → next < numbers.pages
  -- a block that is filled is blank from its next page on
  pub blank : (p : Place) (next : ℕ) → blocks (spot_of p) ≡ Filling next → next ≤ p.page → cells p ≡ Nothing
  -- a block whose erase is in flight is free, and one whose erase failed is bad
  pub erased : (s : Spot) → erasing s ≡ true → (blocks s ≡ Free) ⊎ (blocks s ≡ Bad)

-- a free block has pages only if it is stale, and one that was erased in this life is not being erased again
pub record VacanciesRight (cells : Cells) (blocks : Spot → BlockState) (vacancies : Spot → Vacancy)
    (erasing : Spot → Bool) : Type 0 where
  pub empty : (p : Place) → blocks (spot_of p) ≡ Free → vacancies (spot_of p) ≢ Stale → cells p ≡ Nothing
  pub ready : (s : Spot) → blocks s ≡ Free → vacancies s ≡ Ready → erasing s ≡ false

-- Jobs

-- a program goes to the next page of a block that is being filled
pub record ProgramRight (numbers : Numbers) (blocks : Spot → BlockState) (die : ℕ) (p : Place) : Type 0 where
  pub at_home : p.die ≡ die
  pub place : IsPlace numbers p
  pub next : blocks (spot_of p) ≡ Filling p.page

-- an erase goes to a free block of its own die, which counts as being erased
pub record EraseRight (blocks : Spot → BlockState) (erasing : Spot → Bool) (die : ℕ) (s : Spot) : Type 0 where
  pub at_home : s.die ≡ die
  pub free : blocks s ≡ Free
  pub counted : erasing s ≡ true

-- a mark in flight is the one of the step under way
pub record MarkFlightRight (numbers : Numbers) (marks : ℕ) (step : Option Step) (m : Mark) : Type 0 where
  pub number : m.number ≡ marks
  pub numbers_right : m.numbers ≡ as_marked numbers
  pub there : Bool
  pub step_is : step ≡ Some (record { kind = MarkStep m.number m.fence; there = there })

-- each job in flight is one that a die may have: a program of a known page or of the step's mark, one mark at most, or
-- an erase
pub record FlightsRight (b : Book) (frontier marks : ℕ) (blocks : Spot → BlockState) (erasing : Spot → Bool)
    (flights : Flights) (step : Option Step) : Type 0 where
  pub programs : (die : ℕ) (p : Place) (cell : Cell) → flights die ≡ Some (Programming p cell) →
      ProgramRight b.numbers blocks die p
  pub erases : (die : ℕ) (s : Spot) → flights die ≡ Some (Erasing s) → EraseRight blocks erasing die s
  pub something : (die : ℕ) (p : Place) → flights die ≡ Some (Programming p Nothing) → ⊥
  pub known : (die : ℕ) (p : Place) (t : Tag) (body : List ℕ) → flights die ≡ Some (Programming p (GroupPage t body)) →
      IsKnown b t body
  pub recorded : (die : ℕ) (p : Place) (t : Tag) (body : List ℕ) → flights die ≡ Some (Programming p (GroupPage t body))
      → t.frontier ≤ frontier
  pub mark : (die : ℕ) (p : Place) (m : Mark) → flights die ≡ Some (Programming p (MarkPage m)) →
      MarkFlightRight b.numbers marks step m
  pub one_mark : (d e : ℕ) (p q : Place) (m other : Mark) →
      flights d ≡ Some (Programming p (MarkPage m)) → flights e ≡ Some (Programming q (MarkPage other)) → d ≡ e

-- What stands safely

-- the place that is known for the name holds its finished page, and no erase is near it
pub record IsSecure (standing : Standing) (cells : Cells) (finished : Place → Bool) (blocks : Spot → BlockState)
    (erasing : Spot → Bool) (n i : ℕ) : Type 0 where
  pub place : Place
  pub tag : Tag
  pub body : List ℕ
  pub known : standing n i ≡ Some place
  pub there : cells place ≡ GroupPage tag body
  pub number : tag.number ≡ n
  pub index : tag.index ≡ i
  pub ended : finished place ≡ true
  pub stays : erasing (spot_of place) ≡ false
  pub needed : blocks (spot_of place) ≢ Free

-- a newer page of the key, at or under what the newest finished mark records, stands so
pub record IsSecurelyOverwritten (b : Book) (marked : ℕ) (standing : Standing) (cells : Cells) (finished : Place → Bool)
    (blocks : Spot → BlockState) (erasing : Spot → Bool) (n : ℕ) (k : Key) : Type 0 where
  pub by : IsOverwritten b n k marked
  pub secure : IsSecure standing cells finished blocks erasing by.number by.index

-- the page will not be missed: it is secure itself, or a newer page of its key is that the newest mark records
abbrev pub IsSafe : Book → ℕ → Standing → Cells → (Place → Bool) → (Spot → BlockState) → (Spot → Bool) → ℕ → ℕ → Key →
    Type 0
IsSafe b marked standing cells finished blocks erasing n i k =
    IsSecure standing cells finished blocks erasing n i
    ⊎ IsSecurelyOverwritten b marked standing cells finished blocks erasing n k

-- every page that stood and is not lost is safe
pub record SafeRight (b : Book) (marked : ℕ) (standing : Standing) (cells : Cells) (finished : Place → Bool)
    (blocks : Spot → BlockState) (erasing : Spot → Bool) : Type 0 where
  pub safe : (n i : ℕ) (e : Entry) (p : Place) → IsPageAt b n i e → standing n i ≡ Some p → (IsLostNumber b n → ⊥) →
      IsSafe b marked standing cells finished blocks erasing n i e.item.key

-- Marks

-- a mark behind the newest finished one: in flight, or left by a program that failed
pub record IsLaterMark (b : Book) (frontier : ℕ) (newest m : Mark) : Type 0 where
  pub newer : newest.number < m.number
  pub above : newest.records ≤ m.records
  pub within : m.records ≤ frontier
  pub plain : IsPlainMark b m
  pub numbers : m.numbers ≡ as_marked b.numbers

-- the newest finished mark stands where no erase is near
pub record MarkStands (cells : Cells) (finished : Place → Bool) (blocks : Spot → BlockState) (erasing : Spot → Bool)
    (newest : Mark) : Type 0 where
  pub place : Place
  pub there : cells place ≡ MarkPage newest
  pub ended : finished place ≡ true
  pub stays : erasing (spot_of place) ≡ false
  pub needed : blocks (spot_of place) ≢ Free

-- the newest finished mark stands, and every other mark is older or one that this life wrote after it. A block that is
-- free holds only older ones
pub record MarksRight (b : Book) (frontier marks : ℕ) (cells : Cells) (finished : Place → Bool) (blocks : Spot →
    BlockState) (erasing : Spot → Bool) (flights : Flights) (newest : Mark) : Type 0 where
  pub stands : MarkStands cells finished blocks erasing newest
  pub within : newest.records ≤ frontier
  pub numbers : newest.numbers ≡ as_marked b.numbers
  pub whole : AreWholeAbove b newest.records
  pub ended : (p : Place) (m : Mark) → cells p ≡ MarkPage m → finished p ≡ true → m.number ≤ newest.number
  pub known : (p : Place) (m : Mark) → cells p ≡ MarkPage m → ((m.number ≤ newest.number) × (m.records ≤ frontier))
      ⊎ IsLaterMark b frontier newest m
  pub same : (p q : Place) (m other : Mark) → cells p ≡ MarkPage m → cells q ≡ MarkPage other →
      m.number ≡ other.number → m ≡ other
  pub freed : (p : Place) (m : Mark) → cells p ≡ MarkPage m → blocks (spot_of p) ≡ Free → m.number < newest.number
  pub flies : (die : ℕ) (p : Place) (m : Mark) → flights die ≡ Some (Programming p (MarkPage m)) →
      IsLaterMark b frontier newest m

-- no mark has a number above the greatest known
abbrev pub AreNumbered : ℕ → Cells → Type 0
AreNumbered marks cells = (p : Place) (m : Mark) → cells p ≡ MarkPage m → m.number ≤ marks

-- Mending

-- the block is free, or counts as being erased: its pages may go
abbrev pub MayBeErased : (Spot → BlockState) → (Spot → Bool) → Spot → Type 0
MayBeErased blocks erasing s = (blocks s ≡ Free) ⊎ (erasing s ≡ true)

-- the page of the opening is there, in a block of which no page may go, or it is spare: what stands in for it is there,
-- in such a block
abbrev pub IsThereOrSpare : Option Mark → Cells → (Spot → BlockState) → (Spot → Bool) → Place → Cell → Type 0
IsThereOrSpare newest cells blocks erasing p opened =
    ((cells p ≡ opened) × (MayBeErased blocks erasing (spot_of p) → ⊥))
    ⊎ IsSpare cells newest (MayBeErased blocks erasing) opened

-- a mark that a life writes first
pub record IsOwnMark (b : Book) (newest : Option Mark) (marks : ℕ) (fence : Option Fence) (m : Mark) : Type 0 where
  pub newer : number_of newest < m.number
  pub within : m.number ≤ marks
  pub records : m.records ≡ b.greatest_seen
  pub fence_is : m.fence ≡ fence
  pub numbers : m.numbers ≡ as_marked b.numbers

-- the cell of the opening stands or is gone, or a mark of this life stands whose program failed
abbrev pub IsOpenedOrOwn : Book → Option Mark → ℕ → Option Fence → Cell → Cell → Bool → Type 0
IsOpenedOrOwn b newest marks fence opened cell finished =
    (cell ≡ opened)
    ⊎ ((cell ≡ Nothing)
    ⊎ ((finished ≡ false) × ((m : Mark) × (cell ≡ MarkPage m) × IsOwnMark b newest marks fence m)))

-- the cells that the life began with are sound and suit the configuration, and the base is what they stand for
pub record OpeningRight (b : Book) (newest : Option Mark) (opening : Cells) : Type 0 where
  pub sound : CellsSound opening newest
  pub is_newest : IsNewestMark opening newest
  pub kept : ℕ
  pub is_kept : IsKept opening newest kept
  pub holds : HoldAll b.numbers opening newest kept b.base
  pub suits : CellsSuit b.numbers opening newest
  pub marks : (p : Place) (m : Mark) → opening p ≡ MarkPage m → m.records ≤ b.greatest_seen

-- each key with a lost page is in the list, and all of the list are keys of the device
pub record LostRight (b : Book) (lost : List Key) : Type 0 where
  pub all : (n i : ℕ) (e : Entry) → IsLostNumber b n → b.entries_before n i ≡ Some e →
      (j : ℕ) × (slice_get lost j ≡ Some e.item.key)
  pub keys : (j : ℕ) (k : Key) → slice_get lost j ≡ Some k → HasKey b k

-- the first mark of the life is not finished
pub record UnmarkedRight (b : Book) (frontier marks : ℕ) (newest : Option Mark) (cells : Cells) (finished : Place → Bool)
    (blocks : Spot → BlockState) (erasing : Spot → Bool) (flights : Flights) (plan : Option Plan) (fence : Option Fence)
    (lost : List Key) : Type 0 where
  pub opening : Cells
  pub opened : OpeningRight b newest opening
  pub fence_right : IsFirstFence newest b.first_lost b.greatest_seen fence
  pub lost_right : LostRight b lost
  pub none_new : b.groups ≡ []
  pub still : frontier ≡ b.greatest_seen
  pub same : (p : Place) → IsOpenedOrOwn b newest marks fence (opening p) (cells p) (finished p)
  pub spare : (p : Place) → opening p ≢ Nothing → IsThereOrSpare newest cells blocks erasing p (opening p)
  pub unfinished : (p : Place) → finished p ≡ false →
      (cells p ≡ Nothing) ⊎ ((m : Mark) × (cells p ≡ MarkPage m) × IsOwnMark b newest marks fence m)
  pub flies : (die : ℕ) (p : Place) (cell : Cell) → flights die ≡ Some (Programming p cell) →
      (m : Mark) × (cell ≡ MarkPage m) × IsOwnMark b newest marks fence m
  pub no_plan : plan ≡ None

-- the step under way is the repair of the last group
abbrev pub IsLastRepair : Book → Option Step → Type 0
IsLastRepair b step =
    (from : Option Place) × (there : Bool)
    × (step ≡ Some (record { kind = RepairStep (record { number = last_number b; index = 0 }) from; there = there }))

-- the first mark is finished, and these keys have no repair yet
pub record RepairingRight (b : Book) (frontier : ℕ) (newest : Mark) (plan : Option Plan) (step : Option Step)
    (left : List Key) : Type 0 where
  pub fence : IsFenceMark b newest
  pub repaired : (n i : ℕ) (e : Entry) → IsLostNumber b n → b.entries_before n i ≡ Some e →
      ((j : ℕ) × (slice_get left j ≡ Some e.item.key)) ⊎ IsWritten b e.item.key (last_number b)
  pub keys : (j : ℕ) (k : Key) → slice_get left j ≡ Some k → HasKey b k
  -- a repair is a group of one page
  pub singles : (j : ℕ) (g : Group) → slice_get b.groups j ≡ Some g → length g ≡ 1
  -- all groups are at or under the frontier, or all but the one that the step repairs
  pub under_way : (frontier ≡ last_number b) ⊎ ((suc frontier ≡ last_number b) × IsLastRepair b step)
  pub no_plan : plan ≡ None

-- the newest finished mark is there, and what holds of it
pub record IsMarked (b : Book) (d : Disk) (l : Ledger) (holds : Mark → Type 0) : Type 0 where
  pub mark : Mark
  pub is : l.newest ≡ Some mark
  pub right : MarksRight b l.frontier l.marks d.cells d.finished d.blocks d.erasing d.flights mark
  pub more : holds mark

-- what holds by how far the mending is: before the first mark, while lost keys are repaired, and afterwards
abbrev pub MendingRight : Book → Disk → Ledger → Option Plan → Option Step → Mending → Type 0
MendingRight b d l plan step (Unmarked fence lost) =
    UnmarkedRight b l.frontier l.marks l.newest d.cells d.finished d.blocks d.erasing d.flights plan fence lost
MendingRight b d l plan step (Repairing left) = IsMarked b d l (λ m. RepairingRight b l.frontier m plan step left)
MendingRight b d l plan step Mended = IsMarked b d l (IsPlainMark b)

-- The step under way

-- the fence of a mark that is ordered
abbrev pub FenceRight : Mending → Option Fence → Type 0
FenceRight (Unmarked first lost) fence = fence ≡ first
FenceRight (Repairing left) fence = (fence ≡ None) × (left ≡ [])
FenceRight Mended fence = fence ≡ None

-- a mark that is ordered has the last number given, greater than each on the dies, and the fence that the mending asks
-- for; the mark of a plan comes behind its copies
pub record MarkStepRight (marks : ℕ) (cells : Cells) (mending : Mending) (plan : Option Plan) (number : ℕ)
    (fence : Option Fence) : Type 0 where
  pub last : number ≡ marks
  pub given : 0 < number
  pub above : (p : Place) (m : Mark) → cells p ≡ MarkPage m → m.number < number
  pub fence_right : FenceRight mending fence
  pub behind_copies : (pl : Plan) → plan ≡ Some pl → pl.copies ≡ []

-- a step is right by its kind: a copy comes only once the device is mended, a repair only while it repairs, and the
-- page of either is known
abbrev pub StepKindRight : Book → ℕ → Cells → Mending → Option Plan → StepKind → Type 0
StepKindRight b marks cells mending plan (MarkStep number fence) = MarkStepRight marks cells mending plan number fence
StepKindRight b marks cells mending plan (CopyStep name from) =
    (mending ≡ Mended) × ((e : Entry) × IsPageAt b name.number name.index e)
StepKindRight b marks cells mending plan (RepairStep name from) =
    (left : List Key) × (mending ≡ Repairing left) × ((e : Entry) × IsPageAt b name.number name.index e)

-- the step under way, if there is one, is right by its kind
pub record StepRight (b : Book) (marks : ℕ) (cells : Cells) (mending : Mending) (plan : Option Plan)
    (step : Option Step) : Type 0 where
  pub kind : (s : Step) → step ≡ Some s → StepKindRight b marks cells mending plan s.kind

-- Collection

-- the page of the name is still to be copied, or the step under way copies it
abbrev pub IsToCopy : List Place → Option Step → ℕ → ℕ → Place → Type 0
IsToCopy copies step n i p =
    ((j : ℕ) × (slice_get copies j ≡ Some p))
    ⊎ ((there : Bool) × (step ≡ Some (record { kind = CopyStep (record { number = n; index = i }) p; there = there })))

-- what stands in the victim and is not lost
pub record StandsIn (b : Book) (standing : Standing) (victim : Spot) (n i : ℕ) (e : Entry) (p : Place) : Type 0 where
  pub is : IsPageAt b n i e
  pub known : standing n i ≡ Some p
  pub inside : spot_of p ≡ victim
  pub free : IsLostNumber b n → ⊥

-- the block of a plan is closed or bad, and each page in it is overwritten or still to be copied; so once the plan's
-- mark is finished nothing in the block is needed
pub record OnePlanRight (b : Book) (frontier : ℕ) (standing : Standing) (blocks : Spot → BlockState) (flights : Flights)
    (step : Option Step) (plan : Plan) : Type 0 where
  pub state : (blocks plan.victim ≡ Closed) ⊎ (blocks plan.victim ≡ Bad)
  -- it is overwritten, or is still to be copied
  pub copied : (n i : ℕ) (e : Entry) (p : Place) → StandsIn b standing plan.victim n i e p →
      IsOverwritten b n e.item.key frontier ⊎ IsToCopy plan.copies step n i p
  -- once the plan's mark is in flight, it is overwritten at or under what that mark records
  pub flown : (die : ℕ) (q : Place) (m : Mark) → flights die ≡ Some (Programming q (MarkPage m)) →
      (n i : ℕ) (e : Entry) (p : Place) → StandsIn b standing plan.victim n i e p →
      IsOverwritten b n e.item.key m.records

-- a plan is begun only once the device is mended, and is right
pub record PlanRight (b : Book) (frontier : ℕ) (standing : Standing) (blocks : Spot → BlockState) (flights : Flights)
    (mending : Mending) (step : Option Step) (plan : Option Plan) : Type 0 where
  pub mended : (pl : Plan) → plan ≡ Some pl → mending ≡ Mended
  pub one : (pl : Plan) → plan ≡ Some pl → OnePlanRight b frontier standing blocks flights step pl

-- Commands

-- the repairs come first, and have the contents of the life's start; what was acknowledged is durable
pub record HistoryRight (b : Book) (repairs held frontier : ℕ) (mended : Bool) : Type 0 where
  pub within : repairs ≤ length b.groups
  pub contents : (j i : ℕ) (g : Group) (item : Item) → j < repairs → slice_get b.groups j ≡ Some g →
      slice_get g i ≡ Some item → item.body ≡ b.base item.key
  pub mending : mended ≡ false → (repairs ≡ length b.groups) × (held ≡ 0)
  pub durable : (held ≡ 0) ⊎ (b.greatest_seen + repairs + held ≤ frontier)

-- Pages that are needed still

-- the finished page of the name is there, in a block that is not being erased
pub record IsGroupPage (cells : Cells) (finished : Place → Bool) (erasing : Spot → Bool) (name : Name)
    (place : Place) : Type 0 where
  pub tag : Tag
  pub body : List ℕ
  pub there : cells place ≡ GroupPage tag body
  pub is : name_of tag ≡ name
  pub ended : finished place ≡ true
  pub stays : erasing (spot_of place) ≡ false

-- what was looked up is there: a page has its place, and a slot is of a group above the frontier
abbrev pub LookedRight : Book → ℕ → Cells → (Place → Bool) → (Spot → Bool) → Looked → Type 0
LookedRight b frontier cells finished erasing Unwritten = Unit {0}
LookedRight b frontier cells finished erasing (InSlot name) =
    (frontier < name.number) × ((e : Entry) × IsPageAt b name.number name.index e)
LookedRight b frontier cells finished erasing (OnPage name place) = IsGroupPage cells finished erasing name place

-- what each task keeps is there still
pub record PinsRight (b : Book) (frontier : ℕ) (cells : Cells) (finished : Place → Bool) (erasing : Spot → Bool)
    (pins : List Pin) : Type 0 where
  pub each : All (λ (pin : Pin). LookedRight b frontier cells finished erasing pin.looked) pins

-- a rest that is read from a page has its page there; one from a slot needs none
abbrev pub SourceRight : Cells → (Place → Bool) → (Spot → Bool) → Source → Type 0
SourceRight cells finished erasing (FromPage place) = (name : Name) × IsGroupPage cells finished erasing name place
SourceRight cells finished erasing (FromSlot name) = Unit {0}

-- the pages that the rests of others are still to be read from
pub record RestsRight (cells : Cells) (finished : Place → Bool) (erasing : Spot → Bool) (rests : List Rest) : Type 0
  where
    pub each : All (λ (rest : Rest). SourceRight cells finished erasing rest.source) rests

-- a read in flight is of a group's page, on its own die
pub record ReadsRight (cells : Cells) (finished : Place → Bool) (erasing : Spot → Bool) (flights : Flights) : Type 0
  where
    pub at_home : (die : ℕ) (reader : Reader) (place : Place) → flights die ≡ Some (Reading reader place) →
        place.die ≡ die
    pub page : (die : ℕ) (reader : Reader) (place : Place) → flights die ≡ Some (Reading reader place) →
        (name : Name) × IsGroupPage cells finished erasing name place

-- a group's page is there, in a block that is not free
pub record IsNeededPage (cells : Cells) (finished : Place → Bool) (blocks : Spot → BlockState) (erasing : Spot → Bool)
    (place : Place) : Type 0 where
  pub name : Name
  pub page : IsGroupPage cells finished erasing name place
  pub needed : blocks (spot_of place) ≢ Free

-- the page that the step under way is still to be read from is there, and so are those that its plan still copies
pub record ToReadRight (cells : Cells) (finished : Place → Bool) (blocks : Spot → BlockState) (erasing : Spot → Bool)
    (step : Option Step) (plan : Option Plan) : Type 0 where
  pub wanted : All (λ (want : Want). IsNeededPage cells finished blocks erasing want.place) (wants_of_step step)
  pub copied : (pl : Plan) → plan ≡ Some pl → All (IsNeededPage cells finished blocks erasing) pl.copies

-- until the device is mended the page that a key began with stays
pub record UnmendedRight (b : Book) (mended : Bool) (standing : Standing) (cells : Cells) (finished : Place → Bool)
    (blocks : Spot → BlockState) (erasing : Spot → Bool) : Type 0 where
  pub stand : mended ≡ false → (k : Key) (name : Name) (p : Place) → HasKey b k → b.first_page k ≡ Some name →
      standing name.number name.index ≡ Some p → IsSecure standing cells finished blocks erasing name.number name.index

-- Slots

-- the pages that are accepted and not durable and the claims have a slot each
pub record SlotsRight (slots pending claims : ℕ) : Type 0 where
  pub within : pending + claims ≤ slots

-- Free blocks that are to be erased

-- no free block of the dies is still to be erased for pages of it that may go
abbrev pub AreNoneStale : Numbers → (Spot → BlockState) → (Spot → Vacancy) → Type 0
AreNoneStale numbers blocks vacancies =
    (s : Spot) → s.die < numbers.dies → s.block < numbers.blocks → blocks s ≡ Free → vacancies s ≢ Stale

-- from the order of the first mark on there is none until the device is mended: none is when it is ordered, and no
-- victim is freed meanwhile
abbrev pub StaleRight : Numbers → (Spot → BlockState) → (Spot → Vacancy) → Option Step → Mending → Type 0
StaleRight numbers blocks vacancies step (Unmarked fence lost) =
    (s : Step) → step ≡ Some s → AreNoneStale numbers blocks vacancies
StaleRight numbers blocks vacancies step (Repairing left) = AreNoneStale numbers blocks vacancies
StaleRight numbers blocks vacancies step Mended = Unit {0}

-- All of it

-- the invariant of the translation layer: what holds between any two of its moves, one record for each part
pub record Valid (t : Translation) : Type 0 where
  pub book_right : BookRight (book t)
  pub frontier : FrontierRight (book t) t.ledger.standing t.ledger.frontier
  pub pages : PagesRight (book t) t.ledger.standing t.ledger.frontier t.disk.cells t.disk.finished
  pub blocks : BlocksRight t.numbers t.disk.cells t.disk.finished t.disk.blocks t.disk.erasing
  pub vacancies : VacanciesRight t.disk.cells t.disk.blocks t.disk.vacancies t.disk.erasing
  pub stale : StaleRight t.numbers t.disk.blocks t.disk.vacancies t.work.step t.work.mending
  pub flights : FlightsRight (book t) t.ledger.frontier t.ledger.marks t.disk.blocks t.disk.erasing t.disk.flights
      t.work.step
  pub safe : SafeRight (book t) (recorded_in t.ledger.newest) t.ledger.standing t.disk.cells t.disk.finished
      t.disk.blocks t.disk.erasing
  pub numbered : AreNumbered t.ledger.marks t.disk.cells
  pub mending : MendingRight (book t) t.disk t.ledger t.work.plan t.work.step t.work.mending
  pub step : StepRight (book t) t.ledger.marks t.disk.cells t.work.mending t.work.plan t.work.step
  pub plan : PlanRight (book t) t.ledger.frontier t.ledger.standing t.disk.blocks t.disk.flights t.work.mending
      t.work.step t.work.plan
  pub history : HistoryRight (book t) t.ledger.repairs t.ledger.held t.ledger.frontier (is_mended t.work.mending)
  pub slots : SlotsRight t.numbers.slots (pending_pages t.ledger) t.claims
  pub unmended : UnmendedRight (book t) (is_mended t.work.mending) t.ledger.standing t.disk.cells t.disk.finished
      t.disk.blocks t.disk.erasing
  pub pins : PinsRight (book t) t.ledger.frontier t.disk.cells t.disk.finished t.disk.erasing t.pins
  pub rests : RestsRight t.disk.cells t.disk.finished t.disk.erasing t.work.rests
  pub reads : ReadsRight t.disk.cells t.disk.finished t.disk.erasing t.disk.flights
  pub to_read : ToReadRight t.disk.cells t.disk.finished t.disk.blocks t.disk.erasing t.work.step t.work.plan

-- What a stop leaves

-- the contents after a number of accepted groups, among them each acknowledged one and each durable one
pub record IsPrefix (t : Translation) (c : Cells) (m : Option Mark) (kept : ℕ) : Type 0 where
  pub count : ℕ
  pub held : t.ledger.held ≤ count
  pub durable : t.ledger.frontier ≤ before_accepted t.ledger + count
  pub within : count ≤ length (accepted_groups t.ledger)
  pub holds : HoldAll t.numbers c m kept (put_groups t.ledger.base (take count (accepted_groups t.ledger)))
