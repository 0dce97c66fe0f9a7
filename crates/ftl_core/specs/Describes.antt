-- How what the layer keeps describes the translation layer as it is specified.
use Rattle.std.specs.Prelude.{◌≡◌, ◌≢◌, ℕ, suc, ◌+◌, ◌<◌, ◌≤◌, Bool, true, false, List, [], ◌∷◌, drop}
use Rattle.std.specs.Prelude.{All, AllPairs, find, is_some, length, map, slice_get, Option, Some, None, option_map}
use Rattle.std.specs.List.{list_any}
use Rattle.ufs_spec.specs.Cells.{Cell, Cells, GroupPage, MarkPage, key_of}
use Rattle.ufs_spec.specs.Disk as disk
use Rattle.ufs_spec.specs.Disk.{Spot}
use Rattle.ufs_spec.specs.Keys.{IsKey}
use Rattle.ufs_spec.specs.Ledger.{Entry, Ledger, before_accepted, entry_of, latest_durable, next_number, pending}
use Rattle.ufs_spec.specs.Moves.{Ending, ReadRight, ReadWrong, GiveJob, moved}
use Rattle.ufs_spec.specs.Plain.{shape_of_numbers}
use Rattle.ufs_spec.specs.Translation as layer
use Rattle.ufs_spec.specs.Translation.{CopyStep, MarkStep, MayTake, Mended, Mending, RepairStep, Repairing, Step}
use Rattle.ufs_spec.specs.Translation.{Translation, Unmarked, Work, flies_name, is_mended, name_of, names_after}
use Rattle.ufs_spec.specs.Translation.{spots, tag_of}
use Rattle.ufs_spec.specs.declared.configs.Numbers.{Numbers}
use Rattle.ufs_spec.specs.declared.flash.Job.{Job}
use Rattle.ufs_spec.specs.declared.flash.Key.{Key}
use Rattle.ufs_spec.specs.declared.flash.Place.{Place}
use Rattle.ufs_spec.specs.declared.flash.Tag.{Tag}
use Rattle.ufs_spec.specs.declared.layer.Looked.{Looked}
use Rattle.ufs_spec.specs.declared.layer.Looked.TheVariants.{InSlot, OnPage, Unwritten}
use Rattle.ufs_spec.specs.declared.layer.Name.{Name}
use Rattle.ufs_spec.specs.declared.layer.Reader.TheVariants.{ForStep, ForTask}
use Rattle.power_loss.specs.Invariant.{Valid}
use Rattle.collector.specs.Plans.{Collection, layer_plan}
use Rattle.collector.specs.declared.PlannedCopy.{PlannedCopy}
use Rattle.block_table.specs.declared.BlockState.{BlockState}
use Rattle.block_table.specs.declared.BlockState.TheVariants as state
use Rattle.block_table.specs.declared.rows.DieRow.{DieRow}
use Rattle.block_table.specs.declared.rows.Flight.{Flight}
use Rattle.block_table.specs.declared.rows.Flight.TheVariants as flight
use Rattle.ftl_core.specs.declared.books.Mending as kept
use Rattle.ftl_core.specs.declared.books.Mending.TheVariants as mendings
use Rattle.block_table.specs.declared.rows.OpenBlock.{OpenBlock}
use Rattle.write_cache.specs.declared.slots.Pending.{Pending}
use Rattle.readers.specs.declared.pin.Pin.{Pin}
use Rattle.ftl_core.specs.declared.books.Step as kept_step
use Rattle.ftl_core.specs.declared.books.Step.TheVariants as steps
use Rattle.unit_map.specs.declared.Stored.{Stored}
use Rattle.ftl_core.specs.Ended.{EndedNow}
use Rattle.ftl_core.specs.Ended as ended
use Rattle.geometry.specs.Keys.{key_total}
use Rattle.unit_map.specs.Places.{stored_in}
use Rattle.ftl_core.specs.Core.{Core}
use Rattle.ftl_core.specs.KnownLive.{KnowsLive}
use Rattle.ftl_core.specs.Moves.{repairs_in}
use Rattle.readers.specs.Pins.{is_pin_of}
use Rattle.ftl_core.specs.RestsKept.{RestsKept, waiting}
use Rattle.ftl_core.specs.Takes.{is_group_page, next_place, step_wants}

-- Blocks

-- the state of a block as it is kept, with what is in it if it is free: which page of an open block comes next is kept
-- with its die
abbrev pub block_kept : disk.BlockState → disk.Vacancy → BlockState
block_kept disk.Free disk.Untouched = state.Free
block_kept disk.Free disk.Stale = state.Stale
block_kept disk.Free disk.Ready = state.Ready
block_kept (disk.Filling next) v = state.Open
block_kept disk.Closed v = state.Closed
block_kept disk.Bad v = state.Bad

-- the state of each block of each die, in order
abbrev pub BlocksKept : Numbers → (Spot → disk.BlockState) → (Spot → disk.Vacancy) → List BlockState → Type 0
BlocksKept n blocks vacancies states = states ≡ map (λ (s : Spot). block_kept (blocks s) (vacancies s)) (spots n)

-- Dies

-- a block by the number of its die and its own number there
abbrev pub spot_at : ℕ → ℕ → Spot
spot_at die block = record { die = die; block = block }

-- the open block of a die is the one of its blocks that is being filled
abbrev pub IsFilling : Numbers → (Spot → disk.BlockState) → ℕ → Option OpenBlock → Type 0
IsFilling n blocks die None = (block next : ℕ) → block < n.blocks → blocks (spot_at die block) ≡ disk.Filling next → ⊥
IsFilling n blocks die (Some o) =
    (o.block < n.blocks) × (blocks (spot_at die o.block) ≡ disk.Filling o.next)
    × ((block next : ℕ) → block < n.blocks → blocks (spot_at die block) ≡ disk.Filling next → block ≡ o.block)

-- the page is the next one of the open block
abbrev pub IsNext : ℕ → Option OpenBlock → Place → Type 0
IsNext die filling place = (o : OpenBlock) × (filling ≡ Some o) × (next_place die o ≡ place)

-- the page of the step under way: a mark with its number, the page of a repair, or the copy of a page that was read
abbrev pub IsStepCell : Option kept_step.Step → Cell → Type 0
IsStepCell (Some (steps.Mark n fence)) (MarkPage m) = m.number ≡ n
IsStepCell (Some (steps.Repair n k from there)) (GroupPage tag body) =
    (tag.number ≡ n) × (tag.index ≡ 0) × (there ≡ true)
IsStepCell (Some (steps.Copy n k from (Some read))) (GroupPage tag body) =
    (tag.number ≡ n) × (tag.index ≡ read.index)
IsStepCell step cell = ⊥

-- the job in flight on a die; the page of an accepted group is in flight only where no repair is under way
abbrev pub IsFlight : Numbers → Option kept_step.Step → ℕ → Option OpenBlock → Option Flight → Option disk.Flight →
    Type 0
IsFlight n step die filling None None = Unit {0}
IsFlight n step die filling (Some (flight.Read place reader)) (Some (disk.Reading who p)) = (p ≡ place) × (who ≡ reader)
IsFlight n step die filling (Some (flight.Step place)) (Some (disk.Programming p cell)) =
    (p ≡ place) × IsNext die filling place × IsStepCell step cell
IsFlight n step die filling (Some (flight.Group place number i)) (Some (disk.Programming p (GroupPage tag body))) =
    (p ≡ place) × IsNext die filling place × (tag.number ≡ number) × (tag.index ≡ i) × (repairs_in step ≡ 0)
IsFlight n step die filling (Some (flight.Erase block)) (Some (disk.Erasing s)) =
    (s ≡ spot_at die block) × (block < n.blocks)
IsFlight n step die filling kept other = ⊥

-- what is kept of a die: the block that it fills, and the job that it has in flight
pub record RowKept (n : Numbers) (blocks : Spot → disk.BlockState) (step : Option kept_step.Step) (die : ℕ) (b : DieRow)
    (f : Option disk.Flight) : Type 0 where
  pub filling : IsFilling n blocks die b.filling
  pub job : IsFlight n step die b.filling b.flight f

-- each die of the configuration has its book, and no other die has a job in flight
pub record DiesKept (n : Numbers) (blocks : Spot → disk.BlockState) (flights : ℕ → Option disk.Flight)
    (step : Option kept_step.Step) (rows : List DieRow) : Type 0 where
  pub dies : length rows ≡ n.dies
  pub each : (die : ℕ) (b : DieRow) → slice_get rows die ≡ Some b → RowKept n blocks step die b (flights die)
  pub no_more : (die : ℕ) → n.dies ≤ die → flights die ≡ None

-- Groups

-- by number and index, the place where a page of a group stands, if it does
abbrev pub Standing : Type 0
Standing = ℕ → ℕ → Option Place

-- the die has the program of this page of a pending group in flight
pub record WritesGroup (rows : List DieRow) (die number index : ℕ) : Type 0 where
  pub book : DieRow
  pub there : slice_get rows die ≡ Some book
  pub place : Place
  pub job : book.flight ≡ Some (flight.Group place number index)

-- no two dies write the page of one name, and the page of a pending group that a die writes does not stand
pub record PagesFly (standing : Standing) (flights : ℕ → Option disk.Flight) (rows : List DieRow) : Type 0 where
  pub one : (d e : ℕ) (name : Name) → flies_name name (flights d) ≡ true → flies_name name (flights e) ≡ true → d ≡ e
  pub new : (d number index : ℕ) → WritesGroup rows d number index → standing number index ≡ None

-- a page of a group is named by the group's number and its index in the group
abbrev pub name_at : ℕ → ℕ → Name
name_at n i = record { number = n; index = i }

-- the page of this name: its number, its index, what it has, the size of its group, and where it stands. It holds what
-- it has unless it waits for its rest
pub record PageKept (standing : Standing) (entries : Name → Option Entry) (p : Pending) (name : Name) : Type 0 where
  pub number : p.number ≡ name.number
  pub index : p.index ≡ name.index
  pub body : List ℕ
  pub entry : entries name ≡ Some (record { item = record { key = p.key; body = body }; size = p.size })
  pub group_page : is_group_page p ≡ true
  pub stands : standing name.number name.index ≡ p.written
  pub whole : p.rest ≡ None → p.body ≡ body

-- the pending pages are kept page by page, in the order of number and index
abbrev pub PagesKept : Standing → (Name → Option Entry) → List Pending → List Name → Type 0
PagesKept standing entries [] [] = Unit {0}
PagesKept standing entries (p ∷ ps) (name ∷ names) =
    PageKept standing entries p name × PagesKept standing entries ps names
PagesKept standing entries ps names = ⊥

-- the names of the pages of groups that are accepted and not durable, by number and index
abbrev pub names_pending : Ledger → List Name
names_pending l = names_after l.frontier (pending l)

-- Places

-- the page of a name, with where it stands, if it does
abbrev pub page_of_name : Standing → Name → Name × Option Place
page_of_name standing name = (name, standing name.number name.index)

-- what is stored names a page, and says that it stands at a place
abbrev pub page_stored : Stored → Name × Option Place
page_stored s = (s.name, Some s.place)

-- what is kept of the groups: the frontier, the greatest number given, the pending pages, and for each key of the
-- device where its durable content stands
pub record LedgerKept (n : Numbers) (stored : List (Option Stored)) (kept : List Pending) (known last : ℕ)
    (l : Ledger) : Type 0 where
  pub frontier : known ≡ l.frontier
  pub last_given : suc last ≡ next_number l
  -- the pages of groups that are accepted and not durable; before the device is mended there are none, and the number
  -- behind the frontier may be a repair's
  pub pages : PagesKept l.standing (entry_of l) kept (names_pending l)
  pub keys : key_total (shape_of_numbers n) ≤ length stored
  -- what is stored of a key is the page of its durable content, where that stands
  pub places : (k : Key) → IsKey (shape_of_numbers n) k →
      option_map page_stored (stored_in n stored k) ≡ option_map (page_of_name l.standing) (latest_durable l k)

-- Pins

-- the page of the name is of the key
abbrev pub IsNameOf : (Name → Option Entry) → Key → Name → Type 0
IsNameOf entries k name = (e : Entry) × (entries name ≡ Some e) × (e.item.key ≡ k)

-- what was looked up is of the key, and a slot is of a group that is not durable yet
abbrev pub IsLookOf : ℕ → (Name → Option Entry) → Key → Looked → Type 0
IsLookOf frontier entries k Unwritten = Unit {0}
IsLookOf frontier entries k (InSlot name) = (frontier < name.number) × IsNameOf entries k name
IsLookOf frontier entries k (OnPage name place) = IsNameOf entries k name

-- what was looked up is in no slot
abbrev pub IsInNoSlot : Looked → Type 0
IsInNoSlot Unwritten = Unit {0}
IsInNoSlot (InSlot name) = ⊥
IsInNoSlot (OnPage name place) = Unit {0}

-- what is kept of one block of a reader: what was looked up when its READ came, and whether its page is still wanted
pub record PinKept (frontier : ℕ) (entries : Name → Option Entry) (p : Pin) (q : layer.Pin) : Type 0 where
  pub tag : q.tag ≡ p.reader
  pub index : q.index ≡ p.index
  pub looked : q.looked ≡ p.looked
  pub there : IsLookOf frontier entries p.key q.looked
  pub wanted : q.wanted ≡ p.wanted

-- pin by pin, in the same order
abbrev pub PinsKept : ℕ → (Name → Option Entry) → List Pin → List layer.Pin → Type 0
PinsKept frontier entries [] [] = Unit {0}
PinsKept frontier entries (p ∷ ps) (q ∷ qs) = PinKept frontier entries p q × PinsKept frontier entries ps qs
PinsKept frontier entries ps qs = ⊥

-- no block of a reader is kept twice
abbrev pub ReadersDiffer : List Pin → Type 0
ReadersDiffer [] = Unit {0}
ReadersDiffer (p ∷ ps) = (list_any (is_pin_of p.reader p.index) ps ≡ false) × ReadersDiffer ps

-- the pin is of the page at this place, which is still to be read
pub record IsWanted (place : Place) (p : Pin) : Type 0 where
  pub name : Name
  pub looks : p.looked ≡ OnPage name place
  pub wanted : p.wanted ≡ true

-- a read in flight for a task is of the page that its reader wants
abbrev pub ReadsKept : (ℕ → Option disk.Flight) → List Pin → Type 0
ReadsKept flights pins =
    (die tag index : ℕ) (place : Place) → flights die ≡ Some (disk.Reading (ForTask tag index) place) →
    (p : Pin) × (find (is_pin_of tag index) pins ≡ Some p) × IsWanted place p

-- a read in flight for the step under way is of the page that it is still to be read from
abbrev pub StepReadsKept : (ℕ → Option disk.Flight) → Option kept_step.Step → Type 0
StepReadsKept flights step =
    (die : ℕ) (place : Place) → flights die ≡ Some (disk.Reading ForStep place) → step_wants step ≡ Some place

-- Mending

-- how far the mending is, with the keys that have no repair yet
abbrev pub mending_kept : kept.Mending → List Key → Mending
mending_kept (mendings.Unmarked fence) left = Unmarked fence left
mending_kept mendings.Repairing left = Repairing left
mending_kept mendings.Mended left = Mended

-- a repair is the last group, of one page with the content that its key had at the life's start; it is read from where
-- that content stands
pub record RepairKept (l : Ledger) (number : ℕ) (k : Key) (from : Option Stored) (there : Bool) (content : List ℕ) :
    Type 0 where
  pub next : number ≡ suc l.frontier
  pub last : number ≡ l.greatest_seen + length l.groups
  -- its page does not stand yet
  pub new : l.standing number 0 ≡ None
  pub entry : entry_of l (name_at number 0) ≡ Some (record { item = record { key = k; body = l.base k }; size = 1 })
  pub stored : option_map page_stored from ≡ option_map (page_of_name l.standing) (l.first_page k)
  pub content_is : there ≡ true → content ≡ l.base k

-- what was read has the content of the page with this name, and the tag that it has whenever it is programmed
pub record IsCopied (name : Name) (e : Entry) (read : Tag) (content : List ℕ) : Type 0 where
  pub content_is : content ≡ e.item.body
  pub tag_is : (frontier : ℕ) → tag_of name e frontier ≡ record read { frontier = frontier }

-- a copy is of a page that stands, of this key and of the group with this number
pub record CopyKept (l : Ledger) (number : ℕ) (k : Key) (read : Option Tag) (content : List ℕ) (name : Name) : Type 0
  where
    pub number_is : name.number ≡ number
    pub place : Place
    pub stands : l.standing name.number name.index ≡ Some place
    pub entry : Entry
    pub known : entry_of l name ≡ Some entry
    pub key : entry.item.key ≡ k
    pub copied : (tag : Tag) → read ≡ Some tag → IsCopied name entry tag content

-- the step under way is the specified one: a mark, the repair of a key or the copy of a page, with its content there or
-- still to be read
abbrev pub StepKept : Ledger → Option kept_step.Step → List ℕ → Option Step → Type 0
StepKept l None content None = Unit {0}
StepKept l (Some (steps.Mark n fence)) content (Some s) = s ≡ record { kind = MarkStep n fence; there = true }
StepKept l (Some (steps.Repair n k from there)) content (Some s) =
    (s ≡ record { kind = RepairStep (name_at n 0) (option_map (λ (at : Stored). at.place) from); there = there })
    × RepairKept l n k from there content
StepKept l (Some (steps.Copy n k from read)) content (Some s) =
    (name : Name) × (s ≡ record { kind = CopyStep name from; there = is_some read }) × CopyKept l n k read content name
StepKept l step content other = ⊥

-- the key that is being repaired, and those that have no repair yet
abbrev pub keys_to_repair : Option kept_step.Step → List Key → List Key
keys_to_repair (Some (steps.Repair n k from there)) left = k ∷ left
keys_to_repair step left = left

-- each key once, and none of them has a durable repair: its content is still that of the life's start
pub record AreToRepair (l : Ledger) (ks : List Key) : Type 0 where
  pub differ : AllPairs (λ a b. a ≢ b) ks
  pub unrepaired : All (λ k. latest_durable l k ≡ l.first_page k) ks

-- what is kept of the work under way: how far the mending is, the step with its content, the next mark number, and the
-- keys that have no repair yet
pub record WorkKept (mending : kept.Mending) (left : List Key) (step : Option kept_step.Step) (content : List ℕ)
    (next : ℕ) (w : Work) (l : Ledger) : Type 0 where
  pub mending_is : w.mending ≡ mending_kept mending left
  pub step_is : StepKept l step content w.step
  pub to_repair : is_mended w.mending ≡ false → AreToRepair l (keys_to_repair step left)
  pub next_mark : next ≡ suc l.marks
  -- once the device is mended each repair is durable
  pub repaired : is_mended w.mending ≡ true → before_accepted l ≤ l.frontier

-- Collection

-- the collection that is begun is the plan of the layer, and its block one of the dies
pub record PlanKept (n : Numbers) (plan : Option Collection) (w : Option layer.Plan) : Type 0 where
  pub plan_is : w ≡ option_map layer_plan plan
  pub inside : (p : Collection) → plan ≡ Some p → (p.victim.die < n.dies) × (p.victim.block < n.blocks)

-- All of it

-- what the layer keeps agrees with the specified layer, part by part
pub record Kept (c : Core) (t : Translation) : Type 0 where
  pub numbers : c.numbers ≡ t.numbers
  pub blocks : BlocksKept t.numbers t.disk.blocks t.disk.vacancies c.states
  pub dies : DiesKept t.numbers t.disk.blocks t.disk.flights c.step c.rows
  pub fly : PagesFly t.ledger.standing t.disk.flights c.rows
  pub ledger_kept : LedgerKept c.numbers c.places c.pages c.frontier c.last t.ledger
  pub work : WorkKept c.mending (drop c.repaired c.lost) c.step c.content c.next_mark t.work t.ledger
  pub plan : PlanKept t.numbers c.plan t.work.plan
  pub claims : length c.claims ≡ t.claims
  pub pins : PinsKept t.ledger.frontier (entry_of t.ledger) c.pins t.pins
  pub differ : ReadersDiffer c.pins
  pub reads : ReadsKept t.disk.flights c.pins
  pub step_reads : StepReadsKept t.disk.flights c.step
  -- readers keep slots only once the device is mended
  pub readers : is_mended t.work.mending ≡ false → All (λ (p : Pin). IsInNoSlot p.looked) c.pins

-- a copy whose page is still to be read
abbrev pub copying : Name → Place → Step
copying name from = record { kind = CopyStep name from; there = false }

-- if a group's page is there it is of this key and of the group with this number
abbrev pub IsOf : Cells → PlannedCopy → Type 0
IsOf cells x =
    (tag : Tag) (body : List ℕ) → cells x.from ≡ GroupPage tag body → (key_of tag ≡ x.key) × (tag.number ≡ x.number)

-- the pages that are still to be copied have the keys and numbers of their copies, and the page that the step under way
-- is still to copy has the name of its copy
pub record CopiesKnown (cells : Cells) (plan : Option Collection) (step : Option Step) : Type 0 where
  pub planned : (p : Collection) → plan ≡ Some p → All (IsOf cells) p.copies
  pub named : (name : Name) (from : Place) → step ≡ Some (copying name from) →
      (tag : Tag) (body : List ℕ) → cells from ≡ GroupPage tag body → name_of tag ≡ name

-- what is kept describes the layer, this is one that a life may come to, and it is known which pages are live, which are
-- copied, and which wait for their rests
pub record Describes (c : Core) (t : Translation) : Type 0 where
  pub valid : Valid t
  pub kept : Kept c t
  pub live : KnowsLive c.numbers c.places c.pages c.live
  pub copies : CopiesKnown t.disk.cells c.plan t.work.step
  pub rests : RestsKept t (waiting c.pages)

-- What the calls tell

-- the layer once the die was given the job, if it was given one
abbrev pub given : Translation → ℕ → Option disk.Flight → Translation
given t die None = t
given t die (Some job) = moved t (GiveJob die job)

-- the job is one that is owed to the die, or none where none is, and what is kept then describes what that makes of the
-- layer
pub record IsTaken (t : Translation) (die : ℕ) (told : Option Job) (after : Core) : Type 0 where
  pub job : Option disk.Flight
  pub right : MayTake t die job
  pub shown : told ≡ option_map disk.job_of job
  pub describes : Describes after (given t die job)

-- what the end of a job tells: a read for a reader the index of its block, and the block or that it could not be had
abbrev pub IsTold : Cells → Option disk.Flight → Ending → EndedNow → Type 0
IsTold cells (Some (disk.Reading (ForTask tag index) place)) ReadRight e =
    (t : Tag) × (body : List ℕ) × (cells place ≡ GroupPage t body) × (e ≡ ended.Read tag index (Some body))
IsTold cells (Some (disk.Reading (ForTask tag index) place)) ReadWrong e = e ≡ ended.Read tag index None
IsTold cells flight ending e = e ≡ ended.Other
