-- The translation layer of one life, which is all of the device that knows pages and knows no messages: what it
-- owes to each die, when a step of mending or collection is due, and what each step makes of it (this profile).
use Rattle.std.specs.Prelude.{◌≡◌, ◌⊎◌, ℕ, ◌+◌, ◌-◌, ◌*◌, ◌==◌, ◌&&◌, ◌||◌, nat_le, nat_lt, max, not, Bool}
use Rattle.std.specs.Prelude.{true, false}
use Rattle.std.specs.Prelude.{if◌then◌else◌, is_none, is_some, List, [], ◌∷◌, ◌++◌, count_by, filter, filter_map, find}
use Rattle.std.specs.Prelude.{length, map, sum_by, Option, Some, None, option_map, Contains, slice_get, option_and_then}
use Rattle.std.specs.Int.{div_ceil}
use Rattle.std.specs.List.{flat_map, list_any}
use Rattle.ufs_spec.specs.Cells.{Cell, GroupPage, MarkPage, Nothing, key_of, same_place}
use Rattle.ufs_spec.specs.Configs.{marked}
use Rattle.ufs_spec.specs.Disk.{Bad, BlockState, Closed, Disk, Erasing, Filling, Flight, Free, Programming, Reading}
use Rattle.ufs_spec.specs.Disk.{Ready, Spot, Stale, Untouched, Vacancy, job_begun, place_in, same_spot, spot_of}
use Rattle.ufs_spec.specs.Keys.{Group, below, Item}
use Rattle.ufs_spec.specs.Ledger.{Entry, Ledger, accepted_groups, before_accepted, entry_of, is_name, is_standing}
use Rattle.ufs_spec.specs.Ledger.{latest_durable, look, next_number, pending, same_name}
use Rattle.ufs_spec.specs.Pages.{greatest_number}
use Rattle.ufs_spec.specs.declared.configs.Numbers.{Numbers}
use Rattle.ufs_spec.specs.declared.flash.Fence.{Fence}
use Rattle.ufs_spec.specs.declared.flash.Key.{Key}
use Rattle.ufs_spec.specs.declared.flash.Place.{Place}
use Rattle.ufs_spec.specs.declared.flash.Tag.{Tag}
use Rattle.ufs_spec.specs.declared.layer.Looked.{Looked}
use Rattle.ufs_spec.specs.declared.layer.Looked.TheVariants.{OnPage, InSlot, Unwritten}
use Rattle.ufs_spec.specs.declared.layer.Name.{Name}
use Rattle.ufs_spec.specs.declared.layer.Reader.{Reader}
use Rattle.ufs_spec.specs.declared.layer.Reader.TheVariants.{ForRest, ForStep, ForTask}

-- What is under way

-- how far a life is with mending: by it a device shuts out what the last stop lost, before it accepts anything
pub data Mending : Type 0 where
  -- its first mark is not finished: with its fence, if it has one, and the keys that have a lost page
  Unmarked : (fence : Option Fence) → (lost : List Key) → Mending
  -- that mark is finished, and these keys have no repair yet
  Repairing : (left : List Key) → Mending
  -- the mending is over
  Mended : Mending

-- the collection of a block: these pages are still to be copied, then comes a mark, and then the block is free
pub record Plan : Type 0 where
  pub victim : Spot
  pub copies : List Place

-- one step of mending or collection
pub data StepKind : Type 0 where
  -- a mark, with its number and its fence
  MarkStep : (number : ℕ) → (fence : Option Fence) → StepKind
  -- a page is copied from its place and keeps its name
  CopyStep : (name : Name) → (from : Place) → StepKind
  -- a key gets its kept content again under a new name: from the page that has it, or zeros if none has
  RepairStep : (name : Name) → (from : Option Place) → StepKind

-- the step under way, and whether its content is there: a copy or repair from a page has to be read first
pub record Step : Type 0 where
  pub kind : StepKind
  pub there : Bool

-- where the rest comes from of an area page that a command has only in part
pub data Source : Type 0 where
  -- from a page that is to be read
  FromPage : (place : Place) → Source
  -- from a slot whose own content is still owed: from the read that the page of this name waits for
  FromSlot : (name : Name) → Source

-- a page of an accepted group whose content is not there yet, and where the rest of it comes from
pub record Rest : Type 0 where
  pub name : Name
  pub source : Source

-- what is under way: the mending, a collection if one is begun, a step of either, and the rests that are owed
pub record Work : Type 0 where
  pub mending : Mending
  pub plan : Option Plan
  pub step : Option Step
  -- the pages of groups whose content is not there yet
  pub rests : List Rest

-- a block of a task that was looked up and is kept: whose it is, where it was found, and whether its page is wanted
pub record Pin : Type 0 where
  pub tag : ℕ
  pub index : ℕ
  pub looked : Looked
  pub wanted : Bool

-- all that the translation layer is in one life
pub record Translation : Type 0 where
  pub numbers : Numbers
  pub disk : Disk
  pub ledger : Ledger
  pub work : Work
  -- how many slots tasks have claimed for data that are not accepted yet
  pub claims : ℕ
  -- what tasks keep of what they looked up
  pub pins : List Pin

-- Blocks

-- all blocks of all dies, in order of die and block
abbrev pub spots : Numbers → List Spot
spots n = flat_map (λ die. map (λ block. record { die = die; block = block }) (below n.blocks)) (below n.dies)

-- whether nothing in the block is needed any more
abbrev pub is_free : BlockState → Bool
is_free Free = true
is_free _ = false

-- whether a job of the block has failed
abbrev pub is_bad : BlockState → Bool
is_bad Bad = true
is_bad _ = false

-- whether what is in a free block opens and may go
abbrev pub is_stale : Vacancy → Bool
is_stale Stale = true
is_stale _ = false

-- whether a free block was erased in this life
abbrev pub is_ready : Vacancy → Bool
is_ready Ready = true
is_ready _ = false

-- whether nothing in a free block opens, and it was not erased in this life
abbrev pub is_untouched : Vacancy → Bool
is_untouched Untouched = true
is_untouched _ = false

-- the block is free, and what is in it is so
abbrev pub is_vacant : Translation → (Vacancy → Bool) → Spot → Bool
is_vacant t is s = is_free (t.disk.blocks s) && is (t.disk.vacancies s)

-- how many blocks of all dies are in such a state
abbrev pub count_blocks : Translation → (BlockState → Bool) → ℕ
count_blocks t is = count_by (λ s. is (t.disk.blocks s)) (spots t.numbers)

-- whether what was looked up is on a page of this block
abbrev pub looks_into : Spot → Looked → Bool
looks_into s (OnPage name place) = same_spot (spot_of place) s
looks_into s _ = false

-- whether the rest is still to be read from a page of this block
abbrev pub reads_from : Spot → Source → Bool
reads_from s (FromPage place) = same_spot (spot_of place) s
reads_from s (FromSlot name) = false

-- a page of the block is kept for a task, or the rest of a page is still to be read from it: such a
-- block is neither collected nor erased
abbrev pub is_pinned : Translation → Spot → Bool
is_pinned t s =
    list_any (λ (pin : Pin). looks_into s pin.looked) t.pins
    || list_any (λ (rest : Rest). reads_from s rest.source) t.work.rests

-- the lock: more blocks are bad than the configuration has spare ones, or no number is left for the next group. It
-- never goes again in a life
abbrev pub is_locked : Translation → Bool
is_locked t = nat_lt t.numbers.spare (count_blocks t is_bad) || nat_lt greatest_number (next_number t.ledger)

-- Slots

-- how many pages the groups have that are accepted and not durable: each of them takes a slot
abbrev pub pending_pages : Ledger → ℕ
pending_pages l = sum_by length (pending l)

-- the slots of the write cache that neither a pending page nor a claim takes
abbrev pub free_slots : Translation → ℕ
free_slots t = t.numbers.slots - pending_pages t.ledger - t.claims

-- something is accepted and not durable
abbrev pub has_pending : Translation → Bool
has_pending t = nat_lt 0 (pending_pages t.ledger)

-- whether the mending is over; until then nothing is accepted
abbrev pub is_mended : Mending → Bool
is_mended Mended = true
is_mended _ = false

-- Live pages

-- whether the place that was found, if one was, is this one
abbrev pub stands_there : Place → Option Place → Bool
stands_there p None = false
stands_there p (Some at) = same_place at p

-- the page of the name is needed if its group is not durable yet, or if it has its key's content at the frontier
abbrev pub is_needed : Ledger → Name → Key → Bool
is_needed l name k = nat_lt l.frontier name.number || is_name name (latest_durable l k)

-- the name of the page with this tag
abbrev pub name_of : Tag → Name
name_of t = record { number = t.number; index = t.index }

-- a page of a group is live if it is the one that stands under its name, and is needed. Of copies only the
-- last is; a mark never is
abbrev pub is_live_cell : Ledger → Place → Cell → Bool
is_live_cell l p (GroupPage tag body) =
    stands_there p (l.standing tag.number tag.index) && is_needed l (name_of tag) (key_of tag)
is_live_cell l p cell = false

-- whether the page at the place is live
abbrev pub is_live : Translation → Place → Bool
is_live t p = is_live_cell t.ledger p (t.disk.cells p)

-- the live pages of a block, in order
abbrev pub live_places : Translation → Spot → List Place
live_places t s = filter (is_live t) (map (place_in s) (below t.numbers.pages))

-- how many pages of a block are live, and so have to be copied before it may be erased
abbrev pub live_count : Translation → Spot → ℕ
live_count t s = length (live_places t s)

-- Free blocks

-- how many free blocks the device's own pages need, copies, marks and repairs, while no block goes bad: one for each
-- die, two, and twice as many as the pages of a full write cache fill
abbrev pub least_room : Numbers → ℕ
least_room n = n.dies + 2 + 2 * div_ceil n.slots n.pages

-- how many blocks may still go bad before the device is locked, where so many are bad
abbrev pub may_go_bad : Numbers → ℕ → ℕ
may_go_bad n bad = n.spare - bad

-- how many free blocks groups leave where so many blocks are bad: those that the device's own pages need, and one for
-- each block that may still go bad
abbrev pub own_room : Numbers → ℕ → ℕ
own_room n bad = least_room n + may_go_bad n bad

-- with fewer free blocks than this many room is to be gained
abbrev pub wanted_room : Numbers → ℕ → ℕ
wanted_room n bad = max (2 * n.dies + 4) (least_room n + 2) + may_go_bad n bad

-- whether fewer blocks are free than are wanted
abbrev pub has_few_free : Translation → Bool
has_few_free t = nat_lt (count_blocks t is_free) (wanted_room t.numbers (count_blocks t is_bad))

-- whether a bad block is being collected: what it holds is copied, and no block is free afterwards
abbrev pub is_plan_of_bad : (Spot → BlockState) → Option Plan → Bool
is_plan_of_bad blocks None = false
is_plan_of_bad blocks (Some plan) = is_bad (blocks plan.victim)

-- how many free blocks groups leave now. While a bad block is collected they leave as many as are wanted: its pages and
-- a mark may fill two
abbrev pub left_by_groups : Translation → ℕ
left_by_groups t =
    if is_plan_of_bad t.disk.blocks t.work.plan then wanted_room t.numbers (count_blocks t is_bad)
    else own_room t.numbers (count_blocks t is_bad)

-- Collection

-- whether the block's collection is of use: while few blocks are free, that of a closed one that is not wholly live,
-- since it frees a block; else that of a bad one with live pages, since these leave it
abbrev pub gains : Translation → Spot → BlockState → Bool
gains t s Closed = has_few_free t && nat_lt (live_count t s) t.numbers.pages
gains t s Bad = not (has_few_free t) && nat_lt 0 (live_count t s)
gains t s state = false

-- whether the block may be collected: its collection is of use, and nobody keeps a page of it
abbrev pub may_be_victim : Translation → Spot → Bool
may_be_victim t s = not (is_pinned t s) && gains t s (t.disk.blocks s)

-- the first element with the least count, of the best one so far and the rest of the list
abbrev pub least_of : {A : Type 0} → (A → ℕ) → Option A → List A → Option A
least_of count best [] = best
least_of count None (x ∷ xs) = least_of count (Some x) xs
least_of count (Some best) (x ∷ xs) = least_of count (Some (if nat_lt (count x) (count best) then x else best)) xs

-- the block to be collected: of those that may be, the one with the fewest live pages, and the lowest of several
abbrev pub victim : Translation → Option Spot
victim t = least_of (live_count t) None (filter (may_be_victim t) (spots t.numbers))

-- a bad block with live pages that nobody keeps: they are brought to a good block
abbrev pub is_bad_with_live : Translation → Spot → Bool
is_bad_with_live t s = is_bad (t.disk.blocks s) && not (is_pinned t s) && nat_lt 0 (live_count t s)

-- when collection is due, if there is a victim: few blocks are free, or a bad block has live pages
abbrev pub wants_collection : Translation → Bool
wants_collection t =
    has_few_free t || list_any (is_bad_with_live t) (spots t.numbers)

-- Steps

-- whether a number is left for one more mark
abbrev pub has_mark_number : Translation → Bool
has_mark_number t = nat_lt t.ledger.marks greatest_number

-- whether a number is left for one more group
abbrev pub has_number : Translation → Bool
has_number t = nat_le (next_number t.ledger) greatest_number

-- what the next step begins with
pub data Order : Type 0 where
  -- a mark of a mending: its first, with the fence over what is lost, or its last, without one
  OrderMark : (fence : Option Fence) → Order
  -- the repair of the first key that has none, and the keys left after it
  OrderRepair : (key : Key) → (left : List Key) → Order
  -- the copy of the next page of a plan, and the pages left after it
  OrderCopy : (victim : Spot) → (place : Place) → (left : List Place) → Order
  -- the mark of a plan that has no page left to copy; after it the block is free
  OrderPlanMark : (victim : Spot) → Order

-- the next step of a plan: the copy of its first page that is left, else its mark
abbrev pub plan_order : Translation → Spot → List Place → Option Order
plan_order t victim [] = if has_mark_number t then Some (OrderPlanMark victim) else None
plan_order t victim (p ∷ ps) = Some (OrderCopy victim p ps)

-- the first step of a plan for the victim: its copies are the pages that are live now
abbrev pub victim_order : Translation → Option Spot → Option Order
victim_order t None = None
victim_order t (Some s) = plan_order t s (live_places t s)

-- the next step of the mending; else of the plan that is begun; else of a new one, if collection is due. What would
-- need a number above the greatest is not due
abbrev pub next_order : Translation → Mending → Option Plan → Option Order
next_order t (Unmarked fence lost) plan = if has_mark_number t then Some (OrderMark fence) else None
next_order t (Repairing []) plan = if has_mark_number t then Some (OrderMark None) else None
next_order t (Repairing (k ∷ ks)) plan = if has_number t then Some (OrderRepair k ks) else None
next_order t Mended (Some plan) = plan_order t plan.victim plan.copies
next_order t Mended None = if wants_collection t && has_mark_number t then victim_order t (victim t) else None

-- whether a free block of some die is still to be erased for what is in it
abbrev pub has_stale : Translation → Bool
has_stale t = list_any (is_vacant t is_stale) (spots t.numbers)

-- the step that a turn orders; none while one is under way, nor while a free block is to be erased for what is in it. So
-- each mark, copy and repair finds all free blocks empty: the pages of one may owe it to others that they may go, and
-- to these each step may bring an end
abbrev pub due_order : Translation → Option Order
due_order t =
    if is_none t.work.step && not (has_stale t) then next_order t t.work.mending t.work.plan else None

-- whether a turn is answered yes
abbrev pub is_step_due : Translation → Bool
is_step_due t = is_some (due_order t)

-- this step is under way, with its content there or not
abbrev pub with_step : Translation → StepKind → Bool → Translation
with_step t kind there = record t { work = record t.work { step = Some (record { kind = kind; there = there }) } }

-- a mark is under way; it gets the next mark number when it is ordered, and its content is there at once
abbrev pub mark_ordered : Translation → Option Fence → Translation
mark_ordered t fence =
    with_step (record t { ledger = record t.ledger { marks = t.ledger.marks + 1 } })
    (MarkStep (t.ledger.marks + 1) fence) true

-- where the page of a name is; nowhere without a name
abbrev pub standing_of : Ledger → Option Name → Option Place
standing_of l None = None
standing_of l (Some name) = l.standing name.number name.index

-- one repair more among the groups of this life: a group of one page, with the content of
-- its key at the life's start
abbrev pub with_repair : Ledger → Key → Ledger
with_repair l k =
    record l { groups = l.groups ++ (record { key = k; body = l.base k } ∷ []) ∷ []; repairs = l.repairs + 1 }

-- a repair is under way, with the next number. Its content is read from the page that had it at the life's start;
-- if none had, it is zeros and needs no read
abbrev pub repair_ordered : Translation → Key → List Key → Translation
repair_ordered t k left =
    with_step
    (record t { ledger = with_repair t.ledger k; work = record t.work { mending = Repairing left } })
    (RepairStep (record { number = next_number t.ledger; index = 0 }) (standing_of t.ledger (t.ledger.first_page k)))
    (is_none (standing_of t.ledger (t.ledger.first_page k)))

-- the block is being collected, and these pages are still to be copied
abbrev pub with_plan : Translation → Spot → List Place → Translation
with_plan t victim copies =
    record t { work = record t.work { plan = Some (record { victim = victim; copies = copies }) } }

-- the copy of the page there is under way, under its old name, so that it hides no write of its key that came
-- meanwhile; its content has to be read first
abbrev pub copy_begun : Translation → Place → Cell → Translation
copy_begun t p (GroupPage tag body) = with_step t (CopyStep (name_of tag) p) false
copy_begun t p cell = t

-- what the layer is once the step is ordered
abbrev pub ordered : Translation → Order → Translation
ordered t (OrderMark fence) = mark_ordered t fence
ordered t (OrderRepair k left) = repair_ordered t k left
ordered t (OrderCopy victim p left) = copy_begun (with_plan t victim left) p (t.disk.cells p)
ordered t (OrderPlanMark victim) = mark_ordered (with_plan t victim []) None

-- one step of mending or collection, if one is due
abbrev pub stepped : Translation → Option Order → Translation
stepped t None = t
stepped t (Some order) = ordered t order

-- what a turn makes of the layer
abbrev pub turned : Translation → Translation
turned t = stepped t (due_order t)

-- What waits to be programmed

-- whether a die with this job programs the page of the name
abbrev pub flies_name : Name → Option Flight → Bool
flies_name name (Some (Programming p (GroupPage tag body))) = same_name name (name_of tag)
flies_name name _ = false

-- whether a die with this job programs a mark
abbrev pub flies_mark : Option Flight → Bool
flies_mark (Some (Programming p (MarkPage m))) = true
flies_mark _ = false

-- whether some die of the device has such a job
abbrev pub some_flight : Translation → (Option Flight → Bool) → Bool
some_flight t is = list_any (λ die. is (t.disk.flights die)) (below t.numbers.dies)

-- the tag of the page of a name, with the frontier that it records
abbrev pub tag_of : Name → Entry → ℕ → Tag
tag_of name e frontier =
    record {
      kind = e.item.key.kind;
      unit = e.item.key.unit;
      address = e.item.key.address;
      number = name.number;
      index = name.index;
      size = e.size;
      frontier = frontier;
    }

-- the page of a name as a cell; nothing if no page has the name
abbrev pub cell_of_entry : Name → Option Entry → ℕ → Cell
cell_of_entry name None frontier = Nothing
cell_of_entry name (Some e) frontier = GroupPage (tag_of name e frontier) e.item.body

-- a page as it is programmed now: it records the frontier of the moment
abbrev pub cell_now : Ledger → Name → Cell
cell_now l name = cell_of_entry name (entry_of l name) l.frontier

-- what a mark records: without a fence the frontier of the moment, with one the fence's last number. So a first
-- mark whose program failed and that is there after all says the same as the one in its place
abbrev pub records_now : Ledger → Option Fence → ℕ
records_now l None = l.frontier
records_now l (Some f) = f.last

-- the page of the step as it is programmed now
abbrev pub step_cell : Translation → StepKind → Cell
step_cell t (MarkStep number fence) =
    MarkPage (record { number = number; records = records_now t.ledger fence; fence = fence; numbers = marked t.numbers })
step_cell t (CopyStep name from) = cell_now t.ledger name
step_cell t (RepairStep name from) = cell_now t.ledger name

-- whether a die programs the page of the step
abbrev pub step_flies : Translation → StepKind → Bool
step_flies t (MarkStep number fence) = some_flight t flies_mark
step_flies t (CopyStep name from) = some_flight t (flies_name name)
step_flies t (RepairStep name from) = some_flight t (flies_name name)

-- the page of the step under way, once its content is there and no die programs it
abbrev pub waiting_step : Translation → Option Step → Option Cell
waiting_step t None = None
waiting_step t (Some step) = if step.there && not (step_flies t step.kind) then Some (step_cell t step.kind) else None

-- whether it is the rest of the page of this name
abbrev pub is_rest_of : Name → Rest → Bool
is_rest_of name rest = same_name rest.name name

-- the name of the page whose read gives a page of this name its rest: its own, or that of the slot
abbrev pub read_from : Name → Source → Name
read_from name (FromPage place) = name
read_from name (FromSlot other) = other

-- the name of the page whose read the rest waits for
abbrev pub awaited_read : Rest → Name
awaited_read rest = read_from rest.name rest.source

-- where the rest of a page comes from that was looked up: nothing is owed of what was never written, nor of
-- a slot that has its content
abbrev pub source_of : List Rest → Looked → Option Source
source_of rests Unwritten = None
source_of rests (OnPage name place) = Some (FromPage place)
source_of rests (InSlot name) = option_map (λ (rest : Rest). FromSlot (awaited_read rest))
    (find (is_rest_of name) rests)

-- only a page of the RPMB area is had in part: an RPMB write has at most 8 of its 16 blocks
abbrev pub is_in_part : Key → Bool
is_in_part k = k.kind == 2

-- the rest that is owed for a page of a group, if one is, as its key is looked up before the group is accepted
abbrev pub rest_of_item : Translation → Name → Item → Option Rest
rest_of_item t name item =
    if is_in_part item.key
    then option_map (λ source. record { name = name; source = source })
    (source_of t.work.rests (look t.ledger item.key))
    else None

-- the rest of the page with this index in the group that is accepted next
abbrev pub rest_at : Translation → Group → ℕ → Option Rest
rest_at t g i = option_and_then (rest_of_item t (record { number = next_number t.ledger; index = i })) (slice_get g i)

-- the rests of a group that is accepted now
abbrev pub rests_of : Translation → Group → List Rest
rests_of t g = filter_map (rest_at t g) (below (length g))

-- the names of the pages of the group with number n
abbrev pub names_of : ℕ → Group → List Name
names_of n g = map (λ i. record { number = n; index = i }) (below (length g))

-- the names of the pages of groups numbered from n + 1 on
abbrev pub names_after : ℕ → List Group → List Name
names_after n [] = []
names_after n (g ∷ gs) = names_of (n + 1) g ++ names_after (n + 1) gs

-- the page of an accepted group waits: it is programmed nowhere, no die programs it, and its content is there.
-- After a failed program it waits again at once, in its old place in the order
abbrev pub waits : Translation → Name → Bool
waits t name =
    not (is_standing t.ledger name.number name.index)
    && not (some_flight t (flies_name name))
    && not (list_any (is_rest_of name) t.work.rests)

-- of the pages of accepted groups, by number and index, the first that waits
abbrev pub waiting_name : Translation → Option Name
waiting_name t = find (waits t) (names_after (before_accepted t.ledger) (accepted_groups t.ledger))

-- What is owed to a die

-- a read that is owed: for whom, and of which page
pub record Want : Type 0 where
  pub reader : Reader
  pub place : Place

-- the read of this page for this reader
abbrev pub want_at : Reader → Place → Want
want_at reader place = record { reader = reader; place = place }

-- the read that gives what was looked up; none is needed of a slot, nor of what was never written
abbrev pub want_of_look : Reader → Looked → Option Want
want_of_look reader (OnPage name place) = Some (want_at reader place)
want_of_look reader looked = None

-- the read that a task wants of a block that it keeps: that of its next DATA IN
abbrev pub want_of_pin : Pin → Option Want
want_of_pin pin = if pin.wanted then want_of_look (ForTask pin.tag pin.index) pin.looked else None

-- the read of the page that a repair is made from; none if no page has its content, which then is zeros
abbrev pub want_from : Option Place → Option Want
want_from None = None
want_from (Some place) = Some (want_at ForStep place)

-- the read that such a step begins with: a copy has one, a repair if a page has its content, a mark none
abbrev pub want_of_kind : StepKind → Option Want
want_of_kind (MarkStep number fence) = None
want_of_kind (CopyStep name from) = Some (want_at ForStep from)
want_of_kind (RepairStep name from) = want_from from

-- the read of the step under way, until its content is there
abbrev pub wants_of_step : Option Step → List Want
wants_of_step None = []
wants_of_step (Some step) = if step.there then [] else filter_map want_of_kind (step.kind ∷ [])

-- the read of the rest; one that comes from a slot waits for that slot's own read
abbrev pub want_of_source : Reader → Source → Option Want
want_of_source reader (FromPage place) = Some (want_at reader place)
want_of_source reader (FromSlot name) = None

-- the read that a page of a group waits for
abbrev pub want_of_rest : Rest → Option Want
want_of_rest rest = want_of_source (ForRest rest.name.number rest.name.index) rest.source

-- whether two readers are the same; a read for nobody is for none of them
abbrev pub same_reader : Reader → Reader → Bool
same_reader (ForTask a i) (ForTask b j) = (a == b) && (i == j)
same_reader ForStep ForStep = true
same_reader (ForRest n i) (ForRest m j) = (n == m) && (i == j)
same_reader _ _ = false

-- whether a die with this job reads for this reader
abbrev pub flies_reader : Reader → Option Flight → Bool
flies_reader reader (Some (Reading other place)) = same_reader reader other
flies_reader reader _ = false

-- no die reads for this reader yet
abbrev pub is_unread : Translation → Want → Bool
is_unread t want = not (some_flight t (flies_reader want.reader))

-- the reads that are owed: for tasks, for the step under way, and for the rests of pages. Each read serves one
-- reader, also if several want one page
abbrev pub wants : Translation → List Want
wants t =
    filter (is_unread t)
    (filter_map want_of_pin t.pins ++ wants_of_step t.work.step ++ filter_map want_of_rest t.work.rests)

-- whether the page lies on this die
abbrev pub is_of_die : ℕ → Want → Bool
is_of_die die want = want.place.die == die

-- the next page of a block that is being filled; none of any other block
abbrev pub next_in : Spot → BlockState → Option Place
next_in s (Filling next) = Some (place_in s next)
next_in s state = None

-- the blocks of one die, in order
abbrev pub spots_of : Numbers → ℕ → List Spot
spots_of n die = map (λ block. record { die = die; block = block }) (below n.blocks)

-- the first of a list, if there is one
abbrev pub first_of : {A : Type 0} → List A → Option A
first_of [] = None
first_of (x ∷ xs) = Some x

-- the next page of the die's open block, that is of its block that is being filled
abbrev pub next_place : Translation → ℕ → Option Place
next_place t die = first_of (filter_map (λ s. next_in s (t.disk.blocks s)) (spots_of t.numbers die))

-- whether the block is free, what is in it is so, and nobody keeps a page of it: it may be erased, and then filled
abbrev pub may_be_used : Translation → (Vacancy → Bool) → Spot → Bool
may_be_used t is s = is_vacant t is s && not (is_pinned t s)

-- the lowest block of the die that may be used, of those in which it is so
abbrev pub lowest_vacant : Translation → (Vacancy → Bool) → ℕ → Option Spot
lowest_vacant t is die = find (may_be_used t is) (spots_of t.numbers die)

-- the erase of that block
abbrev pub next_erase : Translation → (Vacancy → Bool) → ℕ → Option Flight
next_erase t is die = option_map Erasing (lowest_vacant t is die)

-- whether a page of a group may be programmed: not into the room that groups leave to the device's own pages
abbrev pub has_room_for_groups : Translation → Bool
has_room_for_groups t = nat_le (left_by_groups t) (count_blocks t is_free)

-- whether a block may be opened for a page of a group: only while more blocks are free than groups leave
abbrev pub may_open_for_group : Translation → Bool
may_open_for_group t = nat_lt (left_by_groups t) (count_blocks t is_free)

-- whether a die with this job erases a block
abbrev pub flies_erase : Option Flight → Bool
flies_erase (Some (Erasing s)) = true
flies_erase _ = false

-- whether a block of some die is being filled, or is being erased
abbrev pub has_open_block : Translation → Bool
has_open_block t = list_any (λ die. is_some (next_place t die)) (below t.numbers.dies) || some_flight t flies_erase

-- whether a block may be opened for the page of a step: while groups may be programmed any die opens its own; below
-- that, one block after another is filled, whatever its die
abbrev pub may_open_for_step : Translation → Bool
may_open_for_step t = has_room_for_groups t || not (has_open_block t)

-- the program of the first page of this block, which was erased in this life; without one the erase of a block
abbrev pub flight_into : Translation → ℕ → Cell → Option Spot → Option Flight
flight_into t die cell (Some s) = Some (Programming (place_in s 0) cell)
flight_into t die cell None = next_erase t is_untouched die

-- what opens a block of the die for the page: the lowest that was erased in this life is filled, else one is erased
abbrev pub opening_flight : Translation → ℕ → Cell → Option Flight
opening_flight t die cell = flight_into t die cell (lowest_vacant t is_ready die)

-- the program of the page at the die's next place; without such a place what opens a block, if one may be opened
abbrev pub flight_at : Translation → ℕ → Bool → Cell → Option Place → Option Flight
flight_at t die opens cell (Some p) = Some (Programming p cell)
flight_at t die opens cell None = if opens then opening_flight t die cell else None

-- the page of a step goes before those of groups
abbrev pub flight_for : Translation → ℕ → Option Cell → Option Name → Option Flight
flight_for t die (Some cell) name = flight_at t die (may_open_for_step t) cell (next_place t die)
flight_for t die None (Some name) =
    if has_room_for_groups t then flight_at t die (may_open_for_group t) (cell_now t.ledger name) (next_place t die)
    else None
flight_for t die None None = None

-- the first of two jobs, if there is one, else the second
abbrev pub flight_or : Option Flight → Option Flight → Option Flight
flight_or (Some flight) other = Some flight
flight_or None other = other

-- the program or the erase that is owed to the die, once no read is: a free block is erased for what is in it before
-- anything is programmed
abbrev pub next_flight : Translation → ℕ → Option Flight
next_flight t die =
    flight_or (next_erase t is_stale die) (flight_for t die (waiting_step t t.work.step) (waiting_name t))

-- the die is one of the device's and has no job
abbrev pub is_idle : Translation → ℕ → Bool
is_idle t die = nat_lt die t.numbers.dies && is_none (t.disk.flights die)

-- the reads that are owed of pages of this die
abbrev pub wants_on : Translation → ℕ → List Want
wants_on t die = filter (is_of_die die) (wants t)

-- the job is owed to the die: if reads are, any of them, else the one program or erase that is
abbrev pub IsOwed : Translation → ℕ → Flight → Type 0
IsOwed t die (Reading reader place) = Contains (wants_on t die) (want_at reader place)
IsOwed t die flight = (wants_on t die ≡ []) × (next_flight t die ≡ Some flight)

-- the job that the die may be given; none if it is not idle, or if nothing is owed to it
abbrev pub MayTake : Translation → ℕ → Option Flight → Type 0
MayTake t die (Some flight) = (is_idle t die ≡ true) × IsOwed t die flight
MayTake t die None = (is_idle t die ≡ false) ⊎ ((wants_on t die ≡ []) × (next_flight t die ≡ None))

-- the die is given the job
abbrev pub taken : Translation → ℕ → Flight → Translation
taken t die flight = record t { disk = job_begun t.disk die flight }
