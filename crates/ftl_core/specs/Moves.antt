-- What the layer's steps make of what it keeps, as the code does it. Describes says what that means.
use Rattle.ufs_spec.specs.Pages.{greatest_number}
use Rattle.ufs_spec.specs.declared.configs.Numbers.{Numbers}
use Rattle.std.specs.Prelude.{ℕ, ◌+◌, ◌-◌, ◌*◌, ◌==◌, min, nat_le, nat_lt, Bool, true, false, ◌&&◌, ◌||◌, not}
use Rattle.std.specs.Prelude.{if◌then◌else◌, List, [], ◌++◌, length, map, replicate, count_by, slice_get, slice_set}
use Rattle.std.specs.Prelude.{Option, Some, None, unwrap_or, option_and_then, option_map, filter, find, is_none}
use Rattle.std.specs.List.{list_any}
use Rattle.ufs_spec.specs.Keys.{below}
use Rattle.ufs_spec.specs.Plain.{steps_of, zero_block}
use Rattle.ufs_spec.specs.Translation.{name_of, own_room, wanted_room}
use Rattle.ufs_spec.specs.declared.flash.Fence.{Fence}
use Rattle.ufs_spec.specs.declared.flash.Key.{Key}
use Rattle.ufs_spec.specs.declared.flash.Tag.{Tag}
use Rattle.ufs_spec.specs.declared.layer.Looked.{Looked}
use Rattle.ufs_spec.specs.declared.layer.Looked.TheVariants.{InSlot, OnPage, Unwritten}
use Rattle.ufs_spec.specs.declared.layer.Name.{Name}
use Rattle.block_table.specs.declared.BlockState.{BlockState}
use Rattle.block_table.specs.declared.BlockState.TheVariants as state
use Rattle.block_table.specs.declared.rows.OpenBlock.{OpenBlock}
use Rattle.block_table.specs.declared.rows.DieRow.{DieRow}
use Rattle.block_table.specs.declared.rows.Flight.{Flight}
use Rattle.block_table.specs.declared.rows.Flight.TheVariants as flight
use Rattle.collector.specs.Plans.{Collection}
use Rattle.unit_map.specs.declared.Stored.{Stored}
use Rattle.write_cache.specs.declared.slots.Claimed.{Claimed}
use Rattle.write_cache.specs.declared.slots.Pending.{Pending}
use Rattle.ftl_core.specs.declared.books.Mending.{Mending}
use Rattle.ftl_core.specs.declared.books.Mending.TheVariants as mending
use Rattle.readers.specs.Pins.{is_of_reader, is_pin_of, wanted_now}
use Rattle.readers.specs.declared.pin.Pin.{Pin}
use Rattle.ftl_core.specs.declared.books.Step.{Step}
use Rattle.ftl_core.specs.declared.books.Step.TheVariants as step
use Rattle.ftl_core.specs.declared.books.Waiting.{Waiting}
use Rattle.ftl_core.specs.declared.books.Waiting.TheVariants as waiting
use Rattle.page_tag.specs.declared.contents.Mark.{Mark}
use Rattle.recovery.specs.declared.found.Found.{Found}
use Rattle.recovery.specs.declared.keys.FoundBlock.{FoundBlock}
use Rattle.recovery.specs.declared.keys.FoundBlock.TheVariants as found
use Rattle.recovery.specs.declared.pages.FoundPage.{FoundPage}
use Rattle.block_table.specs.Blocks.{is_bad, is_free, is_stale}
pub use Rattle.block_table.specs.Rows.{erases, fills, flight_erases, flight_reads, flight_set, flight_without}
pub use Rattle.block_table.specs.Rows.{flight_without_block, idle_row, reads_for, rows_failed, rows_in_flight}
pub use Rattle.block_table.specs.Rows.{without_block, without_reader}
use Rattle.unit_map.specs.Places.{stored_in}
use Rattle.write_cache.specs.Rests.{content_of}
use Rattle.write_cache.specs.Slots.{claim_filled, empty_claim, is_claim_behind, is_claim_of, is_named, key_at}
use Rattle.write_cache.specs.Slots.{last_page, page_claimed}
use Rattle.ftl_core.specs.Core.{Core}
use Rattle.ftl_core.specs.KnownLive.{lives_of_places}
pub use Rattle.ftl_core.specs.Pinned.{has_pin, keeps, keeps_page, look_of_source, reads_block, rest_look}

-- At the start

-- what a block is when a life begins: one with a written page is closed, since no life fills a block that an earlier
-- one began
abbrev pub state_of_found : FoundBlock → BlockState
state_of_found found.Free = state.Free
state_of_found found.Stale = state.Stale
state_of_found found.Closed = state.Closed
state_of_found found.Bad = state.Bad

-- the found page of a content: its name, and the place where it stands
abbrev pub stored_of_found : FoundPage → Stored
stored_of_found page = record { name = name_of page.tag; place = page.place }

-- the fence of the first mark: over the lost numbers, if there are any
abbrev pub first_fence : Found → Option Fence
first_fence f =
    if nat_lt f.greatest_seen f.first_lost then None
    else Some (record { first = f.first_lost; last = f.greatest_seen })

-- the areas of RPMB regions 1 to 3 are as large by these numbers as by those
abbrev pub same_regions : Numbers → Numbers → Bool
same_regions n m =
    (steps_of m 1 == steps_of n 1) && (steps_of m 2 == steps_of n 2) && (steps_of m 3 == steps_of n 3)

-- a mark stands, and it has the numbers of the device. A mark that suits the device can differ from it in the sizes of
-- those regions alone
abbrev pub is_own : Numbers → Option Mark → Bool
is_own n None = false
is_own n (Some mark) = same_regions n mark.numbers

-- the mending is over where a mark with the device's numbers stands and nothing is lost
abbrev pub mending_from : Option Fence → Bool → Mending
mending_from (Some fence) own = mending.Unmarked (Some fence)
mending_from None false = mending.Unmarked None
mending_from None true = mending.Mended

-- how far the mending is when a life begins, by what the scan found
abbrev pub first_mending : Numbers → Found → Mending
first_mending n f = mending_from (first_fence f) (is_own n f.newest)

-- the number behind that of the newest mark, and 1 where no mark is. A mark's number counts as the greatest one at most
abbrev pub number_behind : Option Mark → ℕ
number_behind None = 1
number_behind (Some mark) = min mark.number greatest_number + 1

-- the number of the first mark that this life writes
abbrev pub mark_number_behind : Found → ℕ
mark_number_behind f = number_behind f.newest

-- what is kept when the layer is opened over dies of which this was found
abbrev pub opened : Numbers → Found → Core
opened n f = record {
  numbers = n;
  states = map state_of_found f.blocks.items;
  rows = replicate n.dies idle_row;
  places = map (option_map stored_of_found) f.contents.items;
  live = lives_of_places n (map (option_map stored_of_found) f.contents.items);
  pages = [];
  claims = [];
  frontier = min f.greatest_seen greatest_number;
  last = min f.greatest_seen greatest_number;
  pins = [];
  plan = None;
  mending = first_mending n f;
  lost = f.lost.items;
  repaired = 0;
  step = None;
  content = zero_block;
  next_mark = mark_number_behind f;
}

-- a mark without a fence is finished
abbrev pub is_over : Mending → Bool
is_over mending.Mended = true
is_over m = false

-- Room

-- the slots that neither a pending page nor a claim holds
abbrev pub free_slots : Core → ℕ
free_slots c = c.numbers.slots - length c.pages - length c.claims

-- how many groups of repairs are under way: one or none
abbrev pub repairs_in : Option Step → ℕ
repairs_in (Some (step.Repair n key from there)) = 1
repairs_in (Some (step.Mark n fence)) = 0
repairs_in (Some (step.Copy n key from tag)) = 0
repairs_in None = 0

-- the number of the next group
abbrev pub next_number : Core → ℕ
next_number c = c.last + 1

-- a number is left for one group more
abbrev pub has_number : Core → Bool
has_number c = nat_lt c.last greatest_number

-- how many blocks of all dies are bad
abbrev pub bad_blocks : Core → ℕ
bad_blocks c = count_by is_bad c.states

-- no group is accepted any more: more blocks are bad than the configuration has spare ones, or all numbers are given
abbrev pub is_locked : Core → Bool
is_locked c = nat_lt c.numbers.spare (bad_blocks c) || not (has_number c)

-- Blocks and dies

-- where the state of a block is in the list, which goes by die and then by block
abbrev pub state_index : Core → ℕ → ℕ → ℕ
state_index c die block = die * c.numbers.blocks + block

-- what the block is; a block that is not there counts as bad, so nothing is written to it
abbrev pub state_of : Core → ℕ → ℕ → BlockState
state_of c die block = unwrap_or (slice_get c.states (state_index c die block)) state.Bad

-- the block has this state from now on
abbrev pub with_state : Core → ℕ → ℕ → BlockState → Core
with_state c die block s = record c { states = slice_set c.states (state_index c die block) s }

-- the die fills this block and has this job from now on
abbrev pub with_row : Core → ℕ → DieRow → Core
with_row c die b = record c { rows = slice_set c.rows die b }

-- how many blocks of all dies are free
abbrev pub free_blocks : Core → ℕ
free_blocks c = count_by is_free c.states

-- two states are the same
abbrev pub is_so : BlockState → BlockState → Bool
is_so state.Free state.Free = true
is_so state.Stale state.Stale = true
is_so state.Ready state.Ready = true
is_so state.Open state.Open = true
is_so state.Closed state.Closed = true
is_so state.Bad state.Bad = true
is_so a b = false

-- a block that is so, and has no pin, may be used
abbrev pub may_be_used : Core → ℕ → BlockState → ℕ → Bool
may_be_used c die s block = is_so (state_of c die block) s && not (has_pin c die block)

-- some block is stale, so no step is ordered before it was erased
abbrev pub has_stale : Core → Bool
has_stale c = list_any is_stale c.states

-- What is owed to a die

-- a bad block is being collected, so no block is free afterwards
abbrev pub is_plan_of_bad : Core → Option Collection → Bool
is_plan_of_bad c None = false
is_plan_of_bad c (Some p) = is_bad (state_of c p.victim.die p.victim.block)

-- how many free blocks groups leave now: while a bad block is collected as many as are wanted
abbrev pub left_by_groups : Core → ℕ
left_by_groups c = if is_plan_of_bad c c.plan then wanted_room c.numbers (bad_blocks c)
    else own_room c.numbers (bad_blocks c)

-- pages of groups may be programmed: at least as many blocks are free as groups leave to the device's own pages
abbrev pub has_room_for_groups : Core → Bool
has_room_for_groups c = nat_le (left_by_groups c) (free_blocks c)

-- a block of some die is being filled, or is being erased
abbrev pub has_open_block : Core → Bool
has_open_block c = list_any fills c.rows || list_any erases c.rows

-- a block may be opened for a page of a group only where more blocks are free than groups leave
abbrev pub may_open_for_group : Core → Bool
may_open_for_group c = nat_lt (left_by_groups c) (free_blocks c)

-- for the page of a step any die opens its own block while groups may be programmed; below that a block is opened only
-- where none is open
abbrev pub may_open_for_step : Core → Bool
may_open_for_step c = has_room_for_groups c || not (has_open_block c)

-- a block may be opened for what waits
abbrev pub may_open : Core → Waiting → Bool
may_open c waiting.Step = may_open_for_step c
may_open c (waiting.Group n i) = may_open_for_group c

-- a block that is filled from its first page on
abbrev pub first_page : ℕ → OpenBlock
first_page block = record { block = block; next = 0 }

-- the block that a die begins to fill with the job: that of a program, where the die fills none
abbrev pub begins : Option OpenBlock → Flight → Option ℕ
begins None (flight.Step place) = Some place.block
begins None (flight.Group place n i) = Some place.block
begins filling f = None

-- the die has the job in flight: over the block that it fills, or over one that it begins to fill
abbrev pub started_with : Core → ℕ → Option OpenBlock → Flight → Option ℕ → Core
started_with c die filling f None = with_row c die record { filling = filling; flight = Some f }
started_with c die filling f (Some block) =
    with_row (with_state c die block state.Open) die record {
      filling = Some (first_page block);
      flight = Some f;
    }

-- the die has this job in flight, and fills the block that the job begins, if it begins one
abbrev pub started : Core → ℕ → DieRow → Flight → Core
started c die b f = started_with c die b.filling f (begins b.filling f)

-- the die has this job in flight from now on, or none
abbrev pub in_flight : Core → ℕ → Option Flight → Core
in_flight c die f = record c { rows = rows_in_flight c.rows die f }

-- the key by which the page of a mark is tagged: kind 4, and no unit or address
abbrev pub mark_key : Key
mark_key = record { kind = 4; unit = 0; address = 0 }

-- the tag of a page of a group
abbrev pub tag_of_page : Key → (number index size frontier : ℕ) → Tag
tag_of_page k number index size frontier =
    record {
      kind = k.kind;
      unit = k.unit;
      address = k.address;
      number = number;
      index = index;
      size = size;
      frontier = frontier;
    }

-- the tag of a group of one page, or of a mark
abbrev pub single_tag : Key → ℕ → ℕ → Tag
single_tag k number frontier = tag_of_page k number 0 1 frontier

-- a mark with the next number and this fence waits, where a number is left
abbrev pub mark_ordered : Core → Option Fence → Core
mark_ordered c fence =
    if nat_le c.next_mark greatest_number
    then record c { step = Some (step.Mark c.next_mark fence); next_mark = c.next_mark + 1 }
    else record c { step = None }

-- the die's open block has one page less, and is closed with its last; no job is in flight
abbrev pub page_written : Core → ℕ → DieRow → Option OpenBlock → Core
page_written c die b None = with_row c die record { filling = None; flight = None }
page_written c die b (Some o) =
    if nat_lt o.next (c.numbers.pages - 1)
    then with_row c die record { filling = Some (record { block = o.block; next = o.next + 1 }); flight = None }
    else with_row (with_state c die o.block state.Closed) die record { filling = None; flight = None }

-- the block is bad from now on; the die has no job, and fills this block no more
abbrev pub went_bad : Core → ℕ → ℕ → Core
went_bad c die block =
    record (with_state c die block state.Bad) { rows = rows_failed c.rows die block }

-- an erase ended well: the block may be filled; the die has no job, and fills what it filled before
abbrev pub erased : Core → ℕ → ℕ → Core
erased c die block = record (with_state c die block state.Ready) { rows = rows_in_flight c.rows die None }

-- Looking

-- where the durable content of the key stands; none if nothing durable was ever written
abbrev pub stored_of : Core → Key → Option Stored
stored_of c k = stored_in c.numbers c.places k

-- the durable page of an address, if it has one; else nothing was ever written
abbrev pub looked_on : Option Stored → Looked
looked_on None = Unwritten
looked_on (Some s) = OnPage s.name s.place

-- the newest content of an address: its pending page if there is one, else its durable page
abbrev pub looked_at : Option Pending → Option Stored → Looked
looked_at (Some p) s = InSlot (record { number = p.number; index = p.index })
looked_at None s = looked_on s

-- what holds the content of the address after all pending groups
abbrev pub look_of : Core → Key → Looked
look_of c k = looked_at (last_page k c.pages) (stored_of c k)

-- what is kept of this block of the reader
abbrev pub pin_of : Core → ℕ → ℕ → Option Pin
pin_of c reader index = find (is_pin_of reader index) c.pins

-- what is looked at for this block of the reader, if it is kept
abbrev pub looked_by : ℕ → ℕ → List Pin → Option Looked
looked_by reader index ps = option_map (λ (p : Pin). p.looked) (find (is_pin_of reader index) ps)

-- whether the page of what is kept is still to be read, if something is
abbrev pub is_to_read : Option Pin → Bool
is_to_read None = false
is_to_read (Some p) = p.wanted

-- whether the page of this block of the reader is still to be read
abbrev pub wants_page : ℕ → ℕ → List Pin → Bool
wants_page reader index ps = is_to_read (find (is_pin_of reader index) ps)

-- what is kept of one of the pages of a reader: what its address has now. All are wanted at once, or the first alone
abbrev pub pin_now : Core → ℕ → Key → Bool → ℕ → Pin
pin_now c reader k all i = record {
  reader = reader;
  index = i;
  key = key_at k i;
  looked = look_of c (key_at k i);
  wanted = all || (i == 0);
}

-- each of so many pages from an address on is kept
abbrev pub kept_all : Core → ℕ → Key → Bool → ℕ → Core
kept_all c reader k all n = record c { pins = c.pins ++ map (pin_now c reader k all) (below n) }

-- the reader keeps nothing any more
abbrev pub unpinned : Core → ℕ → Core
unpinned c reader =
    record c {
      rows = map (without_reader reader) c.rows;
      pins = filter (λ p. not (is_of_reader reader p)) c.pins;
    }

-- a block of the reader is kept no more, and the next one is wanted
abbrev pub next_wanted : Core → ℕ → ℕ → Core
next_wanted c reader index =
    record c {
      rows = map (without_block reader index) c.rows;
      pins = map (wanted_now reader (index + 1)) (filter (λ p. not (is_pin_of reader index p)) c.pins);
    }

-- the content of the pending page of this name, if it is all there
abbrev pub slot_of : Core → Name → Option (List ℕ)
slot_of c name = option_and_then content_of (find (is_named name.number name.index) c.pages)

-- Claims

-- the slots that the reader has claimed, in the order of its blocks
abbrev pub claims_for : Core → ℕ → List Claimed
claims_for c reader = filter (is_claim_of reader) c.claims

-- a slot is claimed for each of so many blocks
abbrev pub claimed_all : Core → ℕ → ℕ → Core
claimed_all c reader n = record c { claims = c.claims ++ map (empty_claim reader) (below n) }

-- the reader has claimed nothing any more
abbrev pub released : Core → ℕ → Core
released c reader = record c { claims = filter (λ claim. not (is_claim_of reader claim)) c.claims }

-- the reader has claimed no slot any more but for its first so many blocks
abbrev pub released_behind : Core → ℕ → ℕ → Core
released_behind c reader count =
    record c { claims = filter (λ claim. not (is_claim_behind reader count claim)) c.claims }

-- what came for this block of the reader lies in its slot
abbrev pub filled : Core → ℕ → ℕ → List ℕ → Core
filled c reader index body = record c { claims = map (claim_filled reader index body) c.claims }

-- the pages of the group that takes the place of all that the reader claimed
abbrev pub pages_claimed : Core → ℕ → Key → List Pending
pages_claimed c reader k =
    map (page_claimed k (next_number c) (length (claims_for c reader))) (claims_for c reader)

-- one group more, with the next number, in the place of the slots that the reader claimed
abbrev pub accepted : Core → ℕ → Key → Core
accepted c reader k =
    record (released c reader) { pages = c.pages ++ pages_claimed c reader k; last = next_number c }

-- Steps

-- the repair of the key waits, with the next number: its content is read from where it stands, or is zeros
abbrev pub repair_step : Core → Key → Step
repair_step c k = step.Repair (next_number c) k (stored_of c k) (is_none (stored_of c k))

-- the repair of the key is the step under way: it takes a number, and its content is still to be read
abbrev pub repair_ordered : Core → Key → Core
repair_ordered c k =
    record c {
      last = next_number c;
      repaired = c.repaired + 1;
      content = zero_block;
      step = Some (repair_step c k);
    }

-- a mark is due where a number is left
abbrev pub has_mark_number : Core → Bool
has_mark_number c = nat_le c.next_mark greatest_number
