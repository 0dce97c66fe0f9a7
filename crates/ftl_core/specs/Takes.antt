-- Which job a die is given, and what its start makes of what the layer keeps, as the code does it. `IsTaken` of
-- Describes says what that means.
use Rattle.std.specs.Prelude.{ℕ, zero, suc, ◌==◌, nat_le, nat_lt, Bool, true, false, ◌&&◌, ◌||◌, not, if◌then◌else◌}
use Rattle.std.specs.Prelude.{find, is_none, is_some, List, position, slice_get, Option, Some, None, option_and_then}
use Rattle.std.specs.Prelude.{option_map}
use Rattle.std.specs.List.{list_any}
use Rattle.ufs_spec.specs.Plain.{regions}
use Rattle.ufs_spec.specs.Pages.{greatest_number, group_bound, mark_bytes, seal_page}
use Rattle.ufs_spec.specs.declared.flash.Job.{Job}
use Rattle.ufs_spec.specs.declared.flash.Job.TheVariants as job
use Rattle.ufs_spec.specs.declared.flash.Tag.{Tag}
use Rattle.ufs_spec.specs.declared.flash.Fence.{Fence}
use Rattle.ufs_spec.specs.declared.flash.Key.{Key}
use Rattle.ufs_spec.specs.declared.flash.Place.{Place}
use Rattle.ufs_spec.specs.declared.layer.Looked.{Looked}
use Rattle.ufs_spec.specs.declared.layer.Looked.TheVariants.{OnPage}
use Rattle.ufs_spec.specs.declared.layer.Reader.TheVariants.{ForRest, ForStep, ForTask}
use Rattle.block_table.specs.declared.BlockState.{BlockState}
use Rattle.block_table.specs.declared.BlockState.TheVariants as state
use Rattle.block_table.specs.declared.rows.OpenBlock.{OpenBlock}
use Rattle.block_table.specs.declared.rows.DieRow.{DieRow}
use Rattle.block_table.specs.declared.rows.Flight.{Flight}
use Rattle.block_table.specs.declared.rows.Flight.TheVariants as flight
use Rattle.write_cache.specs.declared.slots.Pending.{Pending}
use Rattle.readers.specs.declared.pin.Pin.{Pin}
use Rattle.ftl_core.specs.declared.books.Step.{Step}
use Rattle.ftl_core.specs.declared.books.Step.TheVariants as step
use Rattle.ftl_core.specs.declared.books.Waiting.{Waiting}
use Rattle.ftl_core.specs.declared.books.Waiting.TheVariants as waiting
use Rattle.ftl_core.specs.Core.{Core}
pub use Rattle.block_table.specs.Rows.{flight_writes, is_step_flight, reads_for, writes_page}
pub use Rattle.block_table.specs.Rows.{writes_step}
use Rattle.ftl_core.specs.Moves.{first_page, has_room_for_groups, mark_key, may_be_used, may_open, rest_look}
use Rattle.ftl_core.specs.Moves.{single_tag, started, tag_of_page}
use Rattle.readers.specs.Pins.{is_owed_by, looks_on}
use Rattle.write_cache.specs.Rests.{content_of}
use Rattle.write_cache.specs.Slots.{is_named}

-- The lowest number

-- the number, where none below it was found
abbrev pub found_or : Option ℕ → Bool → ℕ → Option ℕ
found_or (Some k) b n = Some k
found_or None true n = Some n
found_or None false n = None

-- the lowest number below the bound of which the test holds
unfoldable pub lowest_below : (ℕ → Bool) → ℕ → Option ℕ
lowest_below test zero = None
lowest_below test (suc n) = found_or (lowest_below test n) (test n) n

-- What waits

-- the page is neither written nor in flight, and its content is all there
abbrev pub page_waits : List DieRow → Pending → Bool
page_waits rows p =
    is_none p.written && not (list_any (writes_page p.number p.index) rows) && is_none p.rest

-- the pending page that waits first
abbrev pub page_waiting : Core → Option Pending
page_waiting c = find (page_waits c.rows) c.pages

-- a pending page that waits, by the number of its group and its index
abbrev pub waiting_page : Pending → Waiting
waiting_page p = waiting.Group p.number p.index

-- the page of the step under way can be programmed: its content is there
abbrev pub is_step_there : Option Step → Bool
is_step_there None = false
is_step_there (Some (step.Mark n fence)) = true
is_step_there (Some (step.Repair n k from there)) = there
is_step_there (Some (step.Copy n k from tag)) = is_some tag

-- the page of the step under way can be programmed, and no die does so yet
abbrev pub step_waits : Core → Bool
step_waits c = is_step_there c.step && not (list_any writes_step c.rows)

-- the page of a group that waits first, where there is room for groups
abbrev pub waiting_group : Core → Option Waiting
waiting_group c = if has_room_for_groups c then option_map waiting_page (page_waiting c) else None

-- the page of a step goes before those of groups, and these in order of number and index
abbrev pub waiting_of : Core → Option Waiting
waiting_of c = if step_waits c then Some waiting.Step else waiting_group c

-- What is in flight then

-- the place of the next page of the die's open block
abbrev pub next_place : ℕ → OpenBlock → Place
next_place die o = record { die = die; block = o.block; page = o.next }

-- what waits, as the job that programs it at this place
abbrev pub page_flight : Place → Waiting → Flight
page_flight place waiting.Step = flight.Step place
page_flight place (waiting.Group n i) = flight.Group place n i

-- the lowest block of the die that is so and has no pin
abbrev pub lowest : Core → ℕ → BlockState → Option ℕ
lowest c die s = lowest_below (may_be_used c die s) c.numbers.blocks

-- the erase of that block
abbrev pub erase_of : Core → ℕ → BlockState → Option Flight
erase_of c die s = option_map flight.Erase (lowest c die s)

-- what waits is programmed into this block, which was erased in this life; without one a free block is erased
abbrev pub flight_into : Core → ℕ → Waiting → Option ℕ → Option Flight
flight_into c die w (Some block) = Some (page_flight (next_place die (first_page block)) w)
flight_into c die w None = erase_of c die state.Free

-- what opens a block of the die for what waits, where one may be opened for it: the lowest that was erased in this
-- life is filled, else one is erased
abbrev pub opening_flight : Core → ℕ → Waiting → Option Flight
opening_flight c die w = if may_open c w then flight_into c die w (lowest c die state.Ready) else None

-- what waits is programmed into the open block, and where none is open one is opened
abbrev pub waiting_flight : Core → ℕ → Option OpenBlock → Waiting → Option Flight
waiting_flight c die None w = opening_flight c die w
waiting_flight c die (Some o) w = Some (page_flight (next_place die o) w)

-- where what was looked up is to be read from; a slot, or a key that was never written, needs no read
abbrev pub place_in : Looked → Option Place
place_in (OnPage name place) = Some place
place_in _ = None

-- the read that the reader is owed
abbrev pub read_of : Pin → Option Flight
read_of p = option_map (λ place. flight.Read place (ForTask p.reader p.index)) (place_in p.looked)

-- the position of the first reader who is owed the read of a page of this die
abbrev pub first_owed : Core → ℕ → Option ℕ
first_owed c die = position (is_owed_by c.rows die) c.pins

-- where the page stands that the step under way is still to be read from
abbrev pub step_wants : Option Step → Option Place
step_wants (Some (step.Repair n k (Some s) false)) = Some s.place
step_wants (Some (step.Copy n k from None)) = Some from
step_wants s = None

-- the read that the step under way is owed of a page of this die
abbrev pub step_read_at : Core → ℕ → Option Place → Option Flight
step_read_at c die None = None
step_read_at c die (Some place) =
    if not (place.die == die) || list_any (reads_for ForStep) c.rows then None else Some (flight.Read place ForStep)

-- the read that the step under way still needs from this die, if no die does it yet
abbrev pub step_read : Core → ℕ → Option Flight
step_read c die = step_read_at c die (step_wants c.step)

-- the page is owed the read of its rest from a page of this die: it waits for it, and no die reads for it
abbrev pub owes_rest : List DieRow → ℕ → Pending → Bool
owes_rest rows die p = looks_on die (rest_look p.rest) && not (list_any (reads_for (ForRest p.number p.index)) rows)

-- the read of the page from which the rest of a pending page is taken
abbrev pub rest_read_of : Pending → Option Flight
rest_read_of p = option_map (λ place. flight.Read place (ForRest p.number p.index)) (place_in (rest_look p.rest))

-- the read that the first pending page is owed that is owed one of a page of this die
abbrev pub rest_read : Core → ℕ → Option Flight
rest_read c die = option_and_then rest_read_of (find (owes_rest c.rows die) c.pages)

-- the read of the step, if it is owed one, else that of a rest
abbrev pub own_read : Option Flight → Option Flight → Option Flight
own_read (Some f) rest = Some f
own_read None rest = rest

-- the read that is owed to the die: to a reader, else to the step under way, else to a page that waits for its rest
abbrev pub owed_read : Core → ℕ → Option ℕ → Option Flight
owed_read c die None = own_read (step_read c die) (rest_read c die)
owed_read c die (Some k) = option_and_then read_of (slice_get c.pins k)

-- the erase of a stale block goes before all that waits
abbrev pub unread_flight : Core → ℕ → Option OpenBlock → Option Flight → Option Flight
unread_flight c die filling None = option_and_then (waiting_flight c die filling) (waiting_of c)
unread_flight c die filling (Some f) = Some f

-- a read goes before all else
abbrev pub owed_flight : Core → ℕ → Option OpenBlock → Option Flight → Option Flight
owed_flight c die filling None = unread_flight c die filling (erase_of c die state.Stale)
owed_flight c die filling (Some f) = Some f

-- What the die is told

-- a tag can name the key
abbrev pub is_sealable : Key → Bool
is_sealable k =
    if k.kind == 1 then nat_le k.unit 7
    else if k.kind == 2 then nat_lt k.unit regions
    else if k.kind == 3 then (k.unit == 0) && (k.address == 0)
    else false

-- only what its tag can name is programmed as a group
abbrev pub is_group_page : Pending → Bool
is_group_page p =
    is_sealable p.key && nat_le 1 p.number && nat_le p.number greatest_number
    && nat_lt p.index p.size && nat_le p.size group_bound

-- the program of the page of a pending group with this content
abbrev pub page_of_group : Core → Place → Pending → List ℕ → Job
page_of_group c place p body =
    job.Program place (seal_page (tag_of_page p.key p.number p.index p.size c.frontier) body)

-- the program of a pending page, if it is one that may be sealed, and its content is all there
abbrev pub group_job_of : Core → Place → Option Pending → Option Job
group_job_of c place None = None
group_job_of c place (Some p) =
    if is_group_page p then option_map (page_of_group c place p) (content_of p) else None

-- the program of the page with this number and index, if it is pending
abbrev pub group_job : Core → Place → ℕ → ℕ → Option Job
group_job c place number index = group_job_of c place (find (is_named number index) c.pages)

-- the page of a mark holds the configuration and its fence
abbrev pub mark_program : Core → Place → ℕ → Option Fence → Job
mark_program c place n fence =
    job.Program place (seal_page (single_tag mark_key n c.frontier) (mark_bytes c.numbers fence))

-- the page of a repair holds the content of its key
abbrev pub repair_program : Core → Place → ℕ → Key → Job
repair_program c place n k = job.Program place (seal_page (single_tag k n c.frontier) c.content)

-- the program of a repair, if a tag can name its key
abbrev pub repair_job : Core → Place → ℕ → Key → Option Job
repair_job c place n k = if is_sealable k then Some (repair_program c place n k) else None

-- the page of a copy has the data and the tag of the page that was read, and records the frontier of the moment
abbrev pub copy_program : Core → Place → Tag → Job
copy_program c place t = job.Program place (seal_page (record t { frontier = c.frontier }) c.content)

-- the program of the step under way. A copy has none until its page was read
abbrev pub step_job : Core → Place → Option Step → Option Job
step_job c place None = None
step_job c place (Some (step.Mark n fence)) = Some (mark_program c place n fence)
step_job c place (Some (step.Repair n k from there)) = repair_job c place n k
step_job c place (Some (step.Copy n k from None)) = None
step_job c place (Some (step.Copy n k from (Some t))) = Some (copy_program c place t)

-- the job in flight as the die is told it: what to read, what to program where, or which block to erase
abbrev pub job_of : Core → ℕ → Flight → Option Job
job_of c die (flight.Read place reader) = Some (job.Read place)
job_of c die (flight.Step place) = step_job c place c.step
job_of c die (flight.Group place n i) = group_job c place n i
job_of c die (flight.Erase block) = Some (job.Erase die block)

-- A die with a job in flight is given none

-- what an idle die is given; a die with a job in flight is given none
abbrev pub idle_flight : Core → ℕ → Option OpenBlock → Option Flight → Option Flight
idle_flight c die filling None = owed_flight c die filling (owed_read c die (first_owed c die))
idle_flight c die filling (Some f) = None

-- what the die is given, if the device has such a die
abbrev pub flight_for : Core → ℕ → Option DieRow → Option Flight
flight_for c die None = None
flight_for c die (Some b) = idle_flight c die b.filling b.flight

-- the job that the die is given, for whom it is
abbrev pub flight_taken : Core → ℕ → Option Flight
flight_taken c die = flight_for c die (slice_get c.rows die)

-- the job that the die is given
abbrev pub job_taken : Core → ℕ → Option Job
job_taken c die = option_and_then (job_of c die) (flight_taken c die)

-- the die has this job in flight, if it is told one
abbrev pub begun_if_any : Core → ℕ → Option DieRow → Option Flight → Option Job → Core
begun_if_any c die (Some b) (Some f) (Some j) = started c die b f
begun_if_any c die b f j = c

-- what is kept once the die was given its job
abbrev pub core_taken : Core → ℕ → Core
core_taken c die = begun_if_any c die (slice_get c.rows die) (flight_taken c die) (job_taken c die)
