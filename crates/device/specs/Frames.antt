-- Frames of the RPMB: what is decided of those that a SECURITY PROTOCOL OUT brought, what a request leaves in the
-- registers, and what a SECURITY PROTOCOL IN takes from them (JESD220, 12.4).
use Rattle.std.specs.Prelude.{Bool, List, None, Ok, Option, Result, Some, [], drop, false, find, fold, if◌then◌else◌}
use Rattle.std.specs.Prelude.{length, map, min, nat_le, not, option_map, position, replicate, slice_get, take, true, ℕ}
use Rattle.std.specs.Prelude.{◌&&◌, ◌*◌, ◌++◌, ◌+◌, ◌-◌, ◌<◌, ◌||◌, ◌∷◌, ◌≡◌, ◌≢◌, ◌≤◌}
use Rattle.std.specs.List.{list_any}
use Rattle.byteorder.specs.Endian.{big_bytes}
use Rattle.ufs_spec.specs.Cdbs.{fixed_sense}
use Rattle.ufs_spec.specs.Commands.{Command}
use Rattle.ufs_spec.specs.declared.exchanges.Status.TheVariants.{CheckCondition}
use Rattle.ufs_spec.specs.FrameRequests.{first_page, pages_named, reads_area}
use Rattle.ufs_spec.specs.Frames.{Frame}
use Rattle.ufs_spec.specs.Identities.{inquiry_bytes, luns_bytes, modes_told, operations_told, page_bytes}
use Rattle.ufs_spec.specs.Identities.{short_modes_told}
use Rattle.ufs_spec.specs.Keys.{IsCommand, IsKey, IsPlain, area_key, below, content, group_of}
use Rattle.ufs_spec.specs.Ledger.{all_contents, next_number}
use Rattle.ufs_spec.specs.Messages.{zeros}
use Rattle.ufs_spec.specs.Moves.{Accept, IsAllowedMove, Keep, LetGoAll, Move, Release, is_pin_of, moved, look_now}
use Rattle.ufs_spec.specs.Plain.{CanApply, Plain, greatest_command, region_of, regions, shape_of_numbers, zero_block}
use Rattle.ufs_spec.specs.Rpmb.{Region, applied, rpmb_outcome}
use Rattle.ufs_spec.specs.RpmbResponses.{emptied_by, filled_with, with_reads}
use Rattle.ufs_spec.specs.Replies.{is_at_hand, is_read}
use Rattle.ufs_spec.specs.Translation.{Translation, is_locked, is_mended}
use Rattle.ufs_spec.specs.declared.configs.Numbers.{Numbers}
use Rattle.ufs_spec.specs.declared.flash.Key.{Key}
use Rattle.ufs_spec.specs.declared.scsi.Sense.{Sense}
use Rattle.ftl_core.specs.Public.{Claims, Core, Describes, PinsDiffer, keeps_for, with_claimed}
use Rattle.rpmb.specs.Answers.{IsRead, waiting_in}
use Rattle.rpmb.specs.Kept.{IsKept, Machine, machine_at, with_machine}
use Rattle.rpmb.specs.Outcomes.{command_of, outcome_of, status_of}
use Rattle.rpmb.specs.Requests.{frames_of}
use Rattle.rpmb.specs.declared.requests.AreaBlocks.{AreaBlocks}
use Rattle.rpmb.specs.declared.outcomes.Accepted.{Accepted}
use Rattle.rpmb.specs.declared.outcomes.Accepted.TheVariants as accepted
use Rattle.rpmb.specs.declared.outcomes.Outcome.{Outcome}
use Rattle.rpmb.specs.declared.outcomes.Outcome.TheVariants as outcome
use Rattle.task_set.specs.Kept.{OpenTask}
use Rattle.task_set.specs.Lists.{task_keeps}
use Rattle.task_set.specs.Tasks.{is_decided}
use Rattle.task_set.specs.Frames.{area_part}
use Rattle.task_set.specs.declared.frames.AreaPart.{AreaPart}
use Rattle.task_set.specs.declared.frames.AreaReading.{AreaReading}
use Rattle.task_set.specs.declared.frames.Frames.{Frames}
use Rattle.task_set.specs.declared.frames.Frames.TheVariants.{Decided, NotBrought, Undecided}
use Rattle.task_set.specs.declared.tasks.Phase.{Phase}
use Rattle.task_set.specs.declared.tasks.Phase.TheVariants as phase
use Rattle.ufs_spec.specs.declared.exchanges.Status.{Status}
use Rattle.ufs_spec.specs.declared.exchanges.Status.TheVariants as status
use Rattle.task_set.specs.declared.tasks.TaskEvent.{TaskEvent}
use Rattle.task_set.specs.declared.tasks.TaskEvent.TheVariants as event
use Rattle.device.specs.Calls.{with_event}
use Rattle.device.specs.Lists.{frame_slots}
use Rattle.device.specs.Kept.{DeviceCore, IsLayerWith}
use Rattle.device.specs.Replies.{block_for}
use Rattle.device.specs.declared.plans.Identity.{Identity}
use Rattle.device.specs.declared.plans.Identity.TheVariants as identity
use Rattle.device.specs.declared.plans.Source.{Source}
use Rattle.device.specs.declared.plans.Source.TheVariants as source
use Rattle.ufs_spec.specs.declared.exchanges.Purpose.{Purpose}
use Rattle.ufs_spec.specs.declared.exchanges.ReadState.{ReadState}
use Rattle.ufs_spec.specs.declared.exchanges.ReadState.TheVariants.{NotRead, Unread, WasRead}
use Rattle.ufs_spec.specs.declared.exchanges.Purpose.TheVariants.{ForFrames, ForUnmap, ForWrite}
use Rattle.device.specs.declared.plans.Plan.{Plan}
use Rattle.device.specs.declared.plans.Plan.TheVariants as plan
use Rattle.ufs_spec.specs.Exchanges.{most_tasks}

-- Tasks that begin

-- what a task has to do with frames that gathers data for this purpose: none of its own were decided
abbrev pub frames_for : Purpose → Frames
frames_for (ForFrames region) = Undecided
frames_for (ForWrite unit address blocks forced) = NotBrought
frames_for (ForUnmap unit) = NotBrought

-- the RPMB region that the data are for; 0 if they are for none
abbrev pub region_for : Purpose → ℕ
region_for (ForFrames region) = region
region_for (ForWrite unit address blocks forced) = 0
region_for (ForUnmap unit) = 0

-- what a task has to do with frames for which this was planned
abbrev pub frames_brought : Result Plan Status → Frames
frames_brought (Ok (plan.Gather w slots)) = frames_for w.purpose
frames_brought planned = NotBrought

-- the RPMB region to which it brings them; 0 if it brings none
abbrev pub region_brought : Result Plan Status → ℕ
region_brought (Ok (plan.Gather w slots)) = region_for w.purpose
region_brought planned = 0

-- bytes of a block of the pool: these, and zeros behind them
abbrev pub with_zeros : List ℕ → List ℕ
with_zeros bytes = bytes ++ drop (length bytes) zero_block

-- a block of the pool in which stands what waits for SECURITY PROTOCOL IN, as much as it has room for
abbrev pub waiting_in_block : Machine → List ℕ → List ℕ
waiting_in_block m block =
    take (min (length (waiting_in m.registers)) 4096) (waiting_in m.registers)
    ++ drop (min (length (waiting_in m.registers)) 4096) block

-- the same with zeros behind it
abbrev pub waiting_held : Machine → List ℕ
waiting_held m = waiting_in_block m zero_block

-- nothing waits in the response register
abbrev pub with_none_waiting : Machine → Machine
with_none_waiting m = record m { registers = record m.registers { response = [] } }

-- the task at this position keeps these bytes in its block of the pool
abbrev pub with_held : DeviceCore → ℕ → List ℕ → DeviceCore
with_held d k bytes = record d { tasks = task_keeps d.tasks k bytes (slice_get d.tasks k) }

-- what waits in a region goes to the task at this position
abbrev pub handed_over : DeviceCore → ℕ → ℕ → DeviceCore
handed_over d k region =
    record (with_held d k (waiting_held (machine_at d.rpmb region))) {
      rpmb = with_machine d.rpmb region (with_none_waiting (machine_at d.rpmb region));
    }

-- the last address of a unit of so many blocks, and 4096 as the length of a block (SBC, READ CAPACITY(10))
abbrev pub capacity_told : ℕ → List ℕ
capacity_told blocks = big_bytes 4 (blocks - 1) ++ big_bytes 4 4096

-- the same in 32 bytes, and that blocks may be unmapped and read as zeros then (SBC, READ CAPACITY(16))
abbrev pub long_capacity_told : ℕ → List ℕ
long_capacity_told blocks = big_bytes 8 (blocks - 1) ++ big_bytes 4 4096 ++ (0 ∷ 0 ∷ 0xC0 ∷ []) ++ zeros 17

-- what is told of a device with this configuration and of its units (SPC, SBC)
abbrev pub identity_bytes : Numbers → Identity → List ℕ
identity_bytes n (identity.Sense told) = fixed_sense told
identity_bytes n (identity.Capacity blocks) = capacity_told blocks
identity_bytes n (identity.Unit type) = inquiry_bytes type
identity_bytes n (identity.Luns select) = luns_bytes n select
identity_bytes n (identity.LongCapacity blocks) = long_capacity_told blocks
identity_bytes n (identity.Page lun page) = page_bytes n lun page
identity_bytes n (identity.Modes select guarded) = modes_told select guarded
identity_bytes n (identity.ShortModes select guarded) = short_modes_told select guarded
identity_bytes n (identity.Operations select) = operations_told select

-- the task at this position keeps what comes from there: what it tells, or what waits
abbrev pub source_kept : Numbers → DeviceCore → ℕ → Source → DeviceCore
source_kept n d k (source.Identity told) = with_held d k (with_zeros (identity_bytes n told))
source_kept n d k (source.Response region) = handed_over d k region

-- where that was planned for it, the last task keeps what it sends
abbrev pub sent_kept : Numbers → DeviceCore → Result Plan Status → DeviceCore
sent_kept n d (Ok (plan.Send from size taken)) = source_kept n d (length d.tasks - 1) from
sent_kept n d planned = d

-- Frames that came

-- the layer, where the reader gave back what it had claimed
abbrev pub HasReleased : Core → Core → ℕ → Type 0
HasReleased before after tag =
    (t : Translation) (claims : Claims) → IsLayerWith before t claims →
    IsLayerWith after (moved t (Release (length (claims tag)))) (with_claimed claims tag [])

-- frames are refused with this sense: their task gives back its slots, and nothing else changes
pub record HasRefused (before after : DeviceCore) (tag index : ℕ) (sense : Sense) : Type 0 where
  pub layer : Core
  pub released : HasReleased before.ftl layer tag
  pub after_is : after ≡ record (with_event before index (event.DataRefused sense)) { ftl = layer }

-- what a request without a command does: one for data that passed its checks reads its pages, any other is answered
abbrev pub answer_event : List Frame → ℕ → TaskEvent
answer_event [] code = event.RequestAnswered code
answer_event (f ∷ fs) code =
    if reads_area f code then event.AreaAsked code f.address f.count else event.RequestAnswered code

-- the moves by which the pages of the area of a region are kept that a request for data reads: each of them is wanted at
-- once
abbrev pub area_keeps : Translation → (tag region : ℕ) → Frame → List Move
area_keeps t tag region f =
    map
    (λ i. Keep (area_key region (first_page f + i))
    (record { tag = tag; index = i; looked = look_now t (area_key region (first_page f + i)); wanted = true }))
    (below (pages_named f))

-- the moves of a request without a command
abbrev pub answer_moves : Translation → (tag region : ℕ) → List Frame → ℕ → List Move
answer_moves t tag region [] code = []
answer_moves t tag region (f ∷ fs) code = if reads_area f code then area_keeps t tag region f else []

-- the reader may keep the pages in which the blocks lie that this frame asks for: it keeps nothing yet, they are pages
-- of the area, one or two, and there is room for two, as no block is kept twice
pub record MayKeepArea (t : Translation) (tag region : ℕ) (f : Frame) : Type 0 where
  pub some : 1 ≤ f.count
  pub few : f.count ≤ 8
  pub keys : (i : ℕ) → i < pages_named f → IsKey (shape_of_numbers t.numbers) (area_key region (first_page f + i))
  pub none : list_any (keeps_for tag) t.pins ≡ false
  pub room : PinsDiffer t.pins → length t.pins + 2 ≤ most_tasks * greatest_command

-- the pages in which these blocks lie are kept, each of them wanted at once, if they may be
abbrev pub HasKeptArea : Core → Translation → Claims → (tag region : ℕ) → AreaBlocks → Type 0
HasKeptArea after t claims tag region asked =
    (f : Frame) → f.address ≡ asked.address → f.count ≡ asked.count → MayKeepArea t tag region f →
    IsLayerWith after (fold moved t (area_keeps t tag region f)) claims

-- if these frames ask for data and passed their checks, their pages may be kept
abbrev pub MayAnswer : Translation → (tag region : ℕ) → List Frame → ℕ → Type 0
MayAnswer t tag region [] code = Unit {0}
MayAnswer t tag region (f ∷ fs) code = reads_area f code ≡ true → MayKeepArea t tag region f

-- a request without a command gives its slots back, and keeps the pages that it reads
pub record HasAnswered (before after : Core) (tag region : ℕ) (frames : List Frame) (code : ℕ) (e : TaskEvent) : Type 0
  where
    pub event_is : e ≡ answer_event frames code
    pub layer : (t : Translation) (claims : Claims) → IsLayerWith before t claims → MayAnswer t tag region frames code →
        IsLayerWith after
        (fold moved (moved t (Release (length (claims tag)))) (answer_moves t tag region frames code))
        (with_claimed claims tag [])

-- what is kept is that of this plain state, whose contents are those that all accepted groups leave
pub record IsPlainOf (d : DeviceCore) (t : Translation) (p : Plain) : Type 0 where
  pub plain : IsPlain p
  pub contents : (k : Key) → IsKey (shape_of_numbers t.numbers) k → all_contents t.ledger k ≡ content p k
  pub boot : d.boot ≡ p.boot
  pub permanent : d.is_permanent ≡ p.permanent
  pub each : length d.rpmb ≡ regions
  pub region : (number : ℕ) → IsKept (machine_at d.rpmb number).region (region_of p number)

-- this command may come now, and it is what these frames have accepted
pub record MayComeNow (d : DeviceCore) (t : Translation) (p : Plain) (region : ℕ) (frames : List Frame)
    (what : Accepted) (c : Command) : Type 0 where
  pub command : command_of region frames what ≡ Some c
  pub is : IsCommand c
  pub plain : IsPlainOf d t p
  pub can : CanApply p c
  pub allowed : IsAllowedMove t (Accept frame_slots (group_of p c))

-- a request to a region is accepted: its group is put behind all that are pending, in the place of its slots; the key is
-- set or the counter rises
pub record HasAccepted (before after : DeviceCore) (tag number : ℕ) (frames : List Frame) (code : ℕ) (what : Accepted)
    (e : TaskEvent) : Type 0 where
  pub event_is : (t : Translation) → Describes before.ftl t → e ≡ event.RequestAccepted code (next_number t.ledger)
  pub layer : (t : Translation) (claims : Claims) (p : Plain) (c : Command) → IsLayerWith before.ftl t claims →
      claims tag ≡ replicate frame_slots zero_block → number < regions → MayComeNow before t p number frames what c →
      IsLayerWith after.ftl (moved t (Accept frame_slots (group_of p c))) (with_claimed claims tag [])
  pub registers : (other : ℕ) → (machine_at after.rpmb other).registers ≡ (machine_at before.rpmb other).registers
  pub each : length after.rpmb ≡ length before.rpmb
  pub region : (region : Region) → number < regions → IsKept (machine_at before.rpmb number).region region →
      length (applied region (command_of number frames what)).area ≡ length region.area →
      IsKept (machine_at after.rpmb number).region (applied region (command_of number frames what))
  pub others : (other : ℕ) → other ≢ number → machine_at after.rpmb other ≡ machine_at before.rpmb other

-- what a request does, by what is accepted of it
abbrev pub IsDecided : DeviceCore → DeviceCore → (tag region : ℕ) → List Frame → ℕ → Accepted → TaskEvent → Type 0
IsDecided before after tag region frames code accepted.Nothing e =
    HasAnswered before.ftl after.ftl tag region frames code e × (after.rpmb ≡ before.rpmb)
IsDecided before after tag region frames code what e = HasAccepted before after tag region frames code what e

-- the response register of a region is emptied, by a key or a write the result register too
abbrev pub with_emptied : DeviceCore → ℕ → List Frame → DeviceCore
with_emptied d region frames =
    record d {
      rpmb = with_machine d.rpmb region (record (machine_at d.rpmb region) {
        registers = emptied_by frames (machine_at d.rpmb region).registers;
      });
    }

-- the frames are a request with this result, of which this is accepted: its task keeps them, and the registers are
-- emptied
pub record HasRequested (before after : DeviceCore) (tag index region : ℕ) (bytes : List ℕ) (code : ℕ)
    (what : Accepted) : Type 0 where
  pub layer : Core
  pub rpmb : List Machine
  pub event : TaskEvent
  pub decided : IsDecided (with_held before index (with_zeros bytes))
      (record (with_held before index (with_zeros bytes)) { ftl = layer; rpmb = rpmb }) tag region (frames_of bytes)
      code what event
  pub after_is : after ≡
      with_event
      (with_emptied (record (with_held before index (with_zeros bytes)) { ftl = layer; rpmb = rpmb }) region
      (frames_of bytes)) index event

-- what is done by what was decided
abbrev pub HasDone : DeviceCore → DeviceCore → (tag index region : ℕ) → List ℕ → Outcome → Type 0
HasDone before after tag index region bytes (outcome.Refused why) =
    (sense : Sense) × (CheckCondition sense ≡ status_of why) × HasRefused before after tag index sense
HasDone before after tag index region bytes (outcome.Results code what) =
    HasRequested before after tag index region bytes code what

-- the frames are decided by key, counter and registers of the region to which the task at this position brings them, as
-- they stand, and by whether anything can be accepted
pub record HasDecided (before after : DeviceCore) (tag index : ℕ) (bytes : List ℕ) : Type 0 where
  pub outcome : Outcome
  pub task : OpenTask
  pub there : slice_get before.tasks index ≡ Some task
  pub outcome_is : (t : Translation) (region : Region) → Describes before.ftl t → task.region < regions →
      IsKept (machine_at before.rpmb task.region).region region →
      rpmb_outcome task.region region (machine_at before.rpmb task.region).registers
      (is_locked t || not (is_mended t.work.mending)) (frames_of bytes)
      ≡ outcome_of task.region (frames_of bytes) outcome
  pub done : HasDone before after tag index task.region bytes outcome

-- Requests that fill a register

-- a page of the area needs no read any more: it was read or could not be read, or what the reader keeps of it is at
-- hand
abbrev pub is_page_there : Translation → ℕ → ℕ → ReadState → Bool
is_page_there t tag index how =
    is_read how (is_at_hand t.work.rests (find (is_pin_of tag index) t.pins))

-- the same of the second page, if there is one
abbrev pub is_second_there : Translation → ℕ → Option ReadState → Bool
is_second_there t tag None = true
is_second_there t tag (Some how) = is_page_there t tag 1 how

-- whether GOOD is due to the task of this tag in this phase that has a request: at once, once its group is durable, or
-- once no page of the area needs a read any more
abbrev pub is_due_in : Translation → ℕ → Phase → Bool
is_due_in t tag (phase.AwaitFrontier number size) = nat_le number t.ledger.frontier
is_due_in t tag (phase.ReadArea r) = is_page_there t tag 0 r.first && is_second_there t tag r.second
is_due_in t tag (phase.Answer status.Good size) = true
is_due_in t tag p = false

-- the same of the task at a position, if there is one
abbrev pub is_due_to : Translation → Option OpenTask → Bool
is_due_to t None = false
is_due_to t (Some a) = is_due_in t a.tag a.phase

-- the position of a task whose GOOD is due
abbrev pub due_at : Translation → DeviceCore → Option ℕ → Option ℕ
due_at t d None = None
due_at t d (Some k) = if is_due_to t (slice_get d.tasks k) then Some k else None

-- the position of the task whose request fills its register now: only one task at a time has a request
abbrev pub to_answer : Translation → DeviceCore → Option ℕ
to_answer t d = due_at t d (position is_decided d.tasks)

-- the first frame of what is kept, if something is
abbrev pub first_held : Option (List ℕ) → List ℕ
first_held None = []
first_held (Some bytes) = take 512 bytes

-- the first frame of the request that a task keeps
abbrev pub frame_held : OpenTask → List ℕ
frame_held a = first_held a.held

-- the part of a page that was read, as it stands in the block of its task
abbrev pub part_held : AreaPart → List ℕ → List ℕ
part_held p held = take p.length (drop p.at held)

-- the part of a page that is asked for, in the page
abbrev pub part_of_page : AreaPart → List ℕ → List ℕ
part_of_page p body = take p.length (drop p.from body)

-- the part that is asked for of the page of this index: from the block of the task if the page was read, from what the
-- task keeps if the page is at hand; none if it could not be read
abbrev pub part_read : Translation → OpenTask → AreaReading → ℕ → ReadState → Option (List ℕ)
part_read t a r index WasRead = option_map (part_held (area_part r index)) a.held
part_read t a r index Unread = option_map (part_of_page (area_part r index)) (block_for t None a.tag index)
part_read t a r index NotRead = None

-- two parts in one piece, if both are there
abbrev pub joined : Option (List ℕ) → Option (List ℕ) → Option (List ℕ)
joined None later = None
joined (Some first) None = None
joined (Some first) (Some later) = Some (first ++ later)

-- the part that is asked for of the second page: nothing if all blocks lie in the first one
abbrev pub second_part : Translation → OpenTask → AreaReading → Option ReadState → Option (List ℕ)
second_part t a r None = Some []
second_part t a r (Some how) = part_read t a r 1 how

-- the data that a request asks for, in one piece; none if one of its pages could not be read
abbrev pub area_data : Translation → OpenTask → AreaReading → Option (List ℕ)
area_data t a r = joined (part_read t a r 0 r.first) (second_part t a r r.second)

-- what was read for the request of a task in this phase: nothing, unless it asks for data
abbrev pub data_for : Translation → OpenTask → Phase → Option (List ℕ)
data_for t a (phase.ReadArea r) = area_data t a r
data_for t a p = Some []

-- the request of the task fills its register, by what was read for it
abbrev pub HasResponded : List Machine → List Machine → OpenTask → ℕ → Option (List ℕ) → Type 0
HasResponded before after a code read =
    (region : Region) (pages : List ReadState) → a.region < regions →
    IsKept (machine_at before a.region).region region → IsRead region (frames_of (frame_held a)) code pages read →
    after
    ≡ with_machine before a.region (record (machine_at before a.region) {
      registers =
          filled_with region (frames_of (frame_held a)) (with_reads pages code)
          (machine_at before a.region).registers;
    })

-- the task at this position fills its register, and keeps nothing any more
pub record HasFilledAt (before after : DeviceCore) (t : Translation) (claims : Claims) (k : ℕ) : Type 0 where
  pub task : OpenTask
  pub there : slice_get before.tasks k ≡ Some task
  pub due : is_due_in t task.tag task.phase ≡ true
  pub code : ℕ
  pub decided : task.frames ≡ Decided code
  pub layer : Core
  pub layer_is : IsLayerWith layer (moved t (LetGoAll task.tag)) claims
  pub rpmb : List Machine
  pub responded : HasResponded before.rpmb rpmb task code (data_for t task task.phase)
  pub after_is : after ≡ record (with_event before k event.RegisterFilled) { ftl = layer; rpmb = rpmb }

-- the task whose GOOD is due fills its register, if one does
abbrev pub HasFilledBy : DeviceCore → DeviceCore → Translation → Claims → Option ℕ → Type 0
HasFilledBy before after t claims None = after ≡ before
HasFilledBy before after t claims (Some k) = HasFilledAt before after t claims k

-- what became due fills its register
abbrev pub HasFilled : DeviceCore → DeviceCore → Type 0
HasFilled before after =
    (t : Translation) (claims : Claims) → IsLayerWith before.ftl t claims →
    HasFilledBy before after t claims (to_answer t before)
