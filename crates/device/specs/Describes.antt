-- How what the device keeps describes the specified device: one relation for each part of its state, each over the
-- fields that it reads.
use Rattle.std.specs.Prelude.{All, Bool, List, None, Option, Result, Some, [], drop, false, find, if◌then◌else◌, length}
use Rattle.std.specs.Prelude.{map, min, nat_le, nat_lt, not, option_map, replicate, slice_get, suc, take, true, zero, ℕ}
use Rattle.std.specs.Prelude.{◌&&◌, ◌*◌, ◌+◌, ◌<◌, ◌==◌, ◌∷◌, ◌≡◌, ◌≤◌}
use Rattle.std.specs.Int.{div_ceil}
use Rattle.std.specs.List.{list_any}
use Rattle.ufs_spec.specs.Plain.{greatest_command, region_of, regions, zero_block}
use Rattle.ufs_spec.specs.Disk.{Flight, job_of}
use Rattle.ufs_spec.specs.Exchanges as exchange
use Rattle.ufs_spec.specs.Exchanges.{Answering, Awaiting, Comparing, Deed, Gathering, ReadBlock, ReadingArea}
use Rattle.ufs_spec.specs.Exchanges.{RpmbRequest, Sending, SendingBytes, Short, most_tasks, task_of}
use Rattle.ufs_spec.specs.declared.exchanges.Purpose.{Purpose}
use Rattle.ufs_spec.specs.declared.exchanges.Purpose.TheVariants.{ForFrames, ForUnmap, ForWrite}
use Rattle.ufs_spec.specs.declared.exchanges.ReadState.{ReadState}
use Rattle.ufs_spec.specs.declared.exchanges.ReadState.TheVariants.{NotRead, Unread, WasRead}
use Rattle.ufs_spec.specs.FrameRequests.{reads_area}
use Rattle.ufs_spec.specs.Frames.{Frame, frame_in}
use Rattle.ufs_spec.specs.Ledger.{before_accepted}
use Rattle.ufs_spec.specs.Machine.{Allowed, Answer, Call, Heard, Host, IsHeard, OfHost, OfReply, OfTake, Reply, Take}
use Rattle.ufs_spec.specs.Machine.{durable, is_to_fill, observe}
use Rattle.ufs_spec.specs.Messages.{spelling}
use Rattle.ufs_spec.specs.Moves.{is_pin_of}
use Rattle.ufs_spec.specs.Replies.{is_unreadable}
use Rattle.ufs_spec.specs.Refusals.{State, locked, numbers_of, plain_now, sends_frames, sends_frames_to}
use Rattle.ufs_spec.specs.Translation.{Pin}
use Rattle.ufs_spec.specs.declared.configs.Numbers.{Numbers}
use Rattle.ufs_spec.specs.declared.faults.HostFault.{HostFault}
use Rattle.ufs_spec.specs.declared.flash.Job.{Job}
use Rattle.ufs_spec.specs.declared.messages.Message.{Message}
use Rattle.ufs_spec.specs.declared.scsi.Cdb.{Cdb}
use Rattle.power_loss.specs.AreaReads.{AreaReads}
use Rattle.power_loss.specs.Exchange.{IsTied}
use Rattle.power_loss.specs.Shown.{ShowsReads}
use Rattle.power_loss.specs.WaitingFrames.{FramesWait}
use Rattle.ftl_core.specs.Public as layer
use Rattle.ftl_core.specs.Public.{AreClaimed, Claims}
use Rattle.task_set.specs.Frames.{area_part, pages_read}
use Rattle.task_set.specs.declared.frames.AreaPart.{AreaPart}
use Rattle.task_set.specs.declared.frames.AreaReading.{AreaReading}
use Rattle.task_set.specs.declared.tasks.Phase.{Phase}
use Rattle.task_set.specs.declared.tasks.Phase.TheVariants as phase
use Rattle.task_set.specs.declared.tasks.Comparing.{Comparing as Compares}
use Rattle.task_set.specs.declared.tasks.Sending.{Sending as Sends}
use Rattle.task_set.specs.declared.tasks.Verifying.{Verifying}
use Rattle.task_set.specs.declared.tasks.Short as kept
use Rattle.ufs_spec.specs.declared.exchanges.Status.{Status}
use Rattle.ufs_spec.specs.declared.exchanges.Status.TheVariants as status
use Rattle.rpmb.specs.Kept.{IsKept, machine_at}
use Rattle.task_set.specs.Kept.{OpenTask}
use Rattle.task_set.specs.declared.frames.Frames.{Frames}
use Rattle.task_set.specs.declared.frames.Frames.TheVariants.{Answered, Decided, NotBrought, Undecided}
use Rattle.device.specs.Frames.{frames_for, part_held, part_of_page}
use Rattle.device.specs.Kept.{DeviceCore}
use Rattle.device.specs.Lists.{IsOfList, frame_slots, list_slots}
use Rattle.task_set.specs.Tasks.{is_sender, read_error}
use Rattle.task_set.specs.Shorts.{number_in, reply_locked}
use Rattle.device.specs.Replies.{short_message, short_said}
use Rattle.task_set.specs.declared.tasks.Wanted.{Wanted}

-- Tasks

-- the block of a READ is still to be read
abbrev pub is_unread : ReadState → Bool
is_unread Unread = true
is_unread WasRead = false
is_unread NotRead = false

-- the block of a READ could not be read, which ends the READ
abbrev pub is_lost : ReadState → Bool
is_lost Unread = false
is_lost WasRead = false
is_lost NotRead = true

-- so many blocks of a READ were handed out, and more follow: all that its host expects. The next one can be read, and
-- those behind it were not read yet
pub record IsSending (x : Sends) (expected total : ℕ) (blocks : List ReadBlock) (sent : ℕ) : Type 0 where
  pub count : length blocks ≡ x.blocks
  pub sent_is : sent ≡ x.sent
  pub more : x.sent < x.blocks
  pub total_is : total ≡ x.length
  pub all : x.blocks ≡ div_ceil (min expected x.length) 4096
  pub few : x.blocks ≤ greatest_command
  pub readable : (block : ReadBlock) → slice_get blocks sent ≡ Some block → is_lost block.state ≡ false
  pub behind : (i : ℕ) (block : ReadBlock) → sent < i → slice_get blocks i ≡ Some block → block.state ≡ Unread

-- the next block of a READ or a VERIFY could not be read
pub record IsLost (blocks : List ReadBlock) (sent : ℕ) (told : Status) (size : ℕ) : Type 0 where
  pub block : ReadBlock
  pub there : slice_get blocks sent ≡ Some block
  pub lost : block.state ≡ NotRead
  pub told_is : told ≡ status.CheckCondition read_error
  pub carried : size ≡ 4096 * sent
  pub few : length blocks ≤ greatest_command
  pub behind : (i : ℕ) (other : ReadBlock) → sent < i → slice_get blocks i ≡ Some other → other.state ≡ Unread

-- data of a command of so many bytes, of which so many came: whole blocks of a WRITE; nothing yet of frames or of a
-- list, which come in one message
abbrev pub ComesSo : Purpose → (came size : ℕ) → Type 0
ComesSo (ForWrite unit address blocks forced) came size =
    (n : ℕ) × (came ≡ 4096 * n) × (n < blocks)
ComesSo (ForUnmap unit) came size = (came ≡ 0) × IsOfList size
ComesSo (ForFrames region) came size = (came ≡ 0) × (1 ≤ size) × (size ≤ 4096)

-- what was gathered is for what was asked for, and more is to come
pub record IsGathered (w : Wanted) (total : ℕ) (purpose : Purpose) (gathered : List ℕ) : Type 0 where
  pub same : w.purpose ≡ purpose
  pub came : length gathered ≡ w.came
  pub total_is : total ≡ w.length
  pub so : ComesSo purpose w.came w.length

-- the pages of the area are read that the request asks for, of a command of so many bytes: as many, and how each read
-- ended
pub record IsReadingArea (r : AreaReading) (total : ℕ) (pages : List ReadBlock) : Type 0 where
  pub total_is : total ≡ r.length
  pub reads : map (λ (page : ReadBlock). page.state) pages ≡ pages_read r

-- so many blocks of a VERIFY were compared, and more follow. Those behind the next one were not read yet
pub record IsComparing (x : Compares) (total : ℕ) (blocks : List ReadBlock) (compared : ℕ) : Type 0 where
  pub count : length blocks ≡ x.blocks
  pub compared_is : compared ≡ x.compared
  pub more : x.compared < x.blocks
  pub total_is : total ≡ 4096 * x.blocks
  pub few : x.blocks ≤ greatest_command
  pub behind : (i : ℕ) (block : ReadBlock) → compared < i → slice_get blocks i ≡ Some block → block.state ≡ Unread

-- the block that comes next was read, or can still be
abbrev pub IsReadable : List ReadBlock → ℕ → Type 0
IsReadable blocks next = (block : ReadBlock) → slice_get blocks next ≡ Some block → is_lost block.state ≡ false

-- so many blocks of a VERIFY are read, and one of them could not be read or each can still be
pub record IsVerifying (x : Verifying) (total : ℕ) (pages : List ReadBlock) : Type 0 where
  pub total_is : total ≡ 0
  pub count : length pages ≡ x.blocks
  pub few : x.blocks ≤ greatest_command
  pub failed : list_any is_unreadable pages ≡ x.failed

-- what a phase of the device is to the specified one; a group's number counts from those before the accepted commands
abbrev pub IsDoing : (before expected total : ℕ) → Phase → Deed → Type 0
IsDoing before expected total (phase.Ask w) (Gathering purpose gathered asked) =
    IsGathered w total purpose gathered × (asked ≡ false)
IsDoing before expected total (phase.Await w) (Gathering purpose gathered asked) =
    IsGathered w total purpose gathered × (asked ≡ true)
IsDoing before expected total (phase.SendHeld size) (SendingBytes bytes) =
    (length bytes ≡ size) × (total ≡ size) × (1 ≤ min expected size)
IsDoing before expected total (phase.AwaitFrontier number size) (Awaiting commands) =
    (number ≡ before + commands) × (total ≡ size)
IsDoing before expected total (phase.SendBlocks x) (Sending blocks sent) = IsSending x expected total blocks sent
IsDoing before expected total (phase.ReadArea r) (ReadingArea pages) = IsReadingArea r total pages
IsDoing before expected total (phase.Verify x) (ReadingArea pages) = IsVerifying x total pages
IsDoing before expected total (phase.AskBlock x) (Comparing blocks compared asked) =
    IsComparing x total blocks compared × (asked ≡ false) × IsReadable blocks compared
IsDoing before expected total (phase.AwaitBlock x) (Comparing blocks compared asked) =
    IsComparing x total blocks compared × (asked ≡ true)
IsDoing before expected total (phase.Answer told size) (Answering s carried) =
    (s ≡ told) × (carried ≡ size)
IsDoing before expected total (phase.Answer told size) (Sending blocks sent) = IsLost blocks sent told size
IsDoing before expected total (phase.Answer told size) (Comparing blocks compared asked) =
    IsLost blocks compared told size × (asked ≡ false)
IsDoing before expected total kept deed = ⊥

-- what a die read of a block: its body once it was read; none before that, or where the read failed
abbrev pub read_by : List ℕ → ReadState → Option (List ℕ)
read_by body Unread = None
read_by body WasRead = Some body
read_by body NotRead = None

-- what a die read of the block that a READ sends next; none where all blocks were handed out
abbrev pub read_of : Option ReadBlock → Option (List ℕ)
read_of None = None
read_of (Some block) = read_by block.body block.state

-- the block that a VERIFY compares next: it has it once its host was asked for the other one, and before that once it was
-- read
abbrev pub own_of : (asked : Bool) → Option ReadBlock → Option (List ℕ)
own_of true block = option_map (λ (own : ReadBlock). own.body) block
own_of false block = read_of block

-- the next block, once it was read
abbrev pub read_in : Deed → Option (List ℕ)
read_in (Sending blocks sent) = read_of (slice_get blocks sent)
read_in (Comparing blocks compared asked) = own_of asked (slice_get blocks compared)
read_in deed = None

-- Frames

-- the first frame of the request is the one that is kept
abbrev pub IsFirstFrame : List ℕ → List Frame → Type 0
IsFirstFrame bytes [] = ⊥
IsFirstFrame bytes (f ∷ fs) = f ≡ frame_in (take 512 bytes)

-- the request has this result and the first frame that is kept, and is yet to fill its register
pub record IsAsked (code : ℕ) (held : Option (List ℕ)) (request : Option RpmbRequest) : Type 0 where
  pub bytes : List ℕ
  pub is_held : held ≡ Some bytes
  pub long : length bytes ≡ 4096
  pub asked : RpmbRequest
  pub is : request ≡ Some asked
  pub result : asked.result ≡ code
  pub unfilled : asked.filled ≡ false
  pub first : IsFirstFrame bytes asked.frames

-- there is a request, and it has filled its register
abbrev pub HasFilledIts : Option RpmbRequest → Type 0
HasFilledIts None = ⊥
HasFilledIts (Some request) = request.filled ≡ true

-- what a task has to do with frames is what the specified one has
abbrev pub AreFramesKept : Frames → Option (List ℕ) → Option RpmbRequest → Type 0
AreFramesKept NotBrought held request = request ≡ None
AreFramesKept Undecided held request = request ≡ None
AreFramesKept (Decided code) held request = IsAsked code held request
AreFramesKept Answered held request = HasFilledIts request

-- a task in this phase reads the blocks that its request asks for, which has this first frame and this result; in any
-- other phase its request asks for none, or failed a check
abbrev pub ReadsFor : Phase → Frame → ℕ → Type 0
ReadsFor (phase.ReadArea r) f code = (reads_area f code ≡ true) × (r.address ≡ f.address) × (r.count ≡ f.count)
ReadsFor p f code = reads_area f code ≡ false

-- so it is of the frame that a task keeps whose request is yet to fill its register
abbrev pub ReadsAsked : Phase → Frames → Option (List ℕ) → Type 0
ReadsAsked p (Decided code) (Some bytes) = ReadsFor p (frame_in (take 512 bytes)) code
ReadsAsked p f held = Unit {0}

-- the part that is asked for of a page that was read stands in the block of its task
pub record StandsIn (held : Option (List ℕ)) (p : AreaPart) (body : List ℕ) : Type 0 where
  pub bytes : List ℕ
  pub is_held : held ≡ Some bytes
  pub long : length bytes ≡ 4096
  pub same : part_held p bytes ≡ part_of_page p body

-- each page that was read stands so
abbrev pub PartsStand : AreaReading → Option (List ℕ) → Deed → Type 0
PartsStand r held (ReadingArea pages) =
    (i : ℕ) (block : ReadBlock) → slice_get pages i ≡ Some block → block.state ≡ WasRead →
    StandsIn held (area_part r i) block.body
PartsStand r held deed = ⊥

-- what a task sends are the first bytes of what it keeps
pub record IsSentFrom (size : ℕ) (held : Option (List ℕ)) (deed : Deed) : Type 0 where
  pub all : List ℕ
  pub is_held : held ≡ Some all
  pub long : length all ≡ 4096
  pub deed_is : deed ≡ SendingBytes (take size all)

-- the frames are a request, whether it has filled its register or not
abbrev pub HasRequest : Frames → Type 0
HasRequest NotBrought = ⊥
HasRequest Undecided = ⊥
HasRequest (Decided code) = Unit {0}
HasRequest Answered = Unit {0}

-- what a task in this phase may have to do with frames: one that gathers or sends has no request yet
abbrev pub FramesFit : Phase → Frames → Option (List ℕ) → Deed → Type 0
FramesFit (phase.Ask w) f held deed = f ≡ frames_for w.purpose
FramesFit (phase.Await w) f held deed = f ≡ frames_for w.purpose
FramesFit (phase.SendBlocks x) f held deed = f ≡ NotBrought
FramesFit (phase.SendHeld size) f held deed = (f ≡ NotBrought) × IsSentFrom size held deed
FramesFit (phase.ReadArea r) f held deed = HasRequest f × PartsStand r held deed
FramesFit (phase.Verify x) f held deed = f ≡ NotBrought
FramesFit (phase.AskBlock x) f held deed = f ≡ NotBrought
FramesFit (phase.AwaitBlock x) f held deed = f ≡ NotBrought
FramesFit p f held deed = Unit {0}

-- it is for this region, if it is for any
abbrev pub IsFor : ℕ → Option ℕ → Type 0
IsFor region None = Unit {0}
IsFor region (Some other) = other ≡ region

-- the RPMB region for which frames are gathered
abbrev pub gathers_for : Deed → Option ℕ
gathers_for (Gathering (ForFrames region) gathered asked) = Some region
gathers_for deed = None

-- the RPMB region of a request
abbrev pub asks_of : Option RpmbRequest → Option ℕ
asks_of request = option_map (λ (asked : RpmbRequest). asked.region) request

-- a command brings frames if so, and then for this region, which is one of the RPMB
pub record BringsFor (region : ℕ) (brings : Bool) (command : Option Cdb) : Type 0 where
  pub sends : sends_frames command ≡ brings
  pub in_regions : sends_frames command ≡ true → region < regions
  pub sends_to : (other : ℕ) → sends_frames_to other command ≡ (brings && (region == other))

-- the kept task is the specified one: its unit, its tag, the bytes that its host expects, how far it is, and the block
-- that a die read for it; `before` is the number of the last group before the accepted commands
pub record TaskKept (before : ℕ) (a : OpenTask) (b : exchange.Task) : Type 0 where
  pub lun : b.lun ≡ a.lun
  pub tag : b.tag ≡ a.tag
  pub expected : b.expected ≡ a.expected
  pub brings : BringsFor a.region (is_sender a) b.command
  pub gathers : IsFor a.region (gathers_for b.deed)
  pub asked_of : IsFor a.region (asks_of b.request)
  pub request : AreFramesKept a.frames a.held b.request
  pub asks : ReadsAsked a.phase a.frames a.held
  pub fits : FramesFit a.phase a.frames a.held b.deed
  pub doing : IsDoing before a.expected b.length a.phase b.deed
  pub read : a.block ≡ read_in b.deed

-- the open tasks are kept task by task, in the same order
abbrev pub TasksKept : ℕ → List OpenTask → List exchange.Task → Type 0
TasksKept before [] [] = Unit {0}
TasksKept before (a ∷ ours) (b ∷ theirs) = TaskKept before a b × TasksKept before ours theirs
TasksKept before ours theirs = ⊥

-- Blocks of READs

-- whether the page of the block of this index is wanted, if something is kept for it
abbrev pub wanted_kept : List Pin → ℕ → ℕ → Option Bool
wanted_kept pins tag index = option_map (λ (pin : Pin). pin.wanted) (find (is_pin_of tag index) pins)

-- a block that is still to be handed out is kept; its page is wanted if it is the next block and was not read yet
abbrev pub wanted_of : Bool → Option ReadBlock → Option Bool
wanted_of next None = None
wanted_of next (Some block) = Some (next && is_unread block.state)

-- what a request reads is kept until it has filled its register. What is read without a request, for a VERIFY, is kept
-- as long as its task is there
abbrev pub keeps_pages : Option RpmbRequest → Bool
keeps_pages None = true
keeps_pages (Some request) = not request.filled

-- the blocks that were not handed out or compared are kept, and the next one is wanted until it was read. The pages of
-- the area that a request asks for and the blocks of a VERIFY that compares none are kept too, and each is wanted until
-- it was read
abbrev pub wanted_in : ℕ → Option RpmbRequest → Deed → Option Bool
wanted_in index request (Sending blocks sent) =
    if nat_lt index sent then None else wanted_of (index == sent) (slice_get blocks index)
wanted_in index request (Comparing blocks compared asked) =
    if nat_lt index compared then None else wanted_of (index == compared) (slice_get blocks index)
wanted_in index request (ReadingArea pages) =
    if keeps_pages request then wanted_of true (slice_get pages index) else None
wanted_in index request deed = None

-- what is kept for a task, or for a tag that none has
abbrev pub wanted_by : ℕ → Option exchange.Task → Option Bool
wanted_by index None = None
wanted_by index (Some task) = wanted_in index task.request task.deed

-- Blocks of WRITEs

-- the first block of the bytes, or zeros where it did not come
abbrev pub block_or_zeros : List ℕ → List ℕ
block_or_zeros bytes = if nat_lt (length bytes) 4096 then zero_block else take 4096 bytes

-- so many blocks of the bytes
abbrev pub blocks_gathered : ℕ → List ℕ → List (List ℕ)
blocks_gathered zero bytes = []
blocks_gathered (suc n) bytes = block_or_zeros bytes ∷ blocks_gathered n (drop 4096 bytes)

-- what a task of so many bytes has claimed that gathers data: a WRITE one slot for each block of its command, frames
-- three that hold zeros, and the list of an UNMAP those of the blocks that it may name, which hold zeros too
abbrev pub claimed_for : Numbers → ℕ → Purpose → List ℕ → List (List ℕ)
claimed_for n total (ForWrite unit address blocks forced) gathered = blocks_gathered blocks gathered
claimed_for n total (ForFrames region) gathered = replicate frame_slots zero_block
claimed_for n total (ForUnmap unit) gathered = replicate (list_slots n total) zero_block

-- what a task of so many bytes has claimed by what it does: a WRITE that gathers a slot for each of its blocks, in
-- which it lies once it came
abbrev pub claimed_in : Numbers → ℕ → Deed → List (List ℕ)
claimed_in n total (Gathering purpose gathered asked) = claimed_for n total purpose gathered
claimed_in n total deed = []

-- what a task has claimed, and nothing where there is none
abbrev pub claimed_by : Numbers → Option exchange.Task → List (List ℕ)
claimed_by n None = []
claimed_by n (Some task) = claimed_in n task.length task.deed

-- what the task of each tag has claimed
abbrev pub claims_of : Numbers → List exchange.Task → Claims
claims_of n tasks tag = claimed_by n (task_of tag tasks)

-- Short exchanges and the lock

-- a short exchange waits for the number of a group as the specified one for so many commands; neither waits, or both do
abbrev pub IsAwaiting : (before : ℕ) → Option ℕ → Option ℕ → Type 0
IsAwaiting before None None = Unit {0}
IsAwaiting before (Some number) (Some commands) = number ≡ before + commands
IsAwaiting before ours theirs = ⊥

-- one that waits is told this if a lock ends it
abbrev pub IsLockTold : Numbers → kept.Short → Option ℕ → Message → Type 0
IsLockTold n a None said = Unit {0}
IsLockTold n a (Some number) said = said ≡ short_said n a.tag (reply_locked a.reply)

-- the kept short exchange is the specified one: its number, its reply, what it waits for, and what a lock makes of it;
-- `before` is the number of the last group before the accepted commands
pub record ShortKept (n : Numbers) (before : ℕ) (a : kept.Short) (b : Short) : Type 0 where
  pub tag : b.tag ≡ number_in a
  pub reply : b.reply ≡ short_message n a
  pub awaits : IsAwaiting before a.awaits b.awaits
  pub locked : IsLockTold n a a.awaits b.locked_reply

-- the short exchanges are kept one by one, in the same order
abbrev pub ShortsKept : Numbers → ℕ → List kept.Short → List Short → Type 0
ShortsKept n before [] [] = Unit {0}
ShortsKept n before (a ∷ ours) (b ∷ theirs) = ShortKept n before a b × ShortsKept n before ours theirs
ShortsKept n before ours theirs = ⊥

-- what waits for commands waits for durable ones
abbrev pub IsToldIn : ℕ → Deed → Type 0
IsToldIn count (Awaiting commands) = nat_le commands count ≡ true
IsToldIn count deed = Unit {0}

-- the task was told that the device is locked: if it still waits, all that it waits for is durable
abbrev pub IsTold : ℕ → exchange.Task → Type 0
IsTold count task = IsToldIn count task.deed

-- so it is of what a short exchange waits for
abbrev pub IsMetIn : ℕ → Option ℕ → Type 0
IsMetIn count None = Unit {0}
IsMetIn count (Some commands) = nat_le commands count ≡ true

-- the short exchange was told that the device is locked
abbrev pub IsShortTold : ℕ → Short → Type 0
IsShortTold count short = IsMetIn count short.awaits

-- Requests

-- no other task than one brings frames
abbrev pub OneSends : List OpenTask → Type 0
OneSends [] = Unit {0}
OneSends (a ∷ ours) = (is_sender a ≡ true → list_any is_sender ours ≡ false) × OneSends ours

-- no request is to fill its register: each whose GOOD is due has done so
abbrev pub HaveAnswered : State → Type 0
HaveAnswered s = All (λ task. is_to_fill s task ≡ false) s.tasks

-- All of it

-- what is kept of each part of a state, whether or not a lock was told to it
pub record Keeps (d : DeviceCore) (s : State) : Type 0 where
  pub boot : d.boot ≡ (plain_now s).boot
  pub permanent : d.is_permanent ≡ (plain_now s).permanent
  pub each : length d.rpmb ≡ regions
  pub region : (number : ℕ) → IsKept (machine_at d.rpmb number).region (region_of (plain_now s) number)
  pub registers : (number : ℕ) → s.registers number ≡ (machine_at d.rpmb number).registers
  pub layer_kept : layer.Describes d.ftl s.translation
  pub few : length s.tasks ≤ most_tasks
  pub tasks : TasksKept (before_accepted s.translation.ledger) d.tasks s.tasks
  pub one_sends : OneSends d.tasks
  pub wanted : (tag index : ℕ) → wanted_kept s.translation.pins tag index ≡ wanted_by index (task_of tag s.tasks)
  pub claims : AreClaimed d.ftl (claims_of (numbers_of s) s.tasks)
  pub shorts : ShortsKept (numbers_of s) (before_accepted s.translation.ledger) d.shorts s.shorts
  pub volatile : d.volatile ≡ s.volatile

-- what is kept describes the state: it agrees with the state part by part, and the state is one that a life can come to
pub record Describes (d : DeviceCore) (s : State) : Type 0 where
  -- a life can come to the state: its pages, commands, layer and tasks go together, and what is kept for READs shows
  -- the blocks that they send
  pub tied : IsTied s
  pub shows : ShowsReads s
  -- what waits in registers are frames
  pub waits : FramesWait s
  -- what is read of the area for a request is the area as it is now
  pub reads : AreaReads s
  pub kept : Keeps d s
  pub answered : HaveAnswered s
  -- if the device is locked, the tasks were told so, and the short exchanges too
  pub told : locked s ≡ true → All (IsTold (durable s)) s.tasks
  pub shorts_told : locked s ≡ true → All (IsShortTold (durable s)) s.shorts

-- what is kept of the state behind a call, if nothing became due there and the lock has nothing to tell
pub record IsBehind (d : DeviceCore) (s : State) : Type 0 where
  pub keeps : Keeps d s
  pub answered : HaveAnswered s
  pub told : locked s ≡ true → All (IsTold (durable s)) s.tasks
  pub shorts_told : locked s ≡ true → All (IsShortTold (durable s)) s.shorts

-- What a call is answered

-- the answer is right, and what is kept then describes what the call makes of the state
pub record IsAnswered (s : State) (call : Call) (answer : Answer) (after : DeviceCore) : Type 0 where
  pub right : Allowed s call answer
  pub describes : Describes after (observe s call answer)

-- a die is given a job that is owed to it, or none where none is
pub record IsGiven (s : State) (die : ℕ) (told : Option Job) (after : DeviceCore) : Type 0 where
  pub flight : Option Flight
  pub shown : told ≡ option_map job_of flight
  pub answered : IsAnswered s (Take die) (OfTake flight) after

-- the bytes are heard as a message or as a fault
pub record IsHeardAs (s : State) (bytes : List ℕ) (result : Result Unit HostFault) (after : DeviceCore) : Type 0 where
  pub heard : Heard
  pub is_heard : IsHeard bytes heard
  pub answered : IsAnswered s (Host heard) (OfHost result) after

-- a reply is handed out that is due
pub record IsReplied (s : State) (bytes : List ℕ) (after : DeviceCore) : Type 0 where
  pub reply : Message
  pub shown : bytes ≡ spelling reply
  pub answered : IsAnswered s Reply (OfReply (Some reply)) after
