-- Which replies are due, what they say, and what becomes of their tasks.
use Rattle.std.specs.Prelude.{◌≡◌, ℕ, ◌+◌, ◌-◌, ◌*◌, ◌≤◌, min, nat_le, nat_lt, Bool, true, false, if◌then◌else◌}
use Rattle.std.specs.Prelude.{find, length, ⊤, List, not, remove, slice_get, take, Option, Some, None, option_map, ◌||◌}
use Rattle.std.specs.List.{list_all, list_any}
use Rattle.ufs_spec.specs.Exchanges.{response}
use Rattle.ufs_spec.specs.Keys.{below}
use Rattle.ufs_spec.specs.Ledger.{Entry, Ledger, before_accepted, entry_of}
use Rattle.ufs_spec.specs.Messages.{spelling}
use Rattle.ufs_spec.specs.Moves.{Acknowledge, LetGo, LetGoAll, WantPage, is_pin_of, moved}
use Rattle.ufs_spec.specs.Plain.{zero_block}
use Rattle.ufs_spec.specs.Queries.{Query, descriptor_told}
use Rattle.ufs_spec.specs.QueryAnswers.{query_failed}
use Rattle.ufs_spec.specs.Replies.{is_at_hand}
use Rattle.ufs_spec.specs.Translation.{Pin, Rest, Translation, is_rest_of}
use Rattle.ufs_spec.specs.declared.configs.Numbers.{Numbers}
use Rattle.ufs_spec.specs.declared.messages.Message.{Message}
use Rattle.ufs_spec.specs.declared.messages.Message.TheVariants as message
use Rattle.ufs_spec.specs.declared.layer.Looked.{Looked}
use Rattle.ufs_spec.specs.declared.layer.Looked.TheVariants.{InSlot, OnPage, Unwritten}
use Rattle.ftl_core.specs.Public.{Claims, Core, Describes, is_page_wanted}
use Rattle.task_set.specs.declared.tasks.Phase.{Phase}
use Rattle.task_set.specs.declared.tasks.Phase.TheVariants as phase
use Rattle.task_set.specs.declared.tasks.Comparing.{Comparing}
use Rattle.task_set.specs.declared.tasks.Queried.{Queried}
use Rattle.task_set.specs.declared.tasks.Sending.{Sending}
use Rattle.task_set.specs.declared.tasks.Short.{Short}
use Rattle.task_set.specs.declared.tasks.ShortReply.{ShortReply}
use Rattle.task_set.specs.declared.tasks.ShortReply.TheVariants as reply
use Rattle.ufs_spec.specs.declared.exchanges.Status.{Status}
use Rattle.ufs_spec.specs.declared.exchanges.Status.TheVariants as status
use Rattle.task_set.specs.declared.tasks.Task.{Task}
use Rattle.task_set.specs.declared.tasks.TaskEvent.TheVariants as event
use Rattle.task_set.specs.Kept.{OpenTask, task_in}
use Rattle.task_set.specs.Lists.{task_keeps_block}
use Rattle.task_set.specs.Shorts.{is_short_due}
use Rattle.task_set.specs.declared.frames.Frames.{Frames}
use Rattle.task_set.specs.declared.frames.Frames.TheVariants.{Answered, Decided, NotBrought, Undecided}
use Rattle.device.specs.Calls.{with_event}
use Rattle.device.specs.Kept.{DeviceCore, IsLayerWith}
use Rattle.task_set.specs.declared.tasks.Wanted.{Wanted}
use Rattle.task_set.specs.Tasks.{read_error, wanted_count}

-- Blocks

-- a block that was looked up, once it is there: zeros if nothing was ever written, the body in the slot unless this
-- waits for its rest, or what was read
abbrev pub block_at : List Rest → Ledger → Option (List ℕ) → Looked → Option (List ℕ)
block_at rests l read Unwritten = Some zero_block
block_at rests l read (InSlot name) =
    if list_any (is_rest_of name) rests then read else option_map (λ (e : Entry). e.item.body) (entry_of l name)
block_at rests l read (OnPage name place) = read

-- the block of what a reader keeps, once it is there; none where it keeps nothing
abbrev pub block_of : List Rest → Ledger → Option (List ℕ) → Option Pin → Option (List ℕ)
block_of rests l read None = None
block_of rests l read (Some pin) = block_at rests l read pin.looked

-- the block of this index that is kept for a tag, once it is there
abbrev pub block_for : Translation → Option (List ℕ) → ℕ → ℕ → Option (List ℕ)
block_for t read tag index = block_of t.work.rests t.ledger read (find (is_pin_of tag index) t.pins)

-- Messages

-- the RESPONSE that ends a task with this status; `length` is how many bytes there were to carry, for the residual
abbrev pub answer_of : Task → Status → ℕ → Message
answer_of t s length = response t.lun t.tag t.expected length s

-- how many of these bytes one DATA IN carries: at least 1 and at most 4096
abbrev pub count_in : ℕ → ℕ
count_in rest = if nat_lt rest 1 then 1 else if nat_lt 4096 rest then 4096 else rest

-- how many bytes of the next block are sent: the block, or the rest of what the host expects; at least one
abbrev pub count_of : ℕ → Sending → ℕ
count_of expected x = count_in (min expected x.length - 4096 * x.sent)

-- the DATA IN of the next block of a READ; its offset counts the blocks that were sent before
abbrev pub block_message : Task → Sending → List ℕ → Message
block_message t x block =
    message.DataIn t.lun t.tag (4096 * x.sent) (record { items = take (count_of t.expected x) block })

-- how many bytes of what a task keeps are sent: as many as the host expects, at least one and at most 4096
abbrev pub frames_count : ℕ → ℕ → ℕ
frames_count expected size = count_in (min expected size)

-- the DATA IN of what a task keeps, so many bytes: all that the host expects of them in one message
abbrev pub frames_message : Task → ℕ → List ℕ → Message
frames_message t size held =
    message.DataIn t.lun t.tag 0 (record { items = take (frames_count t.expected size) held })

-- the READY TO TRANSFER for what a task asks for
abbrev pub ready_message : Task → Wanted → Message
ready_message t w = message.ReadyToTransfer t.lun t.tag w.came (wanted_count w)

-- the READY TO TRANSFER for the block of its host with which a VERIFY compares its next one
abbrev pub block_wanted_message : Task → Comparing → Message
block_wanted_message t x = message.ReadyToTransfer t.lun t.tag (4096 * x.compared) 4096

-- whether a request has filled its register
abbrev pub has_filled : Frames → Bool
has_filled Answered = true
has_filled NotBrought = false
has_filled Undecided = false
has_filled (Decided code) = false

-- the GOOD of a request for data of the area, once it filled its register
abbrev pub area_reply : Task → ℕ → Option Message
area_reply t size = if has_filled t.frames then Some (answer_of t status.Good size) else None

-- a block of a VERIFY needs no read any more: it was read, so that its page is wanted no more, or it is at hand
abbrev pub is_verified : Translation → (tag index : ℕ) → Bool
is_verified t tag index =
    not (is_page_wanted (find (is_pin_of tag index) t.pins))
    || is_at_hand t.work.rests (find (is_pin_of tag index) t.pins)

-- none of so many blocks needs a read any more
abbrev pub are_verified : Translation → (tag blocks : ℕ) → Bool
are_verified t tag blocks = list_all (is_verified t tag) (below blocks)

-- the answer of a VERIFY: that a block could not be read, or GOOD once no block needs a read any more
abbrev pub verify_reply : Task → (failed verified : Bool) → Option Message
verify_reply a true verified = Some (answer_of a (status.CheckCondition read_error) 0)
verify_reply a false true = Some (answer_of a status.Good 0)
verify_reply a false false = None

-- the reply that is due in a phase: a request for the next block, a DATA IN, or the RESPONSE. None is due while data of
-- the host, a durable group or the read of a block is awaited
abbrev pub owed_in : Translation → (read held : Option (List ℕ)) → Task → Phase → Option Message
owed_in t read held a (phase.Ask w) = Some (ready_message a w)
owed_in t read held a (phase.Await w) = None
owed_in t read held a (phase.AwaitFrontier n size) =
    if nat_le n t.ledger.frontier then Some (answer_of a status.Good size) else None
owed_in t read held a (phase.SendBlocks x) = option_map (block_message a x) (block_for t read a.tag x.sent)
owed_in t read held a (phase.ReadArea r) = area_reply a r.length
owed_in t read held a (phase.Verify x) = verify_reply a x.failed (are_verified t a.tag x.blocks)
owed_in t read held a (phase.AskBlock x) =
    option_map (λ (block : List ℕ). block_wanted_message a x) (block_for t read a.tag x.compared)
owed_in t read held a (phase.AwaitBlock x) = None
owed_in t read held a (phase.SendHeld size) = option_map (frames_message a size) held
owed_in t read held a (phase.Answer s n) = Some (answer_of a s n)

-- the reply that the task owes now, by what the layer keeps and what was read
abbrev pub owed_by : Translation → OpenTask → Option Message
owed_by t a = owed_in t a.block a.held (task_in a) a.phase

-- the bytes are those of the reply that is owed; or there is none, and nothing is said of them
abbrev pub IsWritten : Bool → List ℕ → Option Message → Type 0
IsWritten true bytes (Some m) = bytes ≡ spelling m
IsWritten true bytes None = ⊥
IsWritten false bytes (Some m) = ⊥
IsWritten false bytes None = ⊤

-- What becomes of the task

-- the task at this position has its RESPONSE, and its tag is free again
abbrev pub without_task : DeviceCore → ℕ → DeviceCore
without_task d k = record d { tasks = remove d.tasks k }

-- the task at this position keeps a block that is at hand, if it is so, as the layer may let it go
abbrev pub with_own_block : DeviceCore → ℕ → Option (List ℕ) → DeviceCore
with_own_block d k None = d
with_own_block d k (Some block) = record d { tasks = task_keeps_block d.tasks k block (slice_get d.tasks k) }

-- what the device keeps, but for its layer, once the task at this position and of this tag has handed out its reply
abbrev pub moved_on : Translation → DeviceCore → (k tag : ℕ) → Phase → DeviceCore
moved_on t d k tag (phase.Ask w) = with_event d k event.DataAskedFor
moved_on t d k tag (phase.Await w) = d
moved_on t d k tag (phase.AwaitFrontier n size) = without_task d k
moved_on t d k tag (phase.SendBlocks x) = with_event d k event.BlockSent
moved_on t d k tag (phase.ReadArea r) = without_task d k
moved_on t d k tag (phase.Verify x) = without_task d k
moved_on t d k tag (phase.AskBlock x) =
    with_event (with_own_block d k (block_for t None tag x.compared)) k event.BlockAskedFor
moved_on t d k tag (phase.AwaitBlock x) = d
moved_on t d k tag (phase.SendHeld size) = with_event d k event.DataSent
moved_on t d k tag (phase.Answer s n) = without_task d k

-- the layer then: a block that was handed out is let go; a task that ends keeps nothing, and what it waited for is
-- acknowledged; what the tasks have claimed stays
abbrev pub HasMoved : Core → Translation → Claims → ℕ → Phase → Type 0
HasMoved after t claims tag (phase.Ask w) = IsLayerWith after t claims
HasMoved after t claims tag (phase.Await w) = IsLayerWith after t claims
HasMoved after t claims tag (phase.AwaitFrontier n size) =
    (commands : ℕ) → before_accepted t.ledger + commands ≤ t.ledger.frontier →
    IsLayerWith after (moved (moved t (Acknowledge commands)) (LetGoAll tag)) claims
HasMoved after t claims tag (phase.SendBlocks x) =
    IsLayerWith after (moved (moved t (LetGo tag x.sent)) (WantPage tag (x.sent + 1))) claims
HasMoved after t claims tag (phase.AskBlock x) = IsLayerWith after t claims
HasMoved after t claims tag (phase.AwaitBlock x) = IsLayerWith after t claims
HasMoved after t claims tag (phase.SendHeld size) = IsLayerWith after t claims
HasMoved after t claims tag (phase.ReadArea r) = IsLayerWith after (moved t (LetGoAll tag)) claims
HasMoved after t claims tag (phase.Verify x) = IsLayerWith after (moved t (LetGoAll tag)) claims
HasMoved after t claims tag (phase.Answer s n) = IsLayerWith after (moved t (LetGoAll tag)) claims

-- Short exchanges

-- the function of a query: standard write or standard read
abbrev pub function_of : Bool → ℕ
function_of true = 0x81
function_of false = 0x01

-- what a short exchange keeps of a query, with this value
abbrev pub query_with : Queried → ℕ → Query
query_with q value =
    record { function = function_of q.writing; asked = q.asked; length = q.length; value = value }

-- the answer to a query that succeeded: the descriptor that it asked for, or this value (JESD220, 10.7.9)
abbrev pub query_answer : Numbers → ℕ → Query → ℕ → Message
query_answer n tag q value =
    message.QueryResponse tag q.function 0x00 q.asked (length (descriptor_told n q)) value
    (record { items = descriptor_told n q })

-- what a reply of one says with its tag, on a device with this configuration
abbrev pub short_said : Numbers → ℕ → ShortReply → Message
short_said n tag (reply.TaskSetFull lun expected) = response lun tag expected 0 status.TaskSetFull
short_said n tag reply.NopIn = message.NopIn tag
short_said n tag (reply.Managed lun service) = message.TaskResponse lun tag service
short_said n tag (reply.QueryFailed query code) = query_failed tag (query_with query 0) code
short_said n tag (reply.QueryDone query value) = query_answer n tag (query_with query 0) value

-- the one reply that a short exchange is owed
abbrev pub short_message : Numbers → Short → Message
short_message n short = short_said n short.tag short.reply

-- the short exchange at this position has its reply, and its tag is free again
abbrev pub without_short : DeviceCore → ℕ → DeviceCore
without_short d k = record d { shorts = remove d.shorts k }

-- the first short exchange that is due has handed out its reply, in these bytes, and what it waited for may be
-- acknowledged
pub record IsShortReplied (before after : DeviceCore) (bytes : List ℕ) : Type 0 where
  pub index : ℕ
  pub short : Short
  pub there : slice_get before.shorts index ≡ Some short
  pub due : (t : Translation) → Describes before.ftl t → is_short_due t.ledger.frontier short ≡ true
  pub said : (t : Translation) → Describes before.ftl t → bytes ≡ spelling (short_message t.numbers short)
  pub after_is : after ≡ without_short before index
  pub told : (t : Translation) (count : ℕ) → Describes before.ftl t →
      before_accepted t.ledger + count ≤ t.ledger.frontier → Describes after.ftl (moved t (Acknowledge count))
