-- Which replies are due: the next one of each task, and those of short exchanges (JESD220, 10.7).
use Rattle.std.specs.Prelude.{Bool, List, None, Option, Some, false, find, if◌then◌else◌, length, nat_le, not}
use Rattle.std.specs.Prelude.{slice_get, take, true, ℕ, ◌*◌, ◌-◌, ◌≡◌, ◌⊎◌}
use Rattle.std.specs.List.{list_all, list_any}
use Rattle.ufs_spec.specs.Cells.{Array, Shows}
use Rattle.ufs_spec.specs.Disk.{Crash, flight_alone}
use Rattle.ufs_spec.specs.Exchanges.{Answering, Awaiting, Comparing, Deed, Gathering, ReadBlock, RpmbRequest}
use Rattle.ufs_spec.specs.declared.exchanges.ReadState.{ReadState}
use Rattle.ufs_spec.specs.declared.exchanges.ReadState.TheVariants.{NotRead, Unread, WasRead}
use Rattle.ufs_spec.specs.declared.exchanges.Status.TheVariants.{Good}
use Rattle.ufs_spec.specs.Exchanges.{ReadingArea, Sending, SendingBytes, Short, Task, block_message}
use Rattle.ufs_spec.specs.Exchanges.{bytes_sent, data_message, read_error, ready_for_block, ready_message, response}
use Rattle.ufs_spec.specs.Keys.{below}
use Rattle.ufs_spec.specs.Ledger.{before_accepted}
use Rattle.ufs_spec.specs.Moves.{Ending, IfWrong, is_pin_of}
use Rattle.ufs_spec.specs.Refusals.{State}
use Rattle.ufs_spec.specs.Translation.{Pin, Rest, is_rest_of}
use Rattle.ufs_spec.specs.declared.messages.Message.{Message}
use Rattle.ufs_spec.specs.declared.layer.Looked.{Looked}
use Rattle.ufs_spec.specs.declared.layer.Looked.TheVariants.{InSlot, OnPage, Unwritten}

-- how many accepted commands, from the first on, are durable: those with a group number at
-- or under the frontier (Ledger)
abbrev pub durable : State → ℕ
durable s = s.translation.ledger.frontier - before_accepted s.translation.ledger

-- what was looked up needs no read of a die: the block was never written, so that it is zeros, or it lies in a slot of
-- the write cache that has its content. A slot that waits for the rest of an RPMB page does not have it yet
abbrev pub needs_no_read : List Rest → Looked → Bool
needs_no_read rests Unwritten = true
needs_no_read rests (InSlot name) = not (list_any (is_rest_of name) rests)
needs_no_read rests (OnPage name place) = false

-- a block can be sent without a read: nothing is kept of it, or what is kept needs none. A block that was read from its
-- page is not at hand; its `ReadState` says that it can be sent
abbrev pub is_at_hand : List Rest → Option Pin → Bool
is_at_hand rests None = true
is_at_hand rests (Some pin) = needs_no_read rests pin.looked

-- what a task keeps of its block at an index: where the block was found when it was looked up, and whether its page is
-- wanted; None once it was let go
abbrev pub pin_of : State → Task → ℕ → Option Pin
pin_of s task index = find (is_pin_of task.tag index) s.translation.pins

-- the reply of a READ that comes to this block, after so many blocks were sent: its DATA IN if it is at hand or was
-- read; 3/11/00 in its place if it could not be read, with the blocks sent before as what was carried; else none yet
abbrev pub block_reply : Task → ℕ → List ℕ → ReadState → Bool → Option Message
block_reply task sent body WasRead at_hand = Some (block_message task sent body)
block_reply task sent body NotRead at_hand = Some (response task.lun task.tag task.expected (4096 * sent) read_error)
block_reply task sent body Unread at_hand = if at_hand then Some (block_message task sent body) else None

-- the same for the block that comes next, with what is kept of it now; none is due after the last one
abbrev pub next_block_reply : State → Task → ℕ → Option ReadBlock → Option Message
next_block_reply s task sent None = None
next_block_reply s task sent (Some block) =
    block_reply task sent block.body block.state (is_at_hand s.translation.work.rests (pin_of s task sent))

-- the reply of a VERIFY that comes to this block, after so many blocks were compared: READY TO TRANSFER for the host's one
-- if it is at hand or was read; 3/11/00 in its place if it could not be read, with the blocks before as what was carried;
-- else none yet
abbrev pub compare_reply : Task → (compared : ℕ) → ReadState → Bool → Option Message
compare_reply task compared WasRead at_hand = Some (ready_for_block task compared)
compare_reply task compared NotRead at_hand =
    Some (response task.lun task.tag task.expected (4096 * compared) read_error)
compare_reply task compared Unread at_hand = if at_hand then Some (ready_for_block task compared) else None

-- the same for the block that comes next, with what is kept of it now
abbrev pub next_compare_reply : State → Task → (compared : ℕ) → Option ReadBlock → Option Message
next_compare_reply s task compared None = None
next_compare_reply s task compared (Some block) =
    compare_reply task compared block.state (is_at_hand s.translation.work.rests (pin_of s task compared))

-- the read of a block failed, or gave another page
abbrev pub is_not_read : ReadState → Bool
is_not_read Unread = false
is_not_read WasRead = false
is_not_read NotRead = true

-- a page of the RPMB area needs no read any more: it is at hand, was read, or could not be read
abbrev pub is_read : ReadState → Bool → Bool
is_read Unread at_hand = at_hand
is_read WasRead at_hand = true
is_read NotRead at_hand = true

-- the same of the page at this index, with what the task keeps of it now; there is nothing to read behind the last one
abbrev pub is_page_read : State → Task → ℕ → Option ReadBlock → Bool
is_page_read s task index None = true
is_page_read s task index (Some page) =
    is_read page.state (is_at_hand s.translation.work.rests (pin_of s task index))

-- none of the pages needs a read any more
abbrev pub is_area_read : State → Task → List ReadBlock → Bool
is_area_read s task pages =
    list_all (λ index. is_page_read s task index (slice_get pages index)) (below (length pages))

-- the block, or the page, could not be read
abbrev pub is_unreadable : ReadBlock → Bool
is_unreadable block = is_not_read block.state

-- a VERIFY, which has no request, ends with the first block that could not be read. The response to a request tells of
-- what could not be read, so that no page ends it
abbrev pub is_ended : Option RpmbRequest → List ReadBlock → Bool
is_ended (Some request) pages = false
is_ended None pages = list_any is_unreadable pages

-- what is said of pages that are read, if it is due: 3/11/00 where one ended the task, GOOD once each of them was read
abbrev pub reads_reply : Task → (ended read : Bool) → Option Message
reads_reply task true read = Some (response task.lun task.tag task.expected task.length read_error)
reads_reply task false true = Some (response task.lun task.tag task.expected task.length Good)
reads_reply task false false = None

-- the next reply of a task, if it is due: READY TO TRANSFER, if the one for the next data was not handed out;
-- the next DATA IN of a READ; the one DATA IN of other data; GOOD, once the commands that it awaits are durable; what
-- is said of pages that are read; what comes next of blocks that are compared, if it was not handed out; any other answer
-- at once
abbrev pub deed_reply : State → Task → Deed → Option Message
deed_reply s task (Gathering purpose gathered asked) =
    if asked then None else Some (ready_message task purpose gathered)
deed_reply s task (Sending blocks sent) = next_block_reply s task sent (slice_get blocks sent)
deed_reply s task (SendingBytes bytes) = Some (data_message task 0 (take (bytes_sent task) bytes))
deed_reply s task (Awaiting commands) =
    if nat_le commands (durable s) then Some (response task.lun task.tag task.expected task.length Good) else None
deed_reply s task (ReadingArea pages) =
    reads_reply task (is_ended task.request pages) (is_area_read s task pages)
deed_reply s task (Comparing blocks compared asked) =
    if asked then None else next_compare_reply s task compared (slice_get blocks compared)
deed_reply s task (Answering status carried) = Some (response task.lun task.tag task.expected carried status)

-- a reply that awaits nothing, or only commands that are durable by now, need not wait any longer
abbrev pub is_durable : State → Option ℕ → Bool
is_durable s None = true
is_durable s (Some commands) = nat_le commands (durable s)

-- what the dies may hold after a job that ended so: after a failed program or erase what an interruption of that
-- one job may leave (`Crash`), shown by these cells. Of every other ending nothing is said here: what it makes of
-- the pages is known (`array_done`)
abbrev pub MayLeave : State → ℕ → Ending → Array → Type 0
MayLeave s die ending left =
    IfWrong ending (λ cells. Crash s.array (flight_alone s.translation.disk.flights die) left × Shows left cells)

-- the message is the next reply of some task, or the reply of a short exchange that awaits nothing more. The replies of
-- one tag come in order; of several tags any may go first
abbrev pub Due : State → Message → Type 0
Due s m =
    ((k : ℕ) × (task : Task) × (slice_get s.tasks k ≡ Some task) × (deed_reply s task task.deed ≡ Some m))
    ⊎ ((k : ℕ) × (short : Short) × (slice_get s.shorts k ≡ Some short) × (is_durable s short.awaits ≡ true)
    × (m ≡ short.reply))
