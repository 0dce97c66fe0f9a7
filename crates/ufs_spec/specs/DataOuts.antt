-- What data of the host make of the state: the last of them decide a command (JESD220, 10.7.4; SBC).
use Rattle.std.specs.Prelude.{Bool, List, None, Option, Some, [], drop, false, if◌then◌else◌, length, nat_lt, not, slice_get}
use Rattle.std.specs.Prelude.{suc, take, true, zero, ℕ, ◌&&◌, ◌*◌, ◌++◌, ◌+◌, ◌-◌, ◌/◌, ◌==◌, ◌||◌, ◌∷◌}
use Rattle.ufs_bytes.specs.Fields.{field_at}
use Rattle.ufs_spec.specs.Changes.{accepts, claimed_by, ends_with_status, set_deed, with_moves}
use Rattle.ufs_spec.specs.Configs.{command_blocks}
use Rattle.ufs_spec.specs.Exchanges.{Answering, Awaiting, Comparing, Deed, Gathering, ReadBlock, ReadingArea, Sending}
use Rattle.ufs_spec.specs.Exchanges.{SendingBytes, Task, invalid_list_field, miscompare, out_of_range, to_gather}
use Rattle.ufs_spec.specs.Exchanges.{write_error}
use Rattle.ufs_spec.specs.declared.exchanges.Status.TheVariants.{Good}
use Rattle.ufs_spec.specs.declared.exchanges.Purpose.TheVariants.{ForFrames, ForUnmap, ForWrite}
use Rattle.ufs_spec.specs.declared.exchanges.Purpose.{Purpose}
use Rattle.ufs_spec.specs.FrameRequests.{frames_complete}
use Rattle.ufs_spec.specs.Frames.{frames_in}
use Rattle.ufs_spec.specs.Moves.{LetGo, LetGoAll, Release, WantPage}
use Rattle.ufs_spec.specs.Rpmb.{same_bytes}
use Rattle.ufs_spec.specs.Refusals.{State, locked, numbers_of, unit_numbers_at}
use Rattle.ufs_spec.specs.declared.configs.Numbers.{Numbers}
use Rattle.ufs_spec.specs.declared.configs.UnitSpec.{UnitSpec}
use Rattle.ufs_spec.specs.Commands as command

-- ## WRITE

-- the data cut into so many blocks of 4096 bytes
abbrev pub blocks_in : ℕ → List ℕ → List (List ℕ)
blocks_in zero bytes = []
blocks_in (suc n) bytes = take 4096 bytes ∷ blocks_in n (drop 4096 bytes)

-- what a WRITE does once it is accepted, as the command at this position, counted from 1: with FUA (SBC) its GOOD is
-- due once so many commands are durable, else at once
abbrev pub write_deed : Bool → ℕ → ℕ → Deed
write_deed true position n = Awaiting position
write_deed false position n = Answering Good n

-- the last DATA OUT of a WRITE is the moment at which it is accepted, all its blocks as one command. On a locked device
-- it is not: its slots are given back, and it is answered MEDIUM ERROR, write error (3/0C/00)
abbrev pub write_complete : State → Task → ℕ → ℕ → ℕ → Bool → List ℕ → State
write_complete s task unit address blocks forced bytes =
    if locked s
    then set_deed (with_moves s (Release blocks ∷ [])) task.tag (Answering write_error task.length)
    else
    set_deed (accepts s (command.Write unit address (blocks_in blocks bytes)) blocks) task.tag
    (write_deed forced (length s.accepted + 1) task.length)

-- ## UNMAP

-- the header of UNMAP's list (SBC): the length of what comes after it, that of its descriptors, and four zeros
abbrev pub has_list_header : List ℕ → Bool
has_list_header list =
    (field_at 2 0 list == length list - 2) && (field_at 2 2 list == length list - 8) && (field_at 4 4 list == 0)

-- the descriptor counts more blocks than a command may have, or one of its last four bytes is not zero
abbrev pub is_wrong_descriptor : Numbers → List ℕ → Bool
is_wrong_descriptor n list = nat_lt (command_blocks n) (field_at 4 16 list) || not (field_at 4 20 list == 0)

-- the descriptor's address plus its count is above the unit's count of blocks
abbrev pub is_past_unit : List ℕ → Option UnitSpec → Bool
is_past_unit list None = false
is_past_unit list (Some u) = nat_lt u.blocks (field_at 8 8 list + field_at 4 16 list)

-- a right descriptor: without a block there is nothing to do; a locked device takes no write; else its blocks become
-- zeros, as one command, and the answer waits for nothing
abbrev pub unmap_accepted : State → Task → ℕ → ℕ → ℕ → State
unmap_accepted s task unit address count =
    if count == 0 then ends_with_status s task Good
    else if locked s then ends_with_status s task write_error
    else
    set_deed (accepts s (command.Zero unit address count) (claimed_by (numbers_of s) task.deed task.command)) task.tag
    (Answering Good task.length)

-- UNMAP's list is all there (SBC). First its header is judged, then its descriptor, which a list of 8 bytes has not
abbrev pub unmap_complete : State → Task → ℕ → List ℕ → State
unmap_complete s task unit list =
    if not (has_list_header list) then ends_with_status s task invalid_list_field
    else if length list == 8 then ends_with_status s task Good
    else if is_wrong_descriptor (numbers_of s) list then ends_with_status s task invalid_list_field
    else if is_past_unit list (unit_numbers_at (numbers_of s) (Some unit)) then ends_with_status s task out_of_range
    else unmap_accepted s task unit (field_at 8 8 list) (field_at 4 16 list)

-- ## VERIFY

-- what a VERIFY does after one more of its blocks was found to be the host's: it asks for the next one, or after the last
-- one its GOOD is due
abbrev pub deed_after_same : Task → List ReadBlock → (compared : ℕ) → Deed
deed_after_same task blocks compared =
    if nat_lt (compared + 1) (length blocks) then Comparing blocks (compared + 1) false
    else Answering Good task.length

-- the block is the host's: it is let go, and the page of the next one is wanted
abbrev pub block_same : State → Task → List ReadBlock → (compared : ℕ) → State
block_same s task blocks compared =
    set_deed (with_moves s (LetGo task.tag compared ∷ WantPage task.tag (compared + 1) ∷ [])) task.tag
    (deed_after_same task blocks compared)

-- the block is another one: the VERIFY keeps nothing any more, and E/1D/00 is due, with what was compared as carried
abbrev pub block_differs : State → Task → (compared : ℕ) → State
block_differs s task compared =
    set_deed (with_moves s (LetGoAll task.tag ∷ [])) task.tag (Answering miscompare (4096 * (compared + 1)))

-- a VERIFY compares the block that comes next, as it was at the COMMAND, with these bytes. Nothing is accepted
abbrev pub block_compared : State → Task → List ReadBlock → (compared : ℕ) → Option ReadBlock → List ℕ → State
block_compared s task blocks compared None bytes = s
block_compared s task blocks compared (Some block) bytes =
    if same_bytes bytes block.body then block_same s task blocks compared else block_differs s task compared

-- ## DATA OUT

-- all data of a task are there: a WRITE is accepted, an UNMAP and the frames of the RPMB are decided
abbrev pub complete : State → Task → Purpose → List ℕ → State
complete s task (ForWrite unit address blocks forced) bytes = write_complete s task unit address blocks forced bytes
complete s task (ForUnmap unit) bytes = unmap_complete s task unit bytes
complete s task (ForFrames region) bytes = frames_complete s task region (frames_in (length bytes / 512) bytes)

-- a task has gathered these bytes so far: it asks for the next ones, unless they are all
abbrev pub gathered_more : State → Task → Purpose → List ℕ → State
gathered_more s task purpose bytes =
    if nat_lt (length bytes) (to_gather purpose task.length) then set_deed s task.tag (Gathering purpose bytes false)
    else complete s task purpose bytes

-- the bytes of a DATA OUT follow those that the task has gathered, or are compared. A task that does neither takes no
-- data: a DATA OUT for it has fault 8
abbrev pub data_for : State → Task → Deed → List ℕ → State
data_for s task (Gathering purpose gathered asked) bytes = gathered_more s task purpose (gathered ++ bytes)
data_for s task (Sending blocks sent) bytes = s
data_for s task (SendingBytes told_bytes) bytes = s
data_for s task (Awaiting commands) bytes = s
data_for s task (ReadingArea pages) bytes = s
data_for s task (Comparing blocks compared asked) bytes =
    block_compared s task blocks compared (slice_get blocks compared) bytes
data_for s task (Answering status carried) bytes = s

-- a DATA OUT was taken: its bytes go to the task with its tag
abbrev pub data_heard : State → Option Task → List ℕ → State
data_heard s None bytes = s
data_heard s (Some task) bytes = data_for s task task.deed bytes
