-- What the frames of a SECURITY PROTOCOL OUT make of the state, and what is left in the registers (JESD220, 12.4).
use Rattle.std.specs.Prelude.{Bool, List, None, Option, Some, [], false, if◌then◌else◌, length, map, true, ℕ, ◌&&◌}
use Rattle.std.specs.Prelude.{◌+◌, ◌-◌, ◌/◌, ◌==◌, ◌∷◌}
use Rattle.ufs_spec.specs.Changes.{accepts, claimed_by, ends_with_status, given_back, with_moves}
use Rattle.ufs_spec.specs.Exchanges.{Answering, Awaiting, Comparing, Deed, Gathering, ReadBlock, ReadingArea, Registers}
use Rattle.ufs_spec.specs.declared.exchanges.Status.TheVariants.{Good}
use Rattle.ufs_spec.specs.Exchanges.{RpmbRequest, Sending, SendingBytes, Task, at_region, is_task_of}
use Rattle.ufs_spec.specs.declared.exchanges.ReadState.TheVariants.{Unread}
use Rattle.ufs_spec.specs.Frames.{Frame}
use Rattle.ufs_spec.specs.Keys.{area_key, below, content}
use Rattle.ufs_spec.specs.Moves.{Keep, Move, look_now}
use Rattle.ufs_spec.specs.Plain.{Plain, region_of}
use Rattle.ufs_spec.specs.Refusals.{State, accepts_nothing, numbers_of, plain_now}
use Rattle.ufs_spec.specs.Rpmb.{Refused, Results, RpmbOutcome, read_data, rpmb_outcome}
use Rattle.ufs_spec.specs.RpmbResponses.{emptied_by, filled_with, is_success, with_reads}
use Rattle.ufs_spec.specs.Translation.{Pin}

-- ## Requests

-- the task of the tag has this request, and does this from now on
abbrev pub with_request : ℕ → RpmbRequest → Deed → Task → Task
with_request tag request deed task =
    if is_task_of tag task then record task { deed = deed; request = Some request } else task

-- the last data of a request that is not refused came: the task has the request with its result, and the response
-- register of the region is emptied, by a key or a write the result register too
abbrev pub requested : State → Task → ℕ → List Frame → ℕ → Deed → State
requested s task region frames result deed =
    record s {
      tasks =
          map
          (with_request task.tag (record { region = region; frames = frames; result = result; filled = false }) deed)
          s.tasks;
      registers = at_region s.registers region (emptied_by frames (s.registers region));
    }

-- the page of the area in which the first block of a request lies; a page has 16 blocks of 256 bytes
abbrev pub first_page : Frame → ℕ
first_page f = f.address / 16

-- in how many pages the blocks of a request lie: one or two, as it has at most 8 blocks
abbrev pub pages_named : Frame → ℕ
pages_named f = (f.address + f.count - 1) / 16 + 1 - first_page f

-- the pages of the area that a request for data reads, with their content of this moment. No other request changes the
-- area before its answer is due, since only one SECURITY PROTOCOL OUT is open at a time
abbrev pub area_read : State → ℕ → Frame → List ReadBlock
area_read s region f =
    map (λ i. record { body = content (plain_now s) (area_key region (first_page f + i)); state = Unread })
    (below (pages_named f))

-- what the task keeps of its page i: where it is found now. Each page is wanted at once
abbrev pub page_kept : State → ℕ → ℕ → Frame → ℕ → Pin
page_kept s tag region f i =
    record {
      tag = tag;
      index = i;
      looked = look_now s.translation (area_key region (first_page f + i));
      wanted = true;
    }

-- a request for data keeps each of its pages until its GOOD is due
abbrev pub keeps_area : State → ℕ → ℕ → Frame → List Move
keeps_area s tag region f =
    map (λ i. Keep (area_key region (first_page f + i)) (page_kept s tag region f i)) (below (pages_named f))

-- the request asks for data and passed its checks, so that pages of the area are read for it
abbrev pub reads_area : Frame → ℕ → Bool
reads_area f result = (f.kind == read_data) && is_success result

-- a request without a command: one for data reads its pages, any other is answered GOOD at once, also one that failed a
-- check. Its slots are given back
abbrev pub answered_at_once : State → Task → ℕ → List Frame → ℕ → State
answered_at_once s task region [] result = ends_with_status s task Good
answered_at_once s task region (f ∷ fs) result =
    if reads_area f result
    then
    requested (with_moves (given_back s task) (keeps_area s task.tag region f)) task region (f ∷ fs) result
    (ReadingArea (area_read s region f))
    else requested (given_back s task) task region (f ∷ fs) result (Answering Good task.length)

-- what becomes of the frames by what was decided of them: they are refused with a status, and change nothing; or they
-- have a result, and the command that is accepted with it, if there is one, has to be durable before GOOD is due
abbrev pub request_decided : State → Task → ℕ → List Frame → RpmbOutcome → State
request_decided s task region frames (Refused status) = ends_with_status s task status
request_decided s task region frames (Results result None) = answered_at_once s task region frames result
request_decided s task region frames (Results result (Some c)) =
    requested (accepts s c (claimed_by (numbers_of s) task.deed task.command)) task region frames result
    (Awaiting (length s.accepted + 1))

-- the frames of a SECURITY PROTOCOL OUT are all there (JESD220, 12.4). They are decided now, by key, counter and
-- registers of their region as they stand, and by whether anything can be accepted: a locked device that is not
-- mended takes requests too, and answers them as a locked one
abbrev pub frames_complete : State → Task → ℕ → List Frame → State
frames_complete s task region frames =
    request_decided s task region frames
    (rpmb_outcome region (region_of (plain_now s) region) (s.registers region) (accepts_nothing s)
    frames)

-- ## Registers

-- the result of a request once its GOOD is due: a page of the area that could not be read shows in it
abbrev pub result_now : Deed → ℕ → ℕ
result_now (ReadingArea pages) result = with_reads (map (λ (page : ReadBlock). page.state) pages) result
result_now (Gathering purpose gathered asked) result = result
result_now (Sending blocks sent) result = result
result_now (SendingBytes bytes) result = result
result_now (Awaiting commands) result = result
result_now (Comparing blocks compared asked) result = result
result_now (Answering status carried) result = result

-- the registers of each region, once the GOOD of this request is due
abbrev pub request_filled : Plain → Deed → RpmbRequest → (ℕ → Registers) → ℕ → Registers
request_filled p deed request registers =
    at_region registers request.region
    (filled_with (region_of p request.region) request.frames (result_now deed request.result)
    (registers request.region))

-- the same of the request of a task; without one nothing is filled
abbrev pub filled_by : Plain → Deed → Option RpmbRequest → (ℕ → Registers) → ℕ → Registers
filled_by p deed None registers = registers
filled_by p deed (Some request) registers = request_filled p deed request registers

-- what the request of a task leaves in the registers once its GOOD is due (JESD220, 12.4): a key or a write in the
-- result register, any other request in the response register
abbrev pub filled_registers : State → Task → (ℕ → Registers) → ℕ → Registers
filled_registers s task registers = filled_by (plain_now s) task.deed task.request registers
