-- What a task has to do with the frames of the RPMB (JESD220, 12.4), and where the data stand that a request asks for.
use Rattle.std.specs.Prelude.{List, None, Option, Some, [], drop, if◌then◌else◌, length, min, nat_lt, option_map, take}
use Rattle.std.specs.Prelude.{ℕ, ◌%◌, ◌*◌, ◌++◌, ◌+◌, ◌-◌, ◌==◌, ◌∷◌}
use Rattle.ufs_spec.specs.declared.exchanges.ReadState.{ReadState}
use Rattle.ufs_spec.specs.declared.exchanges.ReadState.TheVariants.{Unread}
use Rattle.task_set.specs.declared.frames.AreaPart.{AreaPart}
use Rattle.task_set.specs.declared.frames.AreaReading.{AreaReading}
use Rattle.task_set.specs.declared.frames.Frames.{Frames}
use Rattle.task_set.specs.declared.frames.Frames.TheVariants.{Answered, Decided}
use Rattle.task_set.specs.declared.tasks.TaskEvent.{TaskEvent}
use Rattle.task_set.specs.declared.tasks.TaskEvent.TheVariants as event

-- what a task has to do with frames after this happened: with its result a request is decided, and it fills its
-- register once
abbrev pub frames_after : Frames → TaskEvent → Frames
frames_after f (event.RequestAnswered code) = Decided code
frames_after f (event.RequestAccepted code number) = Decided code
frames_after f (event.AreaAsked code address count) = Decided code
frames_after (Decided code) event.RegisterFilled = Answered
frames_after f e = f

-- how the read of the second page ended, if there is one
abbrev pub second_read : Option ReadState → List ReadState
second_read None = []
second_read (Some how) = how ∷ []

-- how the reads of all its pages ended
abbrev pub pages_read : AreaReading → List ReadState
pages_read r = r.first ∷ second_read r.second

-- so many blocks of 256 bytes from this address on, at most eight, lie in one page of sixteen or in two; none is read
-- yet
abbrev pub reading_of : ℕ → ℕ → ℕ → AreaReading
reading_of address count size =
    record {
      address = address;
      count = count;
      first = Unread;
      second = if nat_lt 16 (address % 16 + min count 8) then Some Unread else None;
      length = size;
    }

-- the read of the page of this index ended so
abbrev pub page_ended : AreaReading → ℕ → ReadState → AreaReading
page_ended r index how =
    if index == 0 then record r { first = how } else record r { second = option_map (λ old. how) r.second }

-- how many of the blocks lie in the first page
abbrev pub blocks_in_first : AreaReading → ℕ
blocks_in_first r = min (min r.count 8) (16 - r.address % 16)

-- the part that is asked for of the page of this index. In the block of the task the parts follow the request's first
-- frame of 512 bytes
abbrev pub area_part : AreaReading → ℕ → AreaPart
area_part r index =
    if index == 0
    then record { from = 256 * (r.address % 16); at = 512; length = 256 * blocks_in_first r }
    else
    record { from = 0; at = 512 + 256 * blocks_in_first r; length = 256 * (min r.count 8 - blocks_in_first r) }

-- these bytes stand in the row from an offset on, and all others stay
abbrev pub put_bytes : ℕ → List ℕ → List ℕ → List ℕ
put_bytes at bytes row = take at row ++ (bytes ++ drop (at + length bytes) row)

-- the part of a page stands in its place
abbrev pub part_put : AreaPart → List ℕ → List ℕ → List ℕ
part_put p body held = put_bytes p.at (take p.length (drop p.from body)) held

-- the part of the page of this index stands in its place
abbrev pub page_put : AreaReading → ℕ → List ℕ → List ℕ → List ℕ
page_put r index body held = part_put (area_part r index) body held
