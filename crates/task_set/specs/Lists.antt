-- What the lists of a set of tasks say: which tags are in use, which data were asked for, which blocks were read.
use Rattle.std.specs.Prelude.{Bool, Err, List, None, Ok, Option, Result, Some, if◌then◌else◌, is_some, length, nat_le}
use Rattle.std.specs.Prelude.{not, option_map, position, slice_get, slice_set, ℕ, ◌&&◌, ◌==◌, ◌||◌}
use Rattle.std.specs.List.{list_any}
use Rattle.ufs_spec.specs.Exchanges.{most_short_exchanges, number_of}
use Rattle.ufs_spec.specs.declared.faults.HostFault.{HostFault}
use Rattle.ufs_spec.specs.declared.faults.HostFault.TheVariants.{Backlog, TagInUse}
use Rattle.task_set.specs.declared.tasks.AskedFor.{AskedFor}
use Rattle.task_set.specs.declared.tasks.ComparedWith.{ComparedWith}
use Rattle.task_set.specs.declared.tasks.Comparing.{Comparing}
use Rattle.task_set.specs.declared.tasks.Phase.{Phase}
use Rattle.task_set.specs.declared.tasks.Phase.TheVariants as phase
use Rattle.task_set.specs.declared.tasks.Short.{Short}
use Rattle.task_set.specs.declared.tasks.Task.{Task}
use Rattle.task_set.specs.declared.tasks.TaskEvent.{TaskEvent}
use Rattle.task_set.specs.declared.tasks.Wanted.{Wanted}
use Rattle.task_set.specs.Kept.{OpenTask, task_in}
use Rattle.task_set.specs.Shorts.{number_in}
use Rattle.task_set.specs.Tasks.{block_kept, bytes_kept, is_compared, is_task_of, is_wanted, task_after}

-- Tags

-- the short exchange has this number
abbrev pub is_short_of : ℕ → Short → Bool
is_short_of number short = number_in short == number

-- a task or a short exchange has the number
abbrev pub is_open : List OpenTask → List Short → ℕ → Bool
is_open tasks shorts number = is_some (position (is_task_of number) tasks) || list_any (is_short_of number) shorts

-- the tag is in use: by an exchange of task management, or by one that is not, as it is asked; or by any, if
-- there is one set of tags
abbrev pub is_in_use : List OpenTask → List Short → (one_set manages : Bool) → ℕ → Bool
is_in_use tasks shorts one_set manages tag =
    is_open tasks shorts (number_of manages tag) || (one_set && is_open tasks shorts (number_of (not manages) tag))

-- whether one more short exchange of this tag may be open, which is one of task management or is not
abbrev pub short_allowed : List OpenTask → List Short → (one_set manages : Bool) → ℕ → Result Unit HostFault
short_allowed tasks shorts one_set manages tag =
    if is_in_use tasks shorts one_set manages tag then Err TagInUse
    else if nat_le most_short_exchanges (length shorts) then Err Backlog
    else Ok tt

-- Data that were asked for

-- what a task asked for that still awaits all of it
abbrev pub wanted_in : Phase → Option Wanted
wanted_in (phase.Await w) = Some w
wanted_in p = None

-- the task at this position, if so many bytes at this offset are what it asked for
abbrev pub asked_what : ℕ → ℕ → ℕ → ℕ → OpenTask → Option Wanted → Option AskedFor
asked_what lun offset count k task None = None
asked_what lun offset count k task (Some w) =
    if (task.lun == lun) && is_wanted w offset count then Some (record { index = k; wanted = w }) else None

-- the same of what it asked for in its phase
abbrev pub asked_in : ℕ → ℕ → ℕ → ℕ → OpenTask → Option AskedFor
asked_in lun offset count k task = asked_what lun offset count k task (wanted_in task.phase)

-- what the task asked for, if there is a task
abbrev pub asked_by : ℕ → ℕ → ℕ → ℕ → Option OpenTask → Option AskedFor
asked_by lun offset count k None = None
asked_by lun offset count k (Some task) = asked_in lun offset count k task

-- what the task at the position that was found asked for, if one was found
abbrev pub asked_at : List OpenTask → ℕ → ℕ → ℕ → Option ℕ → Option AskedFor
asked_at tasks lun offset count None = None
asked_at tasks lun offset count (Some k) = asked_by lun offset count k (slice_get tasks k)

-- the task that asked for so many bytes at this offset, and what it asked for
abbrev pub asked_among : List OpenTask → ℕ → ℕ → ℕ → ℕ → Option AskedFor
asked_among tasks lun tag offset count = asked_at tasks lun offset count (position (is_task_of tag) tasks)

-- Blocks that are compared

-- how far a VERIFY is that awaits a block of its host
abbrev pub compared_in : Phase → Option Comparing
compared_in (phase.AwaitBlock x) = Some x
compared_in p = None

-- the task at this position, if so many bytes at this offset are the block that it compares next
abbrev pub compared_what : ℕ → ℕ → ℕ → ℕ → OpenTask → Option Comparing → Option ComparedWith
compared_what lun offset count k task None = None
compared_what lun offset count k task (Some x) =
    if (task.lun == lun) && is_compared x offset count then Some (record { index = k; comparing = x }) else None

-- the same of how far it is in its phase
abbrev pub compares_in : ℕ → ℕ → ℕ → ℕ → OpenTask → Option ComparedWith
compares_in lun offset count k task = compared_what lun offset count k task (compared_in task.phase)

-- how far the task is, if there is a task
abbrev pub compared_by : ℕ → ℕ → ℕ → ℕ → Option OpenTask → Option ComparedWith
compared_by lun offset count k None = None
compared_by lun offset count k (Some task) = compares_in lun offset count k task

-- how far the task at the position that was found is, if one was found
abbrev pub compared_at : List OpenTask → ℕ → ℕ → ℕ → Option ℕ → Option ComparedWith
compared_at tasks lun offset count None = None
compared_at tasks lun offset count (Some k) = compared_by lun offset count k (slice_get tasks k)

-- the VERIFY that compares so many bytes at this offset, and how far it is
abbrev pub compared_among : List OpenTask → ℕ → ℕ → ℕ → ℕ → Option ComparedWith
compared_among tasks lun tag offset count = compared_at tasks lun offset count (position (is_task_of tag) tasks)

-- What changes

-- this happened to the task at this position, if there is one
abbrev pub task_happened : List OpenTask → ℕ → TaskEvent → Option OpenTask → List OpenTask
task_happened tasks k e None = tasks
task_happened tasks k e (Some task) = slice_set tasks k (task_after e task)

-- the task at this position keeps these bytes, if there is one
abbrev pub task_keeps : List OpenTask → ℕ → List ℕ → Option OpenTask → List OpenTask
task_keeps tasks k frames None = tasks
task_keeps tasks k frames (Some task) = slice_set tasks k (bytes_kept frames task)

-- the task at this position keeps this block, if there is one
abbrev pub task_keeps_block : List OpenTask → ℕ → List ℕ → Option OpenTask → List OpenTask
task_keeps_block tasks k block None = tasks
task_keeps_block tasks k block (Some task) = slice_set tasks k (block_kept block task)

-- What stands at a position

-- what replies need of the task at this position: its tag, its unit, the bytes expected, and how far it is
abbrev pub task_at : List OpenTask → ℕ → Option Task
task_at tasks k = option_map task_in (slice_get tasks k)

-- the block that a die read for the task, if there is a task and its block was read
abbrev pub read_of : Option OpenTask → Option (List ℕ)
read_of None = None
read_of (Some task) = task.block

-- the block that a die read for the task at this position
abbrev pub read_at : List OpenTask → ℕ → Option (List ℕ)
read_at tasks k = read_of (slice_get tasks k)

-- what the task keeps to send or of its request, if there is a task
abbrev pub held_of : Option OpenTask → Option (List ℕ)
held_of None = None
held_of (Some task) = task.held

-- what the task at this position keeps so
abbrev pub held_at : List OpenTask → ℕ → Option (List ℕ)
held_at tasks k = held_of (slice_get tasks k)
