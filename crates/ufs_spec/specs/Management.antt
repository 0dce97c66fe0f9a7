-- Task management (JESD220, 10.7.6 and 10.7.7).
use Rattle.std.specs.Prelude.{Bool, List, None, Option, Some, [], false, filter, if◌then◌else◌, is_none, not, true, ℕ, ◌&&◌, ◌==◌, ◌||◌}
use Rattle.std.specs.Prelude.{◌∷◌}
use Rattle.std.specs.List.{flat_map, list_any}
use Rattle.ufs_spec.specs.Changes.{claimed_by, with_moves}
use Rattle.ufs_spec.specs.Exchanges.{Registers, Task, empty_registers}
use Rattle.ufs_spec.specs.Messages.{is_among}
use Rattle.ufs_spec.specs.Moves.{LetGoAll, Move, Release}
use Rattle.ufs_spec.specs.Refusals.{Lun, State, lun_of, numbers_of, sends_frames_to, with_attention}
use Rattle.ufs_spec.specs.declared.configs.Numbers.{Numbers}
use Rattle.ufs_spec.specs.declared.volatile.Volatile.{Volatile}

-- the task is the one that a task management request means: it has that LUN and that tag
abbrev pub is_named : ℕ → ℕ → Task → Bool
is_named lun meant task = (task.lun == lun) && (task.tag == meant)

-- the functions that abort tasks: abort task 01h, abort task set 02h, clear task set 04h and logical
-- unit reset 08h (JESD220, 10.7.6)
abbrev pub aborts : ℕ → Bool
aborts function = is_among (0x01 ∷ 0x02 ∷ 0x04 ∷ 0x08 ∷ []) function

-- the function aborts this task: abort task the one with the tag that is meant, the other three all tasks of the LUN
abbrev pub is_aborted : ℕ → ℕ → ℕ → Task → Bool
is_aborted lun function meant task =
    aborts function && (task.lun == lun) && (not (function == 0x01) || (task.tag == meant))

-- the service response to query task (80h) and query task set (81h): 08h, succeeded, if there is such
-- a task, else 00h, complete
abbrev pub service_found : Bool → ℕ
service_found true = 0x08
service_found false = 0x00

-- the service response (JESD220, 10.7.7): 09h if the LUN names no unit; 00h, complete, for a function that aborts,
-- whether or not a task is there; 00h or 08h for one that asks for tasks; 04h, not supported, for any other
abbrev pub service : State → ℕ → ℕ → ℕ → ℕ
service s lun function meant =
    if is_none (lun_of (numbers_of s) lun) then 0x09
    else if aborts function then 0x00
    else if function == 0x80 then service_found (list_any (is_named lun meant) s.tasks)
    else if function == 0x81 then service_found (list_any (λ (task : Task). task.lun == lun) s.tasks)
    else 0x04

-- an aborted task gives back its claims and lets go of all that it keeps; what it had accepted stays accepted
abbrev pub abort_moves : Numbers → Task → List Move
abort_moves n task = Release (claimed_by n task.deed task.command) ∷ LetGoAll task.tag ∷ []

-- both registers of a region become empty if one of the aborted tasks is a SECURITY PROTOCOL OUT for it that was not
-- refused, also if its GOOD was due already
abbrev pub registers_after : List Task → (ℕ → Registers) → ℕ → Registers
registers_after aborted registers region =
    if list_any (λ (task : Task). sends_frames_to region task.command) aborted then empty_registers
    else registers region

-- the tasks of which `is` holds are aborted: they hand out no reply any more, and their tags are free
abbrev pub without_tasks : State → (Task → Bool) → State
without_tasks s is =
    record (with_moves s (flat_map (abort_moves (numbers_of s)) (filter is s.tasks))) {
      tasks = filter (λ task. not (is task)) s.tasks;
      registers = registers_after (filter is s.tasks) s.registers;
    }

-- only a request whose service response is 00h, complete, aborts anything
abbrev pub carried_out : State → ℕ → ℕ → ℕ → ℕ → State
carried_out s lun function meant code = if code == 0x00 then without_tasks s (is_aborted lun function meant) else s

-- what a logical unit reset makes of what is volatile: the LUN has an attention (SAM). A LUN that is not there has none
abbrev pub reset_at : Option Lun → Volatile → Volatile
reset_at None volatile = volatile
reset_at (Some lun) volatile = with_attention lun true volatile

-- the same of each function: only the reset, 08h, leaves an attention
abbrev pub volatile_managed : State → ℕ → ℕ → Volatile
volatile_managed s lun function =
    if function == 0x08 then reset_at (lun_of (numbers_of s) lun) s.volatile else s.volatile

-- what a task management request makes of the state, but for its own answer
abbrev pub managed : State → ℕ → ℕ → ℕ → State
managed s lun function meant =
    carried_out (record s { volatile = volatile_managed s lun function }) lun function meant
    (service s lun function meant)
