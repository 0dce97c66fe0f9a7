-- The commands and settings that have no answer yet (JESD220, 10.7).
use Rattle.std.specs.Prelude.{ℕ, ◌==◌, ◌&&◌, ◌||◌, Bool, true, false, not, filter}
use Rattle.std.specs.Prelude.{List, position, remove, slice_get, Option, Some, None}
use Rattle.ufs_spec.specs.Management.{aborts}
use Rattle.journal.specs.declared.tasks.Awaited.{Awaited}
use Rattle.journal.specs.declared.tasks.Awaited.TheVariants.{Blocks, Frames, UnmapList, Nothing, Verdict}
use Rattle.journal.specs.declared.tasks.OpenTask.{OpenTask}

-- ## The one with a tag

-- it was sent under this tag
abbrev pub has_tag : ℕ → OpenTask → Bool
has_tag tag t = t.name.tag == tag

-- the one at the position that was found, if one was found
abbrev pub found_at : List OpenTask → Option ℕ → Option OpenTask
found_at tasks None = None
found_at tasks (Some k) = slice_get tasks k

-- the one with the tag
abbrev pub open_with : ℕ → List OpenTask → Option OpenTask
open_with tag tasks = found_at tasks (position (has_tag tag) tasks)

-- the list without the one at that position; if none was found all stay
abbrev pub removed_at : List OpenTask → Option ℕ → List OpenTask
removed_at tasks None = tasks
removed_at tasks (Some k) = remove tasks k

-- the list without the one of this tag
abbrev pub without : ℕ → List OpenTask → List OpenTask
without tag tasks = removed_at tasks (position (has_tag tag) tasks)

-- ## Task management

-- it is a command: a setting that waits for its verdict is none, and no function aborts it
abbrev pub is_command : Awaited → Bool
is_command Nothing = true
is_command (Blocks w) = true
is_command UnmapList = true
is_command (Frames number) = true
is_command (Verdict place) = false

-- the function aborts it: abort task (01h) the command with the LUN and the tag that is meant, and each other one that
-- aborts all commands of the LUN (JESD220, 10.7.6)
abbrev pub is_aborted : ℕ → ℕ → ℕ → OpenTask → Bool
is_aborted function lun meant t =
    aborts function && is_command t.awaited && (t.name.lun == lun)
    && (not (function == 0x01) || (t.name.tag == meant))

-- those that the function leaves open
abbrev pub left_open : ℕ → ℕ → ℕ → List OpenTask → List OpenTask
left_open function lun meant tasks = filter (λ t. not (is_aborted function lun meant t)) tasks
