-- The task management requests that are written, as the definitions have them (JESD220, 10.7.6).
use Rattle.std.specs.Prelude.{ℕ, List}
use Rattle.ufs_spec.specs.Messages.{spelling}
use Rattle.ufs_spec.specs.declared.messages.Message.TheVariants.{TaskRequest}
use Rattle.ufstool.specs.declared.tasks.TaskCall.{TaskCall}
use Rattle.ufstool.specs.declared.tasks.TaskCall.TheVariants.{AbortTask, AbortTaskSet, ClearTaskSet, QueryTask}
use Rattle.ufstool.specs.declared.tasks.TaskCall.TheVariants.{QueryTaskSet, ResetUnit}

-- the function: abort task 01h, abort task set 02h, clear task set 04h, logical unit reset 08h, query task 80h, query
-- task set 81h
abbrev pub task_function : TaskCall → ℕ
task_function (AbortTask meant) = 0x01
task_function AbortTaskSet = 0x02
task_function ClearTaskSet = 0x04
task_function ResetUnit = 0x08
task_function (QueryTask meant) = 0x80
task_function QueryTaskSet = 0x81

-- the tag that is meant; a function of all tasks of a unit means none, and has 0 there
abbrev pub tag_meant : TaskCall → ℕ
tag_meant (AbortTask meant) = meant
tag_meant (QueryTask meant) = meant
tag_meant call = 0

-- the 32 bytes of a request
abbrev pub task_spelled : ℕ → ℕ → TaskCall → List ℕ
task_spelled unit task call = spelling (TaskRequest unit task (task_function call) (tag_meant call))
