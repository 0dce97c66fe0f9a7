-- How the fields of a set of tasks are seen, and the room that they keep.
use Rattle.std.specs.Prelude.{◌≡◌, ◌≤◌, ◌+◌, ℕ, List, length, vec_capacity, Option, Some, None}
use Rattle.ufs_spec.specs.Exchanges.{most_short_exchanges, most_tasks}
use Rattle.task_set.specs.Kept.{OpenTask, Tasks}
use Rattle.task_set.specs.declared.open_task.Holds.{Holds}
use Rattle.task_set.specs.declared.open_task.Holds.TheVariants as holds
use Rattle.task_set.specs.declared.open_task.OpenTask.TheInside.{Inside as Open}
use Rattle.task_set.specs.declared.set.TaskSet.TheInside.{Inside}

-- the block that a die read, if that is what lies there
abbrev pub block_in : Holds → List ℕ → Option (List ℕ)
block_in holds.Block body = Some body
block_in holds.Nothing body = None
block_in holds.Frames body = None

-- the bytes that are kept, frames or others, if they lie there
abbrev pub held_in : Holds → List ℕ → Option (List ℕ)
held_in holds.Frames body = Some body
held_in holds.Nothing body = None
held_in holds.Block body = None

-- what contracts see of a task: what lies in its block of the pool counts only as what it is
abbrev pub open_of : Open → OpenTask
open_of t = record {
  tag = t.task.tag;
  lun = t.task.lun;
  expected = t.task.expected;
  phase = t.task.phase;
  frames = t.task.frames;
  region = t.task.region;
  block = block_in t.holds t.body;
  held = held_in t.holds t.body;
}

-- what contracts see of the set: its open tasks and its short exchanges, in their order
abbrev pub tasks_of : Inside → Tasks
tasks_of s = record { tasks = s.tasks.items; shorts = s.shorts.items }

-- no list grows past its room, and each block of the pool is a task's or spare
pub record IsRoomy (s : Inside) : Type 0 where
  pub tasks : most_tasks ≤ vec_capacity s.tasks
  pub shorts : most_short_exchanges ≤ vec_capacity s.shorts
  pub few_shorts : length s.shorts.items ≤ most_short_exchanges
  pub spare : most_tasks ≤ vec_capacity s.spare
  pub bodies : length s.tasks.items + length s.spare.items ≡ most_tasks
