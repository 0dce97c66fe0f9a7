-- What each call makes of a set of tasks.
use Rattle.std.specs.Prelude.{ℕ, List, [], ◌∷◌, ◌++◌, map, remove, slice_get}
use Rattle.task_set.specs.declared.tasks.Short.{Short}
use Rattle.task_set.specs.declared.tasks.Task.{Task}
use Rattle.task_set.specs.declared.tasks.TaskEvent.{TaskEvent}
use Rattle.task_set.specs.declared.tasks.TaskEvent.TheVariants as event
use Rattle.task_set.specs.Kept.{Tasks, newly_open}
use Rattle.task_set.specs.Lists.{task_happened, task_keeps, task_keeps_block}
use Rattle.task_set.specs.Shorts.{short_locked}
use Rattle.task_set.specs.Tasks.{after_lost_read, after_read, task_after}

-- a command became a task, which is open behind all others
abbrev pub opened : Tasks → Task → Tasks
opened s task = record s { tasks = s.tasks ++ newly_open task ∷ [] }

-- this happened to the task at this position
abbrev pub happened : Tasks → ℕ → TaskEvent → Tasks
happened s k e = record s { tasks = task_happened s.tasks k e (slice_get s.tasks k) }

-- the task at this position keeps these bytes
abbrev pub frames_kept : Tasks → ℕ → List ℕ → Tasks
frames_kept s k frames = record s { tasks = task_keeps s.tasks k frames (slice_get s.tasks k) }

-- the task at this position keeps this block
abbrev pub own_block_kept : Tasks → ℕ → List ℕ → Tasks
own_block_kept s k block = record s { tasks = task_keeps_block s.tasks k block (slice_get s.tasks k) }

-- the task at this position has ended
abbrev pub ended : Tasks → ℕ → Tasks
ended s k = record s { tasks = remove s.tasks k }

-- one short exchange more is open, behind all others
abbrev pub short_opened : Tasks → Short → Tasks
short_opened s short = record s { shorts = s.shorts ++ short ∷ [] }

-- the short exchange at this position has ended
abbrev pub short_ended : Tasks → ℕ → Tasks
short_ended s k = record s { shorts = remove s.shorts k }

-- no short exchange is open
abbrev pub shorts_ended : Tasks → Tasks
shorts_ended s = record s { shorts = [] }

-- a die read this block, or the page of the area of this index, for the task of this tag
abbrev pub block_loaded : Tasks → ℕ → ℕ → List ℕ → Tasks
block_loaded s tag index body = record s { tasks = map (after_read tag index body) s.tasks }

-- the block or the page of this index could not be read for the task of this tag
abbrev pub block_lost : Tasks → ℕ → ℕ → Tasks
block_lost s tag index = record s { tasks = map (after_lost_read tag index) s.tasks }

-- the device is locked, and each group up to this number is durable
abbrev pub locked : Tasks → ℕ → Tasks
locked s frontier = record {
  tasks = map (task_after (event.Locked frontier)) s.tasks;
  shorts = map (short_locked frontier) s.shorts;
}
