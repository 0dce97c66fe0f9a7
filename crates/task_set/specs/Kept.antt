-- What a set of tasks keeps, as its contracts see it.
use Rattle.std.specs.Prelude.{ℕ, List, [], Option, None}
use Rattle.task_set.specs.declared.frames.Frames.{Frames}
use Rattle.task_set.specs.declared.tasks.Phase.{Phase}
use Rattle.task_set.specs.declared.tasks.Short.{Short}
use Rattle.task_set.specs.declared.tasks.Task.{Task}

-- an open task: what it still owes its host, what it has to do with frames and the RPMB region to which it brings them,
-- the next block that it sends, once a die read it, and what it keeps in its block: bytes that it sends, or its first
-- frame with the data behind it
pub record OpenTask : Type 0 where
  pub tag : ℕ
  pub lun : ℕ
  pub expected : ℕ
  pub phase : Phase
  pub frames : Frames
  pub region : ℕ
  pub block : Option (List ℕ)
  pub held : Option (List ℕ)

-- what it still owes its host
abbrev pub task_in : OpenTask → Task
task_in t =
    record {
      tag = t.tag;
      lun = t.lun;
      expected = t.expected;
      phase = t.phase;
      frames = t.frames;
      region = t.region;
    }

-- nothing was read for it yet, and it keeps nothing
abbrev pub newly_open : Task → OpenTask
newly_open t =
    record {
      tag = t.tag;
      lun = t.lun;
      expected = t.expected;
      phase = t.phase;
      frames = t.frames;
      region = t.region;
      block = None;
      held = None;
    }

-- the open tasks in the order of their COMMANDs, and the exchanges of one reply that was not handed out yet
pub record Tasks : Type 0 where
  pub tasks : List OpenTask
  pub shorts : List Short

-- no task and no short exchange is open
abbrev pub no_tasks : Tasks
no_tasks = record { tasks = []; shorts = [] }
