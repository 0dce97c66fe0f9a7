-- Small changes of a state: those of which the answers to messages are made (JESD220, 10.7).
use Rattle.std.specs.Prelude.{List, None, Option, Some, [], fold, map, ℕ, ◌++◌, ◌∷◌}
use Rattle.ufs_spec.specs.Commands.{Command}
use Rattle.ufs_spec.specs.Exchanges.{Answering, Awaiting, Comparing, Deed, Gathering, ReadingArea, Sending, SendingBytes}
use Rattle.ufs_spec.specs.Exchanges.{Short, Task, with_deed}
use Rattle.ufs_spec.specs.declared.exchanges.Status.{Status}
use Rattle.ufs_spec.specs.Keys.{group_of}
use Rattle.ufs_spec.specs.Moves.{Accept, Move, Release, moved}
use Rattle.ufs_spec.specs.Refusals.{Request, State, numbers_of, plain_now, slots_needed}
use Rattle.ufs_spec.specs.declared.configs.Numbers.{Numbers}
use Rattle.ufs_spec.specs.declared.scsi.Cdb.{Cdb}

-- the translation layer makes these moves, one after another; nothing else of the state changes
abbrev pub with_moves : State → List Move → State
with_moves s moves = record s { translation = fold moved s.translation moves }

-- a short exchange is opened; its reply goes out when it is due
abbrev pub with_short : State → Short → State
with_short s short = record s { shorts = s.shorts ++ short ∷ [] }

-- a task is opened for a COMMAND, with its CDB (None for a refused one), its length in bytes and what it does first.
-- No task begins with an RPMB request
abbrev pub with_task : State → Request → Option Cdb → ℕ → Deed → State
with_task s r command n deed =
    record s {
      tasks =
          s.tasks
          ++ record {
            lun = r.lun;
            tag = r.tag;
            expected = r.expected;
            command = command;
            length = n;
            deed = deed;
            request = None;
          } ∷ [];
    }

-- the task with this tag does this from now on
abbrev pub set_deed : State → ℕ → Deed → State
set_deed s tag deed = record s { tasks = map (with_deed tag deed) s.tasks }

-- a command is accepted: it follows all accepted ones, READs see it from now on, and its group takes
-- the place of claimed slots
abbrev pub accepts : State → Command → ℕ → State
accepts s c claimed =
    record (with_moves s (Accept claimed (group_of (plain_now s) c) ∷ [])) { accepted = s.accepted ++ c ∷ [] }

-- how many slots a task has claimed that still gathers its data. What was claimed before went to the accepted
-- group, or was given back
abbrev pub claimed_by : Numbers → Deed → Option Cdb → ℕ
claimed_by n (Gathering purpose gathered asked) None = 0
claimed_by n (Gathering purpose gathered asked) (Some c) = slots_needed n c
claimed_by n (Sending blocks sent) command = 0
claimed_by n (SendingBytes bytes) command = 0
claimed_by n (Awaiting commands) command = 0
claimed_by n (ReadingArea pages) command = 0
claimed_by n (Comparing blocks compared asked) command = 0
claimed_by n (Answering status carried) command = 0

-- a task that has gathered its data gives back what it claimed for them, as no command needs it
abbrev pub given_back : State → Task → State
given_back s task = with_moves s (Release (claimed_by (numbers_of s) task.deed task.command) ∷ [])

-- the same, and this answer is due; all data of the task were carried
abbrev pub ends_with_status : State → Task → Status → State
ends_with_status s task status = set_deed (given_back s task) task.tag (Answering status task.length)
