-- A task that gathers data, what came of them, and whether that is all.
use Rattle.power_loss.proofs.Common.{Bool, List, Some, and_parts, ap, arith, eqb-true, false, is_mended, length}
use Rattle.power_loss.proofs.Common.{length-append, ltb-false, nat_lt, subst, true, ℕ, ◌&&◌, ◌++◌, ◌<◌, ◌==◌, ◌∙◌, ◌≡◌}
use Rattle.power_loss.proofs.Common.{◌≤◌}
use Rattle.power_loss.proofs.MachineWords.{AreBytes, Deed, Gathering, IsTied, Purpose, State, Task, claim_of}
use Rattle.power_loss.proofs.MachineWords.{claimed_by, count_at, is_asked_in, numbers_of, task_of}
use Rattle.ufs_laws.proofs.pages.ByteLists.{bytes-append}
use Rattle.ufs_spec.specs.Exchanges.{to_gather}
use Rattle.power_loss.proofs.host_commands.HandedOutReplies.{FitsIn}
use Rattle.power_loss.proofs.open_tasks.TaskLists.{found_fits}

-- a task of the state gathers data for its purpose
pub record GathersIn (s : State) (task : Task) (purpose : Purpose) (gathered : List ℕ) (asked : Bool) : Type 0 where
  pub there : task_of task.tag s.tasks ≡ Some task
  pub few : claim_of (numbers_of s) task ≤ s.translation.claims
  pub claim : claim_of (numbers_of s) task ≡ claimed_by (numbers_of s) (Gathering purpose gathered asked) task.command
  pub fits : FitsIn s task (Gathering purpose gathered asked)

-- more data came that it asked for
pub record HasMore (task : Task) (purpose : Purpose) (gathered all : List ℕ) : Type 0 where
  pub long : length gathered < to_gather purpose task.length → length all ≤ to_gather purpose task.length
  pub are_bytes : AreBytes gathered → AreBytes all

-- these are all of its data
pub record HasAll (task : Task) (purpose : Purpose) (gathered all : List ℕ) : Type 0 where
  pub long : length gathered < to_gather purpose task.length → length all ≡ to_gather purpose task.length
  pub are_bytes : AreBytes gathered → AreBytes all

-- all of them are no more
pub no_more : {task : Task} {purpose : Purpose} {gathered all : List ℕ} → HasAll task purpose gathered all →
    HasMore task purpose gathered all
no_more h = record { long = λ short. let all = h.long short in omega arith; are_bytes = h.are_bytes }

pub all_there : {task : Task} {purpose : Purpose} {gathered all : List ℕ} → HasMore task purpose gathered all →
    nat_lt (length all) (to_gather purpose task.length) ≡ false → HasAll task purpose gathered all
all_there {task} {purpose} {gathered} {all} h e =
    let l = ltb-false (length all) (to_gather purpose task.length) e in
    record { long = λ short. let most = h.long short in omega arith; are_bytes = h.are_bytes }

-- as many as a task asks for are no more than it has
pub room_for : (task : Task) (purpose : Purpose) (gathered bytes : List ℕ) →
    length bytes ≡ count_at (to_gather purpose task.length) (length gathered) →
    (AreBytes gathered → AreBytes (gathered ++ bytes)) → HasMore task purpose gathered (gathered ++ bytes)
room_for task purpose gathered bytes count are = record {
  long = λ short. let joined = length-append gathered bytes in omega arith;
  are_bytes = are;
}

pub more_there : (task : Task) (purpose : Purpose) (gathered bytes : List ℕ) (asked : Bool) (lun offset : ℕ) →
    is_asked_in task lun offset (length bytes) (Gathering purpose gathered asked) ≡ true → AreBytes bytes →
    HasMore task purpose gathered (gathered ++ bytes)
more_there task purpose gathered bytes asked lun offset is_asked is =
    let last = and_parts (asked && (task.lun == lun) && (offset == length gathered))
    (length bytes == count_at (to_gather purpose task.length) (length gathered)) is_asked in
    room_for task purpose gathered bytes
    (eqb-true (length bytes) (count_at (to_gather purpose task.length) (length gathered)) last.1)
    (λ h. bytes-append gathered bytes h is)

-- the task that is found gathers its data
pub gathers_in : {s : State} {task : Task} {purpose : Purpose} {gathered : List ℕ} {asked : Bool} (tag : ℕ) →
    IsTied s → task_of tag s.tasks ≡ Some task → task.deed ≡ Gathering purpose gathered asked →
    GathersIn s task purpose gathered asked
gathers_in {s} {task} tag v e deed =
    let found = found_fits (numbers_of s) (length s.accepted) (is_mended s.translation.work.mending) tag s.tasks
    task v.tasks.deeds e in
    let claimed = v.tasks.claimed in
    let few = found.2 in
    record {
      there = ap (λ (x : ℕ). task_of x s.tasks) found.1 ∙ e;
      few = omega arith;
      claim = ap (λ (d : Deed). claimed_by (numbers_of s) d task.command) deed;
      fits = subst (FitsIn s task) deed found.0;
    }
