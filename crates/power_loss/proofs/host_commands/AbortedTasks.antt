-- Tasks that a host ends: their claims come back, and what they keep is let go.
use Rattle.power_loss.proofs.Common.{◌≡◌, ℕ, ◌+◌, ◌≤◌, ◌==◌, Bool, true, false, not, cond, List, [], ◌∷◌, refl, arith}
use Rattle.power_loss.proofs.Common.{◌-◌, filter, flat_map, LetGoAll, Release, Numbers, subst}
use Rattle.power_loss.proofs.MachineWords.{Short, Task, is_task_of, abort_moves, is_aborted, managed, service, with_moves}
use Rattle.power_loss.proofs.MachineWords.{without_tasks, State, numbers_of, IsTied, claim_of, claims_of}
use Rattle.std.specs.Prelude.{if◌then◌else◌}
use Rattle.ufs_spec.specs.Exchanges.{all_empty}
use Rattle.ufs_spec.specs.Machine.{link_reset, registers_after, volatile_reset}
use Rattle.ufs_spec.specs.Management.{volatile_managed}
use Rattle.power_loss.proofs.host_commands.OpenedByCommands.{IsFree, volatile_right}
use Rattle.power_loss.proofs.open_tasks.TaggedLists.{any_fewer}
use Rattle.power_loss.proofs.open_tasks.TaskLists.{shorts_fewer, tasks_fewer}
use Rattle.power_loss.proofs.calls.RightChanges.{Right, right_keeps, right_move}
use Rattle.ufs_laws.proofs.walk.SmallChanges.{Both, Closes, ClosesShorts, Moves, One, SetsRegisters, Still, none_left}
use Rattle.ufs_laws.proofs.walk.SmallChanges.{reset_is}

-- each claim is one of a task that goes or of one that stays
claims_split : (n : Numbers) (is : Task → Bool) (tasks : List Task) →
    claims_of n (filter is tasks) + claims_of n (filter (λ task. not (is task)) tasks) ≡ claims_of n tasks
claims_split n is [] = refl
claims_split n is (t ∷ ts) = by (is t) (claims_split n is ts)
  where
    by : (b : Bool) → claims_of n (filter is ts) + claims_of n (filter (λ task. not (is task)) ts) ≡ claims_of n ts →
        claims_of n (cond b (t ∷ filter is ts) (filter is ts)) + claims_of n
        (cond (not b) (t ∷ filter (λ task. not (is task)) ts) (filter (λ task. not (is task)) ts)) ≡ claims_of n
        (t ∷ ts)
    by true e = omega arith
    by false e = omega arith

-- what they claimed comes back, and what they kept is let go
aborted : (s : State) (n : Numbers) (tasks : List Task) → IsTied s →
    claims_of (numbers_of s) s.tasks + claims_of n tasks ≤ s.translation.claims →
    Right s (with_moves s (flat_map (abort_moves n) tasks))
aborted s n [] v few = Still
aborted s n (task ∷ tasks) v few =
    let release : Right s (with_moves s (Release (claim_of n task) ∷ [])) =
    One (Moves (Release (claim_of n task))) (record {
      small = tt;
      layer = omega arith;
      tasks = let claimed : claims_of (numbers_of s) s.tasks ≤ s.translation.claims - claim_of n task = omega arith in
          assumption;
    }) in
    let freed = right_keeps release v in
    let go = right_move (LetGoAll task.tag) freed tt tt (omega arith) in
    Both release (Both go (aborted (with_moves s (abort_moves n task)) n tasks (right_keeps go freed) (omega arith)))

pub aborts_right : {s : State} (is : Task → Bool) → IsTied s → Right s (without_tasks s is)
aborts_right {s} is v =
    let u : State = record s { tasks = filter (λ (task : Task). not (is task)) s.tasks } in
    let split = claims_split (numbers_of s) is s.tasks in
    let claimed = v.tasks.claimed in
    let gone : Right s u = One (Closes is) (record {
      small = tt;
      layer = tt;
      tasks = tasks_fewer (λ (task : Task). not (is task)) v.tasks;
    }) in
    let back = aborted u (numbers_of s) (filter is s.tasks) (right_keeps gone v) (omega arith) in
    Both gone
    (Both back
    (One (SetsRegisters (registers_after (filter is s.tasks) s.registers))
    (record { small = tt; layer = tt; tasks = (right_keeps back (right_keeps gone v)).tasks })))

pub managed_right : {s : State} (lun function meant : ℕ) → IsTied s → Right s (managed s lun function meant)
managed_right {s} lun function meant v = Both sets (by (service s lun function meant == 0x00))
  where
    t : State
    t = record s { volatile = volatile_managed s lun function }

    sets : Right s t
    sets = volatile_right (volatile_managed s lun function) v

    by : (b : Bool) → Right t (if b then without_tasks t (is_aborted lun function meant) else t)
    by true = aborts_right (is_aborted lun function meant) (right_keeps sets v)
    by false = Still

-- the link is reset: all tasks are aborted, and no short exchange is left
pub reset_right : {s : State} (kind : ℕ) → IsTied s → Right s (link_reset s kind)
reset_right {s} kind v =
    subst (Right s) (reset_is s kind)
    (Both all
    (Both (subst (λ (shorts : List Short). Right t (record t { shorts = shorts })) (none_left s.shorts) gone)
    (Both (volatile_right (volatile_reset kind s.volatile) w)
    (One (SetsRegisters all_empty) (record { small = tt; layer = tt; tasks = w.tasks })))))
  where
    t : State
    t = without_tasks s (λ (task : Task). true)

    all : Right s t
    all = aborts_right (λ (task : Task). true) v

    u : State
    u = record t { shorts = [] }

    gone : Right t (record t { shorts = filter (λ (short : Short). not true) t.shorts })
    gone = One (ClosesShorts (λ (short : Short). true)) (record {
      small = tt;
      layer = tt;
      tasks = shorts_fewer (λ (short : Short). not true) (right_keeps all v).tasks;
    })

    w : IsTied u
    w = right_keeps (subst (λ (shorts : List Short). Right t (record t { shorts = shorts })) (none_left s.shorts) gone)
        (right_keeps all v)

-- a tag that is free stays so
pub managed_free : (s : State) (lun function meant tag : ℕ) → IsFree s tag → IsFree (managed s lun function meant) tag
managed_free s lun function meant tag free = by (service s lun function meant == 0x00)
  where
    t : State
    t = record s { volatile = volatile_managed s lun function }

    by : (b : Bool) → IsFree (if b then without_tasks t (is_aborted lun function meant) else t) tag
    by true = record {
      no_task = any_fewer (is_task_of tag) (λ (task : Task). not (is_aborted lun function meant task))
          s.tasks free.no_task;
      no_short = free.no_short;
    }
    by false = record { no_task = free.no_task; no_short = free.no_short }
