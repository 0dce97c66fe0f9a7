-- What becomes due behind a call fills its register: nothing, if no task has a request that is yet to fill one. And
-- each die does what it did.
use Rattle.ufs_laws.proofs.Common.{Bool, List, Registers, State, Task, [], ap, cond, false, filled, fills, fold}
use Rattle.ufs_laws.proofs.Common.{is_good_due, is_to_fill, is_unfilled, lock_applied, map, refl, task_filled}
use Rattle.ufs_laws.proofs.Common.{task_locked, with_moves, ℕ, ◌&&◌, ◌∙◌, ◌∷◌, ◌≡◌}
use Rattle.std.specs.Prelude.{filter}
use Rattle.ufs_laws.proofs.walk.SmallChanges.{settled_small}
use Rattle.ufs_laws.proofs.jobs.SameJobs.{SameJobs, small_same}
use Rattle.ufs_laws.specs.Requests.{HaveNoneToFill}
use Rattle.ufs_spec.specs.Machine.{fill_moves, filled_registers}

pub settled_jobs : (s : State) → SameJobs s.translation (lock_applied (fills s)).translation
settled_jobs s = small_same (settled_small s)

-- Nothing to fill

unfilled : (s : State) (task : Task) → is_unfilled task.request ≡ false → is_to_fill s task ≡ false
unfilled s task none = ap (λ (b : Bool). b && is_good_due s task task.deed) none

none_to_fill : (s : State) (tasks : List Task) → HaveNoneToFill tasks → filter (is_to_fill s) tasks ≡ []
none_to_fill s [] h = refl
none_to_fill s (t ∷ ts) h =
    ap (λ (b : Bool). cond b (t ∷ filter (is_to_fill s) ts) (filter (is_to_fill s) ts)) (unfilled s t h.0)
    ∙ none_to_fill s ts h.1

same_task : (s : State) (task : Task) → is_unfilled task.request ≡ false → task_filled s task ≡ task
same_task s task none =
    ap (λ (b : Bool). cond b (record task { request = filled task.request }) task) (unfilled s task none)

same_tasks : (s : State) (tasks : List Task) → HaveNoneToFill tasks → map (task_filled s) tasks ≡ tasks
same_tasks s [] h = refl
same_tasks s (t ∷ ts) h = λ i. same_task s t h.0 i ∷ same_tasks s ts h.1 i

filled_with : State → List Task → List Task → State
filled_with s due tasks =
    record (with_moves s (fill_moves due)) {
      tasks = tasks;
      registers =
          fold (λ (registers : ℕ → Registers) (task : Task). filled_registers s task registers) s.registers due;
    }

pub no_request_fills_nothing : (s : State) → HaveNoneToFill s.tasks → fills s ≡ s
unfolding filled_with
no_request_fills_nothing s none = λ i. filled_with s (none_to_fill s s.tasks none i) (same_tasks s s.tasks none i)

-- The lock

requests_before : (s : State) (tasks : List Task) → HaveNoneToFill (map (task_locked s) tasks) → HaveNoneToFill tasks
requests_before s [] h = tt
requests_before s (t ∷ ts) h = (h.0, requests_before s ts h.1)

-- so what is behind a call is the same with the lock told
pub settled_is : (s : State) → HaveNoneToFill s.tasks → lock_applied (fills s) ≡ lock_applied s
settled_is s none = ap lock_applied (no_request_fills_nothing s none)
