-- Where no task up to a position owes a reply, and the one there owes none, none up to the next one does.
use Rattle.device.proofs.Common.{List, None, OpenTask, Some, Task, Translation, ap, arith, held_at, inl, inr, owed_by}
use Rattle.device.proofs.Common.{owed_in, read_at, slice_get, sym, task_at, ℕ, ◌+◌, ◌<◌, ◌∙◌, ◌≡◌, ◌≤◌}
use Rattle.std.proofs.Math.Nat.{eq-or-lt_of_le}
use Rattle.device.proofs.open_tasks.OpenTasks.{stands_there}

pub none_owed : (t : Translation) (tasks : List OpenTask) (index : ℕ) (here : Task) →
    task_at tasks index ≡ Some here → owed_in t (read_at tasks index) (held_at tasks index) here here.phase ≡ None →
    ((k : ℕ) (task : OpenTask) → k < index → slice_get tasks k ≡ Some task → owed_by t task ≡ None) →
    (k : ℕ) (task : OpenTask) → k < index + 1 → slice_get tasks k ≡ Some task → owed_by t task ≡ None
none_owed t tasks index here there none before k task less at =
    let most : k ≤ index = omega arith in
    elim (eq-or-lt_of_le most) [
      | inl is ↦
          let its = stands_there tasks index here task there (ap (slice_get tasks) (sym is) ∙ at) in
          sym (λ i. owed_in t (its.1 i) (its.2 i) (its.0 i) (its.0 i).phase) ∙ none
      | inr below ↦ before k task below at
    ]
