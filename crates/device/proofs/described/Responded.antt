-- The task whose request is answered, and what its answer is made of.
use Rattle.device.proofs.Common.{Bool, DeviceCore, Frames, HasResponded, IsKept, IsRead, List, Machine, None, OpenTask}
use Rattle.device.proofs.Common.{Option, ReadState, Region, Some, Translation, ap, false, false≢true, filled_with}
use Rattle.device.proofs.Common.{frames_of, held_at, if◌then◌else◌, is_decided, is_due_in, is_unanswered, machine_at}
use Rattle.device.proofs.Common.{none-some, position, position_told, refl, regions, same_Some, slice_get, subst, sym}
use Rattle.device.proofs.Common.{take, to_answer, true, with_machine, with_reads, ℕ, ◌<◌, ◌∙◌, ◌≡◌}
use Rattle.task_set.specs.Lists.{held_of}
use Rattle.task_set.specs.declared.frames.Frames.TheVariants as frames
use Rattle.device.specs.Frames.{due_at, first_held, is_due_to}

-- the machines respond to what a task at a position keeps
pub responds : (tasks : List OpenTask) (index code number : ℕ) (held : List ℕ) (task : OpenTask)
    (read : Option (List ℕ)) (old machines : List Machine) → Some held ≡ held_at tasks index →
    slice_get tasks index ≡ Some task → task.region ≡ number →
    ((region : Region) (pages : List ReadState) → number < regions → IsKept (machine_at old number).region region →
    IsRead region (frames_of (take 512 held)) code pages read →
    machines ≡ with_machine old number (record (machine_at old number) {
      registers =
          filled_with region (frames_of (take 512 held)) (with_reads pages code) (machine_at old number).registers;
    })) → HasResponded old machines task code read
responds tasks index code number held task read old machines keeps at its told =
    subst
    (λ (xs : List ℕ). (region : Region) (pages : List ReadState) → task.region < regions →
    IsKept (machine_at old task.region).region region → IsRead region (frames_of xs) code pages read →
    machines ≡ with_machine old task.region (record (machine_at old task.region) {
      registers = filled_with region (frames_of xs) (with_reads pages code) (machine_at old task.region).registers;
    })) (ap first_held (keeps ∙ ap held_of at))
    (subst
    (λ (n : ℕ). (region : Region) (pages : List ReadState) → n < regions → IsKept (machine_at old n).region region →
    IsRead region (frames_of (take 512 held)) code pages read →
    machines ≡ with_machine old n (record (machine_at old n) {
      registers = filled_with region (frames_of (take 512 held)) (with_reads pages code) (machine_at old n).registers;
    })) (sym its) told)

-- the task whose request is answered has its GOOD due, and a result
pub record Answers (t : Translation) (d : DeviceCore) (k : ℕ) : Type 0 where
  pub task : OpenTask
  pub there : slice_get d.tasks k ≡ Some task
  pub due : is_due_in t task.tag task.phase ≡ true
  pub code : ℕ
  pub decided : task.frames ≡ frames.Decided code

has_code : (f : Frames) → is_unanswered f ≡ true → (code : ℕ) × (f ≡ frames.Decided code)
has_code (frames.Decided code) e = (code, refl)
has_code frames.NotBrought e = absurd (false≢true e)
has_code frames.Undecided e = absurd (false≢true e)
has_code frames.Answered e = absurd (false≢true e)

pub answers_at : (t : Translation) (d : DeviceCore) (k : ℕ) → to_answer t d ≡ Some k → Answers t d k
answers_at t d k e = by (position is_decided d.tasks) refl e
  where
    by : (o : Option ℕ) → position is_decided d.tasks ≡ o → due_at t d o ≡ Some k → Answers t d k
    by None at due = absurd (none-some k due)
    by (Some j) at due = tested (is_due_to t (slice_get d.tasks j)) refl due
      where
        its : (x : OpenTask) × (slice_get d.tasks j ≡ Some x) × (is_decided x ≡ true)
        its = position_told is_decided d.tasks j at

        code : (n : ℕ) × (its.0.frames ≡ frames.Decided n)
        code = has_code its.0.frames its.2

        tested : (c : Bool) → is_due_to t (slice_get d.tasks j) ≡ c → (if c then Some j else None) ≡ Some k →
            Answers t d k
        tested true now is = record {
          task = its.0;
          there = ap (slice_get d.tasks) (sym (same_Some j k is)) ∙ its.1;
          due = ap (is_due_to t) (sym its.1) ∙ now;
          code = code.0;
          decided = code.1;
        }
        tested false now is = absurd (none-some k is)
