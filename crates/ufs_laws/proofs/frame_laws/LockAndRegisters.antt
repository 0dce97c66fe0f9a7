-- What the lock ends fills no register, and what it leaves fills what it did: its order shows in none.
use Rattle.ufs_laws.proofs.Common.{Answering, Awaiting, Bool, Deed, List, None, Option, Registers, RpmbRequest, Some}
use Rattle.ufs_laws.proofs.Common.{State, Task, [], ap, cond, deed_locked, durable, false, fills, fold, if_both}
use Rattle.ufs_laws.proofs.Common.{if◌then◌else◌, is_good_due, is_to_fill, is_unfilled, lock_applied, locked, map}
use Rattle.ufs_laws.proofs.Common.{nat_le, plain_now, refl, result_now, short_locked, sym, task_locked, true}
use Rattle.ufs_laws.proofs.Common.{write_error, ℕ, ◌&&◌, ◌∙◌, ◌∷◌, ◌≡◌}
use Rattle.std.specs.Prelude.{filter}
use Rattle.ufs_spec.specs.Exchanges.{at_region}
use Rattle.ufs_spec.specs.FrameRequests.{filled_by, filled_registers}
use Rattle.ufs_spec.specs.Rpmb.{region_of}
use Rattle.ufs_spec.specs.RpmbResponses.{filled_with}

-- each task and each short exchange is told the lock
abbrev told : State → State
told s = record s { tasks = map (task_locked s) s.tasks; shorts = map (short_locked s) s.shorts }

-- ## One task

same_due : (s : State) (task : Task) (deed : Deed) →
    is_good_due (told s) (task_locked s task) (deed_locked s task deed) ≡ is_good_due s task deed
same_due s task (Awaiting commands) = by (nat_le commands (durable s)) refl
  where
    by : (b : Bool) → nat_le commands (durable s) ≡ b →
        is_good_due (told s) (task_locked s task)
        (if b then Awaiting commands else Answering write_error task.length)
        ≡ nat_le commands (durable s)
    by true e = refl
    by false e = sym e
same_due s task deed = refl

same_to_fill : (s : State) (task : Task) → is_to_fill (told s) (task_locked s task) ≡ is_to_fill s task
same_to_fill s task = ap (λ (b : Bool). is_unfilled task.request && b) (same_due s task task.deed)

same_result : (s : State) (task : Task) (deed : Deed) (result : ℕ) →
    result_now (deed_locked s task deed) result ≡ result_now deed result
same_result s task (Awaiting commands) result =
    if_both (λ (d : Deed). result_now d result ≡ result) (nat_le commands (durable s)) refl refl
same_result s task deed result = refl

same_filled : (s : State) (task : Task) (o : Option RpmbRequest) (r : ℕ → Registers) →
    filled_by (plain_now s) (deed_locked s task task.deed) o r ≡ filled_by (plain_now s) task.deed o r
same_filled s task None r = refl
same_filled s task (Some request) r =
    ap (λ (result : ℕ). at_region r request.region
    (filled_with (region_of (plain_now s) request.region) request.frames result (r request.region)))
    (same_result s task task.deed request.result)

-- ## All tasks

abbrev filling : State → (ℕ → Registers) → Task → ℕ → Registers
filling s r task = filled_registers s task r

same_all : (s : State) (tasks : List Task) (r : ℕ → Registers) →
    fold (filling (told s)) r (filter (is_to_fill (told s)) (map (task_locked s) tasks))
    ≡ fold (filling s) r (filter (is_to_fill s) tasks)
same_all s [] r = refl
same_all s (t ∷ ts) r =
    ap (λ (b : Bool). fold (filling (told s)) r (cond b (task_locked s t ∷ rest) rest)) (same_to_fill s t)
    ∙ by (is_to_fill s t) (same_all s ts)
  where
    rest : List Task
    rest = filter (is_to_fill (told s)) (map (task_locked s) ts)

    by : (b : Bool) →
        ((x : ℕ → Registers) → fold (filling (told s)) x rest ≡ fold (filling s) x (filter (is_to_fill s) ts)) →
        fold (filling (told s)) r (cond b (task_locked s t ∷ rest) rest)
        ≡ fold (filling s) r (cond b (t ∷ filter (is_to_fill s) ts) (filter (is_to_fill s) ts))
    by true same =
        ap (λ (x : ℕ → Registers). fold (filling (told s)) x rest) (same_filled s t t.request r)
        ∙ same (filled_registers s t r)
    by false same = same r

pub order : (s : State) → (fills (lock_applied s)).registers ≡ (fills s).registers
order s =
    if_both (λ (t : State). (fills t).registers ≡ (fills s).registers) (locked s) (same_all s s.tasks s.registers) refl
