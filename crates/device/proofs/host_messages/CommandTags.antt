-- Whether a message may open an exchange.
use Rattle.device.proofs.Common.{Bool, Describes, DeviceCore, Err, List, None, Ok, OpenTask, State, TasksKept, [], ap}
use Rattle.device.proofs.Common.{before_accepted, cond, false, find, if◌then◌else◌, inl, inr, is_sender, is_short_of}
use Rattle.device.proofs.Common.{is_some, length, list_any, nat_le, numbers_of, opening_fault, position, refl}
use Rattle.device.proofs.Common.{result_of, sends_frames, short_answer, sym, task_of, true, ℕ, ◌||◌, ◌∙◌, ◌∷◌, ◌≡◌}
use Rattle.std.specs.Prelude.{Some, not, ◌&&◌, ◌==◌}
use Rattle.ufs_spec.specs.Exchanges.{most_short_exchanges}
use Rattle.ufs_spec.specs.Exchanges as exchange
use Rattle.ufs_spec.specs.Machine as machine
use Rattle.ufs_spec.specs.Machine.{in_use}
use Rattle.task_set.specs.Lists.{is_open}
use Rattle.ufs_spec.specs.declared.faults.HostFault.TheVariants.{Backlog, TagInUse}
use Rattle.device.specs.Hears.{uses}
use Rattle.task_set.specs.Tasks.{is_task_of}
use Rattle.device.proofs.described.ShortExchanges.{as_many_shorts, same_short_tags}
use Rattle.device.proofs.open_tasks.OpenTasks.{StandsOrNot, as_many, tag_stands}

any_is_found : {X : Type 0} (p : X → Bool) (xs : List X) → list_any p xs ≡ is_some (find p xs)
any_is_found p [] = refl
any_is_found p (x ∷ xs) = by (p x) (any_is_found p xs)
  where
    by : (b : Bool) → list_any p xs ≡ is_some (find p xs) → (b || list_any p xs) ≡ is_some (cond b (Some x) (find p xs))
    by true h = refl
    by false h = h

tasks_use : (d : DeviceCore) (s : State) (tag : ℕ) → Describes d s →
    list_any (exchange.is_task_of tag) s.tasks ≡ is_some (position (is_task_of tag) d.tasks)
tasks_use d s tag h = any_is_found (exchange.is_task_of tag) s.tasks
    ∙ by (tag_stands (before_accepted s.translation.ledger) tag d.tasks s.tasks h.kept.tasks)
  where
    by : StandsOrNot (before_accepted s.translation.ledger) tag d.tasks s.tasks →
        is_some (task_of tag s.tasks) ≡ is_some (position (is_task_of tag) d.tasks)
    by (inl none) = ap is_some none.1 ∙ sym (ap is_some none.0)
    by (inr r) = ap is_some r.found ∙ sym (ap is_some r.at)

pub tasks_count : (d : DeviceCore) (s : State) → Describes d s → length s.tasks ≡ length d.tasks
tasks_count d s h = as_many (before_accepted s.translation.ledger) d.tasks s.tasks h.kept.tasks

-- a command that is open brings frames on both sides, or on none
pub others_send : (d : DeviceCore) (s : State) → Describes d s →
    list_any (λ (task : exchange.Task). sends_frames task.command) s.tasks ≡ list_any is_sender d.tasks
others_send d s h = all d.tasks s.tasks h.kept.tasks
  where
    all : (ts : List OpenTask) (us : List exchange.Task) → TasksKept (before_accepted s.translation.ledger) ts us →
        list_any (λ (task : exchange.Task). sends_frames task.command) us ≡ list_any is_sender ts
    all [] [] k = refl
    all (x ∷ ts) (y ∷ us) k = λ i. k.0.brings.sends i || all ts us k.1 i
    all ts us k = absurd k

-- an exchange of this number is open on both sides, or none is
number_used : (d : DeviceCore) (s : State) (number : ℕ) → Describes d s →
    machine.is_open s number ≡ is_open d.tasks d.shorts number
number_used d s number h =
    ap (λ (b : Bool). b || list_any (is_short_of number) s.shorts) (tasks_use d s number h)
    ∙ ap (λ (b : Bool). is_some (position (is_task_of number) d.tasks) || b)
    (same_short_tags (numbers_of s) (before_accepted s.translation.ledger) number d.shorts s.shorts h.kept.shorts)

pub tag_used : (d : DeviceCore) (s : State) (manages : Bool) (tag : ℕ) → Describes d s →
    in_use s manages tag ≡ uses d (numbers_of s) manages tag
tag_used d s manages tag h i =
    number_used d s (exchange.number_of manages tag) h i
    || (((numbers_of s).profile == 0) && number_used d s (exchange.number_of (not manages) tag) h i)

-- the fault of what opens a task, by the tests of the device
pub task_fault : (d : DeviceCore) (s : State) (tag : ℕ) → Describes d s →
    opening_fault s false tag false ≡ (if uses d (numbers_of s) false tag then Some TagInUse else None)
task_fault d s tag h = ap (λ (b : Bool). if b then Some TagInUse else None) (tag_used d s false tag h)

-- what is answered to one that opens a short exchange
pub short_fault : (d : DeviceCore) (s : State) (manages : Bool) (tag : ℕ) → Describes d s →
    result_of (opening_fault s manages tag true) ≡ short_answer d (numbers_of s) manages tag
short_fault d s manages tag h =
    (λ i. result_of (if tag_used d s manages tag h i then Some TagInUse
    else if nat_le most_short_exchanges (shorts i) then Some Backlog else None))
    ∙ by (uses d (numbers_of s) manages tag) (nat_le most_short_exchanges (length d.shorts))
  where
    shorts : length s.shorts ≡ length d.shorts
    shorts =
        as_many_shorts (numbers_of s) (before_accepted s.translation.ledger) d.shorts s.shorts h.kept.shorts

    by : (b c : Bool) → result_of (if b then Some TagInUse else if c then Some Backlog else None)
        ≡ (if b then Err TagInUse else if c then Err Backlog else Ok tt)
    by true c = refl
    by false true = refl
    by false false = refl
