-- The tags of task management, and those of all other exchanges.
use Rattle.ufs_laws.proofs.Common.{Bool, Cdb, Every, List, Message, None, Option, Short, Some, State, Task, [], ap}
use Rattle.ufs_laws.proofs.Common.{cond-false, cond-true, eqb-true, false, find, if_both, if◌then◌else◌, is_short_of}
use Rattle.ufs_laws.proofs.Common.{is_task_of, length, nat_le, not, numbers_of, refl}
use Rattle.ufs_laws.proofs.Common.{replied, replied_by, service, short_replied, short_reply, sym, task_of, true}
use Rattle.ufs_laws.proofs.Common.{ℕ, ◌&&◌, ◌++◌, ◌<◌, ◌==◌, ◌||◌, ◌∙◌, ◌∷◌, ◌≡◌, ◌≢◌}
use Rattle.std.proofs.Common.{arith}
use Rattle.ufs_laws.proofs.refusals.AttentionLines.{few_tasks}
use Rattle.ufs_laws.proofs.exchanges.LinkEvents.{above_zero, is_zero}
use Rattle.ufs_laws.specs.Exchange.{HasOtherTag, NoTask}
use Rattle.ufs_spec.specs.Exchanges.{most_short_exchanges, number_of}
use Rattle.ufs_spec.specs.Machine.{heard, in_use, is_open, opening_fault}
use Rattle.ufs_spec.specs.Messages.{IsByte}
use Rattle.ufs_spec.specs.declared.faults.HostFault.TheVariants.{Backlog, TagInUse}
use Rattle.ufs_spec.specs.declared.messages.Message.TheVariants as message

-- in profile 1 a tag is looked for in its own set
own_set : (s : State) (manages : Bool) (tag : ℕ) → 0 < (numbers_of s).profile → is_open s (number_of manages tag) ≡ false →
    in_use s manages tag ≡ false
own_set s manages tag some free =
    ap (λ (b : Bool). b || (((numbers_of s).profile == 0) && is_open s (number_of (not manages) tag))) free
    ∙ ap (λ (b : Bool). b && is_open s (number_of (not manages) tag)) (above_zero (numbers_of s).profile some)

pub opens : (s : State) (manages : Bool) (tag : ℕ) → 0 < (numbers_of s).profile →
    length s.shorts < most_short_exchanges → is_open s (number_of manages tag) ≡ false →
    opening_fault s manages tag true ≡ None
opens s manages tag some few free =
    cond-false (in_use s manages tag) (Some TagInUse) _ (own_set s manages tag some free)
    ∙ cond-false (nat_le most_short_exchanges (length s.shorts)) (Some Backlog) None
    (few_tasks most_short_exchanges (length s.shorts) few)

pub meets : (s : State) (manages : Bool) (tag : ℕ) → is_open s (number_of manages tag) ≡ true →
    opening_fault s manages tag true ≡ Some TagInUse
meets s manages tag is =
    cond-true (in_use s manages tag) (Some TagInUse) _
    (ap (λ (b : Bool). b || (((numbers_of s).profile == 0) && is_open s (number_of (not manages) tag))) is)

-- in profile 0 there is one set
either : (a b : Bool) → (a || (true && b)) ≡ (b || (true && a))
either true true = refl
either true false = refl
either false true = refl
either false false = refl

pub one_set : (s : State) (tag : ℕ) → (numbers_of s).profile ≡ 0 → in_use s true tag ≡ in_use s false tag
one_set s tag zero =
    ap (λ (b : Bool). is_open s (number_of true tag) || (b && is_open s (number_of false tag))) is
    ∙ either (is_open s (number_of true tag)) (is_open s (number_of false tag))
    ∙ ap (λ (b : Bool). is_open s (number_of false tag) || (b && is_open s (number_of true tag))) (sym is)
  where
    is : ((numbers_of s).profile == 0) ≡ true
    is = is_zero (numbers_of s).profile zero

pub meets_others : (s : State) (tag : ℕ) → (numbers_of s).profile ≡ 0 → is_open s (number_of false tag) ≡ true →
    in_use s true tag ≡ true
meets_others s tag zero is =
    one_set s tag zero
    ∙ ap (λ (b : Bool). b || (((numbers_of s).profile == 0) && is_open s (number_of true tag))) is

-- ## Numbers

pub numbers_apart : (tag other : ℕ) → IsByte other → number_of true tag ≢ number_of false other
numbers_apart tag other small same = omega (arith, small, same)

pub numbers_same : (tag other : ℕ) → number_of true tag ≡ number_of true other → tag ≡ other
numbers_same tag other same = omega (arith, same)

-- a request opens an exchange of its number
pub opened : (s : State) (lun tag function meant : ℕ) (c : Option Cdb) →
    (heard s (message.TaskRequest lun tag function meant) c).shorts
    ≡ s.shorts
    ++ short_reply (number_of true tag) (message.TaskResponse lun tag (service s lun function meant)) ∷ []
opened s lun tag function meant c =
    ap
    (λ (shorts : List Short). shorts
    ++ short_reply (number_of true tag) (message.TaskResponse lun tag (service s lun function meant)) ∷ [])
    (if_both (λ (t : State). t.shorts ≡ s.shorts) (service s lun function meant == 0x00) refl refl)

-- none is found where none has the number
none_found : (number : ℕ) (tasks : List Task) → Every (HasOtherTag number) tasks → task_of number tasks ≡ None
none_found number [] none = refl
none_found number (task ∷ tasks) none = by (is_task_of number task) refl (none_found number tasks none.1)
  where
    by : (b : Bool) → is_task_of number task ≡ b → task_of number tasks ≡ None →
        (if b then Some task else task_of number tasks) ≡ None
    by true e rest = absurd (none.0 (eqb-true task.tag number e))
    by false e rest = rest

short_leaves : (s : State) (o : Option Short) → (short_replied s o).tasks ≡ s.tasks
short_leaves s None = refl
short_leaves s (Some short) = refl

pub tasks_stay : (s : State) (lun tag code : ℕ) → NoTask (number_of true tag) s →
    (replied s (message.TaskResponse lun tag code)).tasks ≡ s.tasks
tasks_stay s lun tag code none =
    ap (λ (o : Option Task). (replied_by s (number_of true tag) o).tasks) (none_found (number_of true tag) s.tasks none)
    ∙ short_leaves s (find (is_short_of (number_of true tag)) s.shorts)
