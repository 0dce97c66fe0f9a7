-- A task or a short exchange is opened, on the device and in the journal.
use Rattle.heard_laws.proofs.Common.{Bool, IsFree, List, None, Numbers, OpenTask, Option, Some, State, Task, [], find}
use Rattle.heard_laws.proofs.Common.{has_tag, is_short_of, is_task_of, none-some, none_found, refl, same_Some, subst}
use Rattle.heard_laws.proofs.Common.{sym, task_of, ℕ, ◌++◌, ◌∷◌, ◌≡◌, ◌≤◌}
use Rattle.ufs_spec.specs.Exchanges.{Short}
use Rattle.heard_laws.proofs.agreement.Agreement.{AgreesAt, AtMost, Pairs, ShortAgrees, TaskAgrees, tag_of}
use Rattle.heard_laws.proofs.agreement.PairsKept.{agrees_same, under_one}
use Rattle.heard_laws.proofs.open_under_tags.OpenTasks.{reopened, reopened_differ, reopened_here, reopened_other}
use Rattle.heard_laws.proofs.open_under_tags.TaskFinds.{opened_here, opened_other, short_opened_here}
use Rattle.heard_laws.proofs.open_under_tags.TaskFinds.{short_opened_other}
use Rattle.heard_laws.proofs.rolls.Rolls.{Roll, count}

-- nothing is open under a tag
pub record NoneAt (tag : ℕ) (tasks : List Task) (shorts : List Short) : Type 0 where
  pub task : task_of tag tasks ≡ None
  pub short : find (is_short_of tag) shorts ≡ None

pub none_at : {s : State} {tag : ℕ} → IsFree s tag → NoneAt tag s.tasks s.shorts
none_at {s} {tag} free = record {
  task = none_found (is_task_of tag) s.tasks free.no_task;
  short = none_found (is_short_of tag) s.shorts free.no_short;
}

-- then nothing is open in the journal either
pub none_open : {n : Numbers} {is_locked ready : Bool} {roll : Roll} {tasks : List Task} {shorts : List Short}
    {opens : List OpenTask} (tag : ℕ) → NoneAt tag tasks shorts → Pairs n is_locked ready roll tasks shorts opens →
    find (has_tag tag) opens ≡ None
none_open {n} {is_locked} {ready} {roll} {tasks} {shorts} {opens} tag none p =
    agrees_same n is_locked ready roll (sym none.task) (sym none.short) (refl {a = find (has_tag tag) opens})
    (p.at tag)

-- what one open command promises
pub at_most_of : {most : ℕ} (roll : Roll) (t : OpenTask) → count t.promised roll ≤ most → AtMost most roll (Some t)
at_most_of {most} roll t l x e = subst (λ (y : OpenTask). count y.promised roll ≤ most) (same_Some t x e) l

pub task_opens : {n : Numbers} {is_locked ready : Bool} {roll : Roll} {tasks : List Task} {shorts : List Short}
    {opens : List OpenTask} (task : Task) (t : OpenTask) → tag_of t ≡ task.tag → NoneAt task.tag tasks shorts →
    TaskAgrees n ready roll task (Some t) → Pairs n is_locked ready roll tasks shorts opens →
    Pairs n is_locked ready roll (tasks ++ task ∷ []) shorts (reopened task.tag t opens)
task_opens {n} {is_locked} {ready} {roll} {tasks} {shorts} {opens} task t is none agrees p =
    under_one {roll = roll} {grown = roll} task.tag (λ a b x h. h) (record {
      tasks_same = λ other apart. opened_other other tasks task apart;
      shorts_same = λ other apart. refl;
      opens_same = λ other apart. reopened_other task.tag other t opens p.differ is apart;
    }) (reopened_differ task.tag t opens p.differ is)
    (agrees_same n is_locked ready roll
    (opened_here tasks task none.task) refl (reopened_here task.tag t opens p.differ is) agrees) p

-- a short exchange, under whose tag something is open in the journal, with one entry more or none
pub short_opens_too : {n : Numbers} {is_locked ready : Bool} {roll grown : Roll} {tasks : List Task}
    {shorts : List Short} {opens : List OpenTask} (short : Short) (t : OpenTask) → tag_of t ≡ short.tag →
    NoneAt short.tag tasks shorts →
    ((a : Option Task) (b : Option Short) (x : Option OpenTask) → AgreesAt n is_locked ready roll a b x →
    AgreesAt n is_locked ready grown a b x) →
    ShortAgrees is_locked grown short (Some t) → Pairs n is_locked ready roll tasks shorts opens →
    Pairs n is_locked ready grown tasks (shorts ++ short ∷ []) (reopened short.tag t opens)
short_opens_too {n} {is_locked} {ready} {roll} {grown} {tasks} {shorts} {opens} short t is none keeps agrees p =
    under_one {roll = roll} {grown = grown} short.tag keeps (record {
      tasks_same = λ other apart. refl;
      shorts_same = λ other apart. short_opened_other other shorts short apart;
      opens_same = λ other apart. reopened_other short.tag other t opens p.differ is apart;
    }) (reopened_differ short.tag t opens p.differ is)
    (agrees_same n is_locked ready grown
    none.task (short_opened_here shorts short none.short) (reopened_here short.tag t opens p.differ is) agrees) p

-- and one under whose tag nothing is open there
pub short_opens : {n : Numbers} {is_locked ready : Bool} {roll : Roll} {tasks : List Task} {shorts : List Short}
    {opens : List OpenTask} (short : Short) → NoneAt short.tag tasks shorts →
    Pairs n is_locked ready roll tasks shorts opens →
    Pairs n is_locked ready roll tasks (shorts ++ short ∷ []) opens
short_opens {n} {is_locked} {ready} {roll} {tasks} {shorts} {opens} short none p =
    under_one {roll = roll} {grown = roll} short.tag (λ a b x h. h) (record {
      tasks_same = λ other apart. refl;
      shorts_same = λ other apart. short_opened_other other shorts short apart;
      opens_same = λ other apart. refl;
    }) p.differ
    (agrees_same n is_locked ready roll
    none.task (short_opened_here shorts short none.short) (none_open short.tag none p)
    (λ t e. absurd (none-some t e))) p
