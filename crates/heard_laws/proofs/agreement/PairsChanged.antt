-- A task changes, with what is open under its tag in the journal.
use Rattle.heard_laws.proofs.Common.{Awaited, Bool, List, Numbers, OpenTask, Option, Some, Task, ap, at_tag, find}
use Rattle.heard_laws.proofs.Common.{has_tag, is_short_of, map, received, refl, sym, task_of, without, ℕ, ◌∙◌, ◌≡◌}
use Rattle.ufs_spec.specs.Exchanges.{Short}
use Rattle.power_loss.proofs.open_tasks.TaskLists.{SameTag}
use Rattle.journal.specs.Heard.{Heard, taken, taken_by}
use Rattle.heard_laws.proofs.agreement.Agreement.{AgreesAt, Pairs, TaskAgrees, tag_of}
use Rattle.heard_laws.proofs.agreement.PairsKept.{agrees_same, under_one}
use Rattle.heard_laws.proofs.open_under_tags.OpenTasks.{open_is, reopened, reopened_differ, reopened_here}
use Rattle.heard_laws.proofs.open_under_tags.OpenTasks.{reopened_other}
use Rattle.heard_laws.proofs.open_under_tags.TaskFinds.{changed_here, changed_other}
use Rattle.heard_laws.proofs.rolls.Rolls.{Roll}

-- what a task that is found agrees with
pub at_task : {n : Numbers} {is_locked ready : Bool} {roll : Roll} {tasks : List Task} {shorts : List Short}
    {opens : List OpenTask} (tag : ℕ) (task : Task) → task_of tag tasks ≡ Some task →
    Pairs n is_locked ready roll tasks shorts opens → TaskAgrees n ready roll task (find (has_tag tag) opens)
at_task {n} {is_locked} {ready} {roll} {tasks} {shorts} {opens} tag task e p =
    agrees_same n is_locked ready roll (sym e) (refl {a = find (is_short_of tag) shorts})
    (refl {a = find (has_tag tag) opens}) (p.at tag)

-- the task of a tag changes, and so does what is open under it
pub task_changes : {n : Numbers} {is_locked ready : Bool} {roll grown : Roll} {tasks : List Task}
    {shorts : List Short} {opens : List OpenTask} (tag : ℕ) (f : Task → Task) (task : Task) (t : OpenTask) →
    SameTag f → tag_of t ≡ tag → task_of tag tasks ≡ Some task →
    ((a : Option Task) (b : Option Short) (x : Option OpenTask) → AgreesAt n is_locked ready roll a b x →
    AgreesAt n is_locked ready grown a b x) →
    TaskAgrees n ready grown (f task) (Some t) → Pairs n is_locked ready roll tasks shorts opens →
    Pairs n is_locked ready grown (map (at_tag tag f) tasks) shorts (reopened tag t opens)
task_changes {n} {is_locked} {ready} {roll} {grown} {tasks} {shorts} {opens} tag f task t same is found keeps agrees p =
    under_one {roll = roll} {grown = grown} tag keeps (record {
      tasks_same = λ other apart. changed_other tag other f same apart tasks;
      shorts_same = λ other apart. refl;
      opens_same = λ other apart. reopened_other tag other t opens p.differ is apart;
    }) (reopened_differ tag t opens p.differ is)
    (agrees_same n is_locked ready grown
    (changed_here tag f same tasks task found) refl (reopened_here tag t opens p.differ is) agrees) p

-- the task changes alone
pub task_changes_alone : {n : Numbers} {is_locked ready : Bool} {roll : Roll} {tasks : List Task}
    {shorts : List Short} {opens : List OpenTask} (tag : ℕ) (f : Task → Task) (task : Task) →
    SameTag f → task_of tag tasks ≡ Some task → TaskAgrees n ready roll (f task) (find (has_tag tag) opens) →
    Pairs n is_locked ready roll tasks shorts opens →
    Pairs n is_locked ready roll (map (at_tag tag f) tasks) shorts opens
task_changes_alone {n} {is_locked} {ready} {roll} {tasks} {shorts} {opens} tag f task same found agrees p =
    under_one {roll = roll} {grown = roll} tag (λ a b x h. h) (record {
      tasks_same = λ other apart. changed_other tag other f same apart tasks;
      shorts_same = λ other apart. refl;
      opens_same = λ other apart. refl;
    }) p.differ
    (agrees_same n is_locked ready roll (changed_here tag f same tasks task found) refl refl agrees) p

-- data come for what is open under the tag
pub received_is : (j : Heard) (tag : ℕ) (t : OpenTask) (a : Awaited) (message : List ℕ) →
    find (has_tag tag) j.tasks ≡ Some t → t.awaited ≡ a →
    received j tag message ≡ taken (record j { tasks = without tag j.tasks }) t a message
received_is j tag t a message e is =
    ap (λ (o : Option OpenTask). taken_by (record j { tasks = without tag j.tasks }) o message)
    (open_is tag j.tasks ∙ e)
    ∙ ap (λ (b : Awaited). taken (record j { tasks = without tag j.tasks }) t b message) is
