-- What is found under a tag among the tasks and the short exchanges, once one is opened, changes or is over.
use Rattle.heard_laws.proofs.Common.{Bool, List, None, Option, Some, Task, [], ap, at_tag, cond-false, cond-true}
use Rattle.heard_laws.proofs.Common.{eqb-true, false, false≢true, find, is_short_of, is_task_of, map, not, option_map}
use Rattle.heard_laws.proofs.Common.{refl, sym, task_of, true, ℕ, ◌++◌, ◌==◌, ◌∙◌, ◌∷◌, ◌≡◌}
use Rattle.ufs_spec.proofs.Facts.{eqb-self}
use Rattle.ufs_spec.specs.Exchanges.{Short, without_short, without_task}
use Rattle.power_loss.proofs.open_tasks.FoundInLists.{found_gone}
use Rattle.power_loss.proofs.open_tasks.OpenExchanges.{is_other}
use Rattle.power_loss.proofs.open_tasks.TaskLists.{SameTag, changed_tag}
use Rattle.heard_laws.proofs.open_under_tags.TaggedFinds.{find_left, find_map, find_more, find_new}
use Rattle.power_loss.proofs.open_tasks.FoundInLists.{found_is}

-- ## Tasks

-- each changes, and keeps its tag
pub mapped : (tag : ℕ) (f : Task → Task) → SameTag f → (tasks : List Task) →
    task_of tag (map f tasks) ≡ option_map f (task_of tag tasks)
mapped tag f same tasks = find_map (is_task_of tag) f (λ t. ap (λ (n : ℕ). n == tag) (same t)) tasks

-- the one of a tag changes
pub changed_other : (tag other : ℕ) (f : Task → Task) → SameTag f → (tag == other) ≡ false → (tasks : List Task) →
    task_of other (map (at_tag tag f) tasks) ≡ task_of other tasks
changed_other tag other f same apart tasks =
    mapped other (at_tag tag f) (changed_tag tag f same) tasks ∙ by (task_of other tasks) refl
  where
    by : (o : Option Task) → task_of other tasks ≡ o → option_map (at_tag tag f) o ≡ o
    by None e = refl
    by (Some t) e =
        ap Some (cond-false (is_task_of tag t) (f t) t
        (is_other t tag other apart (found_is (is_task_of other) tasks t e)))

pub changed_here : (tag : ℕ) (f : Task → Task) → SameTag f → (tasks : List Task) (t : Task) →
    task_of tag tasks ≡ Some t → task_of tag (map (at_tag tag f) tasks) ≡ Some (f t)
changed_here tag f same tasks t e =
    mapped tag (at_tag tag f) (changed_tag tag f same) tasks ∙ ap (option_map (at_tag tag f)) e
    ∙ ap Some (cond-true (is_task_of tag t) (f t) t (found_is (is_task_of tag) tasks t e))

-- it is over
pub gone_other : (tag other : ℕ) → (tag == other) ≡ false → (tasks : List Task) →
    task_of other (without_task tag tasks) ≡ task_of other tasks
gone_other tag other apart tasks =
    find_left (is_task_of other) (λ t. not (is_task_of tag t)) tasks (λ t is. ap not (is_other t tag other apart is))

pub gone_here : (tag : ℕ) (tasks : List Task) → task_of tag (without_task tag tasks) ≡ None
gone_here tag tasks = found_gone (is_task_of tag) tasks

-- one is opened
pub opened_other : (other : ℕ) (tasks : List Task) (t : Task) → (t.tag == other) ≡ false →
    task_of other (tasks ++ t ∷ []) ≡ task_of other tasks
opened_other other tasks t apart = find_more (is_task_of other) tasks t apart

pub opened_here : (tasks : List Task) (t : Task) → task_of t.tag tasks ≡ None →
    task_of t.tag (tasks ++ t ∷ []) ≡ Some t
opened_here tasks t none = find_new (is_task_of t.tag) tasks t none (eqb-self t.tag)

-- ## Short exchanges

other_short : (x : Short) (tag other : ℕ) → (tag == other) ≡ false → is_short_of other x ≡ true →
    not (is_short_of tag x) ≡ true
other_short x tag other apart is = by (is_short_of tag x) refl
  where
    by : (b : Bool) → is_short_of tag x ≡ b → not b ≡ true
    by true e =
        absurd (false≢true (sym apart ∙ ap (λ (n : ℕ). n == other) (sym (eqb-true x.tag tag e)) ∙ is))
    by false e = refl

pub short_gone_other : (tag other : ℕ) → (tag == other) ≡ false → (shorts : List Short) →
    find (is_short_of other) (without_short tag shorts) ≡ find (is_short_of other) shorts
short_gone_other tag other apart shorts =
    find_left (is_short_of other) (λ x. not (is_short_of tag x)) shorts (λ x is. other_short x tag other apart is)

pub short_gone_here : (tag : ℕ) (shorts : List Short) → find (is_short_of tag) (without_short tag shorts) ≡ None
short_gone_here tag shorts = found_gone (is_short_of tag) shorts

pub short_opened_other : (other : ℕ) (shorts : List Short) (x : Short) → (x.tag == other) ≡ false →
    find (is_short_of other) (shorts ++ x ∷ []) ≡ find (is_short_of other) shorts
short_opened_other other shorts x apart = find_more (is_short_of other) shorts x apart

pub short_opened_here : (shorts : List Short) (x : Short) → find (is_short_of x.tag) shorts ≡ None →
    find (is_short_of x.tag) (shorts ++ x ∷ []) ≡ Some x
short_opened_here shorts x none = find_new (is_short_of x.tag) shorts x none (eqb-self x.tag)
