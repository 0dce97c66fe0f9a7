-- Which tasks a function aborts, what an abort leaves, and what is answered to a function that asks for tasks.
use Rattle.ufs_laws.proofs.Common.{Bool, IsAmong, List, Lun, Numbers, Option, Some, State, Task, Translation, []}
use Rattle.ufs_laws.proofs.Common.{abort_moves, and_parts, any_here, ap, cond, eqb-true, false, false_from_ne_true}
use Rattle.ufs_laws.proofs.Common.{filter, flat_map, if_both, if◌then◌else◌, is_aborted, is_among, list_any, moved}
use Rattle.ufs_laws.proofs.Common.{none_passes, not, numbers_of, or_parts, plain_now, refl, service, true, with_moves}
use Rattle.ufs_laws.proofs.Common.{without_tasks, ℕ, ◌&&◌, ◌==◌, ◌||◌, ◌∙◌, ◌∷◌, ◌≡◌}
use Rattle.std.proofs.Common.{fold, slice_get}
use Rattle.std.proofs.Math.Bool.{and-true}
use Rattle.ufs_laws.proofs.exchanges.TaskManagement.{answer_of, answered_complete, not_reset}
use Rattle.ufs_spec.specs.Management.{volatile_managed}
use Rattle.ufs_spec.specs.declared.volatile.Volatile.{Volatile}
use Rattle.ufs_laws.specs.TaskRequests.{HasTask, HasTaskOf, HasUnit, functions}
use Rattle.ufs_spec.proofs.Facts.{and_from, eq-eqb}
use Rattle.ufs_spec.specs.Machine.{aborts, carried_out, is_named, managed, registers_after, service_found}

-- ## Which tasks

pub is_carried_out : (s : State) (lun function meant : ℕ) → HasUnit s lun → aborts function ≡ true →
    managed s lun function meant
    ≡ without_tasks (record s { volatile = volatile_managed s lun function }) (is_aborted lun function meant)
is_carried_out s lun function meant (unit, there) ends =
    ap (carried_out (record s { volatile = volatile_managed s lun function }) lun function meant)
    (answered_complete s lun function meant unit there ends)

-- one task by its LUN and tag
pub one_aborted : (s : State) (lun meant : ℕ) → HasUnit s lun →
    (managed s lun 0x01 meant).tasks ≡ filter (λ task. not ((task.lun == lun) && (task.tag == meant))) s.tasks
one_aborted s lun meant has = ap (λ (t : State). t.tasks) (is_carried_out s lun 0x01 meant has refl)

-- what is aborted if all of a LUN are
all_of : (s : State) (lun : ℕ) (is : Task → Bool) → ((task : Task) → is task ≡ (task.lun == lun)) →
    (without_tasks s is).tasks ≡ filter (λ task. not (task.lun == lun)) s.tasks
all_of s lun is same = ap (λ (f : Task → Bool). filter (λ task. not (f task)) s.tasks) (λ i task. same task i)

pub set_aborted : (s : State) (lun meant : ℕ) → HasUnit s lun →
    (managed s lun 0x02 meant).tasks ≡ filter (λ task. not (task.lun == lun)) s.tasks
set_aborted s lun meant has =
    ap (λ (t : State). t.tasks) (is_carried_out s lun 0x02 meant has refl)
    ∙ all_of s lun (is_aborted lun 0x02 meant) (λ task. and-true (task.lun == lun))

pub set_cleared : (s : State) (lun meant : ℕ) → HasUnit s lun →
    (managed s lun 0x04 meant).tasks ≡ filter (λ task. not (task.lun == lun)) s.tasks
set_cleared s lun meant has =
    ap (λ (t : State). t.tasks) (is_carried_out s lun 0x04 meant has refl)
    ∙ all_of s lun (is_aborted lun 0x04 meant) (λ task. and-true (task.lun == lun))

pub unit_reset : (s : State) (lun meant : ℕ) → HasUnit s lun →
    (managed s lun 0x08 meant).tasks ≡ filter (λ task. not (task.lun == lun)) s.tasks
unit_reset s lun meant has =
    ap (λ (t : State). t.tasks) (is_carried_out s lun 0x08 meant has refl)
    ∙ all_of s lun (is_aborted lun 0x08 meant) (λ task. and-true (task.lun == lun))

-- ## No other function

none_left_out : (is : Task → Bool) → ((task : Task) → is task ≡ false) → (tasks : List Task) → filter is tasks ≡ []
none_left_out is none [] = refl
none_left_out is none (t ∷ ts) =
    ap (λ (b : Bool). cond b (t ∷ filter is ts) (filter is ts)) (none t) ∙ none_left_out is none ts

all_kept : (is : Task → Bool) → ((task : Task) → is task ≡ false) → (tasks : List Task) →
    filter (λ task. not (is task)) tasks ≡ tasks
all_kept is none [] = refl
all_kept is none (t ∷ ts) =
    ap (λ (b : Bool). cond (not b) (t ∷ filter (λ task. not (is task)) ts) (filter (λ task. not (is task)) ts)) (none t)
    ∙ ap (λ (rest : List Task). t ∷ rest) (all_kept is none ts)

-- a state whose aborted tasks are these, and those that stay these
abbrev left : State → List Task → List Task → State
left s aborted stays =
    record (with_moves s (flat_map (abort_moves (numbers_of s)) aborted)) {
      tasks = stays;
      registers = registers_after aborted s.registers;
    }

without_none : (s : State) (is : Task → Bool) → ((task : Task) → is task ≡ false) → without_tasks s is ≡ s
without_none s is none = λ i. left s (none_left_out is none s.tasks i) (all_kept is none s.tasks i)

not_among : (lun function meant : ℕ) → aborts function ≡ false → (task : Task) →
    is_aborted lun function meant task ≡ false
not_among lun function meant other task =
    ap (λ (b : Bool). b && (task.lun == lun) && (not (function == 0x01) || (task.tag == meant))) other

pub no_other : (s : State) (lun function meant : ℕ) → aborts function ≡ false → managed s lun function meant ≡ s
no_other s lun function meant other =
    ap (λ (v : Volatile). carried_out (record s { volatile = v }) lun function meant (service s lun function meant))
    (not_reset s lun function is_other)
    ∙ if_both (λ (t : State). t ≡ s) (service s lun function meant == 0x00)
    (without_none s (is_aborted lun function meant) (not_among lun function meant other)) refl
  where
    is_other : (function == 0x08) ≡ false
    is_other =
        (or_parts (function == 0x08) _
        (or_parts (function == 0x04) _ (or_parts (function == 0x02) _ (or_parts (function == 0x01) _ other).1).1).1).0

-- ## What is left

pub aborted_ledger : (n : Numbers) (t : Translation) (tasks : List Task) →
    (fold moved t (flat_map (abort_moves n) tasks)).ledger ≡ t.ledger
aborted_ledger n t [] = refl
aborted_ledger n t (task ∷ tasks) = aborted_ledger n (fold moved t (abort_moves n task)) tasks

pub aborted_work : (n : Numbers) (t : Translation) (tasks : List Task) →
    (fold moved t (flat_map (abort_moves n) tasks)).work ≡ t.work
aborted_work n t [] = refl
aborted_work n t (task ∷ tasks) = aborted_work n (fold moved t (abort_moves n task)) tasks

-- what holds of both states that a request may leave
module _ (s : State) (lun function meant : ℕ) where
  abbrev is_done : Bool
  is_done = service s lun function meant == 0x00

  pub same_commands : (managed s lun function meant).accepted ≡ s.accepted
  same_commands = if_both (λ (t : State). t.accepted ≡ s.accepted) is_done refl refl

  pub same_contents : plain_now (managed s lun function meant) ≡ plain_now s
  same_contents = if_both (λ (t : State). plain_now t ≡ plain_now s) is_done refl refl

  pub same_groups : (managed s lun function meant).translation.ledger ≡ s.translation.ledger
  same_groups =
      if_both (λ (t : State). t.translation.ledger ≡ s.translation.ledger) is_done
      (aborted_ledger (numbers_of s) s.translation (filter (is_aborted lun function meant) s.tasks)) refl

  pub same_rests : (managed s lun function meant).translation.work ≡ s.translation.work
  same_rests =
      if_both (λ (t : State). t.translation.work ≡ s.translation.work) is_done
      (aborted_work (numbers_of s) s.translation (filter (is_aborted lun function meant) s.tasks)) refl

-- ## What is answered

-- a function that aborts nothing, of a unit that is there
asked : (s : State) (lun function meant : ℕ) → HasUnit s lun → aborts function ≡ false →
    service s lun function meant
    ≡ (if function == 0x80 then service_found (list_any (is_named lun meant) s.tasks)
    else if function == 0x81 then service_found (list_any (λ (task : Task). task.lun == lun) s.tasks) else 0x04)
asked s lun function meant (unit, there) other =
    ap (λ (o : Option Lun). answer_of s lun function meant o (aborts function)) there
    ∙ ap (λ (b : Bool). answer_of s lun function meant (Some unit) b) other

pub task_told : (s : State) (lun meant : ℕ) → HasUnit s lun → HasTaskOf s lun meant → service s lun 0x80 meant ≡ 0x08
task_told s lun meant has h =
    asked s lun 0x80 meant has refl
    ∙ ap service_found
    (any_here (is_named lun meant) s.tasks h.index h.task h.there
    (and_from (h.task.lun == lun) (h.task.tag == meant) (eq-eqb h.task.lun lun h.lun_is)
    (eq-eqb h.task.tag meant h.tag_is)))

pub no_task_told : (s : State) (lun meant : ℕ) → HasUnit s lun → (HasTaskOf s lun meant → ⊥) →
    service s lun 0x80 meant ≡ 0x00
no_task_told s lun meant has none =
    asked s lun 0x80 meant has refl ∙ ap service_found (none_passes (is_named lun meant) s.tasks other)
  where
    other : (k : ℕ) (task : Task) → slice_get s.tasks k ≡ Some task → is_named lun meant task ≡ true → ⊥
    other k task there is =
        let both = and_parts (task.lun == lun) (task.tag == meant) is in
        none (record {
          index = k;
          task = task;
          there = there;
          lun_is = eqb-true task.lun lun both.0;
          tag_is = eqb-true task.tag meant both.1;
        })

pub set_told : (s : State) (lun meant : ℕ) → HasUnit s lun → HasTask s lun → service s lun 0x81 meant ≡ 0x08
set_told s lun meant has h =
    asked s lun 0x81 meant has refl
    ∙ ap service_found
    (any_here (λ (task : Task). task.lun == lun) s.tasks h.index h.task h.there (eq-eqb h.task.lun lun h.lun_is))

pub no_set_told : (s : State) (lun meant : ℕ) → HasUnit s lun → (HasTask s lun → ⊥) → service s lun 0x81 meant ≡ 0x00
no_set_told s lun meant has none =
    asked s lun 0x81 meant has refl
    ∙ ap service_found (none_passes (λ (task : Task). task.lun == lun) s.tasks other)
  where
    other : (k : ℕ) (task : Task) → slice_get s.tasks k ≡ Some task → (task.lun == lun) ≡ true → ⊥
    other k task there is =
        none (record { index = k; task = task; there = there; lun_is = eqb-true task.lun lun is })

pub no_function : (s : State) (lun function meant : ℕ) → HasUnit s lun → (IsAmong functions function → ⊥) →
    service s lun function meant ≡ 0x04
no_function s lun function meant has none = by (false_from_ne_true (is_among functions function) none)
  where
    by : is_among functions function ≡ false → service s lun function meant ≡ 0x04
    by e =
        let one = or_parts (function == 0x01) _ e in
        let two = or_parts (function == 0x02) _ one.1 in
        let four = or_parts (function == 0x04) _ two.1 in
        let eight = or_parts (function == 0x08) _ four.1 in
        let task = or_parts (function == 0x80) _ eight.1 in
        let set = or_parts (function == 0x81) _ task.1 in
        let none_aborts : aborts function ≡ false = rw (one.0, two.0, four.0, eight.0) refl in
        asked s lun function meant has none_aborts ∙ (rw (task.0, set.0) refl)
