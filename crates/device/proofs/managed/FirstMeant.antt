-- Which of the open tasks are meant: the same on both sides, so that the first of them stands at one place.
use Rattle.device.proofs.Common.{Bool, List, Meant, None, OpenTask, Option, Some, TaskKept, TasksDiffer, TasksKept, []}
use Rattle.device.proofs.Common.{ap, cond, eq_self, false, filter, if_false, if_true, is_some, is_task_meant}
use Rattle.device.proofs.Common.{is_task_of, list_any, means, none-some, not, option_map, or_parts, other_way, position}
use Rattle.device.proofs.Common.{refl, same_Some, subst, suc, sym, true, ℕ, ◌||◌, ◌∙◌, ◌∷◌, ◌≡◌}
use Rattle.ufs_spec.proofs.Lists.{any_none}
use Rattle.ufs_spec.specs.Exchanges as exchange
use Rattle.task_set.specs.Tasks.{is_meant}
use Rattle.device.proofs.open_tasks.OpenTasks.{IsOpen, position_step}

-- Who is meant

meant_same : (who : Meant) (before : ℕ) (a : OpenTask) (b : exchange.Task) → TaskKept before a b →
    means who b ≡ is_task_meant who a
meant_same who before a b h i = is_meant who (h.lun i) (h.tag i)

-- one of the tasks is meant on both sides, or none is
pub any_meant : (who : Meant) (before : ℕ) (ts : List OpenTask) (us : List exchange.Task) → TasksKept before ts us →
    list_any (means who) us ≡ list_any (is_task_meant who) ts
any_meant who before [] [] h = refl
any_meant who before (x ∷ ts) (y ∷ us) h = λ i.
    meant_same who before x y h.0 i || any_meant who before ts us h.1 i
any_meant who before ts us h = absurd h

-- one passes where its position is found
pub any_found : {X : Type 0} (p : X → Bool) (xs : List X) → is_some (position p xs) ≡ list_any p xs
any_found p [] = refl
any_found p (x ∷ xs) = ap is_some (position_step p x xs) ∙ by (p x) (position p xs) (any_found p xs)
  where
    by : (b : Bool) (o : Option ℕ) → is_some o ≡ list_any p xs →
        is_some (cond b (Some 0) (option_map suc o)) ≡ (b || list_any p xs)
    by true o h = refl
    by false None h = h
    by false (Some k) h = h

-- none is meant where none is found
pub none_meant : (who : Meant) (before : ℕ) (ts : List OpenTask) (us : List exchange.Task) → TasksKept before ts us →
    position (is_task_meant who) ts ≡ None → list_any (means who) us ≡ false
none_meant who before ts us h none =
    any_meant who before ts us h ∙ (sym (any_found (is_task_meant who) ts) ∙ ap is_some none)

-- Who goes

-- where none passes, none goes and all stay
pub none_goes : (is : exchange.Task → Bool) (us : List exchange.Task) → list_any is us ≡ false →
    (filter is us ≡ []) × (filter (λ x. not (is x)) us ≡ us)
none_goes is [] none = (refl, refl)
none_goes is (y ∷ us) none =
    let both = or_parts (is y) (list_any is us) none in
    let rest = none_goes is us both.1 in (
      if_false (is y) (y ∷ filter is us) (filter is us) both.0 ∙ rest.0,
      if_true (not (is y)) (y ∷ filter (λ x. not (is x)) us) (filter (λ x. not (is x)) us) (ap not both.0)
          ∙ ap (λ (ys : List exchange.Task). y ∷ ys) rest.1,
    )

-- the first that is meant, on both sides: of the specified tasks it is the first that goes, and those that stay are
-- among the others
pub record FirstMeant (who : Meant) (before k : ℕ) (ts : List OpenTask) (us : List exchange.Task) : Type 0 where
  pub a : OpenTask
  pub b : exchange.Task
  pub opened : IsOpen before k ts us a b
  pub goes : filter (means who) us ≡ b ∷ filter (means who) (exchange.without_task b.tag us)
  pub stay : filter (λ x. not (means who x)) us ≡ filter (λ x. not (means who x)) (exchange.without_task b.tag us)

pub first_meant : (who : Meant) (before k : ℕ) (ts : List OpenTask) (us : List exchange.Task) →
    TasksKept before ts us → TasksDiffer us → position (is_task_meant who) ts ≡ Some k →
    FirstMeant who before k ts us
first_meant who before k [] us h differ e = absurd (none-some k e)
first_meant who before k (x ∷ ts) [] h differ e = absurd h
first_meant who before k (x ∷ ts) (y ∷ us) h differ e =
    by (is_task_meant who x) refl (position (is_task_meant who) ts) refl
    (λ j at. first_meant who before j ts us h.1 differ.1 at)
  where
    is : exchange.Task → Bool
    is = means who

    stays : exchange.Task → Bool
    stays z = not (means who z)

    found : (c : Bool) → is_task_meant who x ≡ c → (o : Option ℕ) → position (is_task_meant who) ts ≡ o →
        cond c (Some 0) (option_map suc o) ≡ Some k
    found c here o at =
        sym (position_step (is_task_meant who) x ts ∙ (λ i. cond (here i) (Some 0) (option_map suc (at i)))) ∙ e

    -- it is the first task of all
    here_at : is_task_meant who x ≡ true → FirstMeant who before 0 (x ∷ ts) (y ∷ us)
    here_at meant = record {
      a = x;
      b = y;
      opened = record { ours = refl; theirs = refl; kept = h.0 };
      goes =
          if_true (is y) (y ∷ filter is us) (filter is us) its
          ∙ ap (λ (zs : List exchange.Task). y ∷ filter is zs) (sym left);
      stay =
          if_false (stays y) (y ∷ filter stays us) (filter stays us) (ap not its)
          ∙ ap (filter stays) (sym left);
    }
      where
        its : is y ≡ true
        its = meant_same who before x y h.0 ∙ meant

        left : exchange.without_task y.tag (y ∷ us) ≡ us
        left =
            if_false (not (is_task_of y.tag y)) (y ∷ exchange.without_task y.tag us) (exchange.without_task y.tag us)
            (ap not (eq_self y.tag))
            ∙ (none_goes (is_task_of y.tag) us differ.0).1

    -- or one of those behind it
    behind_at : (j : ℕ) → is_task_meant who x ≡ false → FirstMeant who before j ts us →
        FirstMeant who before (suc j) (x ∷ ts) (y ∷ us)
    behind_at j other r = record {
      a = r.a;
      b = r.b;
      opened = record { ours = r.opened.ours; theirs = r.opened.theirs; kept = r.opened.kept };
      goes =
          if_false (is y) (y ∷ filter is us) (filter is us) its
          ∙ (r.goes
          ∙ ap (λ (zs : List exchange.Task). r.b ∷ zs)
          (sym (if_false (is y) (y ∷ filter is rest) (filter is rest) its) ∙ ap (filter is) (sym left)));
      stay =
          if_true (stays y) (y ∷ filter stays us) (filter stays us) (ap not its)
          ∙ (ap (λ (zs : List exchange.Task). y ∷ zs) r.stay
          ∙ (sym (if_true (stays y) (y ∷ filter stays rest) (filter stays rest) (ap not its))
          ∙ ap (filter stays) (sym left)));
    }
      where
        its : is y ≡ false
        its = meant_same who before x y h.0 ∙ other

        rest : List exchange.Task
        rest = exchange.without_task r.b.tag us

        left : exchange.without_task r.b.tag (y ∷ us) ≡ y ∷ rest
        left =
            if_true (not (is_task_of r.b.tag y)) (y ∷ rest) rest
            (ap not (other_way r.b.tag y.tag (any_none (is_task_of y.tag) us j r.b differ.0 r.opened.theirs)))

    by : (c : Bool) → is_task_meant who x ≡ c → (o : Option ℕ) → position (is_task_meant who) ts ≡ o →
        ((j : ℕ) → position (is_task_meant who) ts ≡ Some j → FirstMeant who before j ts us) →
        FirstMeant who before k (x ∷ ts) (y ∷ us)
    by true meant o at more =
        subst (λ n. FirstMeant who before n (x ∷ ts) (y ∷ us)) (same_Some 0 k (found true meant o at)) (here_at meant)
    by false other None at more = absurd (none-some k (found false other None at))
    by false other (Some j) at more =
        subst (λ n. FirstMeant who before n (x ∷ ts) (y ∷ us)) (same_Some (suc j) k (found false other (Some j) at))
        (behind_at j other (more j at))
