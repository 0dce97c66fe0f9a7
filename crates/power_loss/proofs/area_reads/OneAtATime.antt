-- No more than one of the tasks brings frames, where one is opened, goes or changes.
use Rattle.power_loss.proofs.Common.{◌≡◌, ℕ, Bool, true, false, cond, List, [], ◌∷◌, ◌++◌, Some, map, sym, ap}
use Rattle.power_loss.proofs.Common.{◌∙◌, refl, subst, filter, list_any, false≢true, none-some, same_Some}
use Rattle.power_loss.proofs.Common.{AllByRecursion, or_left, or_parts, or_right}
use Rattle.power_loss.proofs.MachineWords.{Task, is_task_of, task_of}
use Rattle.power_loss.proofs.open_tasks.TaggedLists.{any_fewer, any_map, any_push}
use Rattle.ufs_spec.specs.Refusals.{sends_frames}
use Rattle.power_loss.specs.AreaReads.{OneBrings, brings_frames}

brings_same : (a b : Task) → a.command ≡ b.command → brings_frames a ≡ brings_frames b
brings_same a b same = ap sends_frames same

-- where one of two brings frames alone, the other does not
not_both : (t : Task) (ts : List Task) (x : Task) →
    (brings_frames x ≡ true → list_any brings_frames (t ∷ ts) ≡ false) → brings_frames t ≡ true →
    brings_frames x ≡ false
not_both t ts x alone e = by (brings_frames x) refl
  where
    by : (b : Bool) → brings_frames x ≡ b → b ≡ false
    by true k = absurd (false≢true (sym (alone k) ∙ or_left (brings_frames t) (list_any brings_frames ts) e))
    by false k = refl

-- each task goes on, with its command
pub one_mapped : (f : Task → Task) → ((task : Task) → (f task).command ≡ task.command) → (tasks : List Task) →
    OneBrings tasks → OneBrings (map f tasks)
one_mapped f same [] h = tt
one_mapped f same (t ∷ ts) h = (
  λ e. any_map brings_frames brings_frames f brings ts ∙ h.0 (sym (brings t) ∙ e),
  one_mapped f same ts h.1,
)
  where
    brings : (task : Task) → brings_frames (f task) ≡ brings_frames task
    brings task = brings_same (f task) task (same task)

-- one is opened: if it brings frames, no other does
pub one_pushed : (tasks : List Task) (x : Task) → (brings_frames x ≡ true → list_any brings_frames tasks ≡ false) →
    OneBrings tasks → OneBrings (tasks ++ x ∷ [])
one_pushed [] x alone h = ((λ e. refl), tt)
one_pushed (t ∷ ts) x alone h = (
  λ e. any_push brings_frames ts x (h.0 e) (not_both t ts x alone e),
  one_pushed ts x (λ e. (or_parts (brings_frames t) (list_any brings_frames ts) (alone e)).1) h.1,
)

-- some go
pub one_filtered : (q : Task → Bool) (tasks : List Task) → OneBrings tasks → OneBrings (filter q tasks)
one_filtered q [] h = tt
one_filtered q (t ∷ ts) h = by (q t) (one_filtered q ts h.1)
  where
    by : (b : Bool) → OneBrings (filter q ts) → OneBrings (cond b (t ∷ filter q ts) (filter q ts))
    by true rest = ((λ e. any_fewer brings_frames q ts (h.0 e)), rest)
    by false rest = rest

-- a task that brings frames is the only one

-- whether a task has the tag, if it brings frames
abbrev pub OfTagIfBrings : ℕ → Task → Type 0
OfTagIfBrings tag task = brings_frames task ≡ true → is_task_of tag task ≡ true

none_bring : (tag : ℕ) (tasks : List Task) → list_any brings_frames tasks ≡ false →
    AllByRecursion (OfTagIfBrings tag) tasks
none_bring tag [] h = tt
none_bring tag (t ∷ ts) h =
    let both = or_parts (brings_frames t) (list_any brings_frames ts) h in
    ((λ e. absurd (false≢true (sym both.0 ∙ e))), none_bring tag ts both.1)

-- what is found is among the tasks
found_brings : (tag : ℕ) (tasks : List Task) (task : Task) → task_of tag tasks ≡ Some task →
    brings_frames task ≡ true → list_any brings_frames tasks ≡ true
found_brings tag [] task found e = absurd (none-some task found)
found_brings tag (t ∷ ts) task found e = by (is_task_of tag t) found (λ k. found_brings tag ts task k e)
  where
    by : (b : Bool) → cond b (Some t) (task_of tag ts) ≡ Some task →
        (task_of tag ts ≡ Some task → list_any brings_frames ts ≡ true) → list_any brings_frames (t ∷ ts) ≡ true
    by true k rest = or_left (brings_frames t) (list_any brings_frames ts)
        (subst (λ (x : Task). brings_frames x ≡ true) (sym (same_Some t task k)) e)
    by false k rest = or_right (brings_frames t) (list_any brings_frames ts) (rest k)

-- so each other task brings none
pub no_other_brings : (tag : ℕ) (tasks : List Task) (task : Task) → OneBrings tasks → task_of tag tasks ≡ Some task →
    brings_frames task ≡ true → AllByRecursion (OfTagIfBrings tag) tasks
no_other_brings tag [] task h found e = tt
no_other_brings tag (t ∷ ts) task h found e =
    by (is_task_of tag t) refl found (λ k. no_other_brings tag ts task h.1 k e)
  where
    by : (b : Bool) → is_task_of tag t ≡ b → cond b (Some t) (task_of tag ts) ≡ Some task →
        (task_of tag ts ≡ Some task → AllByRecursion (OfTagIfBrings tag) ts) →
        AllByRecursion (OfTagIfBrings tag) (t ∷ ts)
    by true is k rest = (
      λ x. is,
      none_bring tag ts (h.0 (subst (λ (x : Task). brings_frames x ≡ true) (sym (same_Some t task k)) e)),
    )
    by false is k rest =
        ((λ x. absurd (false≢true (sym (h.0 x) ∙ found_brings tag ts task k e))), rest k)
