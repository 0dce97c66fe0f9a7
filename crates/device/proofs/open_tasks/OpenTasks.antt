-- The open tasks of the device and of the specification, task by task: what is found, added, changed and taken away.
use Rattle.device.proofs.Common.{Bool, Deed, List, None, OpenTask, Option, Some, Task, TaskKept, TasksDiffer, TasksKept}
use Rattle.device.proofs.Common.{[], ap, arith, cond, eq_self, eqb-true, false, held_at, if_false, if_true, inl, inr}
use Rattle.device.proofs.Common.{is_task_of, length, list_any, map, nat_lt, nat_tests, none-some, not, option_map}
use Rattle.device.proofs.Common.{or_parts, other_way, position, read_at, refl, remove, same_Some, slice_get, slice_set}
use Rattle.device.proofs.Common.{subst, suc, sym, task_at, task_in, task_of, true, with_deed, zero, ℕ, ◌++◌, ◌+◌, ◌==◌}
use Rattle.device.proofs.Common.{◌∙◌, ◌∷◌, ◌≡◌, ◌⊎◌}
use Rattle.std.specs.List.{position_or_len}
use Rattle.ufs_spec.specs.Exchanges as exchange
use Rattle.power_loss.proofs.open_tasks.TaskLists.{none_changed}
use Rattle.task_set.specs.Lists.{held_of, read_of}
use Rattle.task_set.specs.Tasks as ours

-- What is found

-- the task of the device at a position, and the specified one there
pub record IsOpen (before k : ℕ) (ts : List OpenTask) (us : List exchange.Task) (a : OpenTask)
    (b : exchange.Task) : Type 0 where
  pub ours : slice_get ts k ≡ Some a
  pub theirs : slice_get us k ≡ Some b
  pub kept : TaskKept before a b

pub their_task : (before k : ℕ) (ts : List OpenTask) (us : List exchange.Task) (a : OpenTask) → TasksKept before ts us →
    slice_get ts k ≡ Some a → (b : exchange.Task) × IsOpen before k ts us a b
their_task before k [] us a h at = absurd (none-some a at)
their_task before k (x ∷ ts) [] a h at = absurd h
their_task before zero (x ∷ ts) (y ∷ us) a h at =
    (y, record { ours = at; theirs = refl; kept = subst (λ z. TaskKept before z y) (same_Some x a at) h.0 })
their_task before (suc k) (x ∷ ts) (y ∷ us) a h at =
    let r = their_task before k ts us a h.1 at in
    (r.0, record { ours = r.1.ours; theirs = r.1.theirs; kept = r.1.kept })

pub our_task : (before k : ℕ) (ts : List OpenTask) (us : List exchange.Task) (b : exchange.Task) →
    TasksKept before ts us →
    slice_get us k ≡ Some b → (a : OpenTask) × IsOpen before k ts us a b
our_task before k [] [] b h at = absurd (none-some b at)
our_task before zero (x ∷ ts) (y ∷ us) b h at =
    (x, record { ours = refl; theirs = at; kept = subst (TaskKept before x) (same_Some y b at) h.0 })
our_task before (suc k) (x ∷ ts) (y ∷ us) b h at =
    let r = our_task before k ts us b h.1 at in
    (r.0, record { ours = r.1.ours; theirs = r.1.theirs; kept = r.1.kept })
our_task before k ts us b h at = absurd h

-- what is told of the task at a position
pub stands_there : (ts : List OpenTask) (k : ℕ) (task : Task) (a : OpenTask) → task_at ts k ≡ Some task →
    slice_get ts k ≡ Some a → (task ≡ task_in a) × (read_at ts k ≡ a.block) × (held_at ts k ≡ a.held)
stands_there ts k task a there at = (
  same_Some task (task_in a) (sym there ∙ ap (option_map task_in) at),
  ap read_of at,
  ap held_of at,
)

-- there is one
pub one_there : (ts : List OpenTask) (k : ℕ) (task : Task) → task_at ts k ≡ Some task →
    (a : OpenTask) × (slice_get ts k ≡ Some a)
one_there ts k task there = by (slice_get ts k) refl
  where
    by : (o : Option OpenTask) → slice_get ts k ≡ o → (a : OpenTask) × (o ≡ Some a)
    by None e = absurd (none-some task (sym (ap (option_map task_in) e) ∙ there))
    by (Some a) e = (a, refl)

-- as many are open
pub as_many : (before : ℕ) (ts : List OpenTask) (us : List exchange.Task) → TasksKept before ts us →
    length us ≡ length ts
as_many before [] [] h = refl
as_many before (x ∷ ts) (y ∷ us) h = ap suc (as_many before ts us h.1)
as_many before ts us h = absurd h

-- the task of a tag stands at one place on both sides
pub record Stands (before tag : ℕ) (ts : List OpenTask) (us : List exchange.Task) : Type 0 where
  pub k : ℕ
  pub a : OpenTask
  pub b : exchange.Task
  pub at : position (ours.is_task_of tag) ts ≡ Some k
  pub found : task_of tag us ≡ Some b
  pub opened : IsOpen before k ts us a b
  pub tag_is : b.tag ≡ tag

-- or on none
abbrev pub StandsOrNot : ℕ → ℕ → List OpenTask → List exchange.Task → Type 0
StandsOrNot before tag ts us =
    ((position (ours.is_task_of tag) ts ≡ None) × (task_of tag us ≡ None)) ⊎ Stands before tag ts us

-- where the first that passes stands
pub position_step : {X : Type 0} (p : X → Bool) (x : X) (xs : List X) →
    position p (x ∷ xs) ≡ cond (p x) (Some 0) (option_map suc (position p xs))
position_step p x xs = by (p x) (nat_lt (position_or_len p xs) (length xs)) refl
  where
    less : (m n : ℕ) → nat_lt (suc m) (suc n) ≡ nat_lt m n
    less m n = grind (arith, nat_tests)

    first : (n : ℕ) → nat_lt 0 (suc n) ≡ true
    first n = grind (arith, nat_tests)

    one_more : (n : ℕ) → 1 + n ≡ suc n
    one_more n = omega arith

    next : cond (nat_lt (1 + position_or_len p xs) (suc (length xs))) (Some (1 + position_or_len p xs)) None
        ≡ cond (nat_lt (suc (position_or_len p xs)) (suc (length xs))) (Some (suc (position_or_len p xs))) None
    next = ap (λ (n : ℕ). cond (nat_lt n (suc (length xs))) (Some n) None) (one_more (position_or_len p xs))

    by : (b c : Bool) → nat_lt (position_or_len p xs) (length xs) ≡ c →
        cond (nat_lt (cond (not b) (1 + position_or_len p xs) 0) (suc (length xs)))
        (Some (cond (not b) (1 + position_or_len p xs) 0)) None
        ≡ cond b (Some 0) (option_map suc (cond c (Some (position_or_len p xs)) None))
    by true c e = ap (λ z. cond z (Some 0) None) (first (length xs))
    by false true e = next ∙ ap (λ z. cond z (Some (suc (position_or_len p xs))) None)
        (less (position_or_len p xs) (length xs) ∙ e)
    by false false e = next ∙ ap (λ z. cond z (Some (suc (position_or_len p xs))) None)
        (less (position_or_len p xs) (length xs) ∙ e)

pub tag_stands : (before tag : ℕ) (ts : List OpenTask) (us : List exchange.Task) → TasksKept before ts us →
    StandsOrNot before tag ts us
tag_stands before tag [] [] h = inl (refl, refl)
tag_stands before tag (x ∷ ts) (y ∷ us) h = by (x.tag == tag) refl (tag_stands before tag ts us h.1)
  where
    step : (b : Bool) → (x.tag == tag) ≡ b → position (ours.is_task_of tag) (x ∷ ts) ≡ cond b (Some 0)
        (option_map suc (position (ours.is_task_of tag) ts))
    step b e = position_step (ours.is_task_of tag) x ts
        ∙ ap (λ z. cond z (Some 0) (option_map suc (position (ours.is_task_of tag) ts))) e

    their : (b : Bool) → (x.tag == tag) ≡ b → task_of tag (y ∷ us) ≡ cond b (Some y) (task_of tag us)
    their b e = ap (λ (n : ℕ). cond (n == tag) (Some y) (task_of tag us)) h.0.tag
        ∙ ap (λ z. cond z (Some y) (task_of tag us)) e

    by : (b : Bool) → (x.tag == tag) ≡ b → StandsOrNot before tag ts us → StandsOrNot before tag (x ∷ ts) (y ∷ us)
    by true e rest = inr (record {
      k = 0;
      a = x;
      b = y;
      at = step true e;
      found = their true e;
      opened = record { ours = refl; theirs = refl; kept = h.0 };
      tag_is = h.0.tag ∙ eqb-true x.tag tag e;
    })
    by false e (inl none) = inl (step false e ∙ ap (option_map suc) none.0, their false e ∙ none.1)
    by false e (inr r) = inr (record {
      k = suc r.k;
      a = r.a;
      b = r.b;
      at = step false e ∙ ap (option_map suc) r.at;
      found = their false e ∙ r.found;
      opened = record { ours = r.opened.ours; theirs = r.opened.theirs; kept = r.opened.kept };
      tag_is = r.tag_is;
    })
tag_stands before tag ts us h = absurd h

-- Changes

-- one task more
pub one_more : (before : ℕ) (ts : List OpenTask) (us : List exchange.Task) (a : OpenTask) (b : exchange.Task) →
    TasksKept before ts us → TaskKept before a b → TasksKept before (ts ++ a ∷ []) (us ++ b ∷ [])
one_more before [] [] a b h new = (new, tt)
one_more before (x ∷ ts) (y ∷ us) a b h new = (h.0, one_more before ts us a b h.1 new)
one_more before ts us a b h new = absurd h

-- a task that stands has none of the tags that none has
other_tag : (tag k : ℕ) (us : List exchange.Task) (b : exchange.Task) → list_any (is_task_of tag) us ≡ false →
    slice_get us k ≡ Some b → (tag == b.tag) ≡ false
other_tag tag k [] b none at = absurd (none-some b at)
other_tag tag zero (y ∷ us) b none at =
    let both = or_parts (is_task_of tag y) (list_any (is_task_of tag) us) none in
    other_way b.tag tag (ap (λ (z : exchange.Task). z.tag == tag) (sym (same_Some y b at)) ∙ both.0)
other_tag tag (suc k) (y ∷ us) b none at =
    other_tag tag k us b (or_parts (is_task_of tag y) (list_any (is_task_of tag) us) none).1 at

-- each task changes
pub each_changed : (before after : ℕ) (f : OpenTask → OpenTask) (g : exchange.Task → exchange.Task) (ts : List OpenTask)
    (us : List exchange.Task) →
    ((k : ℕ) (a : OpenTask) (b : exchange.Task) → slice_get us k ≡ Some b → TaskKept before a b →
    TaskKept after (f a) (g b)) →
    TasksKept before ts us → TasksKept after (map f ts) (map g us)
each_changed before after f g [] [] one h = tt
each_changed before after f g (x ∷ ts) (y ∷ us) one h =
    (one 0 x y refl h.0, each_changed before after f g ts us (λ k a b at. one (suc k) a b at) h.1)
each_changed before after f g ts us one h = absurd h

-- the task at a position changes
pub one_changed : (before k : ℕ) (ts : List OpenTask) (us : List exchange.Task) (a : OpenTask) (b : exchange.Task)
    (deed : Deed) →
    TasksKept before ts us → TasksDiffer us → slice_get us k ≡ Some b → TaskKept before a (record b { deed = deed }) →
    TasksKept before (slice_set ts k a) (map (with_deed b.tag deed) us)
one_changed before k [] [] a b deed h differ at new = tt
one_changed before zero (x ∷ ts) (y ∷ us) a b deed h differ at new =
    let same : y ≡ b = same_Some y b at in
    let none = none_changed b.tag deed us (subst (λ (z : exchange.Task). list_any (is_task_of z.tag) us ≡ false) same
    differ.0) in
    let first = if_true (is_task_of b.tag y) (record y { deed = deed }) y
    (ap (λ (z : exchange.Task). z.tag == b.tag) same ∙ eq_self b.tag) in (
      subst (TaskKept before a) (sym (first ∙ ap (λ (z : exchange.Task). record z { deed = deed }) same)) new,
      subst (TasksKept before ts) (sym none) h.1,
    )
one_changed before (suc k) (x ∷ ts) (y ∷ us) a b deed h differ at new =
    let other = if_false (is_task_of b.tag y) (record y { deed = deed }) y (other_tag y.tag k us b differ.0 at) in
    (subst (TaskKept before x) (sym other) h.0, one_changed before k ts us a b deed h.1 differ.1 at new)
one_changed before k ts us a b deed h differ at new = absurd h

-- where none has the tag, a change of the task of the tag changes none
none_set : (tag : ℕ) (g : exchange.Task → exchange.Task) → ((x : exchange.Task) → is_task_of tag x ≡ false → g x ≡ x) →
    (us : List exchange.Task) → list_any (is_task_of tag) us ≡ false → map g us ≡ us
none_set tag g stays [] h = refl
none_set tag g stays (y ∷ us) h =
    let both = or_parts (is_task_of tag y) (list_any (is_task_of tag) us) h in
    λ i. stays y both.0 i ∷ none_set tag g stays us both.1 i

-- the task at a position changes by a change of the task of its tag
pub one_goes_over : (before k : ℕ) (ts : List OpenTask) (us : List exchange.Task) (a : OpenTask) (b : exchange.Task)
    (g : exchange.Task → exchange.Task) → ((x : exchange.Task) → is_task_of b.tag x ≡ false → g x ≡ x) →
    TasksKept before ts us → TasksDiffer us → slice_get us k ≡ Some b → TaskKept before a (g b) →
    TasksKept before (slice_set ts k a) (map g us)
one_goes_over before k [] [] a b g stays h differ at new = tt
one_goes_over before zero (x ∷ ts) (y ∷ us) a b g stays h differ at new =
    let same : y ≡ b = same_Some y b at in (
      subst (λ (z : exchange.Task). TaskKept before a (g z)) (sym same) new,
      subst (TasksKept before ts)
          (sym (none_set b.tag g stays us
          (subst (λ (z : exchange.Task). list_any (is_task_of z.tag) us ≡ false) same differ.0))) h.1,
    )
one_goes_over before (suc k) (x ∷ ts) (y ∷ us) a b g stays h differ at new = (
  subst (TaskKept before x) (sym (stays y (other_tag y.tag k us b differ.0 at))) h.0,
  one_goes_over before k ts us a b g stays h.1 differ.1 at new,
)
one_goes_over before k ts us a b g stays h differ at new = absurd h

-- what is set twice is as the last time
pub set_again : (ts : List OpenTask) (k : ℕ) (a b : OpenTask) →
    slice_set (slice_set ts k a) k b ≡ slice_set ts k b
set_again [] zero a b = refl
set_again [] (suc k) a b = refl
set_again (x ∷ ts) zero a b = refl
set_again (x ∷ ts) (suc k) a b = ap (λ (ys : List OpenTask). x ∷ ys) (set_again ts k a b)

pub set_stands : (ts : List OpenTask) (k : ℕ) (a b : OpenTask) → slice_get ts k ≡ Some a →
    slice_get (slice_set ts k b) k ≡ Some b
set_stands [] k a b at = absurd (none-some a at)
set_stands (x ∷ ts) zero a b at = refl
set_stands (x ∷ ts) (suc k) a b at = set_stands ts k a b at

-- where none has the tag, none goes
none_goes : (tag : ℕ) (us : List exchange.Task) → list_any (is_task_of tag) us ≡ false →
    exchange.without_task tag us ≡ us
none_goes tag [] h = refl
none_goes tag (y ∷ us) h =
    let both = or_parts (is_task_of tag y) (list_any (is_task_of tag) us) h in
    if_true (not (is_task_of tag y)) (y ∷ exchange.without_task tag us) (exchange.without_task tag us) (ap not both.0)
    ∙ ap (λ (ys : List exchange.Task). y ∷ ys) (none_goes tag us both.1)

-- the task at a position goes
pub one_gone : (before k : ℕ) (ts : List OpenTask) (us : List exchange.Task) (b : exchange.Task) →
    TasksKept before ts us →
    TasksDiffer us → slice_get us k ≡ Some b → TasksKept before (remove ts k) (exchange.without_task b.tag us)
one_gone before k [] [] b h differ at = absurd (none-some b at)
one_gone before zero (x ∷ ts) (y ∷ us) b h differ at =
    let same : y ≡ b = same_Some y b at in
    let rest = exchange.without_task b.tag us in
    let first = if_false (not (is_task_of b.tag y)) (y ∷ rest) rest
    (ap (λ (z : exchange.Task). not (z.tag == b.tag)) same ∙ ap not (eq_self b.tag)) in
    let none = none_goes b.tag us (subst (λ (z : exchange.Task). list_any (is_task_of z.tag) us ≡ false) same differ.0)
    in
    subst (TasksKept before ts) (sym (first ∙ none)) h.1
one_gone before (suc k) (x ∷ ts) (y ∷ us) b h differ at =
    let rest = exchange.without_task b.tag us in
    let stays = if_true (not (is_task_of b.tag y)) (y ∷ rest) rest (ap not (other_tag y.tag k us b differ.0 at)) in
    subst (TasksKept before (x ∷ remove ts k)) (sym stays) (h.0, one_gone before k ts us b h.1 differ.1 at)
one_gone before k [] (y ∷ us) b h differ at = absurd h
one_gone before k (x ∷ ts) [] b h differ at = absurd h
