-- What is kept shows the blocks of tasks: what other groups, other tasks and fewer pins leave of it.
use Rattle.ufs_spec.specs.Exchanges.{Comparing}
use Rattle.power_loss.proofs.Common.{◌≡◌, ℕ, ◌==◌, Bool, true, false, cond, not, if◌then◌else◌, All, List, [], ◌∷◌}
use Rattle.power_loss.proofs.Common.{◌++◌, Some, fold, map, refl, sym, ap, ◌∙◌, subst, flat_map, list_any, All-cons}
use Rattle.power_loss.proofs.Common.{All-filter, All-head, All-nil, All-tail, All-weaker, false≢true, none-some}
use Rattle.power_loss.proofs.Common.{same_Some, eqb-self, eqb-true, cond-false, cond-true, Entry, InSlot, Ledger}
use Rattle.power_loss.proofs.Common.{Looked, Name, OnPage, Unwritten, moved, Pin, Translation, Key, Numbers}
use Rattle.power_loss.proofs.MachineWords.{Deed, Gathering, IsShown, ReadingArea, RpmbRequest, Sending, ShowsBlock}
use Rattle.power_loss.proofs.MachineWords.{ShowsRight, Task, abort_moves, fill_moves, is_task_of, task_of, with_deed}
use Rattle.power_loss.proofs.MachineWords.{with_request}
use Rattle.std.proofs.Common.{filter, find}
use Rattle.std.specs.Prelude.{◌||◌}
use Rattle.ufs_spec.specs.Ledger.{entry_of}
use Rattle.power_loss.proofs.open_tasks.TaskLists.{SameTag, at_tag, changed_tag}
use Rattle.power_loss.proofs.open_tasks.FoundInLists.{found_is, found_map, found_more}
use Rattle.power_loss.proofs.collected_blocks.FewestLivePages.{in_any}
use Rattle.power_loss.proofs.ordered_lists.ElementsAndOrders.{found_in, kept_in}

-- More groups

abbrev pub Knows : Ledger → Ledger → Type 0
Knows l m = (name : Name) (e : Entry) → entry_of l name ≡ Some e → entry_of m name ≡ Some e

pub shown_known : (l m : Ledger) (k : Key) (x : Looked) (body : List ℕ) → Knows l m → IsShown l k x body →
    IsShown m k x body
shown_known l m k Unwritten body more h = h
shown_known l m k (InSlot name) body more h =
    record { entry = h.entry; is = more name h.entry h.is; key = h.key; body_is = h.body_is }
shown_known l m k (OnPage name place) body more h =
    record { entry = h.entry; is = more name h.entry h.is; key = h.key; body_is = h.body_is }

-- what is looked at in another way shows the same
abbrev pub Reshows : Ledger → Ledger → Looked → Looked → Type 0
Reshows l m x y = (k : Key) (body : List ℕ) → IsShown l k x body → IsShown m k y body

pub block_reshown : (l m : Ledger) (x y : Looked) (index : ℕ) (deed : Deed) → Reshows l m x y →
    ShowsBlock l x index deed → ShowsBlock m y index deed
block_reshown l m x y index (Sending blocks sent) again h = λ block at. let r = h block at in
    (r.0, again r.0 block.body r.1)
block_reshown l m x y index (ReadingArea pages) again h = λ page at. let r = h page at in
    (r.0, again r.0 page.body r.1)
block_reshown l m x y index (Comparing blocks compared asked) again h = λ block at. let r = h block at in
    (r.0, again r.0 block.body r.1)
block_reshown l m x y index (Gathering purpose gathered asked) again h = h
block_reshown l m x y index deed again h = tt

abbrev pub Show : Ledger → List Task → List Pin → Type 0
Show l tasks pins = All (ShowsRight l tasks) pins

pub show_known : (l m : Ledger) (tasks : List Task) (pins : List Pin) → Knows l m → Show l tasks pins →
    Show m tasks pins
show_known l m tasks pins more h = All-weaker (ShowsRight l tasks) (ShowsRight m tasks)
    (λ pin r. record {
      task = r.task;
      there = r.there;
      shows = block_reshown l m pin.looked pin.looked pin.index r.task.deed
          (λ k body. shown_known l m k pin.looked body more) r.shows;
    }) pins h

-- Other tasks

-- what shows the blocks of the one deed shows those of the other
abbrev pub SameBlocks : Deed → Deed → Type 0
SameBlocks before deed = (l : Ledger) (x : Looked) (index : ℕ) → ShowsBlock l x index before → ShowsBlock l x index deed

-- each task of a tag has one that goes on with its blocks
abbrev pub Goes : List Task → List Task → Type 0
Goes tasks others = (tag : ℕ) (task : Task) → task_of tag tasks ≡ Some task →
    (other : Task) × (task_of tag others ≡ Some other) × SameBlocks task.deed other.deed

pub show_goes : (l : Ledger) (tasks others : List Task) (pins : List Pin) → Goes tasks others → Show l tasks pins →
    Show l others pins
show_goes l tasks others pins goes h = All-weaker (ShowsRight l tasks) (ShowsRight l others)
    (λ pin r. let g = goes pin.tag r.task r.there in
    record { task = g.0; there = g.1; shows = g.2 l pin.looked pin.index r.shows }) pins h

pub more_goes : (tasks : List Task) (task : Task) → Goes tasks (tasks ++ task ∷ [])
more_goes tasks task tag x found = (x, found_more (is_task_of tag) tasks (task ∷ []) found, λ l y index h. h)

pub map_goes : (f : Task → Task) (tasks : List Task) → ((task : Task) → (f task).tag ≡ task.tag) →
    ((task : Task) → SameBlocks task.deed (f task).deed) → Goes tasks (map f tasks)
map_goes f tasks same blocks tag task found =
    (f task, found_map (is_task_of tag) f (λ x. ap (λ (n : ℕ). n == tag) (same x)) tasks task found, blocks task)

-- it is found as what it becomes
pub changed_there : (tasks : List Task) (task : Task) (f : Task → Task) → SameTag f →
    task_of task.tag tasks ≡ Some task → task_of task.tag (map (at_tag task.tag f) tasks) ≡ Some (f task)
changed_there tasks task f own there =
    found_map (is_task_of task.tag) (at_tag task.tag f)
    (λ x. ap (λ (n : ℕ). n == task.tag) (changed_tag task.tag f own x)) tasks task there
    ∙ ap Some (cond-true (is_task_of task.tag task) (f task) task (eqb-self task.tag))

-- the task of the tag goes on with its blocks, as another one of the tag
pub changed_goes : (tasks : List Task) (task : Task) (f : Task → Task) → SameTag f →
    task_of task.tag tasks ≡ Some task → SameBlocks task.deed (f task).deed →
    Goes tasks (map (at_tag task.tag f) tasks)
changed_goes tasks task f own there same tag other found = (
  at_tag task.tag f other,
  found_map (is_task_of tag) (at_tag task.tag f) (λ x. ap (λ (n : ℕ). n == tag) (changed_tag task.tag f own x)) tasks
      other found,
  by (is_task_of task.tag other) refl,
)
  where
    by : (b : Bool) → is_task_of task.tag other ≡ b → SameBlocks other.deed (if b then f other else other).deed
    by false e = λ l x index h. h
    by true e =
        let own : other.tag ≡ task.tag = eqb-true other.tag task.tag e in
        let its : other.tag ≡ tag = eqb-true other.tag tag (found_is (is_task_of tag) tasks other found) in
        let one : other ≡ task =
        same_Some other task (sym found ∙ (ap (λ (n : ℕ). task_of n tasks) (sym its ∙ own) ∙ there)) in
        subst (λ (x : Task). SameBlocks x.deed (f x).deed) (sym one) same

-- it does something else
pub set_goes : (tasks : List Task) (task : Task) (deed : Deed) → task_of task.tag tasks ≡ Some task →
    SameBlocks task.deed deed → Goes tasks (map (with_deed task.tag deed) tasks)
set_goes tasks task deed there same = changed_goes tasks task (λ x. record x { deed = deed }) (λ x. refl) there same

-- it has a request too
pub request_goes : (tasks : List Task) (task : Task) (request : RpmbRequest) (deed : Deed) →
    task_of task.tag tasks ≡ Some task → SameBlocks task.deed deed →
    Goes tasks (map (with_request task.tag request deed) tasks)
request_goes tasks task request deed there same =
    changed_goes tasks task (λ x. record x { deed = deed; request = Some request }) (λ x. refl) there same

-- Fewer pins

pub filter_passes : {A : Type 0} (P : A → Type 0) (q : A → Bool) (xs : List A) → All P xs →
    All (λ x. P x × (q x ≡ true)) (filter q xs)
filter_passes P q [] h = All-nil (λ x. P x × (q x ≡ true))
filter_passes P q (x ∷ xs) h = by (q x) refl (filter_passes P q xs (All-tail P x xs h))
  where
    by : (b : Bool) → q x ≡ b → All (λ y. P y × (q y ≡ true)) (filter q xs) →
        All (λ y. P y × (q y ≡ true)) (cond b (x ∷ filter q xs) (filter q xs))
    by true e rest = All-cons (λ y. P y × (q y ≡ true)) x (filter q xs) (All-head P x xs h, e) rest
    by false e rest = rest

-- Fewer tasks

pub found_kept : {A : Type 0} (p is : A → Bool) (xs : List A) (a : A) → find p xs ≡ Some a → is a ≡ false →
    find p (filter (λ x. not (is x)) xs) ≡ Some a
found_kept p is [] a h none = absurd (none-some a h)
found_kept p is (x ∷ xs) a h none = by (p x) (is x) refl refl h (λ k. found_kept p is xs a k none)
  where
    by : (b c : Bool) → p x ≡ b → is x ≡ c → cond b (Some x) (find p xs) ≡ Some a →
        (find p xs ≡ Some a → find p (filter (λ y. not (is y)) xs) ≡ Some a) →
        find p (cond (not c) (x ∷ filter (λ y. not (is y)) xs) (filter (λ y. not (is y)) xs)) ≡ Some a
    by true true e g k rest = absurd (false≢true (sym none ∙ (ap is (sym (same_Some x a k)) ∙ g)))
    by true false e g k rest = cond-true (p x) (Some x) (find p (filter (λ y. not (is y)) xs)) e ∙ k
    by false true e g k rest = rest k
    by false false e g k rest = cond-false (p x) (Some x) (find p (filter (λ y. not (is y)) xs)) e ∙ rest k

found_among : {A : Type 0} (p is : A → Bool) (xs : List A) {a : A} → find p xs ≡ Some a → is a ≡ true →
    list_any p (filter is xs) ≡ true
found_among p is xs {a} h among =
    let r = found_in p xs a h in
    in_any p a (filter is xs) (kept_in is a xs r.0 among) r.1

-- what is kept for tasks that stay shows their blocks
pub show_left : {l : Ledger} (is : Task → Bool) {tasks : List Task} (pins : List Pin) →
    All (λ pin. ShowsRight l tasks pin × (list_any (is_task_of pin.tag) (filter is tasks) ≡ false)) pins →
    Show l (filter (λ task. not (is task)) tasks) pins
show_left {l} is {tasks} pins h =
    All-weaker (λ pin. ShowsRight l tasks pin × (list_any (is_task_of pin.tag) (filter is tasks) ≡ false))
    (ShowsRight l (filter (λ task. not (is task)) tasks))
    (λ pin r. record {
      task = r.0.task;
      there = found_kept (is_task_of pin.tag) is tasks r.0.task r.0.there (stays pin r.0 (is r.0.task) refl r.1);
      shows = r.0.shows;
    }) pins h
  where
    stays : (pin : Pin) (r : ShowsRight l tasks pin) (b : Bool) → is r.task ≡ b →
        list_any (is_task_of pin.tag) (filter is tasks) ≡ false → is r.task ≡ false
    stays pin r false e none = e
    stays pin r true e none = absurd (false≢true (sym none ∙ found_among (is_task_of pin.tag) is tasks r.there e))

-- Moves

pub other_tag : (a b : ℕ) → not (a == b) ≡ true → (b == a) ≡ false
other_tag a b h = by (b == a) refl
  where
    by : (c : Bool) → (b == a) ≡ c → (b == a) ≡ false
    by false e = e
    by true e = absurd (false≢true (sym (ap not (ap (λ (n : ℕ). a == n) (eqb-true b a e) ∙ eqb-self a)) ∙ h))

-- tasks that are aborted let go of what they keep
pub aborted_pins : (P : Pin → Type 0) (n : Numbers) (ts : List Task) (t : Translation) → All P t.pins →
    All (λ pin. P pin × (list_any (is_task_of pin.tag) ts ≡ false)) (fold moved t (flat_map (abort_moves n) ts)).pins
aborted_pins P n [] t h = All-weaker P (λ pin. P pin × (list_any (is_task_of pin.tag) [] ≡ false)) (λ pin p. (p, refl))
    t.pins h
aborted_pins P n (x ∷ ts) t h =
    let u = fold moved t (abort_moves n x) in
    All-weaker (λ pin. (P pin × (not (pin.tag == x.tag) ≡ true)) × (list_any (is_task_of pin.tag) ts ≡ false))
    (λ pin. P pin × (list_any (is_task_of pin.tag) (x ∷ ts) ≡ false))
    (λ pin r. (
      r.0.0,
      neither (x.tag == pin.tag) (list_any (is_task_of pin.tag) ts) (other_tag pin.tag x.tag r.0.1) r.1,
    )) (fold moved u (flat_map (abort_moves n) ts)).pins
    (aborted_pins (λ pin. P pin × (not (pin.tag == x.tag) ≡ true)) n ts u
    (filter_passes P (λ pin. not (pin.tag == x.tag)) t.pins h))
  where
    neither : (a b : Bool) → a ≡ false → b ≡ false → (a || b) ≡ false
    neither true b e k = e
    neither false b e k = k

pub aborted_ledger : (n : Numbers) (ts : List Task) (t : Translation) →
    (fold moved t (flat_map (abort_moves n) ts)).ledger ≡ t.ledger
aborted_ledger n [] t = refl
aborted_ledger n (x ∷ ts) t = aborted_ledger n ts (fold moved t (abort_moves n x))

-- tasks whose requests fill a register let go of what they keep
pub filled_pins : (P : Pin → Type 0) (ts : List Task) (t : Translation) → All P t.pins →
    All P (fold moved t (fill_moves ts)).pins
filled_pins P [] t h = h
filled_pins P (x ∷ ts) t h = filled_pins P ts (fold moved t (fill_moves (x ∷ [])))
    (All-filter (λ pin. not (pin.tag == x.tag)) P t.pins h)

pub filled_ledger : (ts : List Task) (t : Translation) → (fold moved t (fill_moves ts)).ledger ≡ t.ledger
filled_ledger [] t = refl
filled_ledger (x ∷ ts) t = filled_ledger ts (fold moved t (fill_moves (x ∷ [])))
