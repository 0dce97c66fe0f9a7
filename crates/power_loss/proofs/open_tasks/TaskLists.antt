-- What becomes of the tasks and the short exchanges where one comes, goes or changes.
use Rattle.std.specs.Prelude.{◌*◌}
use Rattle.power_loss.proofs.Common.{◌≡◌, ℕ, ◌+◌, ◌<◌, ◌≤◌, ◌==◌, Bool, true, false, cond, List, [], ◌∷◌, ◌++◌, Option}
use Rattle.power_loss.proofs.Common.{Some, None, length, map, refl, sym, ap, ◌∙◌, subst, arith, filter, find}
use Rattle.power_loss.proofs.Common.{AllByRecursion, list_any, same_Some, or_parts, eqb-true, cond-false, Numbers}
use Rattle.power_loss.proofs.Common.{any_none, if_both, ◌⊎◌}
use Rattle.power_loss.proofs.MachineWords.{AreApart, AreBytes, Awaiting, Deed, DeedFits, ForFrames, ForUnmap, ForWrite}
use Rattle.power_loss.proofs.MachineWords.{Gathering, RpmbRequest, Short, ShortAwaits, ShortFits, Task, TasksDiffer}
use Rattle.power_loss.proofs.MachineWords.{TasksRight, WriteFits, claim_of, claimed_by, claims_of, is_short_of}
use Rattle.power_loss.proofs.MachineWords.{is_task_of, task_of, with_deed, with_request}
use Rattle.ufs_spec.specs.Configs.{command_blocks}
use Rattle.std.specs.Prelude.{if◌then◌else◌, slice_get}
use Rattle.power_loss.specs.Exchange.{DeedsFit, FramesFit, ShortsDiffer, ShortsFit, UnmapFits}
use Rattle.power_loss.proofs.open_tasks.FoundInLists.{found_is}
use Rattle.power_loss.proofs.open_tasks.TaggedLists.{differ_filter, differ_map, differ_push, each_at, each_filter}
use Rattle.power_loss.proofs.open_tasks.TaggedLists.{each_found, each_map, each_push, each_weaker, found_at}
use Rattle.power_loss.proofs.open_tasks.TaggedLists.{none_of_tag, any_fewer, any_map, any_push, other_way}

abbrev tag_of : Task → ℕ
tag_of task = task.tag

abbrev short_tag : Short → ℕ
short_tag short = short.tag

-- Later on, more is accepted and claimed

-- what a WRITE that gathers has fits with other data, at another claim and later on
pub write_more : {n : Numbers} {m w : Bool} {unit address blocks : ℕ} {some all : List ℕ} {claimed more : ℕ} →
    (m ≡ true → w ≡ true) → length all < 4096 * blocks → (AreBytes some → AreBytes all) → more ≡ claimed →
    WriteFits n m unit address blocks some claimed → WriteFits n w unit address blocks all more
write_more up short bytes same h = assumption (bytes h.bytes, same ∙ h.claimed_is, up h.is_mended)

-- the same of an UNMAP, and of frames
pub unmap_more : {n : Numbers} {m w : Bool} {unit total : ℕ} {some all : List ℕ} {claimed more : ℕ} →
    (m ≡ true → w ≡ true) → length all < total → (AreBytes some → AreBytes all) → more ≡ claimed →
    UnmapFits n m unit total some claimed → UnmapFits n w unit total all more
unmap_more {n} {total = total} up short bytes same h = record {
  unit_in = h.unit_in;
  list = subst (λ (c : ℕ). ((total ≡ 8) × (c ≡ 0)) ⊎ ((total ≡ 24) × (c ≡ command_blocks n))) (sym same) h.list;
  short = short;
  bytes = bytes h.bytes;
  is_mended = λ whole. up (h.is_mended whole);
}

pub frames_more : {n : Numbers} {region total : ℕ} {some all : List ℕ} {claimed more : ℕ} →
    length all < total → (AreBytes some → AreBytes all) → more ≡ claimed →
    FramesFit n region total some claimed → FramesFit n region total all more
frames_more short bytes same h = record {
  region_in = h.region_in;
  count = h.count;
  some = h.some;
  few = h.few;
  total_is = h.total_is;
  short = short;
  bytes = bytes h.bytes;
  claimed_is = same ∙ h.claimed_is;
}

deed_more : (n : Numbers) (a b : ℕ) {m w : Bool} (claimed total : ℕ) (deed : Deed) → a ≤ b → (m ≡ true → w ≡ true) →
    DeedFits n a m claimed total deed → DeedFits n b w claimed total deed
deed_more n a b {m} {w} claimed total (Gathering (ForWrite unit address blocks forced) gathered asked) l up h =
    write_more up h.short (λ k. k) refl h
deed_more n a b claimed total (Gathering (ForUnmap unit) gathered asked) l up h =
    unmap_more up h.short (λ k. k) refl h
deed_more n a b claimed total (Gathering (ForFrames region) gathered asked) l up h =
    frames_more h.short (λ k. k) refl h
deed_more n a b claimed total (Awaiting commands) l up h = (omega (arith, h.0), up h.1)
deed_more n a b claimed total deed l up h = h

short_more : (a b : ℕ) {m w : Bool} (awaits : Option ℕ) → a ≤ b → (m ≡ true → w ≡ true) →
    ShortAwaits a m awaits → ShortAwaits b w awaits
short_more a b None l up h = tt
short_more a b (Some commands) l up h = (omega (arith, h.0), up h.1)

deeds_more : (n : Numbers) (a b : ℕ) {m w : Bool} (tasks : List Task) → a ≤ b → (m ≡ true → w ≡ true) →
    DeedsFit n a m tasks → DeedsFit n b w tasks
deeds_more n a b {m} {w} tasks l up = each_weaker (λ (t : Task). DeedFits n a m (claim_of n t) t.length t.deed)
    (λ (t : Task). DeedFits n b w (claim_of n t) t.length t.deed)
    (λ t k. deed_more n a b (claim_of n t) t.length t.deed l up k) tasks

shorts_more : (a b : ℕ) {m w : Bool} (shorts : List Short) → a ≤ b → (m ≡ true → w ≡ true) → ShortsFit a m shorts →
    ShortsFit b w shorts
shorts_more a b {m} {w} shorts l up = each_weaker (ShortFits a m) (ShortFits b w)
    (λ x k. record {
      awaits = short_more a b x.awaits l up k.awaits;
      reply = k.reply;
      locked_reply = k.locked_reply;
    }) shorts

pub tasks_more : {n : Numbers} {a b : ℕ} {m w : Bool} {c d : ℕ} {tasks : List Task} {shorts : List Short} → a ≤ b →
    (m ≡ true → w ≡ true) → c ≤ d → TasksRight n a m c tasks shorts → TasksRight n b w d tasks shorts
tasks_more {n = n} {a = a} {b = b} {m = m} {w = w} {d = d} {tasks = tasks} {shorts = shorts} l up more h =
    let claimed : claims_of n tasks ≤ d = omega (arith, h.claimed) in
    assumption (deeds_more n a b tasks l up h.deeds, shorts_more a b shorts l up h.waits)

-- A change of each task

-- it keeps what fits and claims no more
pub record KeepsTasks (n : Numbers) (a : ℕ) (m : Bool) (f : Task → Task) : Type 0 where
  pub tag : (t : Task) → (f t).tag ≡ t.tag
  pub fits : (t : Task) → DeedFits n a m (claim_of n t) t.length t.deed →
      DeedFits n a m (claim_of n (f t)) (f t).length (f t).deed
  pub claim : (t : Task) → claim_of n (f t) ≤ claim_of n t

claims_kept : {n : Numbers} {a : ℕ} {m : Bool} {f : Task → Task} → KeepsTasks n a m f → (tasks : List Task) →
    claims_of n (map f tasks) ≤ claims_of n tasks
claims_kept k [] = omega arith
claims_kept {n} {a} {m} {f} k (t ∷ ts) = let one = k.claim t in let rest = claims_kept k ts in omega arith

apart_map : (f : Task → Task) → ((t : Task) → (f t).tag ≡ t.tag) → (shorts : List Short) (tasks : List Task) →
    AreApart shorts tasks → AreApart shorts (map f tasks)
apart_map f same shorts tasks h = each_map (λ (t : Task). list_any (is_short_of t.tag) shorts ≡ false) f
    (λ t k. ap (λ (tag : ℕ). list_any (is_short_of tag) shorts) (same t) ∙ k) tasks h

pub tasks_kept : {n : Numbers} {a : ℕ} {m : Bool} {c : ℕ} {f : Task → Task} {tasks : List Task} {shorts : List Short} →
    KeepsTasks n a m f → TasksRight n a m c tasks shorts → TasksRight n a m c (map f tasks) shorts
tasks_kept {n = n} {a = a} {m = m} {f = f} {tasks = tasks} {shorts = shorts} k h = record {
  deeds = each_map (λ (t : Task). DeedFits n a m (claim_of n t) t.length t.deed) f k.fits tasks h.deeds;
  waits = h.waits;
  tasks_differ = differ_map tag_of f k.tag tasks h.tasks_differ;
  shorts_differ = h.shorts_differ;
  apart = apart_map f k.tag shorts tasks h.apart;
  claimed = let l = claims_kept k tasks in omega (arith, h.claimed);
}

-- One task changes

-- the task of the tag becomes another one of the same tag; any other task stays
abbrev pub at_tag : ℕ → (Task → Task) → Task → Task
at_tag tag f task = if is_task_of tag task then f task else task

abbrev pub SameTag : (Task → Task) → Type 0
SameTag f = (t : Task) → (f t).tag ≡ t.tag

pub changed_tag : (tag : ℕ) (f : Task → Task) → SameTag f → SameTag (at_tag tag f)
changed_tag tag f same t = if_both (λ (x : Task). x.tag ≡ t.tag) (is_task_of tag t) (same t) refl

none_at_tag : (tag : ℕ) (f : Task → Task) (tasks : List Task) → list_any (is_task_of tag) tasks ≡ false →
    map (at_tag tag f) tasks ≡ tasks
none_at_tag tag f [] h = refl
none_at_tag tag f (t ∷ ts) h =
    let both = or_parts (is_task_of tag t) (list_any (is_task_of tag) ts) h in
    λ i. cond-false (is_task_of tag t) (f t) t both.0 i ∷ none_at_tag tag f ts both.1 i

pub none_changed : (tag : ℕ) (deed : Deed) (tasks : List Task) → list_any (is_task_of tag) tasks ≡ false →
    map (with_deed tag deed) tasks ≡ tasks
none_changed tag deed tasks h = none_at_tag tag (λ t. record t { deed = deed }) tasks h

-- the others stay
rest_stays : (tag : ℕ) (f : Task → Task) (t : Task) {ts : List Task} → TasksDiffer (t ∷ ts) →
    is_task_of tag t ≡ true → map (at_tag tag f) ts ≡ ts
rest_stays tag f t {ts} differ e = none_at_tag tag f ts
    (subst (λ (n : ℕ). list_any (is_task_of n) ts ≡ false) (eqb-true t.tag tag e) differ.0)

-- a fact of each task stays, where it holds of the one that changes
pub each_at_tag : (P : Task → Type 0) (tag : ℕ) {task : Task} (f : Task → Task) (tasks : List Task) →
    TasksDiffer tasks → task_of tag tasks ≡ Some task → P (f task) → AllByRecursion P tasks →
    AllByRecursion P (map (at_tag tag f) tasks)
each_at_tag P tag f [] differ found p all = tt
each_at_tag P tag {task} f (t ∷ ts) differ found p all =
    by (is_task_of tag t) refl found (λ k. each_at_tag P tag f ts differ.1 k p all.1)
  where
    by : (b : Bool) → is_task_of tag t ≡ b → cond b (Some t) (task_of tag ts) ≡ Some task →
        (task_of tag ts ≡ Some task → AllByRecursion P (map (at_tag tag f) ts)) →
        P (if b then f t else t) × AllByRecursion P (map (at_tag tag f) ts)
    by true e k rest = (
      subst (λ (x : Task). P (f x)) (sym (same_Some t task k)) p,
      subst (AllByRecursion P) (sym (rest_stays tag f t differ e)) all.1,
    )
    by false e k rest = (all.0, rest k)

pub each_set : (P : Task → Type 0) (tag : ℕ) {task : Task} (deed : Deed) (tasks : List Task) → TasksDiffer tasks →
    task_of tag tasks ≡ Some task → P (record task { deed = deed }) → AllByRecursion P tasks →
    AllByRecursion P (map (with_deed tag deed) tasks)
each_set P tag deed tasks differ found p all = each_at_tag P tag (λ t. record t { deed = deed }) tasks differ found p
    all

claims_at_tag : (n : Numbers) (tag : ℕ) {task : Task} (f : Task → Task) (tasks : List Task) → TasksDiffer tasks →
    task_of tag tasks ≡ Some task →
    claims_of n (map (at_tag tag f) tasks) + claim_of n task ≡ claims_of n tasks + claim_of n (f task)
claims_at_tag n tag f [] differ found = cc
claims_at_tag n tag {task} f (t ∷ ts) differ found =
    by (is_task_of tag t) refl found (λ k. claims_at_tag n tag f ts differ.1 k)
  where
    by : (b : Bool) → is_task_of tag t ≡ b → cond b (Some t) (task_of tag ts) ≡ Some task →
        (task_of tag ts ≡ Some task → claims_of n (map (at_tag tag f) ts) + claim_of n task
        ≡ claims_of n ts + claim_of n (f task)) →
        claim_of n (if b then f t else t) + claims_of n (map (at_tag tag f) ts)
        + claim_of n task ≡ claims_of n (t ∷ ts) + claim_of n (f task)
    by true e k rest =
        let same = ap (claims_of n) (rest_stays tag f t differ e) in
        let was = ap (claim_of n) (same_Some t task k) in
        let is = ap (λ (x : Task). claim_of n (f x)) (same_Some t task k) in
        omega arith
    by false e k rest = let r = rest k in omega arith

-- the task of a tag becomes another one from now on, with so many claims left
pub task_changes : {n : Numbers} {a b : ℕ} {m w : Bool} {c d : ℕ} {task : Task} (tag : ℕ) (f : Task → Task)
    {tasks : List Task} {shorts : List Short} → SameTag f → a ≤ b → (m ≡ true → w ≡ true) →
    task_of tag tasks ≡ Some task → DeedFits n b w (claim_of n (f task)) (f task).length (f task).deed →
    c + claim_of n (f task) ≤ d + claim_of n task →
    TasksRight n a m c tasks shorts → TasksRight n b w d (map (at_tag tag f) tasks) shorts
task_changes {n = n} {a = a} {b = b} {m = m} {w = w} {task = task} tag f {tasks} {shorts} same l up there new more h =
    record {
      deeds = each_at_tag (λ (t : Task). DeedFits n b w (claim_of n t) t.length t.deed) tag f tasks h.tasks_differ
          there new (deeds_more n a b tasks l up h.deeds);
      waits = shorts_more a b shorts l up h.waits;
      tasks_differ = differ_map tag_of (at_tag tag f) (changed_tag tag f same) tasks h.tasks_differ;
      shorts_differ = h.shorts_differ;
      apart = apart_map (at_tag tag f) (changed_tag tag f same) shorts tasks h.apart;
      claimed = let e = claims_at_tag n tag f tasks h.tasks_differ there in omega (arith, h.claimed);
    }

-- it does something else
pub task_set : {n : Numbers} {a b : ℕ} {m w : Bool} {c d : ℕ} {task : Task} (tag : ℕ) (deed : Deed)
    {tasks : List Task} {shorts : List Short} → a ≤ b → (m ≡ true → w ≡ true) → task_of tag tasks ≡ Some task →
    DeedFits n b w (claimed_by n deed task.command) task.length deed →
    c + claimed_by n deed task.command ≤ d + claim_of n task →
    TasksRight n a m c tasks shorts → TasksRight n b w d (map (with_deed tag deed) tasks) shorts
task_set tag deed l up there new more h =
    task_changes tag (λ t. record t { deed = deed }) (λ t. refl) l up there new more h

-- it has a request, and does this
pub task_requests : {n : Numbers} {a b : ℕ} {m w : Bool} {c d : ℕ} {task : Task} (tag : ℕ) (request : RpmbRequest)
    (deed : Deed) {tasks : List Task} {shorts : List Short} → a ≤ b → (m ≡ true → w ≡ true) →
    task_of tag tasks ≡ Some task → DeedFits n b w (claimed_by n deed task.command) task.length deed →
    c + claimed_by n deed task.command ≤ d + claim_of n task →
    TasksRight n a m c tasks shorts → TasksRight n b w d (map (with_request tag request deed) tasks) shorts
task_requests tag request deed l up there new more h =
    task_changes tag (λ t. record t { deed = deed; request = Some request }) (λ t. refl) l up there new more h

-- One task more

claims_push : (n : Numbers) (tasks : List Task) (x : Task) →
    claims_of n (tasks ++ x ∷ []) ≡ claims_of n tasks + claim_of n x
claims_push n [] x = omega arith
claims_push n (t ∷ ts) x = let rest = claims_push n ts x in omega arith

pub task_opened : {n : Numbers} {a : ℕ} {m : Bool} {c d : ℕ} {tasks : List Task} {shorts : List Short} (x : Task) →
    list_any (is_task_of x.tag) tasks ≡ false → list_any (is_short_of x.tag) shorts ≡ false →
    DeedFits n a m (claim_of n x) x.length x.deed → c + claim_of n x ≤ d →
    TasksRight n a m c tasks shorts → TasksRight n a m d (tasks ++ x ∷ []) shorts
task_opened {n} {a} {m} {c} {d} {tasks} {shorts} x no_task no_short new more h = record {
  deeds = each_push (λ (t : Task). DeedFits n a m (claim_of n t) t.length t.deed) tasks x h.deeds new;
  waits = h.waits;
  tasks_differ = differ_push tag_of tasks x no_task h.tasks_differ;
  shorts_differ = h.shorts_differ;
  apart = each_push (λ (t : Task). list_any (is_short_of t.tag) shorts ≡ false) tasks x h.apart no_short;
  claimed = let e = claims_push n tasks x in omega (arith, h.claimed);
}

-- Tasks go

claims_fewer : (n : Numbers) (q : Task → Bool) (tasks : List Task) → claims_of n (filter q tasks) ≤ claims_of n tasks
claims_fewer n q [] = omega arith
claims_fewer n q (t ∷ ts) = by (q t) (claims_fewer n q ts)
  where
    by : (b : Bool) → claims_of n (filter q ts) ≤ claims_of n ts →
        claims_of n (cond b (t ∷ filter q ts) (filter q ts)) ≤ claims_of n (t ∷ ts)
    by true l = omega arith
    by false l = omega arith

pub tasks_fewer : {n : Numbers} {a : ℕ} {m : Bool} {c : ℕ} (q : Task → Bool) {tasks : List Task}
    {shorts : List Short} → TasksRight n a m c tasks shorts → TasksRight n a m c (filter q tasks) shorts
tasks_fewer {n} {a} {m} {c} q {tasks} {shorts} h = record {
  deeds = each_filter (λ (t : Task). DeedFits n a m (claim_of n t) t.length t.deed) q tasks h.deeds;
  waits = h.waits;
  tasks_differ = differ_filter tag_of q tasks h.tasks_differ;
  shorts_differ = h.shorts_differ;
  apart = each_filter (λ (t : Task). list_any (is_short_of t.tag) shorts ≡ false) q tasks h.apart;
  claimed = let l = claims_fewer n q tasks in omega (arith, h.claimed);
}

-- Short exchanges

-- the tags stay apart where the short exchanges have none of a task's tag
apart_shorts : (shorts more : List Short) (tasks : List Task) →
    ((t : Task) → list_any (is_short_of t.tag) shorts ≡ false →
    list_any (is_short_of t.tag) more ≡ false) → AreApart shorts tasks → AreApart more tasks
apart_shorts shorts more tasks keeps h = each_weaker (λ (t : Task). list_any (is_short_of t.tag) shorts ≡ false)
    (λ (t : Task). list_any (is_short_of t.tag) more ≡ false) keeps tasks h

shorts_apart_more : (shorts : List Short) (tasks : List Task) (x : Short) → list_any (is_task_of x.tag) tasks ≡ false →
    AreApart shorts tasks → AreApart (shorts ++ x ∷ []) tasks
shorts_apart_more shorts [] x new h = tt
shorts_apart_more shorts (t ∷ ts) x new h =
    let both = or_parts (is_task_of x.tag t) (list_any (is_task_of x.tag) ts) new in (
      any_push (is_short_of t.tag) shorts x h.0 (other_way t.tag x.tag both.0),
      shorts_apart_more shorts ts x both.1 h.1,
    )

pub short_opened : {n : Numbers} {a : ℕ} {m : Bool} {c : ℕ} {tasks : List Task} {shorts : List Short} {x : Short} →
    list_any (is_task_of x.tag) tasks ≡ false → list_any (is_short_of x.tag) shorts ≡ false → ShortFits a m x →
    TasksRight n a m c tasks shorts → TasksRight n a m c tasks (shorts ++ x ∷ [])
short_opened {a = a} {m = m} {tasks = tasks} {shorts = shorts} {x = x} no_task no_short new h = assumption (
  each_push (ShortFits a m) shorts x h.waits new,
  differ_push short_tag shorts x no_short h.shorts_differ,
  shorts_apart_more shorts tasks x no_task h.apart,
)

pub shorts_fewer : {n : Numbers} {a : ℕ} {m : Bool} {c : ℕ} (q : Short → Bool) {tasks : List Task}
    {shorts : List Short} → TasksRight n a m c tasks shorts → TasksRight n a m c tasks (filter q shorts)
shorts_fewer {n} {a} {m} {c} q {tasks} {shorts} h = assumption (
  each_filter (ShortFits a m) q shorts h.waits,
  differ_filter short_tag q shorts h.shorts_differ,
  apart_shorts shorts (filter q shorts) tasks (λ t k. any_fewer (is_short_of t.tag) q shorts k) h.apart,
)

-- a change of each short exchange that keeps what fits
pub record KeepsShorts (a : ℕ) (m : Bool) (f : Short → Short) : Type 0 where
  pub tag : (x : Short) → (f x).tag ≡ x.tag
  pub fits : (x : Short) → ShortFits a m x → ShortFits a m (f x)

pub shorts_kept : {n : Numbers} {a : ℕ} {m : Bool} {c : ℕ} {f : Short → Short} {tasks : List Task}
    {shorts : List Short} → KeepsShorts a m f → TasksRight n a m c tasks shorts →
    TasksRight n a m c tasks (map f shorts)
shorts_kept {a = a} {m = m} {f = f} {tasks = tasks} {shorts = shorts} k h = assumption (
  each_map (ShortFits a m) f k.fits shorts h.waits,
  differ_map short_tag f k.tag shorts h.shorts_differ,
  apart_shorts shorts (map f shorts) tasks
      (λ t e. any_map (is_short_of t.tag) (is_short_of t.tag) f (λ x. λ i. k.tag x i == t.tag) shorts ∙ e) h.apart,
)

-- What is found by its tag

-- a task stands under its own tag
pub found_task : (tasks : List Task) (k : ℕ) (t : Task) → TasksDiffer tasks → slice_get tasks k ≡ Some t →
    task_of t.tag tasks ≡ Some t
found_task = found_at tag_of

pub found_short : (shorts : List Short) (k : ℕ) (x : Short) → ShortsDiffer shorts → slice_get shorts k ≡ Some x →
    find (is_short_of x.tag) shorts ≡ Some x
found_short = found_at short_tag

claim_found : (n : Numbers) (tag : ℕ) (tasks : List Task) (t : Task) → task_of tag tasks ≡ Some t →
    claim_of n t ≤ claims_of n tasks
claim_found n tag [] t e = cc
claim_found n tag (x ∷ xs) t e = by (is_task_of tag x) e (claim_found n tag xs t)
  where
    by : (b : Bool) → cond b (Some x) (task_of tag xs) ≡ Some t → (task_of tag xs ≡ Some t →
        claim_of n t ≤ claims_of n xs) → claim_of n t ≤ claims_of n (x ∷ xs)
    by true k rest = let same = ap (claim_of n) (same_Some x t k) in omega arith
    by false k rest = let l = rest k in omega arith

-- what is found has the tag, and fits
pub found_fits : (n : Numbers) (a : ℕ) (m : Bool) (tag : ℕ) (tasks : List Task) (t : Task) → DeedsFit n a m tasks →
    task_of tag tasks ≡ Some t →
    DeedFits n a m (claim_of n t) t.length t.deed × (t.tag ≡ tag) × (claim_of n t ≤ claims_of n tasks)
found_fits n a m tag tasks t h e = (
  each_found (λ (x : Task). DeedFits n a m (claim_of n x) x.length x.deed) (is_task_of tag) tasks t h e,
  eqb-true t.tag tag (found_is (is_task_of tag) tasks t e),
  claim_found n tag tasks t e,
)

-- no task has the tag of a short exchange
pub no_task_found : (shorts : List Short) (tasks : List Task) (k : ℕ) (x : Short) → AreApart shorts tasks →
    slice_get shorts k ≡ Some x → task_of x.tag tasks ≡ None
no_task_found shorts tasks k x apart e = none_of_tag (is_task_of x.tag) tasks
    (each_weaker (λ (t : Task). list_any (is_short_of t.tag) shorts ≡ false) (λ (t : Task). is_task_of x.tag t ≡ false)
    (λ t none. other_way x.tag t.tag (any_none (is_short_of t.tag) shorts k x none e)) tasks apart)

pub short_fits_at : {a : ℕ} {m : Bool} (shorts : List Short) (k : ℕ) (x : Short) → ShortsFit a m shorts →
    slice_get shorts k ≡ Some x → ShortFits a m x
short_fits_at {a} {m} = each_at (ShortFits a m)
