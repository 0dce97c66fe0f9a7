-- What a call leaves of the tasks and the short exchanges that are open: a message adds some; data and replies change
-- or close
-- those of their tag alone.
use Rattle.ufs_spec.specs.Exchanges.{Comparing}
use Rattle.ufs_spec.specs.Exchanges.{ReadBlock}
use Rattle.ufs_spec.specs.DataOuts.{block_compared}
use Rattle.ufs_spec.specs.Rpmb.{same_bytes}
use Rattle.std.specs.Prelude.{slice_get}
use Rattle.ufs_spec.specs.Exchanges.{to_gather}
use Rattle.power_loss.proofs.Common.{◌≡◌, ℕ, ◌==◌, Bool, true, false, not, map, List, [], ◌∷◌, ◌++◌, length, Option}
use Rattle.power_loss.proofs.Common.{Some, None, refl, sym, ap, ◌∙◌, subst, nat_le, nat_lt, append-nil, false≢true}
use Rattle.power_loss.proofs.Common.{eqb-true, cond-false, if_both}
use Rattle.power_loss.proofs.MachineWords.{Cdb, Command, Deed, Gathering, Purpose, Request, RpmbRequest, Short, State}
use Rattle.power_loss.proofs.MachineWords.{Status, Task, TaskSetFull, begun, begun_if_any, command_taken, complete}
use Rattle.power_loss.proofs.MachineWords.{data_for, data_heard, deed_after, is_task_of, most_tasks, moves_after}
use Rattle.power_loss.proofs.MachineWords.{refusal, refused_or_begun, response, set_deed, short_reply, task_goes_on}
use Rattle.power_loss.proofs.MachineWords.{task_of, task_replied, with_deed, with_moves, with_request, with_short}
use Rattle.power_loss.proofs.MachineWords.{without_task}
use Rattle.std.specs.Prelude.{if◌then◌else◌, ◌&&◌}
use Rattle.ufs_spec.specs.Queries.{Query, setting_of}
use Rattle.ufs_spec.specs.QueryAnswers.{query_heard, query_passed}
use Rattle.ufs_laws.proofs.walk.Happenings.{code_of_query}
use Rattle.ufs_laws.proofs.walk.WaysOfCommands.{Beginning, Handing, WhyBegun, begins_by, begun_as}
use Rattle.ufs_laws.proofs.walk.WaysOfData.{Accepted, AcceptsFrames, Completion, HasResult, ReadsArea, Told}
use Rattle.ufs_laws.proofs.walk.WaysOfData.{WhyCompleted, completed, completes_by}
use Rattle.power_loss.proofs.open_tasks.TaskLists.{SameTag, at_tag, changed_tag}
use Rattle.power_loss.proofs.open_tasks.FoundInLists.{found_is, found_left, found_map}

-- Tasks and short exchanges are added

pub record Adds (s t : State) : Type 0 where
  pub tasks : List Task
  pub tasks_are : t.tasks ≡ s.tasks ++ tasks
  pub shorts : List Short
  pub shorts_are : t.shorts ≡ s.shorts ++ shorts

-- tasks alone are added
pub record AddsTasks (s t : State) : Type 0 where
  pub tasks : List Task
  pub tasks_are : t.tasks ≡ s.tasks ++ tasks
  pub shorts_same : t.shorts ≡ s.shorts

one_task : {s t : State} (x : Task) → t.tasks ≡ s.tasks ++ x ∷ [] → t.shorts ≡ s.shorts → AddsTasks s t
one_task x e f = record { tasks = x ∷ []; tasks_are = e; shorts_same = f }

begun_adds : {s : State} (r : Request) (unit : ℕ) (c : Cdb) → AddsTasks s (begun s r unit c)
begun_adds {s} r unit c = begins_by (AddsTasks s) s r unit c one
  where
    one : (b : Beginning) → WhyBegun s r unit c b → AddsTasks s (begun_as s r c b)
    one (Handing region n) why = one_task _ refl refl
    one b why = one_task _ refl refl

begins_adds : {s : State} (r : Request) (c : Option Cdb) → AddsTasks s (begun_if_any s r c)
begins_adds {s} r None = record { tasks = []; tasks_are = sym (append-nil s.tasks); shorts_same = refl }
begins_adds {s} r (Some c) = begun_adds r _ c

pub opened_adds : {s : State} (r : Request) (refused : Option Status) → AddsTasks s (refused_or_begun s r refused)
opened_adds r (Some status) = one_task _ refl refl
opened_adds {s} r None = begins_adds r r.cdb

pub adds_short : {s : State} (x : Short) → Adds s (with_short s x)
adds_short {s} x = record { tasks = []; tasks_are = sym (append-nil s.tasks); shorts = x ∷ []; shorts_are = refl }

adds_short_to : {s u : State} (x : Short) → u.tasks ≡ s.tasks → u.shorts ≡ s.shorts → Adds s (with_short u x)
adds_short_to {s} x e f = record {
  tasks = [];
  tasks_are = e ∙ sym (append-nil s.tasks);
  shorts = x ∷ [];
  shorts_are = ap (λ (xs : List Short). xs ++ x ∷ []) f;
}

-- a query opens a short exchange
pub query_adds : {s : State} (tag : ℕ) (q : Query) → Adds s (query_heard s tag q)
query_adds {s} tag q = if_both (Adds s) ((code_of_query s q == 0x00) && not (q.asked.opcode == 0))
    (passed (setting_of q)) (adds_short _)
  where
    passed : (o : Option Command) → Adds s (query_passed s tag q o)
    passed None = adds_short_to _ refl refl
    passed (Some c) = adds_short_to _ refl refl

pub command_adds : {s : State} (r : Request) → Adds s (command_taken s r)
command_adds {s} r = by (nat_le most_tasks (length s.tasks))
  where
    by : (b : Bool) → Adds s (if b then with_short s (short_reply r.tag (response r.lun r.tag r.expected 0 TaskSetFull))
        else refused_or_begun s r (refusal s r))
    by true = adds_short _
    by false =
        let more = opened_adds r (refusal s r) in
        record {
          tasks = more.tasks;
          tasks_are = more.tasks_are;
          shorts = [];
          shorts_are = more.shorts_same ∙ sym (append-nil s.shorts);
        }

-- One task is touched, and no short exchange

pub record LeavesOthers (tag : ℕ) (s t : State) : Type 0 where
  pub others : (other : ℕ) (task : Task) → (tag == other) ≡ false → task_of other s.tasks ≡ Some task →
      task_of other t.tasks ≡ Some task
  pub shorts : t.shorts ≡ s.shorts

pub leaves_all : {tag : ℕ} {s : State} → LeavesOthers tag s s
leaves_all = record { others = λ other task apart h. h; shorts = refl }

leaves_if : {tag : ℕ} {s t u : State} (b : Bool) → LeavesOthers tag s t → LeavesOthers tag s u →
    LeavesOthers tag s (if b then t else u)
leaves_if true h k = h
leaves_if {tag} false h k = k

-- a task of one tag has no other
pub is_other : (task : Task) (tag other : ℕ) → (tag == other) ≡ false → is_task_of other task ≡ true →
    is_task_of tag task ≡ false
is_other task tag other apart h = by (is_task_of tag task) refl
  where
    by : (b : Bool) → is_task_of tag task ≡ b → b ≡ false
    by true e = absurd (false≢true (sym apart ∙ ap (λ (n : ℕ). n == other) (sym (eqb-true task.tag tag e)) ∙ h))
    by false e = refl

-- the task of the tag becomes another one of the tag
leaves_changed : {tag : ℕ} {s u : State} (f : Task → Task) → SameTag f → u.tasks ≡ map (at_tag tag f) s.tasks →
    u.shorts ≡ s.shorts → LeavesOthers tag s u
leaves_changed {tag} {s} {u} f same e shorts = record { others = others; shorts = shorts }
  where
    others : (other : ℕ) (task : Task) → (tag == other) ≡ false → task_of other s.tasks ≡ Some task →
        task_of other u.tasks ≡ Some task
    others other task apart h =
        let found = found_map (is_task_of other) (at_tag tag f)
        (λ x. ap (λ (n : ℕ). n == other) (changed_tag tag f same x)) s.tasks task h in
        let is = found_is (is_task_of other) s.tasks task h in
        ap (task_of other) e ∙ (found ∙ ap Some (cond-false (is_task_of tag task) (f task) task
        (is_other task tag other apart is)))

pub leaves_set : {tag : ℕ} {s : State} (u : State) (deed : Deed) → u.tasks ≡ s.tasks → u.shorts ≡ s.shorts →
    LeavesOthers tag s (set_deed u tag deed)
leaves_set {tag} u deed e f =
    leaves_changed (λ x. record x { deed = deed }) (λ x. refl) (ap (map (with_deed tag deed)) e) f

leaves_request : {tag : ℕ} {s u : State} (request : RpmbRequest) (deed : Deed) →
    u.tasks ≡ map (with_request tag request deed) s.tasks → u.shorts ≡ s.shorts → LeavesOthers tag s u
leaves_request request deed =
    leaves_changed (λ x. record x { deed = deed; request = Some request }) (λ x. refl)

pub leaves_without : {tag : ℕ} {s u : State} → u.tasks ≡ without_task tag s.tasks → u.shorts ≡ s.shorts →
    LeavesOthers tag s u
leaves_without {tag} {s} e f = record {
  others = λ other task apart h. ap (task_of other) e ∙ found_left (is_task_of other) (λ x. not (is_task_of tag x))
      (λ x is. ap not (is_other x tag other apart is)) s.tasks task h;
  shorts = f;
}

-- Data

complete_leaves : {s : State} (task : Task) (purpose : Purpose) (bytes : List ℕ) →
    LeavesOthers task.tag s (complete s task purpose bytes)
complete_leaves {s} task purpose bytes = completes_by (LeavesOthers task.tag s) s task purpose bytes one
  where
    one : (k : Completion) → WhyCompleted s task purpose bytes k → LeavesOthers task.tag s (completed s task k)
    one (Told status released) why = leaves_set _ _ refl refl
    one (Accepted c claimed deed) why = leaves_set _ _ refl refl
    one (HasResult region frames result) why = leaves_request _ _ refl refl
    one (ReadsArea region f fs result) why = leaves_request _ _ refl refl
    one (AcceptsFrames region frames result c) why = leaves_request _ _ refl refl

compared_leaves : {s : State} (task : Task) (blocks : List ReadBlock) (compared : ℕ) (o : Option ReadBlock)
    (bytes : List ℕ) → LeavesOthers task.tag s (block_compared s task blocks compared o bytes)
compared_leaves task blocks compared None bytes = leaves_all
compared_leaves task blocks compared (Some block) bytes =
    leaves_if (same_bytes bytes block.body) (leaves_set _ _ refl refl) (leaves_set _ _ refl refl)

data_for_leaves : {s : State} (task : Task) (deed : Deed) (bytes : List ℕ) →
    LeavesOthers task.tag s (data_for s task deed bytes)
data_for_leaves {s} task (Gathering purpose gathered asked) bytes =
    leaves_if (nat_lt (length (gathered ++ bytes)) (to_gather purpose task.length)) (leaves_set s _ refl refl)
    (complete_leaves task purpose (gathered ++ bytes))
data_for_leaves {s} task (Comparing blocks compared asked) bytes =
    compared_leaves task blocks compared (slice_get blocks compared) bytes
data_for_leaves {s} task deed bytes = leaves_all

pub data_leaves : {s : State} {tag : ℕ} (x : Option Task) (bytes : List ℕ) → task_of tag s.tasks ≡ x →
    LeavesOthers tag s (data_heard s x bytes)
data_leaves {s} {tag} None bytes e = leaves_all
data_leaves {s} {tag} (Some task) bytes e = subst (λ (n : ℕ). LeavesOthers n s (data_for s task task.deed bytes))
    (eqb-true task.tag tag (found_is (is_task_of tag) s.tasks task e)) (data_for_leaves task task.deed bytes)

-- Replies

behind_leaves : {s : State} (task : Task) (moves : State) (deed : Option Deed) → moves.tasks ≡ s.tasks →
    moves.shorts ≡ s.shorts → LeavesOthers task.tag s (task_goes_on moves task deed)
behind_leaves {s} task moves (Some deed) e f = leaves_set moves deed e f
behind_leaves {s} task moves None e f = leaves_without (ap (without_task task.tag) e) f

pub replied_leaves : {s : State} (task : Task) → LeavesOthers task.tag s (task_replied s task)
replied_leaves {s} task = behind_leaves task (with_moves s (moves_after task task.deed)) (deed_after task task.deed)
    refl refl
