-- All tasks that are meant are aborted, one after another.
use Rattle.device.proofs.Common.{Bool, Claims, Core, DeedFits, DeedsFit, Describes, DeviceCore, Frames, HasLetGo}
use Rattle.device.proofs.Common.{IsBehind, IsLayerWith, List, Meant, None, Option, Registers, Some, State, Task}
use Rattle.device.proofs.Common.{TasksDiffer, Translation, [], ap, before_accepted, claim_of, claims_of, false, filter}
use Rattle.device.proofs.Common.{flat_map, if◌then◌else◌, is_mended, is_task_meant, is_task_of, length, list_any, means}
use Rattle.device.proofs.Common.{not, numbers_of, position, refl, sends_frames_to, subst, sym, task_at, true}
use Rattle.device.proofs.Common.{with_moves, ℕ, ◌||◌, ◌∙◌, ◌∷◌, ◌≡◌}
use Rattle.ufs_spec.specs.Exchanges as exchange
use Rattle.ufs_spec.specs.Exchanges.{empty_registers}
use Rattle.ufs_spec.specs.Machine.{abort_moves, registers_after, without_tasks}
use Rattle.power_loss.proofs.open_tasks.TaggedLists.{differ_filter, each_at, each_filter}
use Rattle.device.specs.Manages.{aborted_at}
use Rattle.device.proofs.described.Answered.{stays}
use Rattle.device.proofs.managed.ClaimsGivenBack.{claim_counted}
use Rattle.device.proofs.managed.FirstMeant.{FirstMeant, first_meant, none_goes, none_meant}
use Rattle.device.proofs.managed.OneAborted.{behind_without, core_without, without_one}
use Rattle.device.proofs.open_tasks.OpenTasks.{stands_there}

-- where no task is aborted nothing changes
pub nobody_goes : (s : State) (is : exchange.Task → Bool) → list_any is s.tasks ≡ false → without_tasks s is ≡ s
nobody_goes s is none =
    let both = none_goes is s.tasks none in
    λ i. record (with_moves s (flat_map (abort_moves (numbers_of s)) (both.0 i))) {
      tasks = both.1 i;
      registers = registers_after (both.0 i) s.registers;
    }

-- nothing but the layer, the registers and the tasks changes
pub rest_stays : (old d new : DeviceCore) (k : ℕ) (f : Frames) (region : ℕ) →
    d ≡ record old { ftl = d.ftl; rpmb = d.rpmb; tasks = d.tasks } →
    new ≡ record (aborted_at d k f region) { ftl = new.ftl } →
    new ≡ record old { ftl = new.ftl; rpmb = new.rpmb; tasks = new.tasks }
rest_stays old d new k f region was is i = record {
  ftl = new.ftl;
  boot = (ap (λ (x : DeviceCore). x.boot) is ∙ ap (λ (x : DeviceCore). x.boot) was) i;
  is_permanent = (ap (λ (x : DeviceCore). x.is_permanent) is ∙ ap (λ (x : DeviceCore). x.is_permanent) was) i;
  volatile = (ap (λ (x : DeviceCore). x.volatile) is ∙ ap (λ (x : DeviceCore). x.volatile) was) i;
  rpmb = new.rpmb;
  tasks = new.tasks;
  shorts = (ap (λ (x : DeviceCore). x.shorts) is ∙ ap (λ (x : DeviceCore). x.shorts) was) i;
}

-- where none is found
pub not_found : (o : Option ℕ) → ((k : ℕ) → o ≡ Some k → ⊥) → o ≡ None
not_found None none = refl
not_found (Some k) none = absurd (none k refl)

-- on the way: what is kept is kept of a state whose tasks fit and differ, and of which the tasks that are still meant
-- are to go
pub record IsOnTheWay (d : DeviceCore) (s : State) (is : exchange.Task → Bool) : Type 0 where
  pub t : State
  pub behind : IsBehind d t
  pub accepted : ℕ
  pub mended : Bool
  pub fit : DeedsFit (numbers_of t) accepted mended t.tasks
  pub differ : TasksDiffer t.tasks
  pub rest : without_tasks t is ≡ without_tasks s is

pub begins : (d : DeviceCore) (s : State) (is : exchange.Task → Bool) → Describes d s → IsOnTheWay d s is
begins d s is h = record {
  t = s;
  behind = stays d s h;
  accepted = length s.accepted;
  mended = is_mended s.translation.work.mending;
  fit = h.tied.tasks.deeds;
  differ = h.tied.tasks.tasks_differ;
  rest = refl;
}

-- the first of those that go
sends_first : (region : ℕ) (b : exchange.Task) (us : List exchange.Task) (registers : ℕ → Registers) →
    registers_after us (registers_after (b ∷ []) registers) region ≡ registers_after (b ∷ us) registers region
sends_first region b us registers =
    by (sends_frames_to region b.command)
    (list_any (λ (task : exchange.Task). sends_frames_to region task.command) us)
  where
    by : (first others : Bool) →
        (if others then empty_registers else if first || false then empty_registers else registers region)
        ≡ (if first || others then empty_registers else registers region)
    by true true = refl
    by true false = refl
    by false true = refl
    by false false = refl

pub without_first : (t : State) (is : exchange.Task → Bool) (b : exchange.Task) →
    filter is t.tasks ≡ b ∷ filter is (exchange.without_task b.tag t.tasks) →
    filter (λ x. not (is x)) t.tasks ≡ filter (λ x. not (is x)) (exchange.without_task b.tag t.tasks) →
    without_tasks (without_one b t) is ≡ without_tasks t is
without_first t is b goes stay =
    (λ i. record (with_moves (without_one b t) (flat_map (abort_moves (numbers_of t)) left)) {
      tasks = filter (λ x. not (is x)) (exchange.without_task b.tag t.tasks);
      registers = λ region. sends_first region b left t.registers i;
    })
    ∙ (λ i. record (with_moves t (flat_map (abort_moves (numbers_of t)) (sym goes i))) {
      tasks = sym stay i;
      registers = registers_after (sym goes i) t.registers;
    })
  where
    left : List exchange.Task
    left = filter is (exchange.without_task b.tag t.tasks)

-- one task more is aborted, the first that is meant
module _ (d : DeviceCore) (s : State) (who : Meant) (k : ℕ) (task : Task) (after : Core)
    (h : IsOnTheWay d s (means who)) (found : position (is_task_meant who) d.tasks ≡ Some k)
    (there : task_at d.tasks k ≡ Some task)
    (let_go : (t : Translation) (claims : Claims) → IsLayerWith d.ftl t claims → HasLetGo after t claims task.tag) where
  abbrev t : State
  t = h.t

  first : FirstMeant who (before_accepted t.translation.ledger) k d.tasks t.tasks
  first =
      first_meant who (before_accepted t.translation.ledger) k d.tasks t.tasks h.behind.keeps.tasks h.differ found

  one_goes : (f : FirstMeant who (before_accepted t.translation.ledger) k d.tasks t.tasks) →
      IsOnTheWay (core_without d k f.a after) s (means who)
  one_goes f = record {
    t = without_one f.b t;
    behind =
        behind_without d t k f.a f.b h.behind h.differ f.opened
        (claim_counted (numbers_of t) h.accepted h.mended f.b
        (each_at (λ (x : exchange.Task). DeedFits (numbers_of t) h.accepted h.mended (claim_of (numbers_of t) x)
        x.length x.deed) t.tasks k f.b h.fit f.opened.theirs))
        after
        (subst (HasLetGo after t.translation (claims_of (numbers_of t) t.tasks))
        (ap (λ (x : Task). x.tag) (stands_there d.tasks k task f.a there f.opened.ours).0)
        (let_go t.translation (claims_of (numbers_of t) t.tasks) (h.behind.keeps.layer_kept, h.behind.keeps.claims)));
    accepted = h.accepted;
    mended = h.mended;
    fit =
        each_filter (λ (x : exchange.Task). DeedFits (numbers_of t) h.accepted h.mended (claim_of (numbers_of t) x)
        x.length x.deed) (λ x. not (is_task_of f.b.tag x)) t.tasks h.fit;
    differ = differ_filter (λ (x : exchange.Task). x.tag) (λ x. not (is_task_of f.b.tag x)) t.tasks h.differ;
    rest = without_first t (means who) f.b f.goes f.stay ∙ h.rest;
  }

  pub goes_on : IsOnTheWay (record (aborted_at d k task.frames task.region) { ftl = after }) s (means who)
  goes_on =
      subst
      (λ (x : Task). IsOnTheWay (record (aborted_at d k x.frames x.region) { ftl = after }) s (means who))
      (sym (stands_there d.tasks k task first.a there first.opened.ours).0)
      (one_goes first)

-- none is meant any more
pub all_gone : (d : DeviceCore) (s : State) (who : Meant) → IsOnTheWay d s (means who) →
    position (is_task_meant who) d.tasks ≡ None → IsBehind d (without_tasks s (means who))
all_gone d s who h none =
    subst (IsBehind d)
    (sym (nobody_goes h.t (means who)
    (none_meant who (before_accepted h.t.translation.ledger) d.tasks h.t.tasks h.behind.keeps.tasks none))
    ∙ h.rest)
    h.behind
