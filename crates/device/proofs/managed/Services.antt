-- What a task management function comes to is what is specified: its service response, and which tasks go.
use Rattle.device.proofs.Common.{Bool, DeviceCore, List, Meant, State, TasksKept, [], ap, before_accepted, false}
use Rattle.device.proofs.Common.{if◌then◌else◌, is_task_meant, list_any, lun_of, means, not, numbers_of, refl, sym}
use Rattle.device.proofs.Common.{true, ℕ, ◌==◌, ◌||◌, ◌∙◌, ◌∷◌, ◌≡◌}
use Rattle.std.specs.Prelude.{is_none, ◌&&◌}
use Rattle.std.proofs.Math.Bool.{and-true}
use Rattle.ufs_spec.specs.Exchanges as exchange
use Rattle.ufs_spec.specs.Machine.{is_named, managed, service, service_found, without_tasks}
use Rattle.ufs_spec.specs.Management.{volatile_managed}
use Rattle.ufs_spec.specs.Messages.{is_among}
use Rattle.device.specs.Manages.{all_tasks, carried, function_on, one_task, service_by}
use Rattle.device.specs.declared.management.Managing.{Managing}
use Rattle.device.specs.declared.management.Managing.TheVariants as managing
use Rattle.device.proofs.host_messages.AskedData.{other_side}
use Rattle.device.proofs.managed.AllAborted.{nobody_goes}
use Rattle.device.proofs.managed.FirstMeant.{any_meant}

-- Who is meant

one_meant : (lun tag : ℕ) (x : exchange.Task) → is_named lun tag x ≡ means (one_task lun tag) x
one_meant lun tag x i = other_side x.lun lun i && other_side x.tag tag i

all_meant : (lun : ℕ) (x : exchange.Task) → (x.lun == lun) ≡ means (all_tasks lun) x
all_meant lun x = other_side x.lun lun ∙ sym (and-true (lun == x.lun))

any_same : (p q : exchange.Task → Bool) → ((x : exchange.Task) → p x ≡ q x) → (us : List exchange.Task) →
    list_any p us ≡ list_any q us
any_same p q same us i = list_any (λ x. same x i) us

-- where no function aborts, no task is
none_aborted : (p : exchange.Task → Bool) (us : List exchange.Task) → list_any (λ x. false && p x) us ≡ false
none_aborted p [] = refl
none_aborted p (x ∷ us) = none_aborted p us

-- What it comes to, by the tests of the function

abbrev code_by : (unit one more asks asks_all : Bool) → (x y : Bool) → ℕ
code_by unit one more asks asks_all x y =
    if unit then 0x09
    else if one || more then 0x00
    else if asks then service_found x
    else if asks_all then service_found y
    else 0x04

abbrev comes_to : (unit one more asks asks_all : Bool) → Meant → Meant → Managing
comes_to unit one more asks asks_all this all =
    if unit then managing.NoUnit
    else if one then managing.Aborts this
    else if more then managing.Aborts all
    else if asks then managing.Asks this
    else if asks_all then managing.Asks all
    else managing.NotSupported

module _ (d : DeviceCore) (s : State) (lun function meant : ℕ)
    (kept : TasksKept (before_accepted s.translation.ledger) d.tasks s.tasks) where
  abbrev unit : Bool
  unit = is_none (lun_of (numbers_of s) lun)

  abbrev more : Bool
  more = is_among (0x02 ∷ 0x04 ∷ 0x08 ∷ []) function

  abbrev this : Meant
  this = one_task lun meant

  abbrev all : Meant
  all = all_tasks lun

  -- the service response
  pub service_same : service s lun function meant ≡ service_by d (function_on (numbers_of s) lun function meant)
  service_same =
      (λ i. code_by unit (function == 0x01) more (function == 0x80) (function == 0x81) (one i) (each i))
      ∙ by unit (function == 0x01) more (function == 0x80) (function == 0x81)
    where
      one : list_any (is_named lun meant) s.tasks ≡ list_any (is_task_meant this) d.tasks
      one =
          any_same (is_named lun meant) (means this) (one_meant lun meant) s.tasks
          ∙ any_meant this (before_accepted s.translation.ledger) d.tasks s.tasks kept

      each : list_any (λ (x : exchange.Task). x.lun == lun) s.tasks ≡ list_any (is_task_meant all) d.tasks
      each =
          any_same (λ (x : exchange.Task). x.lun == lun) (means all) (all_meant lun) s.tasks
          ∙ any_meant all (before_accepted s.translation.ledger) d.tasks s.tasks kept

      by : (u o m a b : Bool) →
          code_by u o m a b (list_any (is_task_meant this) d.tasks) (list_any (is_task_meant all) d.tasks)
          ≡ service_by d (comes_to u o m a b this all)
      by true o m a b = refl
      by false true m a b = refl
      by false false true a b = refl
      by false false false true b = refl
      by false false false false true = refl
      by false false false false false = refl

  -- what it makes of the state
  abbrev aborted_by : (aborts one : Bool) → exchange.Task → Bool
  aborted_by aborts one x = aborts && (x.lun == lun) && (not one || (x.tag == meant))

  -- the state once the LUN has an attention, if it is a reset
  abbrev t : State
  t = record s { volatile = volatile_managed s lun function }

  abbrev made_by : (unit one more asks asks_all : Bool) → (x y : Bool) → State
  made_by u o m a b x y =
      if code_by u o m a b x y == 0x00 then without_tasks t (aborted_by (o || m) o) else t

  nothing : (p : exchange.Task → Bool) (found : Bool) →
      (if service_found found == 0x00 then without_tasks t (λ x. false && p x) else t) ≡ t
  nothing p true = refl
  nothing p false = nobody_goes t (λ x. false && p x) (none_aborted p s.tasks)

  pub managed_same : managed s lun function meant ≡ carried t (function_on (numbers_of s) lun function meant)
  managed_same =
      by unit (function == 0x01) more (function == 0x80) (function == 0x81)
      (list_any (is_named lun meant) s.tasks) (list_any (λ (x : exchange.Task). x.lun == lun) s.tasks)
    where
      by : (u o m a b x y : Bool) → made_by u o m a b x y ≡ carried t (comes_to u o m a b this all)
      by true o m a b x y = refl
      by false true m a b x y = ap (without_tasks t) (λ i z. one_meant lun meant z i)
      by false false true a b x y = ap (without_tasks t) (λ i z. (and-true (z.lun == lun) ∙ all_meant lun z) i)
      by false false false true b x y = nothing (λ z. (z.lun == lun) && (not false || (z.tag == meant))) x
      by false false false false true x y = nothing (λ z. (z.lun == lun) && (not false || (z.tag == meant))) y
      by false false false false false x y = refl

-- what aborts nothing makes nothing of it
pub none_carried : (s : State) (m : Managing) → ((aborted : Meant) → m ≡ managing.Aborts aborted → ⊥) → carried s m ≡ s
none_carried s (managing.Aborts aborted) none = absurd (none aborted refl)
none_carried s (managing.Asks asked) none = refl
none_carried s managing.NotSupported none = refl
none_carried s managing.NoUnit none = refl
