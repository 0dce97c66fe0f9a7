-- Where one task becomes another, and the layer, key, counter, registers and accepted commands change with it, all is
-- kept of the state behind.
use Rattle.device.proofs.Common.{AreClaimed, Command, Core, Describes, DeviceCore, IsKept, IsLayerWith, Keeps, List}
use Rattle.device.proofs.Common.{Machine, OpenTask, Registers, Some, State, TaskKept, TasksKept, Translation, after}
use Rattle.device.proofs.Common.{before_accepted, claimed_in, claims_of, false, found_task, is_sender, length}
use Rattle.device.proofs.Common.{length-map, machine_at, map, most_tasks, numbers_of, plain_now, region_of, regions}
use Rattle.device.proofs.Common.{slice_set, subst, sym, task_of, wanted_by, wanted_kept, with_claimed, ℕ, ◌==◌, ◌∙◌}
use Rattle.device.proofs.Common.{◌≡◌, ◌≤◌}
use Rattle.ufs_spec.specs.Exchanges as exchange
use Rattle.device.proofs.described.OneSender.{one_set}
use Rattle.device.proofs.described.ShortExchanges.{same_shorts}
use Rattle.device.proofs.open_tasks.KeptByTag.{claims_changed, one_changes}
use Rattle.device.proofs.open_tasks.OpenTasks.{IsOpen, one_goes_over}
use Rattle.device.proofs.open_tasks.ReadProgress.{ChangesOne}

-- the state once one task becomes another by a change of the specified tasks
abbrev pub state_then : State → (exchange.Task → exchange.Task) → Translation → List Command → (ℕ → Registers) → State
state_then s f u cs registers =
    record s { translation = u; accepted = cs; tasks = map f s.tasks; registers = registers }

-- the device then
abbrev pub device_then : DeviceCore → ℕ → OpenTask → Core → List Machine → DeviceCore
device_then d k new layer m = record d { ftl = layer; rpmb = m; tasks = slice_set d.tasks k new }

-- the task and what changes with it is that of the state then
pub record Becomes (s : State) (a new : OpenTask) (b : exchange.Task) (f : exchange.Task → exchange.Task) (layer : Core)
    (m : List Machine) (u : Translation) (cs : List Command) (registers : ℕ → Registers) : Type 0 where
  pub changes : ChangesOne f b.tag
  pub boot : (after s.base cs).boot ≡ (plain_now s).boot
  pub permanent : (after s.base cs).permanent ≡ (plain_now s).permanent
  pub each : length m ≡ regions
  pub region : (number : ℕ) → IsKept (machine_at m number).region (region_of (after s.base cs) number)
  pub registers_are : (number : ℕ) → registers number ≡ (machine_at m number).registers
  pub layer_is : IsLayerWith layer u (with_claimed (claims_of (numbers_of s) s.tasks) b.tag (claimed_in (numbers_of s) (f b).length (f b).deed))
  pub numbers : u.numbers ≡ s.translation.numbers
  pub before : before_accepted u.ledger ≡ before_accepted s.translation.ledger
  pub task : TaskKept (before_accepted s.translation.ledger) new (f b)
  pub sends : is_sender new ≡ is_sender a
  pub wanted : (index : ℕ) → wanted_kept u.pins b.tag index ≡ wanted_by index (Some (f b))
  pub others_wanted : (n : ℕ) → (n == b.tag) ≡ false → (index : ℕ) →
      wanted_kept u.pins n index ≡ wanted_kept s.translation.pins n index

pub becomes_kept : (d : DeviceCore) (s : State) (k : ℕ) (a new : OpenTask) (b : exchange.Task)
    (f : exchange.Task → exchange.Task) (layer : Core) (m : List Machine) (u : Translation) (cs : List Command)
    (registers : ℕ → Registers) → Describes d s → IsOpen (before_accepted s.translation.ledger) k d.tasks s.tasks a b →
    Becomes s a new b f layer m u cs registers → Keeps (device_then d k new layer m) (state_then s f u cs registers)
becomes_kept d s k a new b f layer m u cs registers h o x = record {
  boot = h.kept.boot ∙ sym x.boot;
  permanent = h.kept.permanent ∙ sym x.permanent;
  each = x.each;
  region = x.region;
  registers = x.registers_are;
  layer_kept = x.layer_is.0;
  few = subst (λ n. n ≤ most_tasks) (sym (length-map s.tasks f)) h.kept.few;
  tasks =
      subst (λ n. TasksKept n (slice_set d.tasks k new) (map f s.tasks)) (sym x.before)
      (one_goes_over (before_accepted s.translation.ledger) k d.tasks s.tasks new b f x.changes.others h.kept.tasks
      h.tied.tasks.tasks_differ o.theirs x.task);
  one_sends = one_set k d.tasks a new o.ours x.sends h.kept.one_sends;
  wanted =
      one_changes s.translation.pins u.pins s.tasks f b.tag b h.kept.wanted x.changes found x.wanted x.others_wanted;
  claims =
      subst (λ n. AreClaimed layer (claims_of n (map f s.tasks))) (sym x.numbers)
      (subst (AreClaimed layer) (sym (claims_changed (numbers_of s) s.tasks f b.tag b x.changes found)) x.layer_is.1);
  shorts = same_shorts (numbers_of s) u.numbers (before_accepted s.translation.ledger) (before_accepted u.ledger)
      d.shorts s.shorts x.numbers x.before h.kept.shorts;
  volatile = h.kept.volatile;
}
  where
    found : task_of b.tag s.tasks ≡ Some b
    found = found_task s.tasks k b h.tied.tasks.tasks_differ o.theirs
