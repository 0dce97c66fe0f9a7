-- What the checks read of a state beside its layer.
use Rattle.std.specs.Prelude.{◌≡◌, ℕ}
use Rattle.std.specs.List.{list_any}
use Rattle.ufs_spec.specs.Exchanges.{Task}
use Rattle.ufs_spec.specs.Refusals.{State, plain_now, sends_frames}
use Rattle.rpmb.specs.Kept.{machine_at}
use Rattle.task_set.specs.Tasks.{is_sender}
use Rattle.device.specs.Kept.{DeviceCore}

-- the settings and flags that are kept are those of the state, durable or not; so are the registers of each
-- RPMB region, and whether an open task brings frames
pub record IsBare (s : State) (d : DeviceCore) : Type 0 where
  pub boot_is : d.boot ≡ (plain_now s).boot
  pub permanent_is : d.is_permanent ≡ (plain_now s).permanent
  pub volatile_is : d.volatile ≡ s.volatile
  pub registers_are : (region : ℕ) → s.registers region ≡ (machine_at d.rpmb region).registers
  pub senders_are : list_any (λ (task : Task). sends_frames task.command) s.tasks ≡ list_any is_sender d.tasks
