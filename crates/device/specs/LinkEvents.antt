-- What a LINK EVENT makes of what the device keeps, once its tasks are aborted.
use Rattle.std.specs.Prelude.{[], None, map, ℕ}
use Rattle.ufs_spec.specs.LinkEvents.{volatile_reset}
use Rattle.rpmb.specs.Kept.{forgotten}
use Rattle.task_set.specs.declared.tasks.Meant.{Meant}
use Rattle.device.specs.Kept.{DeviceCore}

-- all tasks of all LUNs
abbrev pub every_task : Meant
every_task = record { lun = None; tag = None }

-- no short exchange is open, all registers are empty, and what is volatile is reset
abbrev pub reset_core : DeviceCore → (kind : ℕ) → DeviceCore
reset_core d kind =
    record d {
      rpmb = map forgotten d.rpmb;
      shorts = [];
      volatile = volatile_reset kind d.volatile;
    }
