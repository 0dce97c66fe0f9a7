-- What the device keeps, as its contracts see it.
use Rattle.std.specs.Prelude.{ℕ, ◌*◌, Bool, List, [], ◌∷◌, Option}
use Rattle.ufs_spec.specs.declared.configs.Numbers.{Numbers}
use Rattle.ufs_spec.specs.declared.flash.Job.{Job}
use Rattle.ufs_spec.specs.Dies.{DieState}
use Rattle.ufs_spec.specs.Keys.{said_of}
use Rattle.ufs_spec.specs.Plain.{steps_of}
use Rattle.ufs_spec.specs.Translation.{Translation}
use Rattle.settings.specs.declared.page.Settings.{Settings}
use Rattle.ftl_core.specs.Public.{AreClaimed, Claims, Core, Describes}
use Rattle.rpmb.specs.Kept.{Machine, idle_machines}
use Rattle.rpmb.specs.declared.regions.RegionState.{RegionState}
use Rattle.task_set.specs.Kept.{OpenTask}
use Rattle.task_set.specs.declared.tasks.Short.{Short}
use Rattle.ufs_spec.specs.declared.volatile.TheConstants.Volatile.{NEW}
use Rattle.ufs_spec.specs.declared.volatile.Volatile.{Volatile}

-- what is kept of the layer describes it, and these blocks lie in the slots that tasks have claimed, by their tags
abbrev pub IsLayerWith : Core → Translation → Claims → Type 0
IsLayerWith c t claims = Describes c t × AreClaimed c claims

-- the translation layer, the boot setting, whether units are protected for ever or until the next power cycle, the
-- machines of the RPMB regions with their keys and counters, the open tasks with what lies in their blocks of the pool,
-- and the short exchanges
pub record DeviceCore : Type 0 where
  pub ftl : Core
  pub boot : ℕ
  pub is_permanent : Bool
  pub volatile : Volatile
  pub rpmb : List Machine
  pub tasks : List OpenTask
  pub shorts : List Short

-- what is kept of a region with the key and the counter of these settings and the area that these numbers give: 512
-- blocks of 256 bytes in each step of 128 KiB
abbrev pub region_kept : Settings → Numbers → ℕ → RegionState
region_kept settings n region = record {
  key = (said_of settings.regions region).key;
  counter = (said_of settings.regions region).counter;
  blocks = 512 * steps_of n region;
}

-- the same of each region
abbrev pub regions_kept : Settings → Numbers → List RegionState
regions_kept settings n =
    region_kept settings n 0 ∷ region_kept settings n 1 ∷ region_kept settings n 2 ∷ region_kept settings n 3 ∷ []

-- a device over this layer with these settings, regions of which this is kept, and no task open
abbrev pub idle_device : Core → Settings → List RegionState → DeviceCore
idle_device layer settings regions = record {
  ftl = layer;
  boot = settings.boot;
  is_permanent = settings.is_permanent;
  volatile = NEW;
  rpmb = idle_machines regions;
  tasks = [];
  shorts = [];
}

-- a device with its dies: its configuration, the job that each die has in flight, how many steps were made, and
-- whether one of them failed, which ends the world
pub record WorldState : Type 0 where
  pub core : DeviceCore
  pub config : Numbers
  pub dies : List DieState
  pub jobs : List (Option Job)
  pub steps : ℕ
  pub is_over : Bool
