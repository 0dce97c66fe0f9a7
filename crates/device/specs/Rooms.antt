-- How the fields of the device and of the world are seen, and what a world keeps.
use Rattle.std.specs.Prelude.{◌≡◌, length}
use Rattle.ufs_spec.specs.Lives.{Fit}
use Rattle.device.specs.declared.device.Device.TheInside.{Inside}
use Rattle.device.specs.declared.world.World.TheInside.{Inside as World}
use Rattle.device.specs.Kept.{DeviceCore, WorldState}

-- what contracts see of a device: its layer, its RPMB machines, and the two lists of its set of tasks
abbrev pub core_of : Inside → DeviceCore
core_of d = record {
  ftl = d.ftl;
  boot = d.boot;
  is_permanent = d.is_permanent;
  volatile = d.volatile;
  rpmb = d.rpmb;
  tasks = d.set.tasks;
  shorts = d.set.shorts;
}

-- what contracts see of a world: the lists of its dies and of their jobs in flight, and the rest as it is
abbrev pub world_of : World → WorldState
world_of w = record {
  core = w.device.value;
  config = w.config;
  dies = w.dies.items;
  jobs = w.jobs.items;
  steps = w.steps;
  is_over = w.is_over;
}

-- each die has its place among the jobs, and the dies fit the configuration
pub record IsEven (w : World) : Type 0 where
  pub jobs : length w.jobs.items ≡ length w.dies.items
  pub fit : Fit w.config w.dies.items
