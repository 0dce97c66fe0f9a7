-- What contracts see of a device that a C program holds.
use Rattle.std.specs.Prelude.{ℕ, Bool, List, Option, Some, None, slice_index_or, slice_set}
use Rattle.ufs_spec.specs.Dies.{DieState, new_die}
use Rattle.ufs_spec.specs.declared.configs.Numbers.{Numbers}
use Rattle.ufs_spec.specs.declared.flash.Job.{Job}
use Rattle.device.specs.Kept.{DeviceCore}
use Rattle.ufs_handle.specs.declared.held.Held.TheInside.{Inside}

-- the device, its configuration, the dies in memory (none where the program has dies of its own), the job that each
-- die has in flight, and whether the power is off: it went, and memory was refused to open the device again
pub record HeldState : Type 0 where
  pub core : DeviceCore
  pub config : Numbers
  pub dies : List DieState
  pub jobs : List (Option Job)
  pub is_off : Bool

abbrev pub held_of : Inside → HeldState
held_of h =
    record {
      core = h.device.value;
      config = h.config;
      dies = h.dies.items;
      jobs = h.jobs.items;
      is_off = h.is_off;
    }

-- the die in memory of this number; where there is none, a die without blocks
abbrev pub die_at : List DieState → ℕ → DieState
die_at dies die = slice_index_or dies die (new_die 0 0)

-- the job that the die has in flight
abbrev pub job_at : List (Option Job) → ℕ → Option Job
job_at jobs die = slice_index_or jobs die None

-- the jobs in flight once the die was given this one, or none
abbrev pub jobs_given : List (Option Job) → ℕ → Option Job → List (Option Job)
jobs_given jobs die None = jobs
jobs_given jobs die (Some job) = slice_set jobs die (Some job)
