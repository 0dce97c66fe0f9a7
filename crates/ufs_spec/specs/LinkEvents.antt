-- What a reset of the link makes of a device (this profile): a LINK EVENT ends all that is open, as task management aborts
-- it, and each LUN has an attention after it (SAM, conditions resulting from SCSI events).
use Rattle.std.specs.Prelude.{[], not, ℕ, ◌&&◌, ◌==◌}
use Rattle.std.specs.List.{flat_map}
use Rattle.ufs_spec.specs.Changes.{with_moves}
use Rattle.ufs_spec.specs.Exchanges.{all_empty}
use Rattle.ufs_spec.specs.Management.{abort_moves}
use Rattle.ufs_spec.specs.Refusals.{State, numbers_of}
use Rattle.ufs_spec.specs.declared.volatile.TheConstants.Volatile.{NEW}
use Rattle.ufs_spec.specs.declared.volatile.Volatile.{Volatile}

-- what is volatile is as when a life begins, so that each LUN has an attention; but the frequency of the clock stays as it
-- is. The units that are protected until the next power cycle stay so, unless it was a hardware reset (01h), which stands
-- for one
abbrev pub volatile_reset : (kind : ℕ) → Volatile → Volatile
volatile_reset kind volatile =
    record NEW { power_on = volatile.power_on && not (kind == 0x01); clock = volatile.clock }

-- all tasks are aborted: what they had accepted stays accepted, and what they claimed is given back. Short exchanges are
-- gone without their replies, and all registers of the RPMB are empty. What was accepted, the dies and their jobs, and
-- the mending go on
abbrev pub link_reset : State → (kind : ℕ) → State
link_reset s kind =
    record (with_moves s (flat_map (abort_moves (numbers_of s)) s.tasks)) {
      tasks = [];
      shorts = [];
      volatile = volatile_reset kind s.volatile;
      registers = all_empty;
    }
