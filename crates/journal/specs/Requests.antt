-- What requests to the replay protected memory block change, as far as their frames tell it (JESD220, 12.4).
use Rattle.std.specs.Prelude.{◌*◌, ℕ, Bool, List, replicate, Option, None, Some, slice_index_or}
use Rattle.ufs_spec.specs.Commands.{Command}
use Rattle.ufs_spec.specs.Exchanges.{empty_registers}
use Rattle.ufs_spec.specs.Frames.{Frame}
use Rattle.ufs_spec.specs.Rpmb.{Refused, Region, Results, RpmbOutcome, changed_by, rpmb_outcome}
use Rattle.rpmb.specs.Kept.{no_state}
use Rattle.rpmb.specs.declared.regions.RegionState.{RegionState}

-- a region with this key, this counter and so many blocks of 256 bytes: what becomes of a request does not depend on
-- the bytes in them
abbrev pub region_like : RegionState → Region
region_like s = record { key = s.key; area = replicate (256 * s.blocks) 0; counter = s.counter }

-- the command that an outcome has accepted, if it has
abbrev pub accepted_in : RpmbOutcome → Option Command
accepted_in (Refused status) = None
accepted_in (Results result accepted) = accepted

-- the key and the counter of the region of this number, and how many blocks it has
abbrev pub state_at : List RegionState → ℕ → RegionState
state_at states number = slice_index_or states number no_state

-- the command that the region of this number accepts of these frames, if it accepts one: no register has a part in it
abbrev pub accepted_by : ℕ → RegionState → Bool → List Frame → Option Command
accepted_by number s locked frames = accepted_in (rpmb_outcome number (region_like s) empty_registers locked frames)

-- the key and the counter after it
abbrev pub state_after : RegionState → Option Command → RegionState
state_after s None = s
state_after s (Some c) =
    record s { key = (changed_by (region_like s) c).key; counter = (changed_by (region_like s) c).counter }
