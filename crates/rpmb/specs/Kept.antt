-- What the machine keeps of a region, as its contracts see it.
use Rattle.std.specs.Prelude.{◌≡◌, ◌*◌, ℕ, List, None, length, map, slice_index_or, slice_set}
use Rattle.ufs_spec.specs.Exchanges.{Registers, empty_registers}
use Rattle.ufs_spec.specs.Rpmb.{Region}
use Rattle.ufs_spec.specs.declared.flash.KeyAndCounter.{KeyAndCounter}
use Rattle.rpmb.specs.declared.regions.RegionState.{RegionState}

-- what is kept of the region beside its area, and the two registers
pub record Machine : Type 0 where
  pub region : RegionState
  pub registers : Registers

-- this is kept of the region
pub record IsKept (s : RegionState) (region : Region) : Type 0 where
  pub key : s.key ≡ region.key
  pub counter : s.counter ≡ region.counter
  pub area : length region.area ≡ 256 * s.blocks

-- ## All regions

-- of a number that no region has nothing is kept
abbrev pub no_state : RegionState
no_state = record { key = None; counter = 0; blocks = 0 }

-- the machine of a region of which this is kept, with empty registers
abbrev pub idle_machine : RegionState → Machine
idle_machine state = record { region = state; registers = empty_registers }

-- the machines of regions of which this is kept, with empty registers
abbrev pub idle_machines : List RegionState → List Machine
idle_machines states = map idle_machine states

-- both registers of a machine are empty
abbrev pub forgotten : Machine → Machine
forgotten m = record m { registers = empty_registers }

-- what the settings say of the region of a machine
abbrev pub said_kept : Machine → KeyAndCounter
said_kept m = record { key = m.region.key; counter = m.region.counter }

-- the machine of a number in a list of them
abbrev pub machine_at : List Machine → ℕ → Machine
machine_at ms number = slice_index_or ms number (idle_machine no_state)

-- the machines with that of one number changed
abbrev pub with_machine : List Machine → ℕ → Machine → List Machine
with_machine ms number machine = slice_set ms number machine
