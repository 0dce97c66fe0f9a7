-- How the fields of the machine are seen, and the room that it keeps.
use Rattle.std.specs.Prelude.{◌≡◌, ◌≤◌, List, length, vec_capacity, vec_len}
use Rattle.ufs_spec.specs.Plain.{regions}
use Rattle.rpmb.specs.declared.machine.Rpmb.TheInside.{Inside}
use Rattle.rpmb.specs.declared.machines.Machines.TheInside.{Inside as InsideOfAll}
use Rattle.rpmb.specs.Kept.{Machine}

-- what contracts see of the machine
abbrev pub machine_of : Inside → Machine
machine_of m =
    record { region = m.region; registers = record { result = m.result; response = m.response.items } }

-- at most eight frames wait, and for as many there is room
pub record IsRoomy (m : Inside) : Type 0 where
  pub few : vec_len m.response ≤ 8
  pub room : 8 ≤ vec_capacity m.response

-- what contracts see of the machines of all regions
abbrev pub machines_of : InsideOfAll → List Machine
machines_of m = m.all.items

-- there is a machine for each number of a region
abbrev pub HasEach : InsideOfAll → Type 0
HasEach m = length m.all.items ≡ regions
