-- The numbers that stand for answers in C.
use Rattle.std.specs.Prelude.{ℕ, Bool, true, false, Option, Some, None, Result, Ok, Err}
use Rattle.ufs_spec.specs.declared.faults.ConfigFault.{ConfigFault}
use Rattle.ufs_spec.specs.declared.faults.ConfigFault.TheVariants as config
use Rattle.ufs_spec.specs.declared.faults.HostFault.{HostFault}
use Rattle.ufs_spec.specs.declared.faults.HostFault.TheVariants as host
use Rattle.ufs_spec.specs.declared.faults.OpenFault.{OpenFault}
use Rattle.ufs_spec.specs.declared.faults.OpenFault.TheVariants as opening
use Rattle.ufs_handle.specs.declared.fault.Fault.{Fault}
use Rattle.ufs_handle.specs.declared.fault.Fault.TheVariants as fault

abbrev pub fault_number : Fault → ℕ
fault_number fault.Closed = 1
fault_number fault.Open = 2
fault_number fault.NoMemory = 3
fault_number fault.Range = 4
fault_number fault.TooLittleSpare = 5
fault_number fault.TwoBootUnits = 6
fault_number fault.OtherConfig = 7
fault_number fault.Image = 8
fault_number fault.Nothing = 9
fault_number fault.NoJob = 10
fault_number fault.Room = 11
fault_number fault.Number = 12
fault_number fault.OwnDies = 13

-- why numbers are no configuration, as a fault of a call
abbrev pub config_fault_of : ConfigFault → Fault
config_fault_of config.Range = fault.Range
config_fault_of config.TooLittleSpare = fault.TooLittleSpare
config_fault_of config.TwoBootUnits = fault.TwoBootUnits

-- why a device was not opened over dies in memory, as a fault of a call: no read of such a die fails
abbrev pub open_fault_of : OpenFault → Fault
open_fault_of opening.NoMemory = fault.NoMemory
open_fault_of opening.OtherConfig = fault.OtherConfig
open_fault_of (opening.ReadFault place) = fault.OtherConfig

-- why a device does not take a message: 20 more than in scripts
abbrev pub host_number : HostFault → ℕ
host_number host.Short = 21
host_number host.Length = 22
host_number host.Digest = 23
host_number host.Ehs = 24
host_number host.Code = 25
host_number host.Reserved = 26
host_number host.TagInUse = 27
host_number host.NotAskedFor = 28
host_number host.Backlog = 29

-- 0 where a call went well, and else its fault
abbrev pub answer_number : Result (Unit {0}) Fault → ℕ
answer_number (Ok _) = 0
answer_number (Err f) = fault_number f

-- 0 where the device took the message, 1 where the handle holds none, and else why it did not take it
abbrev pub heard_number : Option (Result (Unit {0}) HostFault) → ℕ
heard_number None = 1
heard_number (Some (Ok _)) = 0
heard_number (Some (Err f)) = host_number f

-- 0 where a call did something, 1 where the handle holds no device, and else this fault
abbrev pub flag_number : Option Bool → Fault → ℕ
flag_number None f = 1
flag_number (Some true) f = 0
flag_number (Some false) f = fault_number f

-- 0 where the handle held a device
abbrev pub open_number : Bool → ℕ
open_number true = 0
open_number false = 1

-- of a job that was asked for: 0 where one was given, and 9 where none was due
abbrev pub taken_number : {A : Type 0} → Option (Option A) → ℕ
taken_number None = 1
taken_number (Some None) = 9
taken_number (Some (Some job)) = 0

-- of a reply that was asked for: 11 where there was too little room
abbrev pub reply_number : Option (Option Bool) → ℕ
reply_number None = 11
reply_number (Some flag) = flag_number flag fault.Nothing

-- of a job that was to end: 12 where the numbers say no ending
abbrev pub ended_number : Option (Option Bool) → ℕ
ended_number None = 12
ended_number (Some flag) = flag_number flag fault.NoJob

-- of a stop: 12 where a number says nothing that may be left
abbrev pub stop_number : Option (Option (Result (Unit {0}) Fault)) → ℕ
stop_number None = 12
stop_number (Some None) = 1
stop_number (Some (Some answer)) = answer_number answer

-- of an image that was asked for
abbrev pub saved_number : Option (Result (Unit {0}) Fault) → ℕ
saved_number None = 1
saved_number (Some answer) = answer_number answer
