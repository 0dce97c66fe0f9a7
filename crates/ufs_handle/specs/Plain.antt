-- What crosses to C as plain numbers and bytes.
use Rattle.std.specs.Prelude.{◌≡◌, ◌≤◌, ℕ, List, ◌++◌, Option, length, map, option_map}
use Rattle.std.specs.List.{All}
use Rattle.ufs_spec.specs.Configs.{config_fault, numbers_of, with_profile}
use Rattle.ufs_spec.specs.declared.configs.Numbers.{Numbers}
use Rattle.ufs_spec.specs.declared.configs.UnitSpec.{UnitSpec}
use Rattle.ufs_spec.specs.declared.flash.Job.{Job}
use Rattle.ufs_spec.specs.declared.flash.Job.TheVariants as job
use Rattle.ufs_spec.specs.declared.flash.Outcome.{Outcome}
use Rattle.ufs_spec.specs.declared.flash.Outcome.TheVariants as outcome
use Rattle.ufs_handle.specs.Numbers.{config_fault_of}
use Rattle.ufs_handle.specs.declared.fault.Fault.{Fault}
use Rattle.ufs_handle.specs.declared.left.Left.{Left}
use Rattle.ufs_handle.specs.declared.left.Left.TheVariants as left
use Rattle.ufs_handle.specs.declared.plain.PlainConfig.{PlainConfig}
use Rattle.ufs_handle.specs.declared.plain.PlainJob.{PlainJob}
use Rattle.ufs_handle.specs.declared.plain.PlainUnit.{PlainUnit}

-- a job as numbers and bytes, in place of another one: its kind, its place, and the page of a program
abbrev pub plain_of : Job → PlainJob → PlainJob
plain_of (job.Read place) before =
    record before { kind = 1; die = place.die; block = place.block; page = place.page }
plain_of (job.Program place page) before = record {
  kind = 2;
  die = place.die;
  block = place.block;
  page = place.page;
  body = page.body;
  spare = page.spare;
}
plain_of (job.Erase die block) before = record before { kind = 3; die = die; block = block; page = 0 }

-- the number and the bytes of a page stand for how a job ended
abbrev pub IsOutcome : ℕ → List ℕ → Outcome → Type 0
IsOutcome kind bytes (outcome.Read page) = (kind ≡ 0) × (bytes ≡ page.body ++ page.spare)
IsOutcome kind bytes outcome.ReadFailed = kind ≡ 1
IsOutcome kind bytes outcome.Done = kind ≡ 2
IsOutcome kind bytes outcome.Failed = kind ≡ 3

-- the number is one of an outcome, and the bytes are a page where it is that of a read that is done
abbrev pub SaysOutcome : ℕ → List ℕ → Type 0
SaysOutcome kind bytes = (kind ≤ 3) × (kind ≡ 0 → length bytes ≡ 4192)

-- a unit as the configuration has it
abbrev pub unit_of : PlainUnit → UnitSpec
unit_of unit = record { blocks = unit.blocks; boot = unit.boot; protect = unit.protect }

-- the numbers of a configuration with these units
abbrev pub config_numbers : PlainConfig → List PlainUnit → Numbers
config_numbers plain units =
    with_profile
    (numbers_of plain.dies plain.blocks plain.pages (map unit_of units) plain.rpmb plain.slots plain.spare)
    plain.profile plain.serial

-- why these numbers are no configuration
abbrev pub numbers_fault : PlainConfig → List PlainUnit → Option Fault
numbers_fault config units = option_map config_fault_of (config_fault (config_numbers config units))

-- the number that says what is left
abbrev pub left_number : Left → ℕ
left_number left.Old = 0
left_number left.New = 1
left_number left.Torn = 2

-- each of the numbers says what is left, and they are no more than a byte can count
abbrev pub SaysLefts : List ℕ → Type 0
SaysLefts numbers = (length numbers ≤ 256) × All (λ number. number ≤ 2) numbers
