-- The lines of the table by which a command is refused that look at its LUN and its operation code (JESD220, 10.8).
use Rattle.std.specs.Prelude.{Bool, Err, List, None, Ok, Option, Result, Some, [], false, filter, if◌then◌else◌}
use Rattle.std.specs.Prelude.{is_none, not, ℕ, ◌&&◌, ◌∷◌}
use Rattle.ufs_spec.specs.CdbFields.{row_of}
use Rattle.ufs_spec.specs.Counting.{below}
use Rattle.ufs_spec.specs.Exchanges.{no_unit}
use Rattle.ufs_spec.specs.declared.exchanges.Status.{Status}
use Rattle.ufs_spec.specs.declared.exchanges.Status.TheVariants.{CheckCondition}
use Rattle.ufs_spec.specs.Refusals.{BootUnit, Lun, is_boot_read, is_told_anywhere, takes_row, unit_named}
use Rattle.ufs_spec.specs.declared.configs.Numbers.{Numbers}
use Rattle.ufs_spec.specs.declared.operations.Row.{Row}
use Rattle.ufs_spec.specs.declared.scsi.Sense.{Sense}
use Rattle.lun_route.specs.declared.routes.Route.{Route}

-- the command needs the blocks of the boot unit, and there is no such unit
abbrev pub lacks_blocks : Numbers → Option Row → Lun → Option ℕ → Bool
lacks_blocks n row BootUnit unit = is_boot_read n row && is_none unit
lacks_blocks n row lun unit = false

-- the unit whose blocks are read or written through what a LUN byte names. It is `unit_in` of Refusals, by what that
-- looks at
abbrev pub unit_at : Numbers → ℕ → Option Lun → Option ℕ
unit_at n boot None = None
unit_at n boot (Some lun) = unit_named n boot lun

-- line 1: there is no such unit, and the command is not answered without one; or the unit lacks its blocks. It is
-- `lacks_unit` of Refusals, by what that looks at
abbrev pub lacks_unit_at : Numbers → ℕ → Option Row → Option Lun → Bool
lacks_unit_at n boot row None = not (is_told_anywhere n row)
lacks_unit_at n boot row (Some lun) = lacks_blocks n row lun (unit_named n boot lun)

-- line 2, 5/20/00: the unit does not take the operation code. It is `not_taken` of Refusals, by what that looks at
abbrev pub not_taken_by : Numbers → Option Row → Option Lun → Bool
not_taken_by n row None = false
not_taken_by n row (Some lun) = not (takes_row n lun row)

-- what line 1 says, if it applies
abbrev pub routing_refusal : Numbers → ℕ → Option Row → Option Lun → Option Status
routing_refusal n boot row lun = if lacks_unit_at n boot row lun then Some no_unit else None

-- the status of a command that has no route
abbrev pub refused_by : Result Route Sense → Option Status
refused_by (Ok route) = None
refused_by (Err sense) = Some (CheckCondition sense)

-- the LUN takes the commands with this operation code, whatever byte 1 says besides
abbrev pub takes_code : Numbers → Lun → ℕ → Bool
takes_code n lun operation = takes_row n lun (row_of (operation ∷ []))

-- the LUN takes the commands with this operation code and this service action in byte 1
abbrev pub takes_action : Numbers → Lun → (operation action : ℕ) → Bool
takes_action n lun operation action = takes_row n lun (row_of (operation ∷ action ∷ []))

-- all operation codes that it takes without a service action
abbrev pub codes_taken : Numbers → Lun → List ℕ
codes_taken n lun = filter (takes_code n lun) (below 256)

-- all service actions of an operation code that it takes
abbrev pub actions_taken : Numbers → Lun → (operation : ℕ) → List ℕ
actions_taken n lun operation = filter (takes_action n lun operation) (below 32)

-- a command with this operation code needs blocks that can be read, and the device's profile has it
abbrev pub needs_unit : Numbers → (operation : ℕ) → Bool
needs_unit n operation = is_boot_read n (row_of (operation ∷ []))

-- the same with this service action
abbrev pub needs_unit_for : Numbers → (operation action : ℕ) → Bool
needs_unit_for n operation action = is_boot_read n (row_of (operation ∷ action ∷ []))
