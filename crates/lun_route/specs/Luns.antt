-- What LUN bytes name, in the words of the definitions (JESD220, 10.8.5).
use Rattle.std.specs.Prelude.{Option, Some, None, ℕ}
use Rattle.ufs_spec.specs.Refusals as unit
use Rattle.lun_route.specs.declared.luns.Lun.{Lun}
use Rattle.lun_route.specs.declared.luns.Lun.TheVariants as lun

-- the same LUN, from its form in code
abbrev pub lun_meant : Lun → unit.Lun
lun_meant (lun.Unit number) = unit.UnitOf number
lun_meant lun.ReportLuns = unit.ReportLunsUnit
lun_meant lun.Boot = unit.BootUnit
lun_meant lun.Rpmb = unit.RpmbUnit
lun_meant lun.Device = unit.DeviceUnit

-- the same, if there is one
abbrev pub lun_in : Option Lun → Option unit.Lun
lun_in None = None
lun_in (Some l) = Some (lun_meant l)

-- where the unit attention of a LUN stands among those of all LUNs, if there is such a LUN
abbrev pub place_of : Option unit.Lun → Option ℕ
place_of None = None
place_of (Some l) = Some (unit.attention_place l)
