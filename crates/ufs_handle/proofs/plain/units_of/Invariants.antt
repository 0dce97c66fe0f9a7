use Rattle.std.proofs.Common.{◌≡◌, map, take}
use Rattle.ufs_handle.specs.Plain.{unit_of}
use Rattle.ufs_handle.proofs.plain.units_of.Given as goal

abbrev pub invariant-loop-unit : goal.invariant-loop-unit
invariant-loop-unit l = l.kept.items ≡ map unit_of (take l.unit-index l.units)
