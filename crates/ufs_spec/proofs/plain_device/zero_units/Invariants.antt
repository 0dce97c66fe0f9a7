use Rattle.std.proofs.Common.{◌≡◌, map, replicate, take}
use Rattle.ufs_spec.specs.Plain.{zero_block}
use Rattle.ufs_spec.proofs.plain_device.zero_units.Given as goal

abbrev pub invariant-loop-unit : goal.invariant-loop-unit
invariant-loop-unit l =
    map (λ blocks. blocks.items) l.units.items ≡ map (λ unit. replicate unit.blocks zero_block)
    (take l.unit-index l.specs)
