use Rattle.std.proofs.Common.{◌≡◌, ◌≤◌, ◌*◌, ◌^◌, take, sum_by}
use Rattle.ufs_spec.specs.declared.configs.UnitSpec.{UnitSpec}
use Rattle.descriptors.proofs.descriptors.block_count.Given as goal

abbrev pub invariant-loop-unit : goal.invariant-loop-unit
invariant-loop-unit l = (l.count ≤ 2 ^ 32 * l.unit-index) ×
    (l.count ≡ sum_by (λ (u : UnitSpec). u.blocks) (take l.unit-index l.units))
