use Rattle.std.proofs.Common.{◌≡◌, ◌+◌, take, sum_by}
use Rattle.ufs_spec.specs.declared.configs.UnitSpec.{UnitSpec}
use Rattle.geometry.proofs.keys.key_at.Given as goal

abbrev pub invariant-loop-unit : goal.invariant-loop-unit
invariant-loop-unit l = sum_by (λ (u : UnitSpec). u.blocks) (take l.unit l.spec-items) + l.rest ≡ l.fn.index
