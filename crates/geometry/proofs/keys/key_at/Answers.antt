use Rattle.std.proofs.Common.{ℕ, ap, arith, map, subst}
use Rattle.ufs_spec.specs.Plain.{shape_of_numbers as shape}
use Rattle.ufs_spec.specs.declared.configs.UnitSpec.{UnitSpec}
use Rattle.geometry.specs.Keys.{IsIndex}
use Rattle.geometry.proofs.Indexes.{behind_units, data_found}
use Rattle.geometry.proofs.keys.key_at.Goals as goal

pub returns-then-rest-blocks : goal.returns-then-rest-blocks
returns-then-rest-blocks c =
    data_found (shape c.args.numbers.now) c.as_slice-spec-items.result.now c.loop-unit.unit c.loop-unit.rest c.args.index
    (ap (map (λ (u : UnitSpec). u.blocks)) c.as_slice-spec-items.ensures.value) c.loop-unit-test.true
    c.if-rest-blocks.true c.loop-unit.invariant

pub key_behind_units-requires : goal.key_behind_units-requires
key_behind_units-requires c =
    let behind =
    behind_units (shape c.args.numbers.now) c.as_slice-spec-items.result.now c.loop-unit.unit c.loop-unit.rest
    c.args.index (ap (map (λ (u : UnitSpec). u.blocks)) c.as_slice-spec-items.ensures.value) c.loop-unit-test.false
    c.loop-unit.invariant in
    omega (arith, behind, c.requires)

pub returns : goal.returns
returns c =
    subst (λ (i : ℕ). IsIndex (shape c.args.numbers.now) c.key_behind_units.result i)
    (behind_units (shape c.args.numbers.now) c.as_slice-spec-items.result.now c.loop-unit.unit c.loop-unit.rest
    c.args.index (ap (map (λ (u : UnitSpec). u.blocks)) c.as_slice-spec-items.ensures.value) c.loop-unit-test.false
    c.loop-unit.invariant) c.key_behind_units.ensures
