use Rattle.std.proofs.Common.{◌∙◌, ap, arith, length, map, replicate, slice_set, sym}
use Rattle.std.proofs.lemmas.List.{get_or-map, length-map}
use Rattle.ufs_spec.specs.Plain.{Plain, shape_of, zero, zero_block}
use Rattle.ufs_spec.specs.declared.configs.UnitSpec.{UnitSpec}
use Rattle.journal.specs.Shown.{regions_held}
use Rattle.journal.proofs.HeldUnits.{count_equal, fill_more, filled, held_shape, units_many, with_units}
use Rattle.journal.proofs.bases.units_holding.Goals as goal

pub fill_unit-requires-clause-count : goal.fill_unit-requires-clause-count
fill_unit-requires-clause-count c =
    let less = c.loop-index-test.true in
    let all = c.are_units.ensures.all c.if-not-are_units.false in
    let many = units_many c.args.blocks.now c.as_slice-specs.result.now all in
    let equal = count_equal c.args.blocks.now c.as_slice-specs.result.now c.loop-index.index c.index-blocks-index.result
    (record { blocks = 0; boot = 0; protect = 0 }) (omega (arith, less, many)) less c.index-blocks-index.is all in
    sym (ap length c.as_slice.ensures.value ∙ equal)

pub loop-index-preserved : goal.loop-index-preserved
loop-index-preserved c = record {
  few = c.loop-index.invariant.few;
  same = c.loop-index.invariant.same;
  held =
      let n = c.args.numbers.now in
      let i = c.loop-index.index in
      let v = c.index-blocks-index.result in
      let unit = c.as_slice.result.now in
      let vecs = c.args.blocks.now in
      let units = map (λ v. v.items) vecs in
      let less = c.loop-index-test.true in
      let all = c.are_units.ensures.all c.if-not-are_units.false in
      let many = units_many vecs c.as_slice-specs.result.now all in
      let same = ap length c.loop-index.invariant.same in
      let first = length-map vecs (λ v. v.items) in
      let second = length-map n.units.items (λ (u : UnitSpec). replicate u.blocks zero_block) in
      let here = c.as_slice.ensures.value ∙ ap (λ v. v.items) c.index-blocks-index.is
      ∙ sym (get_or-map (λ v. v.items) vecs i v unit (omega (arith, less, many))) in
      c.fill_unit.ensures
      ∙ ap (λ (p : Plain). record p { units = slice_set p.units i unit }) c.loop-index.invariant.held
      ∙ ap (with_units n) (fill_more units (zero n).units i unit unit (omega (arith, less, many, first))
      (omega (arith, less, same, second)) here);
}

-- the regions of a device whose units alone are not new
pub set_regions-requires-clause-new : goal.set_regions-requires-clause-new
set_regions-requires-clause-new c = ap (λ (p : Plain). p.regions) c.loop-index.invariant.held

-- at the end all blocks are those that were read
pub returns-clause-shape : goal.returns-clause-shape
returns-clause-shape c =
    let n = c.args.numbers.now in
    let vecs = c.args.blocks.now in
    let units = map (λ v. v.items) vecs in
    let past = c.loop-index-test.false in
    let all = c.are_units.ensures.all c.if-not-are_units.false in
    let many = units_many vecs c.as_slice-specs.result.now all in
    let same = ap length c.loop-index.invariant.same in
    let first = length-map vecs (λ v. v.items) in
    let second = length-map n.units.items (λ (u : UnitSpec). replicate u.blocks zero_block) in
    let whole = filled units (zero n).units c.loop-index.index (omega (arith, many, same, first, second))
    (omega (arith, past, many, first)) in
    let fills = c.loop-index.invariant.held ∙ ap (with_units n) whole in
    let found = c.args.regions.now in
    ap shape_of (c.set_regions.ensures ∙ ap (λ (p : Plain). record p { regions = regions_held n 0 found }) fills)
    ∙ held_shape n units found (all ∙ ap (map (λ (u : UnitSpec). u.blocks)) c.loop-index.invariant.same)
    (omega arith) (c.are_areas.ensures.whole c.if-not-are_areas.false)
