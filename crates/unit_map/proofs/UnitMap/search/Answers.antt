use Rattle.std.proofs.Common.{◌∙◌, ap, arith}
use Rattle.geometry.specs.Keys.{key_total}
use Rattle.ufs_spec.specs.Plain.{shape_of_numbers}
use Rattle.ufs_spec.specs.declared.configs.Numbers.{Numbers}
use Rattle.unit_map.specs.Places.{UnitMap}
use Rattle.unit_map.proofs.KeyPlaces.{none_there}
use Rattle.unit_map.proofs.UnitMap.search.Goals as goal

pub returns-clause-none : goal.returns-clause-none
returns-clause-none c = λ nothing.
    let total = c.key_count-index-end.ensures.count
    ∙ ap (λ (n : Numbers). key_total (shape_of_numbers n))
    (c.numbers.ensures.value ∙ ap (λ (m : UnitMap). m.numbers) c.self.view_is) in
    none_there c.args.self.now.numbers c.args.self.now.places c.args.place
    (λ i within. c.loop-index.invariant i (omega (arith, within, total, c.loop-index-test.false)))
