use Rattle.std.proofs.Common.{◌≡◌, ◌∙◌, ap, sym}
use Rattle.std.specs.Prelude.{Some, slice_get}
use Rattle.ufs_spec.specs.declared.configs.Numbers.{Numbers}
use Rattle.unit_map.specs.Places.{UnitMap, name_there, stored_in}
use Rattle.unit_map.specs.Tables.{key_there}
use Rattle.unit_map.proofs.TableKept.{only_there}
use Rattle.unit_map.proofs.UnitMap.name_there.Goals as goal

pub returns-in-Some-clause-none : goal.returns-in-Some-clause-none
returns-in-Some-clause-none c = λ nothing k s stored.
    let has : key_there c.self.inside.config c.self.inside.table c.args.place ≡ Some c.in-Some.index =
    ap (λ (n : Numbers). key_there n c.self.inside.table c.args.place) (sym c.numbers.ensures.value)
    ∙ sym c.key_there.ensures ∙ c.in-Some.is in
    only_there c.self.inside.config c.self.inside.places.items c.self.inside.table c.args.place c.in-Some.index
    c.self.invariant has
    (ap (λ (m : UnitMap). name_there c.args.place (slice_get m.places c.in-Some.index)) c.self.view_is
    ∙ c.named_at.ensures.none nothing) k s
    (ap (λ (m : UnitMap). stored_in m.numbers m.places k) c.self.view_is ∙ stored)
