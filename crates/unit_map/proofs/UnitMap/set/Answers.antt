use Rattle.std.proofs.Common.{◌≡◌, ◌∙◌, List, Option, ap, rules, subst, sym}
use Rattle.ufs_spec.specs.declared.configs.Numbers.{Numbers}
use Rattle.unit_map.specs.Places.{UnitMap, places_noted, position_of, stored_in}
use Rattle.unit_map.specs.declared.Stored.{Stored}
use Rattle.unit_map.proofs.KeyPlaces.{not_noted, stored_beside, stored_here}
use Rattle.unit_map.proofs.TableKept.{noted_as_set, table_noted}
use Rattle.unit_map.proofs.UnitMap.set.Goals as goal

pub returns-then-index-len-clause-others : goal.returns-then-index-len-clause-others
returns-then-index-len-clause-others c =
    λ other differ.
    stored_beside c.self.inside.config c.self.inside.places.items c.args.stored c.args.key other c.in-Some.index
    (search rules) (search rules) differ
    ∙ ap (λ (m : UnitMap). stored_in m.numbers m.places other) c.self.view_is

pub returns-then-index-len-clause-there : goal.returns-then-index-len-clause-there
returns-then-index-len-clause-there c =
    λ room known.
    stored_here c.self.inside.config c.self.inside.places.items c.args.stored c.args.key c.in-Some.index
    (ap (λ (n : Numbers). position_of n c.args.key) (sym c.numbers.ensures.value) ∙ sym c.key_index.ensures.value
    ∙ c.in-Some.is)
    (search rules)

pub returns-else-index-len-clause-after : goal.returns-else-index-len-clause-after
returns-else-index-len-clause-after c =
    subst
    (λ (m : UnitMap). m ≡ record m { places = places_noted m.places c.args.stored (position_of m.numbers c.args.key) })
    c.self.view_is
    (ap (λ (ps : List (Option Stored)). record { numbers = c.self.inside.config; places = ps })
    (sym (not_noted c.self.inside.config c.self.inside.places.items c.args.stored c.args.key c.in-Some.index
    (ap (λ (n : Numbers). position_of n c.args.key) (sym c.numbers.ensures.value) ∙ sym c.key_index.ensures.value
    ∙ c.in-Some.is)
    (search rules))))

pub invariant_of-self : goal.invariant_of-self
invariant_of-self c =
    table_noted c.self.inside.config c.self.inside.places.items _ _ _ c.in-Some.index c.args.stored.place
    c.self.inside.table c.note.new.self c.self.invariant
    (noted_as_set c.self.inside.places.items _ c.in-Some.index c.args.stored (search rules))
    (search rules) (search rules) (search rules)
