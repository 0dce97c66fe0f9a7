use Rattle.ufs_laws.proofs.Common.{List, None, Numbers, Option, Some, UnitSpec, [], arith, length, refl, slice_get, ℕ, ◌*◌}
use Rattle.ufs_laws.proofs.Common.{◌+◌, ◌++◌, ◌∙◌, ◌∷◌, ◌≡◌}
use Rattle.std.specs.List.{flat_map}
use Rattle.ufs_spec.specs.Descriptors.{unit_configuration_at}
use Rattle.ufs_laws.proofs.queries.worked_descriptors.Goals as goal

-- what the configuration descriptor says of a unit has sixteen bytes, whether the unit is there or not
one_long : (o : Option UnitSpec) (rest : List ℕ) → length (unit_configuration_at o ++ rest) ≡ 16 + length rest
one_long None rest = omega arith
one_long (Some u) rest = omega arith

units_long : (n : Numbers) (numbers : List ℕ) →
    length (flat_map (λ number. unit_configuration_at (slice_get n.units.items number)) numbers) ≡ 16 * length numbers
units_long n [] = refl
units_long n (number ∷ numbers) =
    let one = one_long (slice_get n.units.items number)
    (flat_map (λ other. unit_configuration_at (slice_get n.units.items other)) numbers) in
    let more = units_long n numbers in
    omega arith

pub returns-clause-lengths : goal.returns-clause-lengths
returns-clause-lengths c = λ n. (
  let units = units_long n (0 ∷ 1 ∷ 2 ∷ 3 ∷ 4 ∷ 5 ∷ 6 ∷ 7 ∷ []) in omega arith,
  refl,
)
