-- Counts of blocks by the numbers, and units shown one after another.
use Rattle.std.proofs.Common.{◌≡◌, ℕ, ◌+◌, ◌<◌, ◌≤◌, List, [], length, map, get_or}
use Rattle.std.proofs.Common.{slice_index_or, sym, ap, ◌∙◌, subst, arith, ⊎_elim}
use Rattle.std.proofs.lemmas.Bool.{cases_lt}
use Rattle.std.proofs.lemmas.List.{length-map, get_or-map}
use Rattle.ufs_spec.specs.Plain.{Plain, Shape, shape_of, shape_of_numbers, unit_of}
use Rattle.ufs_spec.specs.declared.configs.Numbers.{Numbers}
use Rattle.ufs_spec.specs.declared.configs.UnitSpec.{UnitSpec}
use Rattle.journal.specs.Shown.{IsShownAt}

-- a unit that the numbers name is there, with as many blocks
pub unit_there : (n : Numbers) (specs : List UnitSpec) (p : Plain) (i : ℕ) (d : UnitSpec) →
    shape_of p ≡ shape_of_numbers n → specs ≡ n.units.items → i < length specs →
    (i < length p.units) × ((slice_index_or specs i d).blocks ≡ length (unit_of i p))
unit_there n specs p i d shape same lt =
    let blocks : map length p.units ≡ map (λ (u : UnitSpec). u.blocks) specs =
    ap (λ (s : Shape). s.blocks) shape
    ∙ ap (λ (xs : List UnitSpec). map (λ (u : UnitSpec). u.blocks) xs) (sym same) in
    let many = ap length blocks in
    let first = length-map p.units length in
    let second = length-map specs (λ (u : UnitSpec). u.blocks) in
    let inside : i < length p.units = omega arith in (
      inside,
      sym (get_or-map (λ (u : UnitSpec). u.blocks) specs i d 0 lt)
          ∙ ap (λ (xs : List ℕ). get_or xs i 0) (sym blocks)
          ∙ get_or-map length p.units i [] 0 inside,
    )

-- at each address of the units below one the block of the plain device was found
abbrev pub ShowsBelow : List (List (List ℕ)) → Plain → ℕ → Type 0
ShowsBelow found p count =
    (unit address : ℕ) → unit < count → unit < length p.units → address < length (unit_of unit p) →
    IsShownAt found p unit address

-- one unit more is shown
pub shows_more : (found : List (List (List ℕ))) (p : Plain) (i : ℕ) → ShowsBelow found p i →
    ((a : ℕ) → a < length (unit_of i p) → IsShownAt found p i a) → ShowsBelow found p (i + 1)
shows_more found p i below here unit address lt there inside =
    ⊎_elim
    (λ (less : unit < i). below unit address less there inside)
    (λ (past : i ≤ unit).
    let same : i ≡ unit = omega arith in
    subst (λ (u : ℕ). address < length (unit_of u p) → IsShownAt found p u address) same (here address) inside)
    (cases_lt unit i)
