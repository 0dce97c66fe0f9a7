-- What the table of parameters says of a row that is known.
use Rattle.std.proofs.Common.{Bool, None, Option, Some, ap, false, find, if◌then◌else◌, is_none, refl, sym, true, ℕ}
use Rattle.std.proofs.Common.{◌&&◌, ◌==◌, ◌||◌, ◌∙◌, ◌≡◌, ◌≤◌}
use Rattle.std.specs.Prelude.{not}
use Rattle.ufs_spec.proofs.Facts.{and_parts, eqb-true, leb-true, true≢false}
use Rattle.ufs_spec.specs.Configs.{is_between}
use Rattle.ufs_spec.specs.Queries.{Query, class_of, has_wrong_idn, has_wrong_value, is_of_class, is_row_of, of_row}
use Rattle.ufs_spec.specs.Queries.{parameter_of, writes_attribute, writes_boot}
use Rattle.ufs_spec.specs.declared.configs.Numbers.{Numbers}
use Rattle.ufs_spec.specs.declared.parameters.Class.TheVariants as class
use Rattle.ufs_spec.specs.declared.parameters.Parameter.{Parameter}
use Rattle.ufs_spec.specs.declared.parameters.TheConstants.{PARAMETERS}

-- whether a value is wrong hangs on the opcode and the IDN alone
abbrev wrong_at : Numbers → (opcode idn value : ℕ) → Bool
wrong_at n opcode idn value =
    (opcode == 4)
    && of_row (λ (row : Parameter). not (is_between row.least row.greatest value))
    (find (is_row_of n (class_of opcode) idn) PARAMETERS)

inside_told : (b : Bool) → not b ≡ false → b ≡ true
inside_told true e = refl
inside_told false e = absurd (true≢false e)

-- bBootLunEn becomes 0, 1 or 2
pub boot_value : (n : Numbers) (q : Query) → writes_boot q ≡ true → has_wrong_value n q ≡ false → q.value ≤ 2
boot_value n q writes fits =
    let both = and_parts (q.asked.opcode == 4) (q.asked.idn == 0x00) writes in
    let opcode : q.asked.opcode ≡ 4 = eqb-true q.asked.opcode 4 both.0 in
    let idn : q.asked.idn ≡ 0x00 = eqb-true q.asked.idn 0x00 both.1 in
    let same : has_wrong_value n q ≡ wrong_at n 4 0x00 q.value = λ i. wrong_at n (opcode i) (idn i) q.value in
    let inside : is_between 0 2 q.value ≡ true = inside_told (is_between 0 2 q.value) (sym same ∙ fits) in
    leb-true q.value 2 (and_parts _ _ inside).1

-- the row of an attribute hangs on the profile alone
abbrev row_at : (profile idn : ℕ) → Option Parameter
row_at profile idn =
    find (λ (row : Parameter). is_of_class (Some class.Attribute) row && (row.idn == idn) &&
    ((row.profile == 0) || (row.profile == profile))) PARAMETERS

-- what a row says of a value
abbrev is_wrong : (value : ℕ) → Option Parameter → Bool
is_wrong value = of_row (λ (row : Parameter). not (is_between row.least row.greatest value))

-- an attribute that profile 1 alone has, with values up to this one
in_profile_1 : (idn : ℕ) (row : Parameter) →
    ((profile : ℕ) → row_at profile idn ≡ (if 1 == profile then Some row else None)) → row.least ≡ 0 → (n : Numbers)
    (q : Query) → writes_attribute idn q ≡ true → has_wrong_idn n q ≡ false → has_wrong_value n q ≡ false →
    q.value ≤ row.greatest
in_profile_1 idn row rows least n q writes there fits = by (1 == n.profile) refl
  where
    both : ((q.asked.opcode == 4) ≡ true) × ((q.asked.idn == idn) ≡ true)
    both = and_parts (q.asked.opcode == 4) (q.asked.idn == idn) writes

    found : parameter_of n q.asked ≡ row_at n.profile idn
    found = λ i. find (is_row_of n (class_of (eqb-true q.asked.opcode 4 both.0 i)) (eqb-true q.asked.idn idn both.1 i))
        PARAMETERS

    wrong : is_wrong q.value (row_at n.profile idn) ≡ false
    wrong =
        sym (λ i. both.0 i && is_wrong q.value (found i)) ∙ fits

    by : (b : Bool) → (1 == n.profile) ≡ b → q.value ≤ row.greatest
    by true e =
        let is : row_at n.profile idn ≡ Some row = rows n.profile ∙ ap (λ (x : Bool). if x then Some row else None) e in
        let inside = inside_told (is_between row.least row.greatest q.value) (sym (ap (is_wrong q.value) is) ∙ wrong) in
        leb-true q.value row.greatest (and_parts _ _ inside).1
    by false e =
        absurd (true≢false (sym (ap is_none (rows n.profile ∙ ap (λ (x : Bool). if x then Some row else None) e))
        ∙ (sym (ap is_none found) ∙ there)))

pub level_value : (n : Numbers) (q : Query) → writes_attribute 0x03 q ≡ true → has_wrong_idn n q ≡ false →
    has_wrong_value n q ≡ false → q.value ≤ 15
level_value = in_profile_1 0x03 _ (λ profile. refl) refl

pub clock_value : (n : Numbers) (q : Query) → writes_attribute 0x0A q ≡ true → has_wrong_idn n q ≡ false →
    has_wrong_value n q ≡ false → q.value ≤ 3
clock_value = in_profile_1 0x0A _ (λ profile. refl) refl
