-- What follows where numbers have no fault.
use Rattle.std.proofs.Common.{◌≡◌, ℕ, ◌+◌, ◌*◌, ◌<◌, ◌≤◌, [], ◌∷◌, Bool, true, false, not, ltb, List, All, None, refl}
use Rattle.std.proofs.Common.{arith, if◌then◌else◌, nat_le}
use Rattle.std.specs.List.{list_all}
use Rattle.std.specs.Int.{div_ceil}
use Rattle.std.proofs.Math.Nat.{mul-le-mul_right}
use Rattle.std.proofs.lemmas.Bool.{and_parts, eqb-true, leb-true, ltb-false, or_parts}
use Rattle.std.proofs.lemmas.Grind.{div_ceil_times}
use Rattle.std.proofs.lemmas.List.Sums.{AllPass-from_list_all, sum_by-le}
use Rattle.ufs_spec.specs.declared.configs.UnitSpec.{UnitSpec}
use Rattle.ufs_spec.specs.declared.configs.Numbers.{Numbers}
use Rattle.ufs_spec.specs.Configs.{first_fault, numbers_of, is_between, unit_in_range, in_range, unit_blocks}
use Rattle.ufs_spec.specs.Configs.{pages_kept, blocks_needed, blocks_left, boot_count, IsConfig, UnitInRange, InRange}
use Rattle.ufs_spec.specs.Configs.{HasRoom, command_blocks}
use Rattle.ufs_spec.specs.Plain.{greatest_command}

-- a number that passes the test lies between the two
pub from_test : (low high n : ℕ) → is_between low high n ≡ true → (low ≤ n) × (n ≤ high)
from_test low high n h = let p = and_parts _ _ h in (leb-true _ _ p.0, leb-true _ _ p.1)

pub unit_range : (u : UnitSpec) → unit_in_range u ≡ true → UnitInRange u
unit_range u h =
    let p = and_parts _ _ h in
    let q = and_parts _ _ p.0 in
    let blocks = from_test _ _ _ q.0 in
    record {
      has_block = blocks.0;
      blocks_bound = blocks.1;
      boot_bound = (from_test _ _ _ q.1).1;
      protect_bound = (from_test _ _ _ p.1).1;
    }

pub each_unit_range : (units : List UnitSpec) → list_all unit_in_range units ≡ true → All UnitInRange units
each_unit_range units h = λ k d lt. unit_range _ (AllPass-from_list_all unit_in_range units h k d lt)

-- areas that pass the test have no more than eight steps each
pub few_steps : (sizes : List ℕ) → list_all (is_between 0 8) sizes ≡ true → All (λ steps. steps ≤ 8) sizes
few_steps sizes h = λ k d lt. (from_test 0 8 _ (AllPass-from_list_all (is_between 0 8) sizes h k d lt)).1

pub ranges : (n : Numbers) → in_range n ≡ true → InRange n
ranges n h =
    let profile = and_parts _ _ h in
    let spare = and_parts _ _ profile.0 in
    let slots = and_parts _ _ spare.0 in
    let rpmb = and_parts _ _ slots.0 in
    let first = and_parts _ _ rpmb.0 in
    let count = and_parts _ _ first.0 in
    let each = and_parts _ _ count.0 in
    let units = and_parts _ _ each.0 in
    let pages = and_parts _ _ units.0 in
    let dies = and_parts _ _ pages.0 in
    record {
      has_die = (from_test _ _ _ dies.0).0;
      dies_bound = (from_test _ _ _ dies.0).1;
      has_blocks = (from_test _ _ _ dies.1).0;
      blocks_bound = (from_test _ _ _ dies.1).1;
      has_pages = (from_test _ _ _ pages.1).0;
      pages_bound = (from_test _ _ _ pages.1).1;
      has_unit = (from_test _ _ _ units.1).0;
      units_bound = (from_test _ _ _ units.1).1;
      each_unit = each_unit_range _ each.1;
      count_of_regions = eqb-true _ _ count.1;
      has_rpmb = (from_test _ _ _ first.1).0;
      rpmb_bound = few_steps n.rpmb rpmb.1;
      has_slots = (from_test _ _ _ slots.1).0;
      slots_bound = (from_test _ _ _ slots.1).1;
      spare_bound = (from_test _ _ _ spare.1).1;
      profile_bound = leb-true _ _ profile.1;
    }

-- where none of the three tests finds a fault
no_fault_tests : (a b c : Bool) → first_fault (not a) b c ≡ None → (a ≡ true) × (b ≡ false) × (c ≡ false)
no_fault_tests true false false h = (refl, refl, refl)
no_fault_tests true true c h = cc
no_fault_tests true false true h = cc
no_fault_tests false b c h = cc

pub config_tests : (n : Numbers) → IsConfig n →
    (in_range n ≡ true) × (ltb (blocks_left n) (blocks_needed n) ≡ false) × (boot_count 1 n ≤ 1) × (boot_count 2 n ≤ 1)
config_tests n h =
    let tests = no_fault_tests _ _ _ h in
    let counts = or_parts _ _ tests.2 in
    (tests.0, tests.1, ltb-false _ _ counts.0, ltb-false _ _ counts.1)

-- what fits rounded-up rows of p pages fits all rows
fits_rows : (kept slots pages rest left rows : ℕ) → 0 < pages → div_ceil (kept + slots) pages + rest ≤ left →
    left ≤ rows → kept ≤ rows * pages
fits_rows kept slots pages rest left rows some fits bound =
    let whole = div_ceil_times (kept + slots) pages some in
    let few : div_ceil (kept + slots) pages ≤ rows = omega arith in
    omega (arith, whole.0, mul-le-mul_right pages few)

pub room : (n : Numbers) → IsConfig n → HasRoom n
room n h =
    let tests = config_tests n h in
    let r = ranges n tests.0 in
    let enough = ltb-false _ _ tests.1 in
    let kept = fits_rows (pages_kept n) (4 * n.slots) n.pages (4 * n.dies + 8) (blocks_left n) (n.dies * n.blocks)
    (omega (arith, r.has_pages)) (omega (arith, enough)) (omega arith) in
    omega (arith, kept)

-- units in their ranges have not many blocks
pub unit_blocks_bound : (n : Numbers) → InRange n → unit_blocks n ≤ 16777216
unit_blocks_bound n r =
    omega (
      arith,
      sum_by-le (λ (u : UnitSpec). u.blocks) 2097152 n.units.items
          (λ k d lt. (r.each_unit k d lt).blocks_bound),
      mul-le-mul_right 2097152 r.units_bound,
    )

-- four dies of 16 blocks of 64 pages, three units with 256, 64 and 64 blocks, and boot units A and B
pub row_units : List UnitSpec
row_units =
    record { blocks = 256; boot = 0; protect = 0 } ∷ record { blocks = 64; boot = 1; protect = 0 }
    ∷ record { blocks = 64; boot = 2; protect = 0 } ∷ []

-- they are a configuration: of 60 blocks 35 are needed
pub row_is_config : IsConfig (numbers_of 4 16 64 row_units (1 ∷ 0 ∷ 0 ∷ 0 ∷ []) 64 4)
unfolding row_units
row_is_config = refl

-- How many blocks a command may have

chosen-few : (b : Bool) → (if b then greatest_command else 32) ≤ greatest_command
chosen-few true = omega arith
chosen-few false = omega arith

-- as many as the greatest one, or fewer
pub command_blocks-few : (n : Numbers) → command_blocks n ≤ greatest_command
command_blocks-few n = chosen-few (nat_le 256 n.slots)

chosen-some : (b : Bool) → 32 ≤ (if b then greatest_command else 32)
chosen-some true = omega arith
chosen-some false = omega arith

-- 32 in each configuration
pub command_blocks-some : (n : Numbers) → 32 ≤ command_blocks n
command_blocks-some n = chosen-some (nat_le 256 n.slots)
