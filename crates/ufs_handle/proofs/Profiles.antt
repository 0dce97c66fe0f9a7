-- Numbers out of their ranges, and numbers with a profile, which have no other fault than without.
use Rattle.std.proofs.Common.{◌≡◌, ◌<◌, ◌≤◌, ℕ, Bool, List, Some, ap, arith, false, length, map, not, refl, suc, sym}
use Rattle.std.proofs.Common.{true, zero}
use Rattle.std.proofs.lemmas.List.{length-map}
use Rattle.std.specs.Prelude.{option_map}
use Rattle.ufs_spec.proofs.ConfigFacts.{ranges}
use Rattle.ufs_spec.specs.Configs.{config_fault, first_fault, has_too_little_spare, has_two_boot_units, in_range}
use Rattle.ufs_spec.specs.Configs.{numbers_of, with_profile}
use Rattle.ufs_spec.specs.declared.configs.Numbers.{Numbers}
use Rattle.ufs_spec.specs.declared.faults.ConfigFault.TheVariants.{Range}
use Rattle.ufs_handle.specs.Numbers.{config_fault_of}
use Rattle.ufs_handle.specs.Plain.{config_numbers, numbers_fault, unit_of}
use Rattle.ufs_handle.specs.declared.fault.Fault.TheVariants as fault
use Rattle.ufs_handle.specs.declared.plain.PlainConfig.{PlainConfig}
use Rattle.ufs_handle.specs.declared.plain.PlainUnit.{PlainUnit}

-- numbers of which one is out of its range have that fault
out_of_range : (n : Numbers) → (in_range n ≡ true → ⊥) → config_fault n ≡ Some Range
out_of_range n out = by (in_range n) refl
  where
    by : (b : Bool) → in_range n ≡ b → config_fault n ≡ Some Range
    by true e = absurd (out e)
    by false e = ap (λ (b : Bool). first_fault (not b) (has_too_little_spare n) (has_two_boot_units n)) e

pub too_many_units : (plain : PlainConfig) (units : List PlainUnit) → 8 < length units →
    numbers_fault plain units ≡ Some fault.Range
too_many_units plain units many =
    ap (option_map config_fault_of) (
    out_of_range (config_numbers plain units) (λ is.
    let few = (ranges (config_numbers plain units) is).units_bound in
    let same = length-map units unit_of in
    omega (arith, many, few, same)))

pub no_such_profile : (plain : PlainConfig) (units : List PlainUnit) → 1 < plain.profile →
    numbers_fault plain units ≡ Some fault.Range
no_such_profile plain units high =
    ap (option_map config_fault_of) (
    out_of_range (config_numbers plain units) (λ is.
    let low = (ranges (config_numbers plain units) is).profile_bound in
    omega (arith, high, low)))

-- each test but the last does not look at the profile
same_fault : (n : Numbers) (profile serial : ℕ) → n.profile ≡ 0 → profile ≤ 1 →
    config_fault (with_profile n profile serial) ≡ config_fault n
same_fault n zero serial is few = sym (ap (λ (p : ℕ). config_fault (with_profile n p serial)) is)
same_fault n (suc zero) serial is few = sym (ap (λ (p : ℕ). config_fault (with_profile n p serial)) is)
same_fault n (suc (suc p)) serial is few = absurd (omega (arith, few))

pub same_faults : (plain : PlainConfig) (units : List PlainUnit) → plain.profile ≤ 1 →
    numbers_fault plain units
    ≡ option_map config_fault_of
    (config_fault (numbers_of plain.dies plain.blocks plain.pages (map unit_of units) plain.rpmb plain.slots plain.spare))
same_faults plain units few =
    ap (option_map config_fault_of)
    (same_fault
    (numbers_of plain.dies plain.blocks plain.pages (map unit_of units) plain.rpmb plain.slots plain.spare) plain.profile
    plain.serial refl few)
