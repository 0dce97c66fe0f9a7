-- The machines of all RPMB regions, of which one is changed.
use Rattle.device.proofs.Common.{Bool, IsKept, List, Machine, Plain, RegionState, Registers, ap, at_region, eqb-false}
use Rattle.device.proofs.Common.{eqb-true, false, get_or, get_or-set_same, get_or_default, if◌then◌else◌, length}
use Rattle.device.proofs.Common.{length-map, length-set, machine_at, map, refl, region_of, regions, said_by}
use Rattle.device.proofs.Common.{slice_index_or, subst, sym, true, with_machine, ℕ, ◌<◌, ◌==◌, ◌∙◌, ◌≡◌, ◌≢◌}
use Rattle.std.proofs.Math.ListN as lists
use Rattle.std.proofs.Math.Seq.{map-set_same}
use Rattle.std.proofs.lemmas.List.{get_or-set_other, same_lists}
use Rattle.ufs_spec.specs.Plain.{empty_region}
use Rattle.ufs_spec.specs.declared.flash.KeyAndCounter.{KeyAndCounter}
use Rattle.rpmb.specs.Kept.{idle_machine, no_state, said_kept}

pub at_same : (ms : List Machine) (region : ℕ) (m : Machine) → region < length ms →
    machine_at (with_machine ms region m) region ≡ m
at_same ms region m there = get_or-set_same ms region m (idle_machine no_state) there

pub at_other : (ms : List Machine) (region other : ℕ) (m : Machine) → other ≢ region →
    machine_at (with_machine ms region m) other ≡ machine_at ms other
at_other ms region other m differ = get_or-set_other ms region other m (idle_machine no_state) differ

pub as_many : (ms : List Machine) (region : ℕ) (m : Machine) → length (with_machine ms region m) ≡ length ms
as_many ms region m = length-set ms region m

-- what is kept of regions beside their registers stays where it is the same in the new machine
pub regions_same : (ms : List Machine) (region other : ℕ) (m : Machine) → m.region ≡ (machine_at ms region).region →
    (machine_at (with_machine ms region m) other).region ≡ (machine_at ms other).region
regions_same ms region other m same =
    sym (lists.get_or-map of_region (with_machine ms region m) other (idle_machine no_state))
    ∙ ap (λ (rs : List RegionState). slice_index_or rs other no_state)
    (map-set_same of_region ms region m (idle_machine no_state) same)
    ∙ lists.get_or-map of_region ms other (idle_machine no_state)
  where
    of_region : Machine → RegionState
    of_region x = x.region

-- the registers of one region change on both sides
pub registers_put : (f : ℕ → Registers) (ms : List Machine) (region : ℕ) (x : Registers) (m : Machine) →
    region < length ms → ((number : ℕ) → f number ≡ (machine_at ms number).registers) → x ≡ m.registers →
    (other : ℕ) → at_region f region x other ≡ (machine_at (with_machine ms region m) other).registers
registers_put f ms region x m there same is other = by (other == region) refl
  where
    by : (b : Bool) → (other == region) ≡ b →
        (if b then x else f other) ≡ (machine_at (with_machine ms region m) other).registers
    by true e =
        is ∙ sym (ap (λ (y : Machine). y.registers) (at_same ms region m there))
        ∙ ap (λ (n : ℕ). (machine_at (with_machine ms region m) n).registers) (sym (eqb-true other region e))
    by false e =
        same other ∙ sym (ap (λ (y : Machine). y.registers) (at_other ms region other m (eqb-false other region e)))

-- what the machines say of all regions is what the plain state has of them
pub all_said : (ms : List Machine) (p : Plain) → length ms ≡ regions → length p.regions ≡ regions →
    ((number : ℕ) → IsKept (machine_at ms number).region (region_of p number)) →
    map said_kept ms ≡ map said_by p.regions
all_said ms p each many kept =
    same_lists (map said_kept ms) (map said_by p.regions) as_long (λ k d lt. at_place k d lt)
  where
    as_long : length (map said_kept ms) ≡ length (map said_by p.regions)
    as_long = length-map ms said_kept ∙ (each ∙ (sym many ∙ sym (length-map p.regions said_by)))

    said : (number : ℕ) → said_kept (machine_at ms number) ≡ said_by (region_of p number)
    said number = λ i. record { key = (kept number).key i; counter = (kept number).counter i }

    at_place : (k : ℕ) (d : KeyAndCounter) → k < length (map said_kept ms) →
        get_or (map said_kept ms) k d ≡ get_or (map said_by p.regions) k d
    at_place k d lt =
        get_or_default (map said_kept ms) k d (said_kept (idle_machine no_state)) lt
        ∙ (lists.get_or-map said_kept ms k (idle_machine no_state)
        ∙ (said k
        ∙ (sym (lists.get_or-map said_by p.regions k empty_region)
        ∙ get_or_default (map said_by p.regions) k (said_by empty_region) d (subst (λ n. k < n) as_long lt))))
