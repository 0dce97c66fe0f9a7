-- A journal can begin with each base: its regions have keys, counters and sizes.
use Rattle.heard_laws.proofs.Common.{AreRegionsOf, Array, Bool, IsConfig, IsKept, List, Numbers, Plain, RegionState}
use Rattle.heard_laws.proofs.Common.{Spot, State, ap, arith, length, map, numbers_of, refl, region_of, subst, sym, ℕ}
use Rattle.heard_laws.proofs.Common.{⊎_elim, ◌*◌, ◌<◌, ◌≡◌, ◌≤◌}
use Rattle.std.proofs.Common.{◌/◌}
use Rattle.std.proofs.Math.ListN as lists
use Rattle.std.proofs.Math.ListN.{get_or-eq_default}
use Rattle.std.proofs.lemmas.Bool.{cases_lt}
use Rattle.std.specs.Prelude.{slice_index_or}
use Rattle.ufs_spec.proofs.RegionPages.{area_there, region_there}
use Rattle.ufs_spec.specs.Lives.{IsOpened}
use Rattle.ufs_spec.specs.Plain.{Region, Shape, empty_region, regions, shape_of, shape_of_numbers}
use Rattle.power_loss.proofs.openings.OpenedStates.{opened_state}
use Rattle.power_loss.specs.Runs.{MayBeOpened}

-- what is kept of a region
kept_of : Region → RegionState
kept_of r = record { key = r.key; counter = r.counter; blocks = length r.area / 256 }

-- the areas of a device are whole blocks
whole_area : (n : Numbers) (number : ℕ) →
    slice_index_or (shape_of_numbers n).areas number 0
    ≡ 256 * (slice_index_or (shape_of_numbers n).areas number 0 / 256)
whole_area n number =
    ⊎_elim
    (λ (there : number < regions). let e = region_there n number there in omega (arith, e))
    (λ (past : regions ≤ number). let e = get_or-eq_default (shape_of_numbers n).areas 0 {n = number} past in
    omega (arith, e)) (cases_lt number regions)

regions_kept : (n : Numbers) (p : Plain) → shape_of p ≡ shape_of_numbers n → AreRegionsOf (map kept_of p.regions) p
unfolding kept_of
regions_kept n p same number =
    subst (λ (s : RegionState). IsKept s (region_of p number))
    (sym (lists.get_or-map kept_of p.regions number empty_region))
    (record {
      key = refl;
      counter = refl;
      area =
          let a = area_there p number in
          let b = ap (λ (s : Shape). slice_index_or s.areas number 0) same in
          let c = whole_area n number in
          omega (arith, a, b, c);
    })

pub each_base_has_regions : (n : Numbers) (array : Array) (bad : Spot → Bool) (s : State) → IsConfig n →
    MayBeOpened n array → IsOpened n array bad s → (states : List RegionState) × AreRegionsOf states s.base
each_base_has_regions n array bad s config may o =
    let v = opened_state n array bad s config may.inside may.sound o in
    (map kept_of s.base.regions, regions_kept (numbers_of s) s.base v.tied.base.1)
