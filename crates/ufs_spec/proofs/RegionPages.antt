-- How many pages the area of each RPMB region has.
use Rattle.std.proofs.Common.{List, [], ap, arith, length, refl, slice_index_or, suc, zero, ℕ, ◌/◌, ◌<◌, ◌∙◌, ◌∷◌, ◌≡◌}
use Rattle.std.proofs.Math.ListN as lists
use Rattle.ufs_spec.specs.Keys.{region_pages}
use Rattle.ufs_spec.specs.Plain.{Plain, Region, area_len, empty_region, region_of, regions, shape_of, shape_of_numbers}
use Rattle.ufs_spec.specs.declared.configs.Numbers.{Numbers}

-- the pages of the area of a region
pub pages_there : (n : Numbers) (region : ℕ) → region < regions →
    slice_index_or (region_pages (shape_of_numbers n)) region 0 ≡ area_len n region / 4096
pages_there n zero l = refl
pages_there n (suc zero) l = refl
pages_there n (suc (suc zero)) l = refl
pages_there n (suc (suc (suc zero))) l = refl
pages_there n (suc (suc (suc (suc region)))) l = absurd (omega (arith, l))

-- four sizes of which the last three are none
pub one_region : (sizes : List ℕ) → length sizes ≡ regions → slice_index_or sizes 1 0 ≡ 0 → slice_index_or sizes 2 0 ≡ 0 →
    slice_index_or sizes 3 0 ≡ 0 → sizes ≡ slice_index_or sizes 0 0 ∷ 0 ∷ 0 ∷ 0 ∷ []
one_region (a ∷ b ∷ c ∷ d ∷ []) e one two three = λ i. a ∷ one i ∷ two i ∷ three i ∷ []
one_region [] e one two three = absurd (omega (arith, e))
one_region (a ∷ []) e one two three = absurd (omega (arith, e))
one_region (a ∷ b ∷ []) e one two three = absurd (omega (arith, e))
one_region (a ∷ b ∷ c ∷ []) e one two three = absurd (omega (arith, e))
one_region (a ∷ b ∷ c ∷ d ∷ x ∷ more) e one two three = absurd (omega (arith, e))

-- the bytes of the area of a region
pub region_there : (n : Numbers) (region : ℕ) → region < regions →
    slice_index_or (shape_of_numbers n).areas region 0 ≡ area_len n region
region_there n zero l = refl
region_there n (suc zero) l = refl
region_there n (suc (suc zero)) l = refl
region_there n (suc (suc (suc zero))) l = refl
region_there n (suc (suc (suc (suc region)))) l = absurd (omega (arith, l))

-- of a plain state they are the pages of its bytes
pub area_there : (p : Plain) (region : ℕ) →
    slice_index_or (shape_of p).areas region 0 ≡ length (region_of p region).area
area_there p region = lists.get_or-map (λ (r : Region). length r.area) p.regions region empty_region

pub pages_held : (p : Plain) (region : ℕ) →
    slice_index_or (region_pages (shape_of p)) region 0 ≡ length (region_of p region).area / 4096
pages_held p region =
    lists.get_or-map (λ (b : ℕ). b / 4096) (shape_of p).areas region 0
    ∙ ap (λ (b : ℕ). b / 4096) (area_there p region)
