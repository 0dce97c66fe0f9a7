-- The areas of the RPMB regions by their steps of 128 KiB.
use Rattle.std.proofs.Common.{◌≡◌, ◌∙◌, ℕ, ◌*◌, ◌/◌, List, [], ◌∷◌, length, map, sum, take, refl}
use Rattle.std.proofs.Common.{ap, arith, slice_index_or}
use Rattle.std.proofs.Math.ListN.{get_or-map}
use Rattle.std.proofs.lemmas.List.{take-map}
use Rattle.ufs_spec.specs.Keys.{area_pages, region_pages}
use Rattle.ufs_spec.specs.Counting.{below}
use Rattle.ufs_spec.specs.Plain.{all_steps, regions, shape_of_numbers}
use Rattle.ufs_spec.specs.declared.configs.Numbers.{Numbers}

-- a step has 32 pages
pages_in : (steps : ℕ) → 131072 * steps / 4096 ≡ 32 * steps
pages_in steps = omega arith

-- the pages of four areas, each by its place and each by its steps
pages_of : (areas : List ℕ) → length areas ≡ regions →
    map (λ region. 131072 * slice_index_or areas region 0 / 4096) (below regions) ≡ map (λ steps. 32 * steps) areas
pages_of [] e = absurd (omega (arith, e))
pages_of (a ∷ []) e = absurd (omega (arith, e))
pages_of (a ∷ b ∷ []) e = absurd (omega (arith, e))
pages_of (a ∷ b ∷ c ∷ []) e = absurd (omega (arith, e))
pages_of (a ∷ b ∷ c ∷ d ∷ []) e = λ i. pages_in a i ∷ pages_in b i ∷ pages_in c i ∷ pages_in d i ∷ []
pages_of (a ∷ b ∷ c ∷ d ∷ x ∷ xs) e = absurd (omega (arith, e))

-- the pages of each region are 32 for each of its steps
pub steps_pages : (n : Numbers) → length n.rpmb ≡ regions →
    region_pages (shape_of_numbers n) ≡ map (λ steps. 32 * steps) n.rpmb
steps_pages n e = pages_of n.rpmb e

-- and so are the pages of all regions together
pub all_pages : (n : Numbers) → length n.rpmb ≡ regions →
    area_pages (shape_of_numbers n) ≡ sum (map (λ steps. 32 * steps) n.rpmb)
all_pages n e = ap sum (steps_pages n e)

-- the areas before a region, together
pub pages_before : (n : Numbers) (region : ℕ) → length n.rpmb ≡ regions →
    sum (take region (region_pages (shape_of_numbers n))) ≡ sum (map (λ steps. 32 * steps) (take region n.rpmb))
pages_before n region e =
    ap (λ (pages : List ℕ). sum (take region pages)) (steps_pages n e)
    ∙ ap sum (take-map (λ (steps : ℕ). 32 * steps) region n.rpmb)

-- the area of one region
pub pages_of_region : (n : Numbers) (region : ℕ) → length n.rpmb ≡ regions →
    slice_index_or (region_pages (shape_of_numbers n)) region 0 ≡ 32 * slice_index_or n.rpmb region 0
pages_of_region n region e =
    ap (λ (pages : List ℕ). slice_index_or pages region 0) (steps_pages n e)
    ∙ get_or-map (λ (steps : ℕ). 32 * steps) n.rpmb region 0

-- the steps of four areas, each by its place
by_place : (areas : List ℕ) → length areas ≡ regions →
    sum areas ≡ sum (map (λ region. slice_index_or areas region 0) (below regions))
by_place [] e = absurd (omega (arith, e))
by_place (a ∷ []) e = absurd (omega (arith, e))
by_place (a ∷ b ∷ []) e = absurd (omega (arith, e))
by_place (a ∷ b ∷ c ∷ []) e = absurd (omega (arith, e))
by_place (a ∷ b ∷ c ∷ d ∷ []) e = refl
by_place (a ∷ b ∷ c ∷ d ∷ x ∷ xs) e = absurd (omega (arith, e))

-- the steps of all regions are those of the list
pub sum_of_steps : (n : Numbers) → length n.rpmb ≡ regions → sum n.rpmb ≡ all_steps n
sum_of_steps n e = by_place n.rpmb e
