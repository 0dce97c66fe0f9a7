-- A new device is plain, and all zeros.
use Rattle.ufs_laws.proofs.Common.{All, All-map, All-replicate, IsArea, IsBlock, IsData, IsKey, IsPlain, IsRegion}
use Rattle.ufs_laws.proofs.Common.{IsSettings, Key, List, Numbers, Region, UnitSpec, [], ap, area_page, arith, below}
use Rattle.ufs_laws.proofs.Common.{content, get_or-replicate, length, length-map, map, refl, region_of, regions}
use Rattle.ufs_laws.proofs.Common.{replicate, shape_of_numbers, slice_index_or, suc, zero, ℕ, ◌<◌, ◌∙◌, ◌∷◌, ◌≡◌}
use Rattle.ufs_spec.specs.Plain.{new_region, zero as zero_state, zero_block}
use Rattle.ufs_spec.proofs.PlainFacts.{new_area}
use Rattle.ufs_spec.proofs.RegionPages.{pages_there}
use Rattle.ufs_laws.proofs.pages.ByteLists.{bytes-zero_area, zero_block_is, zero_page}
use Rattle.ufs_laws.proofs.pages.SettingsBodies.{zero_settings}

new_region_is : (n : Numbers) (region : ℕ) → IsRegion (new_region n region)
new_region_is n region =
    let long = new_area n region in
    record {
      key_length = λ bytes e. (let no : ⊥ = cc in absurd no);
      area = omega arith;
      area_bytes = bytes-zero_area n region;
      counter_fits = omega arith;
    }

pub new_plain : (n : Numbers) → IsPlain (zero_state n)
new_plain n = record {
  blocks =
      All-map (All IsBlock) (λ (u : UnitSpec). replicate u.blocks zero_block) n.units.items
      (λ (k : ℕ) (d : UnitSpec) lt. All-replicate IsBlock (slice_index_or n.units.items k d).blocks zero_block
      zero_block_is);
  boot_bound = omega arith;
  regions_count = length-map (below regions) (new_region n);
  each_region = All-map IsRegion (new_region n) (below regions) (λ k d lt. new_region_is n _);
}

-- the new region of a number
new_there : (n : Numbers) (region : ℕ) → region < regions → region_of (zero_state n) region ≡ new_region n region
new_there n zero l = refl
new_there n (suc zero) l = refl
new_there n (suc (suc zero)) l = refl
new_there n (suc (suc (suc zero))) l = refl
new_there n (suc (suc (suc (suc region)))) l = absurd (omega (arith, l))

-- each block of a new unit is zeros
new_block : (units : List UnitSpec) (unit address : ℕ) → unit < length (map (λ (u : UnitSpec). u.blocks) units) →
    address < slice_index_or (map (λ (u : UnitSpec). u.blocks) units) unit 0
    →
    slice_index_or (slice_index_or (map (λ (u : UnitSpec). replicate u.blocks zero_block) units) unit []) address []
    ≡ zero_block
new_block [] unit address there within = absurd (omega arith)
new_block (u ∷ us) zero address there within = get_or-replicate u.blocks address zero_block [] within
new_block (u ∷ us) (suc unit) address there within = new_block us unit address (omega arith) within

pub new_zeros : (n : Numbers) (k : Key) → IsKey (shape_of_numbers n) k → content (zero_state n) k ≡ zero_block
new_zeros n k (IsData unit address there within) = new_block n.units.items unit address there within
new_zeros n k (IsArea region page there within) =
    ap (λ (r : Region). area_page page r.area) (new_there n region there)
    ∙ zero_page n region page (omega (arith, within, pages_there n region there))
new_zeros n k IsSettings = zero_settings
