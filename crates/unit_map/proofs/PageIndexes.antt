-- Each page of the dies has its own index among all of them, and there are no more keys than an entry of the table tells.
use Rattle.std.proofs.Common.{◌≡◌, ◌∙◌, ◌&&◌, ℕ, ◌+◌, ◌*◌, ◌<◌, ◌≤◌, ◌^◌, Some, sym, arith}
use Rattle.std.specs.Prelude.{nat_lt}
use Rattle.std.proofs.Math.Nat.{mul_comm}
use Rattle.std.proofs.lemmas.Nat.{mul-add-lt, same_from_place}
use Rattle.std.proofs.lemmas.List.Sums.{sum-map}
use Rattle.std.proofs.lemmas.Option.{cond_some}
use Rattle.geometry.specs.Keys.{key_total}
use Rattle.ufs_spec.proofs.ConfigFacts.{unit_blocks_bound}
use Rattle.ufs_spec.proofs.Equalities.{place_is}
use Rattle.ufs_spec.proofs.Facts.{and_parts, ltb-true}
use Rattle.ufs_spec.specs.Cells.{IsPlace}
use Rattle.ufs_spec.specs.Configs.{InRange}
use Rattle.ufs_spec.specs.Keys.{area_pages}
use Rattle.ufs_spec.specs.Plain.{all_steps, regions, shape_of_numbers}
use Rattle.ufs_spec.specs.declared.configs.Numbers.{Numbers}
use Rattle.ufs_spec.specs.declared.configs.UnitSpec.{UnitSpec}
use Rattle.ufs_spec.specs.declared.flash.Place.{Place}
use Rattle.unit_map.specs.Tables.{page_index, page_total}

-- a page with an index is there, and the index is this
pub page_told : (n : Numbers) (p : Place) (i : ℕ) → page_index n p ≡ Some i →
    IsPlace n p × (i ≡ (p.die * n.blocks + p.block) * n.pages + p.page)
page_told n p i e =
    let r = cond_some _ _ i e in
    let u = and_parts (nat_lt p.die n.dies && nat_lt p.block n.blocks) (nat_lt p.page n.pages) r.0 in
    let v = and_parts (nat_lt p.die n.dies) (nat_lt p.block n.blocks) u.0 in (
      record {
        die = ltb-true p.die n.dies v.0;
        block = ltb-true p.block n.blocks v.1;
        page = ltb-true p.page n.pages u.1;
      },
      sym r.1,
    )

-- it is below the number of all pages
pub page_within : (n : Numbers) (p : Place) (i : ℕ) → page_index n p ≡ Some i → i < page_total n
page_within n p i e =
    let r = page_told n p i e in
    let block = mul-add-lt p.die n.blocks p.block n.dies r.0.die r.0.block in
    let page = mul-add-lt (p.die * n.blocks + p.block) n.pages p.page (n.blocks * n.dies) block r.0.page in
    rw (r.1, mul_comm n.dies n.blocks, mul_comm (n.blocks * n.dies) n.pages) page

-- and no other page has it
pub one_page : (n : Numbers) (p q : Place) (i : ℕ) → page_index n p ≡ Some i → page_index n q ≡ Some i → p ≡ q
one_page n p q i e f =
    let r = page_told n p i e in
    let s = page_told n q i f in
    let u = same_from_place (p.die * n.blocks + p.block) p.page (q.die * n.blocks + q.block) q.page n.pages r.0.page
    s.0.page (sym r.1 ∙ s.1) in
    let v = same_from_place p.die p.block q.die q.block n.blocks r.0.block s.0.block u.0 in
    place_is p q v.0 v.1 u.1

-- how many keys the RPMB areas have
area_keys : (n : Numbers) → area_pages (shape_of_numbers n) ≡ 32 * all_steps n
area_keys n = omega arith

-- regions in their ranges have few steps
few_steps : (n : Numbers) → InRange n → all_steps n ≤ 32
few_steps n range =
    let each = λ (region : ℕ) (there : region < regions).
    range.rpmb_bound region 0 (rw range.count_of_regions there) in
    omega (
      arith,
      each 0 (omega arith),
      each 1 (omega arith),
      each 2 (omega arith),
      each 3 (omega arith),
    )

-- there are not many keys
pub few_keys : (n : Numbers) → InRange n → key_total (shape_of_numbers n) < 2 ^ 32
few_keys n range =
    omega (
      arith,
      unit_blocks_bound n range,
      sum-map (λ (u : UnitSpec). u.blocks) n.units.items,
      area_keys n,
      few_steps n range,
    )
