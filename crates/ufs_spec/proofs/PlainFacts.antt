-- What writes leave of the units, and that commands keep the shape.
use Rattle.std.proofs.Common.{◌≡◌, ℕ, ◌+◌, ◌*◌, ◌<◌, ◌≤◌, List, [], ◌∷◌, ◌++◌, All, length, drop, map, replicate}
use Rattle.std.proofs.Common.{get_or, slice_index_or, slice_set, refl, sym, ap, ◌∙◌, subst, arith, drop-cons}
use Rattle.std.proofs.Common.{append_assoc, add-one, suc}
use Rattle.std.proofs.Math.ListN.{set}
use Rattle.std.proofs.Math.Seq.{map-set_same}
use Rattle.std.proofs.lemmas.List.{length-map, length-replicate, map-set, get_or-map, set-get_or, set_at, set_split}
use Rattle.std.proofs.lemmas.List.{with_items_is}
use Rattle.std.proofs.lemmas.Grind.{common_steps, replicate_next}
use Rattle.std.specs.Vec.{with_items}
use Rattle.std.specs.declared.vec.Vec.{Vec}
use Rattle.ufs_spec.specs.declared.configs.UnitSpec.{UnitSpec}
use Rattle.ufs_spec.specs.declared.configs.Numbers.{Numbers}
use Rattle.ufs_spec.specs.Keys.{CanApplyAll}
use Rattle.ufs_spec.specs.Commands.{Command, Write, Zero, SetKey, RpmbWrite}
use Rattle.ufs_spec.specs.Plain.{LiesWithin, Plain, Region, Shape, after, apply, area_len, changed_by, empty_region}
use Rattle.ufs_spec.specs.Plain.{region_of, shape_of, shape_of_numbers, with_part, zero, zero_area, zero_block}
use Rattle.ufs_spec.specs.PlainRegions.{region_seen}
use Rattle.ufs_spec.specs.declared.plain_device.PlainRegion.{PlainRegion}
use Rattle.ufs_spec.proofs.RegionPages.{area_there}

-- Lists

-- one more of the same over the front of a list
pub fill_next : {X : Type 0} (n : ℕ) (v : X) (xs : List X) → n < length xs →
    set (replicate n v ++ drop n xs) n v ≡ replicate (n + 1) v ++ drop (n + 1) xs
fill_next n v xs lt =
    let front = replicate n v in
    let step = drop-cons xs n v lt in
    let written = set_at front (get_or xs n v) (drop (suc n) xs) v n (length-replicate n v) in
    let more = replicate_next n v in
    let joined = append_assoc front (v ∷ []) (drop (suc n) xs) in
    let next = add-one n in
    ap (λ ys. set (front ++ ys) n v) step ∙ (written ∙ (sym joined ∙ cc))

-- a part of one element is that element set
pub one_part : {X : Type 0} (at : ℕ) (v : X) (xs : List X) → at < length xs → set xs at v ≡ with_part at (v ∷ []) xs
one_part at v xs lt = grind (arith, common_steps, set_split)

pub length-with_part : {X : Type 0} (at : ℕ) (new old : List X) → at + length new ≤ length old →
    length (with_part at new old) ≡ length old
length-with_part at new old within = grind (arith, common_steps)

-- Units

-- the blocks of a unit are those in its vector
pub unit_items : {X Z : Type 0} (units : List (Vec X Z)) (unit : ℕ) (v : Vec X Z) →
    unit < length (map (λ (b : Vec X Z). b.items) units) → v ≡ get_or units unit v →
    get_or (map (λ (b : Vec X Z). b.items) units) unit [] ≡ v.items
unit_items {X} {Z} units unit v there here =
    let lt : unit < length units = omega (arith, length-map units (λ (b : Vec X Z). b.items)) in
    let at = get_or-map (λ (b : Vec X Z). b.items) units unit v [] lt in
    cc

-- the vectors of blocks with one replaced, each as its list
pub put_unit : {X Z : Type 0} (units : List (Vec X Z)) (unit : ℕ) (v w : Vec X Z) (new : List X → List X) →
    unit < length (map (λ (b : Vec X Z). b.items) units) → v ≡ get_or units unit v → w.items ≡ new v.items →
    map (λ (b : Vec X Z). b.items) (set units unit w) ≡ set (map (λ (b : Vec X Z). b.items) units) unit
    (new (get_or (map (λ (b : Vec X Z). b.items) units) unit []))
put_unit {X} {Z} units unit v w new there here e =
    let at = unit_items units unit v there here in
    let changed = map-set (λ (b : Vec X Z). b.items) units unit w in
    cc

-- a vector of blocks after a write through its slice
pub put_blocks : {X Z : Type 0} (v : Vec X Z) (slice written : List X) (new : List X → List X) → slice ≡ v.items →
    length slice ≡ v.len → length written ≡ length slice → written ≡ new slice →
    (with_items v written).items ≡ new v.items
put_blocks v slice written new same len kept e = with_items_is v written (omega arith) ∙ (e ∙ ap new same)

-- Regions

-- the regions with one replaced
pub put_region : (rs : List PlainRegion) (number : ℕ) (r w : PlainRegion) (new : Region → Region) →
    number < length rs → r ≡ get_or rs number r → region_seen w ≡ new (region_seen r) →
    map region_seen (set rs number w)
    ≡ set (map region_seen rs) number (new (get_or (map region_seen rs) number empty_region))
put_region rs number r w new there here e =
    let at = get_or-map region_seen rs number r empty_region there in
    let changed = map-set region_seen rs number w in
    cc

-- Shapes

pub new_blocks : (units : List UnitSpec) →
    map length (map (λ u. replicate u.blocks zero_block) units) ≡ map (λ u. u.blocks) units
new_blocks [] = refl
new_blocks (u ∷ us) =
    let first = length-replicate u.blocks zero_block in
    let rest = new_blocks us in
    cc

pub new_area : (n : Numbers) (region : ℕ) → length (zero_area n region) ≡ area_len n region
unfolding zero_area
new_area n region = length-replicate (area_len n region) 0

pub new_shape : (n : Numbers) → shape_of (zero n) ≡ shape_of_numbers n
new_shape n =
    let blocks = new_blocks n.units.items in
    λ i. record {
      blocks = blocks i;
      areas = new_area n 0 i ∷ new_area n 1 i ∷ new_area n 2 i ∷ new_area n 3 i ∷ [];
    }

-- a part that lies within a unit changes no count of blocks
pub kept_blocks : (units : List (List (List ℕ))) (unit address : ℕ) (blocks : List (List ℕ)) →
    unit < length (map length units) → address + length blocks ≤ slice_index_or (map length units) unit 0 →
    map length (slice_set units unit (with_part address blocks (slice_index_or units unit []))) ≡ map length units
kept_blocks units unit address blocks there within =
    let old = slice_index_or units unit [] in
    let lt : unit < length units = omega (arith, length-map units length) in
    let at = get_or-map length units unit [] 0 lt in
    let len = length-with_part address blocks old (omega (arith, at)) in
    let changed = map-set length units unit (with_part address blocks old) in
    let same = set-get_or (map length units) unit 0 in
    cc

-- an area of the same length changes no length
kept_areas : (rs : List Region) (number : ℕ) (new : Region) →
    length new.area ≡ length (slice_index_or rs number empty_region).area →
    map (λ (r : Region). length r.area) (slice_set rs number new) ≡ map (λ (r : Region). length r.area) rs
kept_areas rs number new same = map-set_same (λ (r : Region). length r.area) rs number new empty_region same

pub kept_shape : (p : Plain) (c : Command) → LiesWithin (shape_of p) c → shape_of (apply p c) ≡ shape_of p
kept_shape p (Write unit address blocks) within =
    let same = kept_blocks p.units unit address blocks within.0 within.3 in
    cc
kept_shape p (Zero unit address count) within =
    let len = length-replicate count zero_block in
    let same = kept_blocks p.units unit address (replicate count zero_block) within.0 (omega (arith, within.3, len)) in
    cc
kept_shape p (SetKey region bytes) within =
    ap (λ (areas : List ℕ). record { blocks = map length p.units; areas = areas })
    (kept_areas p.regions region (changed_by (region_of p region) (SetKey region bytes)) refl)
kept_shape p (RpmbWrite region address bytes) within =
    let old = area_there p region in
    let same = length-with_part (256 * address) bytes (region_of p region).area (omega (arith, within.1.1, old)) in
    ap (λ (areas : List ℕ). record { blocks = map length p.units; areas = areas })
    (kept_areas p.regions region (changed_by (region_of p region) (RpmbWrite region address bytes)) same)
kept_shape p other within = refl

pub kept_shapes : (p : Plain) (cs : List Command) → All (LiesWithin (shape_of p)) cs →
    shape_of (after p cs) ≡ shape_of p
kept_shapes p [] within = refl
kept_shapes p (c ∷ cs) within =
    let kept = kept_shape p c (within 0 c (omega (arith, refl {a = length (c ∷ cs)}))) in
    let P : Shape → Type 0 = λ s. All (LiesWithin s) cs in
    let rest : All (LiesWithin (shape_of p)) cs = λ k d lt. within (suc k) d (omega arith) in
    kept_shapes (apply p c) cs (subst P (sym kept) rest) ∙ kept

-- commands that can be applied one after another keep the shape
pub shape_after : (p : Plain) (cs : List Command) → CanApplyAll p cs → shape_of (after p cs) ≡ shape_of p
shape_after p [] can = refl
shape_after p (c ∷ cs) can = shape_after (apply p c) cs can.2 ∙ kept_shape p c can.1.0
