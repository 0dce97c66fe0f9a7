-- What the group of a command puts into contents.
pub use Rattle.ufs_spec.proofs.Equalities.{key_told as same_from_true}
use Rattle.ufs_laws.proofs.Common.{Bool, Command, Contents, Group, IsArea, IsData, IsKey, IsSettings, Key, List, Plain}
use Rattle.ufs_laws.proofs.Common.{Region, Some, [], after, any_here, ap, apply, area_key, area_page, arith, below}
use Rattle.ufs_laws.proofs.Common.{below_at, cases_lt, changed_by, cond, content, data_key, empty_region, false}
use Rattle.ufs_laws.proofs.Common.{get_or-map, get_or-set_same, group_of, inl, inr, length, length-map}
use Rattle.ufs_laws.proofs.Common.{length-replicate, list_any, map, refl, region_of, replicate, settings_key, shape_of}
use Rattle.ufs_laws.proofs.Common.{slice_get, slice_get-map, slice_index_or, slice_set, subst, suc, sym, with_part}
use Rattle.ufs_laws.proofs.Common.{with_region, ℕ, ◌*◌, ◌++◌, ◌+◌, ◌-◌, ◌/◌, ◌<◌, ◌∙◌, ◌∷◌, ◌≡◌, ◌≤◌, ◌⊎◌}
use Rattle.std.proofs.Math.ListN as lists
use Rattle.std.proofs.Math.ListN.{get_or-eq_default}
use Rattle.std.proofs.Math.Seq.{map-set_same}
use Rattle.std.proofs.lemmas.Bool.{cases_Bool, cases_eq, cond-false, cond-true, false≢true, or_from, or_parts}
use Rattle.std.proofs.lemmas.List.{get_or-set_other}
use Rattle.ufs_spec.specs.Keys.{CanApplyAll, area_keys, data_keys, groups_of, keys, put_group, put_groups, same_key}
use Rattle.ufs_spec.specs.Plain.{CanApply, zero_block}
use Rattle.ufs_spec.specs.Commands as cmd
use Rattle.ufs_spec.proofs.PlainFacts.{kept_shape, length-with_part}
use Rattle.ufs_spec.proofs.RegionPages.{area_there}
use Rattle.ufs_laws.proofs.plain_contents.ListParts.{same_part, with_part-outside}
use Rattle.ufs_spec.proofs.Equalities.{key_same, key_told}
use Rattle.std.proofs.lemmas.List.Folds.{list_any-append}
use Rattle.std.specs.Prelude.{option_map}

-- Keys

-- whether the key is one of these
abbrev pub any_same : List Key → Key → Bool
any_same js k = list_any (λ (j : Key). same_key j k) js

any_same-parts : (is js : List Key) (k : Key) → any_same (is ++ js) k ≡ false →
    (any_same is k ≡ false) × (any_same js k ≡ false)
any_same-parts is js k h = or_parts _ _ (sym (list_any-append (λ (j : Key). same_key j k) is js) ∙ h)

-- a key that is none of those made from the numbers below n
none_made : (f : ℕ → Key) (n : ℕ) (k : Key) → any_same (map f (below n)) k ≡ false → (i : ℕ) → i < n → f i ≡ k → ⊥
none_made f n k h i lt e =
    let there : slice_get (map f (below n)) i ≡ Some (f i) = slice_get-map f (below n) i
    ∙ ap (option_map f) (below_at n i lt) in
    false≢true (sym h ∙ any_here (λ (j : Key). same_key j k) (map f (below n)) i (f i) there (key_same (f i) k e))

-- Groups

-- the group of keys, with their content in g
abbrev pub group : Contents → List Key → Group
group g ks = map (λ (k : Key). record { key = k; body = g k }) ks

-- g is f with a group of g put in, where they agree at all other keys
put_unless : (f g : Contents) (ks : List Key) (k : Key) → (any_same ks k ≡ false → g k ≡ f k) →
    g k ≡ put_group f (group g ks) k
put_unless f g [] k h = h refl
put_unless f g (j ∷ js) k h =
    elim (cases_Bool (same_key j k)) [
      | inl same ↦ ap g (sym (key_told j k same))
          ∙ sym (cond-true (same_key j k) (g j) (put_group f (group g js) k) same)
      | inr other ↦
          (put_unless f g js k (λ none. h (or_from _ _ other none))
          ∙ sym (cond-false (same_key j k) (g j) (put_group f (group g js) k) other))
    ]

-- what is put in at a key depends on the content of that key alone
pub put_group-same : (f g : Contents) (items : Group) (k : Key) → f k ≡ g k → put_group f items k ≡ put_group g items k
put_group-same f g [] k h = h
put_group-same f g (item ∷ items) k h =
    ap (λ rest. cond (same_key item.key k) item.body rest) (put_group-same f g items k h)

pub put_groups-same : (f g : Contents) (gs : List Group) (k : Key) → f k ≡ g k → put_groups f gs k ≡ put_groups g gs k
put_groups-same f g [] k h = h
put_groups-same f g (items ∷ gs) k h =
    put_groups-same (put_group f items) (put_group g items) gs k (put_group-same f g items k h)

-- Blocks

-- a block that a write does not name stays
pub blocks_unless : (units : List (List (List ℕ))) (unit address : ℕ) (blocks : List (List ℕ)) (u a : ℕ) →
    unit < length (map length units) → address + length blocks ≤ slice_index_or (map length units) unit 0
    → (u ≡ unit → address ≤ a → a < address + length blocks → ⊥)
    →
    slice_index_or
    (slice_index_or (slice_set units unit (with_part address blocks (slice_index_or units unit []))) u []) a []
    ≡ slice_index_or (slice_index_or units u []) a []
blocks_unless units unit address blocks u a there within other =
    let old : List (List ℕ) = slice_index_or units unit [] in
    let new : List (List ℕ) = with_part address blocks old in
    let lt : unit < length units = omega (arith, length-map units length) in
    let size = get_or-map length units unit [] 0 lt in
    let room : address + length blocks ≤ length old = omega arith in
    elim (cases_eq u unit) [
      | inl same ↦
          (let written : slice_index_or (slice_set units unit new) u
          [] ≡ new = ap (λ (v : ℕ). slice_index_or (slice_set units unit new) v []) same
          ∙ get_or-set_same units unit new [] lt in
          let outside : (a < address) ⊎ (address + length blocks ≤ a) =
          elim (cases_lt a address) [
            | inl low ↦ inl low
            | inr high ↦ elim (cases_lt a (address + length blocks))
                [ inl inside ↦ absurd (other same high inside) | inr behind ↦ inr behind ]
          ] in
          let kept = with_part-outside address blocks old a [] room outside in
          let was : slice_index_or units u [] ≡ old = ap (λ (v : ℕ). slice_index_or units v []) same in
          ap (λ bs. slice_index_or bs a []) written ∙ (kept ∙ ap (λ bs. slice_index_or bs a []) (sym was)))
      | inr apart ↦ ap (λ bs. slice_index_or bs a []) (get_or-set_other units unit u new [] apart)
    ]

-- a block that is none of the keys of a write is not within it
not_within : (unit address n u a : ℕ) → any_same (data_keys unit address n) (data_key u a) ≡ false → u ≡ unit →
    address ≤ a → a < address + n → ⊥
not_within unit address n u a none same low high =
    let place : address + (a - address) ≡ a = omega arith in
    let here : data_key unit (address + (a - address)) ≡ data_key u a = cc in
    none_made (λ (i : ℕ). data_key unit (address + i)) n (data_key u a) none (a - address) (omega arith) here

-- Area pages

-- a page that no part of a write lies in stays
page_unless : (area bytes : List ℕ) (address count page : ℕ) → length bytes ≡ 256 * count → 1 ≤ count →
    256 * address + length bytes ≤ length area
    → (address / 16 ≤ page → page ≤ (address + count - 1) / 16 → ⊥)
    → area_page page (with_part (256 * address) bytes area) ≡ area_page page area
page_unless area bytes address count page size some within other =
    same_part 4096 (4096 * page) (with_part (256 * address) bytes area) area
    (length-with_part (256 * address) bytes area within)
    (λ (k d : ℕ) lt.
    (let outside : (4096 * page + k < 256 * address) ⊎ (256 * address + length bytes ≤ 4096 * page + k) =
    elim (cases_lt page (address / 16)) [
      | inl low ↦ inl (omega arith)
      | inr high ↦ elim (cases_lt ((address + count - 1) / 16) page)
          [ inl above ↦ inr (omega arith) | inr inside ↦ absurd (other high inside) ]
    ] in
    with_part-outside (256 * address) bytes area (4096 * page + k) d within outside))

-- a page that is none of the keys of an RPMB write lies outside of it
not_among : (region first last page : ℕ) → any_same (area_keys region first last) (area_key region page) ≡ false →
    first / 16 ≤ page → page ≤ last / 16 → ⊥
not_among region first last page none low high =
    let place : first / 16 + (page - first / 16) ≡ page = omega arith in
    none_made (λ (i : ℕ). area_key region (first / 16 + i)) (last / 16 + 1 - first / 16) (area_key region page) none
    (page - first / 16) (omega arith) (ap (area_key region) place)

-- Regions

-- a region that has bytes is there
some_area : (rs : List Region) (number size : ℕ) → 1 ≤ size →
    size ≤ length (slice_index_or rs number empty_region).area →
    number < length rs
some_area rs number size some within =
    elim (cases_lt number (length rs)) [
      | inl there ↦ there
      | inr past ↦
          (let none = ap (λ (r : Region). length r.area) (get_or-eq_default rs empty_region past) in
          absurd (omega (arith, none, some, within)))
    ]

-- a region in place of one with the same area changes no area
area_stays : (p : Plain) (number other : ℕ) (new : Region) → new.area ≡ (region_of p number).area →
    (region_of (with_region number new p) other).area ≡ (region_of p other).area
area_stays p number other new same =
    sym (lists.get_or-map (λ (r : Region). r.area) (slice_set p.regions number new) other empty_region)
    ∙ (ap (λ (areas : List (List ℕ)). slice_index_or areas other [])
    (map-set_same (λ (r : Region). r.area) p.regions number new empty_region same)
    ∙ lists.get_or-map (λ (r : Region). r.area) p.regions other empty_region)

-- Commands

-- a key that a command does not name keeps its content
untouched : (p : Plain) (c : Command) → CanApply p c → (k : Key) → IsKey (shape_of p) k → any_same (keys c) k ≡ false →
    content (apply p c) k ≡ content p k
untouched p (cmd.Write unit address blocks) can k (IsData u a there within) none =
    blocks_unless p.units unit address blocks u a can.0.0 can.0.3 (not_within unit address (length blocks) u a none)
untouched p (cmd.Write unit address blocks) can k IsSettings none = refl
untouched p (cmd.Zero unit address count) can k (IsData u a there within) none =
    let len = length-replicate count zero_block in
    let zeros : List (List ℕ) = replicate count zero_block in
    blocks_unless p.units unit address zeros u a can.0.0 (omega (arith, can.0.3))
    (λ same low high. not_within unit address count u a none same low (omega arith))
untouched p (cmd.Zero unit address count) can k IsSettings none = refl
untouched p (cmd.SetKey region bytes) can k (IsArea other page there within) none =
    ap (area_page page) (area_stays p region other (changed_by (region_of p region) (cmd.SetKey region bytes)) refl)
untouched p (cmd.RpmbWrite region address bytes) can k (IsArea other page there within) none =
    let count : ℕ = can.0.1.0.0 in
    let size : length bytes ≡ 256 * count = can.0.1.0.1 in
    let again : length bytes / 256 ≡ count = omega arith in
    let last : ℕ = address + length bytes / 256 - 1 in
    let same : last ≡ address + count - 1 = ap (λ (n : ℕ). address + n - 1) again in
    let parts = any_same-parts (area_keys region address last) (settings_key ∷ []) (area_key other page) none in
    let room : 256 * address + length bytes ≤ length (region_of p region).area =
    omega (arith, can.0.1.1, area_there p region) in
    elim (cases_eq other region) [
      | inl is ↦
          (let apart = ap (λ (r : ℕ). any_same (area_keys region address last) (area_key r page)) (sym is) ∙ parts.0 in
          ap (λ (r : ℕ). area_page page (region_of (apply p (cmd.RpmbWrite region address bytes)) r).area) is
          ∙ (ap (λ (r : Region). area_page page r.area)
          (get_or-set_same p.regions region (changed_by (region_of p region) (cmd.RpmbWrite region address bytes))
          empty_region
          (some_area p.regions region (256 * address + length bytes) (omega (arith, size, can.0.1.0.2)) room))
          ∙ (page_unless (region_of p region).area bytes address count page size can.0.1.0.2 room
          (λ low high. not_among region address last page apart low (omega arith))
          ∙ ap (λ (r : ℕ). area_page page (region_of p r).area) (sym is))))
      | inr apart ↦ ap (λ (r : Region). area_page page r.area)
          (get_or-set_other p.regions region other
          (changed_by (region_of p region) (cmd.RpmbWrite region address bytes)) empty_region apart)
    ]
untouched p (cmd.RpmbWrite region address bytes) can k IsSettings none =
    let parts = any_same-parts (area_keys region address (address + length bytes / 256 - 1)) (settings_key ∷ [])
    settings_key none in
    absurd (false≢true (sym parts.1))
untouched p command can k (IsArea region page there within) none = refl
untouched p command can k (IsData u a there within) none = refl
untouched p command can k is none = absurd (false≢true (sym none))

pub one_command : (p : Plain) (c : Command) → CanApply p c → (k : Key) → IsKey (shape_of p) k →
    content (apply p c) k ≡ put_group (content p) (group_of p c) k
one_command p c can k is_key = put_unless (content p) (content (apply p c)) (keys c) k (untouched p c can k is_key)

pub many_commands : (p : Plain) (cs : List Command) → CanApplyAll p cs → (k : Key) → IsKey (shape_of p) k →
    content (after p cs) k ≡ put_groups (content p) (groups_of p cs) k
many_commands p [] can k is_key = refl
many_commands p (c ∷ cs) can k is_key =
    let kept = kept_shape p c can.1.0 in
    let still : IsKey (shape_of (apply p c)) k = subst (λ s. IsKey s k) (sym kept) is_key in
    many_commands (apply p c) cs can.2 k still
    ∙ put_groups-same (content (apply p c)) (put_group (content p) (group_of p c)) (groups_of (apply p c) cs) k
    (one_command p c can.1 k is_key)

-- each command makes one group
pub length-groups : (p : Plain) (cs : List Command) → length (groups_of p cs) ≡ length cs
length-groups p [] = refl
length-groups p (c ∷ cs) = ap suc (length-groups (apply p c) cs)
