-- Lists that are filled from the front, and the units of a device that are filled one after another.
use Rattle.std.proofs.Common.{◌≡◌, ℕ, ◌+◌, ◌<◌, ◌≤◌, List, [], ◌∷◌, ◌++◌, length, map, take, drop, get_or}
use Rattle.std.proofs.Common.{slice_set, sym, ap, ◌∙◌, refl, arith, append_assoc, drop-cons, suc}
use Rattle.std.proofs.Common.{Option, None, Some, Bool, ◌==◌, false, if◌then◌else◌, is_some, true}
use Rattle.std.specs.Prelude.{IfSome}
use Rattle.std.proofs.lemmas.Bool.{false≢true, ne_eqb}
use Rattle.std.proofs.Math.ListN.{set}
use Rattle.std.proofs.lemmas.Grind.{common_steps}
use Rattle.std.proofs.lemmas.List.{append-nil, drop_all, get_or-map, get_or-set_same, length-map, set-get_or}
use Rattle.std.proofs.lemmas.List.{length-take-le, set_at, take_all, take_more, take_more_same}
use Rattle.ufs_spec.specs.Counting.{below}
use Rattle.ufs_spec.specs.Plain.{Plain, area_len, empty_region, new_region, region_of, regions, shape_of}
use Rattle.ufs_spec.specs.Plain.{shape_of_numbers, unit_of, with_blocks, with_part, with_region, zero, zero_area}
use Rattle.ufs_spec.specs.Rpmb.{Region}
use Rattle.std.specs.declared.vec.Vec.{Vec}
use Rattle.ufs_spec.specs.declared.configs.Numbers.{Numbers}
use Rattle.ufs_spec.specs.declared.configs.UnitSpec.{UnitSpec}
use Rattle.ufs_spec.proofs.Facts.{cond-false, cond-true, eq-eqb}
use Rattle.ufs_spec.proofs.PlainFacts.{new_area, one_part}
use Rattle.journal.specs.Shown.{AreAreas, AreUnits, IsArea, area_found, holding_regions, region_found, region_held}
use Rattle.journal.specs.Shown.{regions_held}
use Rattle.journal.specs.declared.found.FoundRegion.{FoundRegion}

-- one element more comes from the new list, the rest is still the old one's
pub fill_more : {X : Type 0} (new old : List X) (i : ℕ) (x d : X) → i < length new → i < length old →
    x ≡ get_or new i d → set (take i new ++ drop i old) i x ≡ take (i + 1) new ++ drop (i + 1) old
fill_more new old i x d lt there here =
    let front = take i new in
    let next : suc i ≡ i + 1 = omega arith in
    ap (λ ys. set (front ++ ys) i x) (drop-cons old i x there)
    ∙ set_at front (get_or old i x) (drop (suc i) old) x i (length-take-le i new (omega (arith, lt)))
    ∙ sym (append_assoc front (x ∷ []) (drop (suc i) old))
    ∙ ap (λ ys. (front ++ ys ∷ []) ++ drop (suc i) old) here
    ∙ ap (λ ys. ys ++ drop (suc i) old) (sym (take_more new i d lt))
    ∙ ap (λ j. take (i + 1) new ++ drop j old) next

-- a list whose front was replaced is as long as before
pub fill_long : {X : Type 0} (new old : List X) (i : ℕ) → length new ≡ length old → i ≤ length new →
    length (take i new ++ drop i old) ≡ length old
fill_long new old i same le = grind (arith, common_steps)

-- once all elements came, nothing of the old list is left
pub filled : {X : Type 0} (new old : List X) (i : ℕ) → length new ≡ length old → length new ≤ i →
    take i new ++ drop i old ≡ new
filled new old i same le =
    ap (λ ys. ys ++ drop i old) (take_all i new le)
    ∙ ap (λ ys. new ++ ys) (drop_all i old (omega (arith, same, le)))
    ∙ append-nil new

-- the next element is still the old one's
pub fill_next : {X : Type 0} (new old : List X) (i : ℕ) (d : X) → length (take i new) ≡ i →
    get_or (take i new ++ drop i old) i d ≡ get_or old i d
fill_next {X} new old i d front = grind (arith, common_steps)

-- a number that is not 0 is positive
some_of : (x : ℕ) → (x == 0) ≡ false → 0 < x
some_of ℕ.zero e = absurd (false≢true (sym e))
some_of (suc x) e = omega arith

-- setting twice is setting once
set_twice : {X : Type 0} (xs : List X) (i : ℕ) (x y : X) → set (set xs i x) i y ≡ set xs i y
set_twice [] i x y = refl
set_twice (z ∷ xs) ℕ.zero x y = refl
set_twice (z ∷ xs) (suc i) x y = ap (λ ys. z ∷ ys) (set_twice xs i x y)

-- a unit with its first blocks replaced
abbrev pub with_front : ℕ → ℕ → List (List ℕ) → Plain → Plain
with_front unit i blocks p =
    record p { units = slice_set p.units unit (take i blocks ++ drop i (unit_of unit p)) }

-- its blocks
pub front_of : (p : Plain) (unit i : ℕ) (blocks : List (List ℕ)) → unit < length p.units →
    unit_of unit (with_front unit i blocks p) ≡ take i blocks ++ drop i (unit_of unit p)
front_of p unit i blocks there = get_or-set_same p.units unit (take i blocks ++ drop i (unit_of unit p)) [] there

-- one block more is replaced
pub front_more : (p : Plain) (unit i : ℕ) (blocks : List (List ℕ)) → unit < length p.units → i < length blocks →
    length blocks ≡ length (unit_of unit p) →
    with_blocks unit i (get_or blocks i [] ∷ []) (with_front unit i blocks p) ≡ with_front unit (i + 1) blocks p
front_more p unit i blocks there lt same =
    let block = get_or blocks i [] in
    let old = unit_of unit p in
    let front = take i blocks ++ drop i old in
    let long = fill_long blocks old i same (omega (arith, lt)) in
    let one = one_part i block front (omega (arith, lt, same, long)) in
    let more = fill_more blocks old i block [] lt (omega (arith, lt, same)) refl in
    let value = ap (with_part i (block ∷ [])) (front_of p unit i blocks there) ∙ sym one ∙ more in
    ap (λ us. record p { units = us }) (ap (λ (b : List (List ℕ)). set (set p.units unit front) unit b) value
    ∙ set_twice p.units unit front (take (i + 1) blocks ++ drop (i + 1) old))

-- ## Counts of blocks

-- the counts of the blocks in vectors
abbrev pub counts_of : {Z : Type 0} → List (Vec (List ℕ) Z) → List ℕ
counts_of {Z} blocks = map length (map (λ (v : Vec (List ℕ) Z). v.items) blocks)

-- the counts by the numbers
abbrev pub counts_by : List UnitSpec → List ℕ
counts_by specs = map (λ (u : UnitSpec). u.blocks) specs

-- how many blocks a vector has
pub count_there : {Z : Type 0} (blocks : List (Vec (List ℕ) Z)) (i : ℕ) (v : Vec (List ℕ) Z) → i < length blocks →
    v ≡ get_or blocks i v → get_or (counts_of blocks) i 0 ≡ length v.items
count_there {Z} blocks i v lt here =
    let long = length-map blocks (λ (v : Vec (List ℕ) Z). v.items) in
    get_or-map length (map (λ (v : Vec (List ℕ) Z). v.items) blocks) i [] 0 (omega (arith, lt, long))
    ∙ ap length (get_or-map (λ (v : Vec (List ℕ) Z). v.items) blocks i v [] lt)
    ∙ ap (λ (v : Vec (List ℕ) Z). length v.items) (sym here)

-- how many the numbers want
pub count_wanted : (specs : List UnitSpec) (i : ℕ) (d : UnitSpec) → i < length specs →
    get_or (counts_by specs) i 0 ≡ (get_or specs i d).blocks
count_wanted specs i d lt = get_or-map (λ (u : UnitSpec). u.blocks) specs i d 0 lt

-- one unit more has its count
pub counts_more : {Z : Type 0} (blocks : List (Vec (List ℕ) Z)) (specs : List UnitSpec) (i : ℕ)
    (v : Vec (List ℕ) Z) (d : UnitSpec) → length specs ≡ length blocks → i < length specs → v ≡ get_or blocks i v →
    length v.items ≡ (get_or specs i d).blocks → take i (counts_of blocks) ≡ take i (counts_by specs) →
    take (i + 1) (counts_of blocks) ≡ take (i + 1) (counts_by specs)
counts_more {Z} blocks specs i v d same lt here equal before =
    let first = length-map blocks (λ (v : Vec (List ℕ) Z). v.items) in
    let second = length-map (map (λ (v : Vec (List ℕ) Z). v.items) blocks) length in
    let third = length-map specs (λ (u : UnitSpec). u.blocks) in
    take_more_same (counts_of blocks) (counts_by specs) i 0 (omega (arith, first, second, lt, same))
    (omega (arith, third, lt)) before
    (count_there blocks i v (omega (arith, lt, same)) here ∙ equal ∙ sym (count_wanted specs i d lt))

-- where all counts are the numbers', each one is
pub count_equal : {Z : Type 0} (blocks : List (Vec (List ℕ) Z)) (specs : List UnitSpec) (i : ℕ)
    (v : Vec (List ℕ) Z) (d : UnitSpec) → i < length blocks → i < length specs → v ≡ get_or blocks i v →
    counts_of blocks ≡ counts_by specs → length v.items ≡ (get_or specs i d).blocks
count_equal blocks specs i v d in_blocks lt here all =
    sym (count_there blocks i v in_blocks here) ∙ ap (λ (xs : List ℕ). get_or xs i 0) all
    ∙ count_wanted specs i d lt

-- there are as many units as the numbers say
pub units_many : {Z : Type 0} (blocks : List (Vec (List ℕ) Z)) (specs : List UnitSpec) →
    counts_of blocks ≡ counts_by specs → length blocks ≡ length specs
units_many {Z} blocks specs all =
    let many = ap length all in
    let first = length-map blocks (λ (v : Vec (List ℕ) Z). v.items) in
    let second = length-map (map (λ (v : Vec (List ℕ) Z). v.items) blocks) length in
    let third = length-map specs (λ (u : UnitSpec). u.blocks) in
    omega arith

-- ## Regions

-- the area that was found has as many bytes as a new one
found_long : (n : Numbers) (number : ℕ) (key : Option (List ℕ)) (area : List ℕ) →
    IfSome key (λ (bytes : List ℕ). length area ≡ area_len n number) →
    length (area_found n number key area) ≡ area_len n number
found_long n number None area h = new_area n number
found_long n number (Some bytes) area h = h

held_long : (n : Numbers) (number : ℕ) (r : FoundRegion) → (0 < area_len n number → IsArea n number r) →
    length (region_held n number r).area ≡ area_len n number
held_long n number r whole = by (area_len n number == 0) refl
  where
    by : (b : Bool) → (area_len n number == 0) ≡ b →
        length (if b then new_region n number else region_found n number r).area ≡ area_len n number
    by true e = new_area n number
    by false e = found_long n number r.key r.area.now (whole (some_of (area_len n number) e))

-- the areas of regions that were found have all their bytes
held_areas : (n : Numbers) (found : List FoundRegion) → length found ≡ regions → AreAreas n found →
    map (λ (r : Region). length r.area) (regions_held n 0 found) ≡ map (area_len n) (below regions)
held_areas n (a ∷ b ∷ c ∷ d ∷ []) many whole =
    λ i. held_long n 0 a (whole 0 a refl) i ∷ held_long n 1 b (whole 1 b refl) i
    ∷ held_long n 2 c (whole 2 c refl) i ∷ held_long n 3 d (whole 3 d refl) i ∷ []
held_areas n [] many whole = absurd (omega (arith, many))
held_areas n (a ∷ []) many whole = absurd (omega (arith, many))
held_areas n (a ∷ b ∷ []) many whole = absurd (omega (arith, many))
held_areas n (a ∷ b ∷ c ∷ []) many whole = absurd (omega (arith, many))
held_areas n (a ∷ b ∷ c ∷ d ∷ e ∷ more) many whole = absurd (omega (arith, many))

-- as many are held as were found
pub held_count : (n : Numbers) (number : ℕ) (found : List FoundRegion) →
    length (regions_held n number found) ≡ length found
held_count n number [] = refl
held_count n number (r ∷ rs) = ap suc (held_count n (suc number) rs)

-- each is the one that was found of its number
held_from : (n : Numbers) (number : ℕ) (found : List FoundRegion) (i : ℕ) (r : FoundRegion) (d : Region) →
    i < length found → r ≡ get_or found i r →
    get_or (regions_held n number found) i d ≡ region_held n (number + i) r
held_from n number [] i r d lt is = absurd (omega (arith, lt))
held_from n number (x ∷ xs) ℕ.zero r d lt is =
    let same : number ≡ number + 0 = omega arith in
    λ i. region_held n (same i) (sym is i)
held_from n number (x ∷ xs) (suc i) r d lt is =
    let same : suc number + i ≡ number + suc i = omega arith in
    held_from n (suc number) xs i r d (omega (arith, lt)) is ∙ ap (λ (k : ℕ). region_held n k r) same

pub held_there : (n : Numbers) (found : List FoundRegion) (i : ℕ) (r : FoundRegion) (d : Region) →
    i < length found → r ≡ get_or found i r → get_or (regions_held n 0 found) i d ≡ region_held n i r
held_there n found i r d lt is =
    let same : 0 + i ≡ i = omega arith in
    held_from n 0 found i r d lt is ∙ ap (λ (k : ℕ). region_held n k r) same

-- the regions of a new device
abbrev pub news : Numbers → List Region
news n = map (new_region n) (below regions)

new_there : (n : Numbers) (i : ℕ) → i < regions → get_or (news n) i empty_region ≡ new_region n i
new_there n ℕ.zero lt = refl
new_there n (suc ℕ.zero) lt = refl
new_there n (suc (suc ℕ.zero)) lt = refl
new_there n (suc (suc (suc ℕ.zero))) lt = refl
new_there n (suc (suc (suc (suc i)))) lt = absurd (omega (arith, lt))

-- a region that is there is held as it was found, and one that is not there as a new one
pub held_found : (n : Numbers) (number : ℕ) (r : FoundRegion) → 0 < area_len n number →
    region_held n number r ≡ region_found n number r
held_found n number r some =
    cond-false (area_len n number == 0) (new_region n number) (region_found n number r)
    (ne_eqb (area_len n number) 0 (λ e. omega (arith, e, some)))

pub held_new : (n : Numbers) (number : ℕ) (r : FoundRegion) → area_len n number ≤ 0 →
    region_held n number r ≡ new_region n number
held_new n number r none =
    cond-true (area_len n number == 0) (new_region n number) (region_found n number r)
    (eq-eqb (area_len n number) 0 (omega (arith, none)))

-- regions of which the first ones are held and the others are new
module _ (n : Numbers) (found : List FoundRegion) (i : ℕ) (many : length found ≡ regions) (lt : i < regions) where
  abbrev pub so_far : List Region
  so_far = take i (regions_held n 0 found) ++ drop i (news n)

  pub so_far_long : length so_far ≡ regions
  so_far_long = fill_long (regions_held n 0 found) (news n) i (held_count n 0 found ∙ many)
      (omega (arith, lt, held_count n 0 found, many))

  -- the next one is new
  pub next_new : get_or so_far i empty_region ≡ new_region n i
  next_new =
      let count = held_count n 0 found in
      let front = length-take-le i (regions_held n 0 found) (omega (arith, lt, count, many)) in
      fill_next (regions_held n 0 found) (news n) i empty_region front ∙ new_there n i lt

  -- and is held once it was set
  pub next_held : (r : FoundRegion) → r ≡ get_or found i r → (x : Region) → x ≡ region_held n i r →
      set so_far i x ≡ take (i + 1) (regions_held n 0 found) ++ drop (i + 1) (news n)
  next_held r is x held =
      let count = held_count n 0 found in
      fill_more (regions_held n 0 found) (news n) i x empty_region (omega (arith, lt, count, many)) lt
      (held ∙ sym (held_there n found i r empty_region (omega (arith, lt, many)) is))

-- ## The device

-- the device with these units, whose regions are new
abbrev pub with_units : Numbers → List (List (List ℕ)) → Plain
with_units n units = record (zero n) { units = units }

-- the shape of a device whose units have their counts, and whose areas have all their bytes
pub held_shape : (n : Numbers) (units : List (List (List ℕ))) (found : List FoundRegion) → AreUnits n units →
    length found ≡ regions → AreAreas n found → shape_of (holding_regions n units found) ≡ shape_of_numbers n
held_shape n units found all many whole =
    λ i. record { blocks = all i; areas = held_areas n found many whole i }

-- a part as long as the whole is the whole
whole_part : (new old : List ℕ) → length new ≡ length old → with_part 0 new old ≡ new
whole_part new old same =
    ap (λ (ys : List ℕ). new ++ ys) (drop_all (0 + length new) old (omega (arith, same))) ∙ append-nil new

-- a region that is changed once more
again : (p : Plain) (number : ℕ) (r : Region) (change : Region → Region) → number < length p.regions →
    with_region number (change (region_of (with_region number r p) number)) (with_region number r p)
    ≡ with_region number (change r) p
again p number r change there =
    ap (λ (s : Region). with_region number (change s) (with_region number r p))
    (get_or-set_same p.regions number r empty_region there)
    ∙ ap (λ (rs : List Region). record p { regions = rs }) (set_twice p.regions number r (change r))

-- this key is set
abbrev key_set : Option (List ℕ) → Region → Region
key_set key r = record r { key = key }

-- this counter is set
abbrev counter_set : ℕ → Region → Region
counter_set counter r = record r { counter = counter }

-- the key and the counter were set, one after another
both_set : (number : ℕ) (r : Region) (p p1 p2 p3 : Plain) (key : Option (List ℕ)) (counter : ℕ) →
    number < length p.regions → p1 ≡ with_region number r p →
    p2 ≡ with_region number (key_set key (region_of p1 number)) p1 →
    p3 ≡ with_region number (counter_set counter (region_of p2 number)) p2 →
    p3 ≡ with_region number (record r { key = key; counter = counter }) p
both_set number r p p1 p2 p3 key counter there first second third =
    let keyed : p2 ≡ with_region number (key_set key r) p =
    second ∙ ap (λ (q : Plain). with_region number (key_set key (region_of q number)) q) first
    ∙ again p number r (key_set key) there in
    third ∙ ap (λ (q : Plain). with_region number (counter_set counter (region_of q number)) q) keyed
    ∙ again p number (key_set key r) (counter_set counter) there

-- under a key the area of a new region has room for the bytes that were found
pub room_for : (n : Numbers) (number : ℕ) (p : Plain) (key : Option (List ℕ)) (bytes : List ℕ) → is_some key ≡ true →
    region_of p number ≡ new_region n number → IfSome key (λ (k : List ℕ). length bytes ≡ area_len n number) →
    0 + length bytes ≤ length (region_of p number).area
room_for n number p None bytes some e whole = absurd (false≢true some)
room_for n number p (Some k) bytes some e whole =
    let here : length (region_of p number).area ≡ length (zero_area n number) =
    ap (λ (r : Region). length r.area) e in
    let long = new_area n number in
    omega (arith, here, long, whole)

-- under a key the area, the key and the counter were set
pub found_set : (n : Numbers) (number : ℕ) (p p1 p2 p3 : Plain) (key : Option (List ℕ)) (bytes : List ℕ)
    (counter : ℕ) → is_some key ≡ true → number < length p.regions → region_of p number ≡ new_region n number →
    IfSome key (λ (k : List ℕ). length bytes ≡ area_len n number) →
    p1 ≡ with_region number (record (region_of p number) { area = with_part 0 bytes (region_of p number).area }) p →
    p2 ≡ with_region number (key_set key (region_of p1 number)) p1 →
    p3 ≡ with_region number (counter_set counter (region_of p2 number)) p2 →
    p3 ≡ with_region number (record { key = key; area = area_found n number key bytes; counter = counter }) p
found_set n number p p1 p2 p3 None bytes counter some there e whole first second third = absurd (false≢true some)
found_set n number p p1 p2 p3 (Some k) bytes counter some there e whole first second third =
    let filled : p1 ≡ with_region number (record { key = None; area = bytes; counter = 0 }) p =
    first
    ∙ ap (λ (r : Region). with_region number (record r { area = with_part 0 bytes r.area }) p) e
    ∙ ap (λ (area : List ℕ). with_region number (record { key = None; area = area; counter = 0 }) p)
    (whole_part bytes (zero_area n number) (whole ∙ sym (new_area n number))) in
    both_set number (record { key = None; area = bytes; counter = 0 }) p p1 p2 p3 (Some k) counter there filled second
    third

-- without a key the counter was set, and the key to none
pub none_set : (n : Numbers) (number : ℕ) (p p1 p2 p3 : Plain) (key : Option (List ℕ)) (bytes : List ℕ)
    (counter : ℕ) → is_some key ≡ false → number < length p.regions → region_of p number ≡ new_region n number →
    p1 ≡ p → p2 ≡ with_region number (key_set key (region_of p1 number)) p1 →
    p3 ≡ with_region number (counter_set counter (region_of p2 number)) p2 →
    p3 ≡ with_region number (record { key = key; area = area_found n number key bytes; counter = counter }) p
none_set n number p p1 p2 p3 None bytes counter none there e first second third =
    let same : p1 ≡ with_region number (new_region n number) p =
    first ∙ ap (λ (rs : List Region). record p { regions = rs }) (sym (set-get_or p.regions number empty_region))
    ∙ ap (λ (r : Region). with_region number r p) e in
    both_set number (new_region n number) p p1 p2 p3 None counter there same second third
none_set n number p p1 p2 p3 (Some k) bytes counter none there e first second third =
    absurd (false≢true (sym none))
