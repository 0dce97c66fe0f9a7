-- Where the blocks of all dies stand in their list, and that they stand there in their order.
use Rattle.recovery.proofs.Common.{List, Numbers, Some, Spot, [], ap, arith, below, cases_lt, flat_map, get_front, inl}
use Rattle.recovery.proofs.Common.{inr, length, length-append, length-map, map, option_map, same_Some, slice_get}
use Rattle.recovery.proofs.Common.{slice_get-map, spot_number, spots, suc, sym, zero, ℕ, ⊎_elim, ◌*◌, ◌++◌, ◌+◌, ◌<◌}
use Rattle.recovery.proofs.Common.{◌∙◌, ◌≡◌, ◌≤◌}
use Rattle.std.proofs.Math.Nat.{mul_comm, suc-mul, zero-mul}
use Rattle.std.proofs.lemmas.List.{flat_map_more}
use Rattle.std.proofs.lemmas.Nat.{mul-add-lt}
use Rattle.ufs_spec.proofs.Lists.{below_at, length-below}
use Rattle.recovery.specs.Frees.{IsLowerSpot}
use Rattle.recovery.proofs.tables.Joined.{in_back}

-- the blocks of a die
abbrev pub row : ℕ → ℕ → List Spot
row blocks die = map (λ (block : ℕ). record { die = die; block = block }) (below blocks)

row_at : (blocks die b : ℕ) → b < blocks → slice_get (row blocks die) b ≡ Some (record { die = die; block = b })
row_at blocks die b l =
    slice_get-map (λ (block : ℕ). record { die = die; block = block }) (below blocks) b
    ∙ ap (option_map (λ (block : ℕ). record { die = die; block = block })) (below_at blocks b l)

pub rows_long : (blocks dies : ℕ) → length (flat_map (row blocks) (below dies)) ≡ dies * blocks
rows_long blocks zero = sym (zero-mul blocks)
rows_long blocks (suc dies) =
    let more = ap length (flat_map_more (row blocks) [] (below dies) dies) in
    let both = length-append (flat_map (row blocks) (below dies)) (row blocks dies) in
    let one : length (row blocks dies) ≡ length (below blocks) =
    length-map (below blocks) (λ (block : ℕ). record { die = dies; block = block }) in
    let all = length-below blocks in
    let before = rows_long blocks dies in
    let product = suc-mul dies blocks in
    omega (arith, more, both, one, all, before, product)

rows_at : (blocks dies d b : ℕ) → d < dies → b < blocks →
    slice_get (flat_map (row blocks) (below dies)) (d * blocks + b) ≡ Some (record { die = d; block = b })
rows_at blocks zero d b l m = absurd (omega arith)
rows_at blocks (suc dies) d b l m =
    let front = flat_map (row blocks) (below dies) in
    ap (λ (xs : List Spot). slice_get xs (d * blocks + b)) (sym (flat_map_more (row blocks) [] (below dies) dies))
    ∙ ⊎_elim
    (λ (low : d < dies).
    get_front front (row blocks dies) (d * blocks + b) (record { die = d; block = b }) (rows_at blocks dies d b low m))
    (λ (high : dies ≤ d).
    let same : d ≡ dies = omega arith in
    let at : d * blocks + b ≡ length front + b =
    ap (λ (k : ℕ). k + b) (ap (λ (k : ℕ). k * blocks) same ∙ sym (rows_long blocks dies)) in
    ap (slice_get (front ++ row blocks dies)) at
    ∙ (in_back front (row blocks dies) b
    ∙ (row_at blocks dies b m ∙ ap (λ (k : ℕ). Some (record { die = k; block = b })) (sym same))))
    (cases_lt d dies)

-- the block lies on the dies
pub record IsInside (n : Numbers) (s : Spot) : Type 0 where
  pub die : s.die < n.dies
  pub block : s.block < n.blocks

pub spot_there : (n : Numbers) (s : Spot) → IsInside n s → slice_get (spots n) (spot_number n.blocks s) ≡ Some s
spot_there n s is = rows_at n.blocks n.dies s.die s.block is.die is.block

pub one_spot : (n : Numbers) (a b : Spot) → IsInside n a → IsInside n b →
    spot_number n.blocks a ≡ spot_number n.blocks b → a ≡ b
one_spot n a b x y e =
    same_Some a b (sym (spot_there n a x) ∙ (ap (slice_get (spots n)) e ∙ spot_there n b y))

-- Order

pub lower_first : (blocks : ℕ) (a b : Spot) → a.block < blocks → IsLowerSpot a b →
    spot_number blocks a < spot_number blocks b
lower_first blocks a b l (inl die) =
    let h = mul-add-lt a.die blocks a.block b.die die l in
    let e = mul_comm blocks b.die in
    omega (arith, h, e)
lower_first blocks a b l (inr (die, block)) =
    let e = ap (λ (d : ℕ). d * blocks) die in omega (arith, e, block)

pub first_lower : (blocks : ℕ) (a b : Spot) → a.block < blocks → b.block < blocks →
    spot_number blocks a < spot_number blocks b → IsLowerSpot a b
first_lower blocks a b l m first =
    ⊎_elim (λ (die : a.die < b.die). inl die)
    (λ (up : b.die ≤ a.die).
    ⊎_elim
    (λ (die : b.die < a.die).
    let h = lower_first blocks b a m (inl die) in absurd (omega (arith, first, h)))
    (λ (down : a.die ≤ b.die).
    let same : a.die ≡ b.die = omega (arith, up, down) in
    let e = ap (λ (d : ℕ). d * blocks) same in
    inr (same, omega (arith, e, first)))
    (cases_lt b.die a.die))
    (cases_lt a.die b.die)
