-- What a layer above needs to put its own words in the place of the table's: a fact at each page and each block is a
-- fact of the live pages and of the victim.
use Rattle.block_table.proofs.Common.{Bool, List, Lives, None, Place, Sizes, Some, Spot, [], and_from, and_parts, ap}
use Rattle.block_table.proofs.Common.{arith, below, block_place, cases_Bool, cond, false, filter, flat_map}
use Rattle.block_table.proofs.Common.{flat_map-append, has_block, if◌then◌else◌, inl, inr, is_live, length, list_any}
use Rattle.block_table.proofs.Common.{lt-ltb, ltb-true, map, map-append, mul-add-lt, mul_comm, nat_lt, place_in, refl}
use Rattle.block_table.proofs.Common.{slice_get, slice_set, spot, spot_of, subst, suc, sym, true, unwrap_or, zero, ℕ}
use Rattle.block_table.proofs.Common.{◌&&◌, ◌*◌, ◌++◌, ◌<◌, ◌||◌, ◌∙◌, ◌∷◌, ◌≡◌, ◌⊎◌}
use Rattle.std.proofs.Common.{◌≢◌}
use Rattle.ufs_spec.proofs.Facts.{if_both}
use Rattle.ufs_spec.specs.Translation.{least_of}
use Rattle.block_table.specs.Lives.{has_page, page_place, places_in, spots_in, spots_of_die, with_live}
use Rattle.block_table.proofs.LiveCounts.{noted, noted_beside, noted_here, spot_inside}

-- Each of a list

abbrev pub Each : {A : Type 0} → (A → Type 0) → List A → Type 0
Each P [] = Unit {0}
Each P (x ∷ xs) = P x × Each P xs

each_append : {A : Type 0} (P : A → Type 0) (xs ys : List A) → Each P xs → Each P ys → Each P (xs ++ ys)
each_append P [] ys h k = k
each_append P (x ∷ xs) ys h k = (h.0, each_append P xs ys h.1 k)

each_mapped : {A : Type 0} (P : A → Type 0) (f : ℕ → A) (n : ℕ) → ((k : ℕ) → k < n → P (f k)) →
    Each P (map f (below n))
each_mapped P f zero h = tt
each_mapped {A} P f (suc n) h =
    subst (Each P) (sym (map-append f (below n) (n ∷ [])))
    (each_append P (map f (below n)) (f n ∷ []) (each_mapped P f n (λ k l. h k (omega arith)))
    (h n (omega arith), tt))

each_flat : {A : Type 0} (P : A → Type 0) (f : ℕ → List A) (n : ℕ) → ((k : ℕ) → k < n → Each P (f k)) →
    Each P (flat_map f (below n))
each_flat P f zero h = tt
each_flat P f (suc n) h =
    subst (Each P) (sym (flat_map-append f (below n) (n ∷ [])))
    (each_append P (flat_map f (below n)) (f n ++ []) (each_flat P f n (λ k l. h k (omega arith)))
    (each_append P (f n) [] (h n (omega arith)) tt))

-- what holds of each block of the sizes holds of each of the list of all
pub each_spot : (P : Spot → Type 0) (n : Sizes) → ((s : Spot) → has_block n s ≡ true → P s) → Each P (spots_in n)
each_spot P n h = each_flat P (spots_of_die n) n.dies (λ die l.
    each_mapped P (λ block. record { die = die; block = block }) n.blocks (λ block m.
    h (spot die block) (and_from (nat_lt die n.dies) (nat_lt block n.blocks)
    (lt-ltb die n.dies l) (lt-ltb block n.blocks m))))

-- and what holds of each page of a block, of each of the list of its pages
pub each_page : (P : Place → Type 0) (n : Sizes) (s : Spot) → ((k : ℕ) → k < n.pages → P (place_in s k)) →
    Each P (places_in n s)
each_page P n s h = each_mapped P (place_in s) n.pages h

-- Two tests that say the same of each, and two counts

pub filter_same : {A : Type 0} (p q : A → Bool) (xs : List A) → Each (λ x. p x ≡ q x) xs → filter p xs ≡ filter q xs
filter_same p q [] h = refl
filter_same p q (x ∷ xs) h = λ i. cond (h.0 i) (x ∷ filter_same p q xs h.1 i) (filter_same p q xs h.1 i)

each_kept : {A : Type 0} (P : A → Type 0) (p : A → Bool) (xs : List A) → Each P xs → Each P (filter p xs)
each_kept P p [] h = tt
each_kept {A} P p (x ∷ xs) h = by (p x) (each_kept P p xs h.1)
  where
    by : (b : Bool) → Each P (filter p xs) → Each P (cond b (x ∷ filter p xs) (filter p xs))
    by true k = (h.0, k)
    by false k = k

least_some : {A : Type 0} (c d : A → ℕ) (best : A) (xs : List A) → c best ≡ d best → Each (λ x. c x ≡ d x) xs →
    least_of c (Some best) xs ≡ least_of d (Some best) xs
least_some c d best [] e h = refl
least_some c d best (x ∷ xs) e h =
    least_some c d (if nat_lt (c x) (c best) then x else best) xs
    (if_both (λ z. c z ≡ d z) (nat_lt (c x) (c best)) h.0 e) h.1
    ∙ ap (λ (b : Bool). least_of d (Some (if b then x else best)) xs) (λ i. nat_lt (h.0 i) (e i))

pub least_same : {A : Type 0} (c d : A → ℕ) (xs : List A) → Each (λ x. c x ≡ d x) xs →
    least_of c None xs ≡ least_of d None xs
least_same c d [] h = refl
least_same c d (x ∷ xs) h = least_some c d x xs h.0 h.1

any_each : {A : Type 0} (p q : A → Bool) (xs : List A) → Each (λ x. p x ≡ q x) xs → list_any p xs ≡ list_any q xs
any_each p q [] h = refl
any_each p q (x ∷ xs) h = λ i. h.0 i || any_each p q xs h.1 i

-- the plain search finds the same block if its words say the same of each block
pub victim_same : (n : Sizes) (c d : Spot → ℕ) (p q : Spot → Bool) →
    ((s : Spot) → has_block n s ≡ true → c s ≡ d s) → ((s : Spot) → has_block n s ≡ true → p s ≡ q s) →
    least_of c None (filter p (spots_in n)) ≡ least_of d None (filter q (spots_in n))
victim_same n c d p q counts tests =
    ap (least_of c None) (filter_same p q (spots_in n) (each_spot (λ s. p s ≡ q s) n tests))
    ∙ least_same c d (filter q (spots_in n))
    (each_kept (λ s. c s ≡ d s) q (spots_in n) (each_spot (λ s. c s ≡ d s) n counts))

-- and some block passes if one passes in the other words
pub any_same : (n : Sizes) (p q : Spot → Bool) → ((s : Spot) → has_block n s ≡ true → p s ≡ q s) →
    list_any p (spots_in n) ≡ list_any q (spots_in n)
any_same n p q tests = any_each p q (spots_in n) (each_spot (λ s. p s ≡ q s) n tests)

-- A page or a pin noted

page_inside : (n : Sizes) (p : Place) → has_page n p ≡ true → page_place n p < n.dies * n.blocks * n.pages
page_inside n p h =
    let u : (has_block n (spot_of p) ≡ true) × (nat_lt p.page n.pages ≡ true) = and_parts _ _ h in
    let r = mul-add-lt (block_place n (spot_of p)) n.pages p.page (n.dies * n.blocks) (spot_inside n (spot_of p) u.0)
    (ltb-true p.page n.pages u.1) in
    let e = mul_comm n.pages (n.dies * n.blocks) in
    omega arith

-- there is a place for each page
abbrev pub HasPlaces : Lives → Type 0
HasPlaces l = length l.live ≡ l.sizes.dies * l.sizes.blocks * l.sizes.pages

with_noted : (l : Lives) (p : Place) (b : Bool) → has_page l.sizes p ≡ true → with_live l p b ≡ noted l p b
with_noted l p b h = λ i. record l { live = if h i then slice_set l.live (page_place l.sizes p) b else l.live }

pub live_here : (l : Lives) (p : Place) (b : Bool) → has_page l.sizes p ≡ true → HasPlaces l →
    is_live (with_live l p b) p ≡ b
live_here l p b h whole =
    let w = page_inside l.sizes p h in
    ap (λ (m : Lives). is_live m p) (with_noted l p b h) ∙ noted_here l p b h (omega arith)

pub live_beside : (l : Lives) (p q : Place) (b : Bool) → q ≢ p → is_live (with_live l p b) q ≡ is_live l q
live_beside l p q b apart = by (cases_Bool (has_page l.sizes p))
  where
    by : (has_page l.sizes p ≡ true) ⊎ (has_page l.sizes p ≡ false) → is_live (with_live l p b) q ≡ is_live l q
    by (inl h) = ap (λ (m : Lives). is_live m q) (with_noted l p b h) ∙ noted_beside l p q b h apart
    by (inr h) = λ i. has_page l.sizes q && unwrap_or
        (slice_get (if h i then slice_set l.live (page_place l.sizes p) b else l.live) (page_place l.sizes q)) false
