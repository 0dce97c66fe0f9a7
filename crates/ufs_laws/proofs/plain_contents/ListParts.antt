-- Lists by their places: what a write leaves, lists made from numbers, and parts of the same size.
pub use Rattle.ufs_spec.proofs.Lists.{length-below}
use Rattle.ufs_laws.proofs.Common.{List, [], ap, append-nil, arith, below, below_at, cases_lt, drop, drop_at, flat_map}
use Rattle.ufs_laws.proofs.Common.{get_or, get_or-append_right, get_or-map, get_or-take, get_or_append_left, inl, inr}
use Rattle.ufs_laws.proofs.Common.{length, length-append, length-drop, length-map, length-take, length-take-le, map}
use Rattle.ufs_laws.proofs.Common.{refl, suc, sym, take, take-append-drop, take_all, with_part, zero, ℕ, ◌*◌, ◌++◌, ◌+◌}
use Rattle.ufs_laws.proofs.Common.{◌-◌, ◌<◌, ◌∙◌, ◌∷◌, ◌≡◌, ◌≤◌, ◌⊎◌}
use Rattle.std.proofs.Math.Nat.{mul-le-mul_left}
use Rattle.std.proofs.lemmas.List.{drop-append-le, drop-take, get_or-drop, same_lists, take-append-le, take-take}
use Rattle.std.proofs.lemmas.List.Concat.{flat_map-append}
use Rattle.ufs_spec.proofs.Lists.{length-below}
use Rattle.std.proofs.lemmas.Option.{get_or_from_slice_get}

-- What a write leaves

-- a place before the written part or behind it
pub with_part-outside : {X : Type 0} (at : ℕ) (new old : List X) (i : ℕ) (d : X) → at + length new ≤ length old →
    (i < at) ⊎ (at + length new ≤ i) → get_or (with_part at new old) i d ≡ get_or old i d
with_part-outside at new old i d within (inl low) =
    let front : length (take at old) ≡ at = length-take-le at old (omega arith) in
    let here : i < length (take at old) = omega arith in
    get_or_append_left (take at old) (new ++ drop (at + length new) old) d i here ∙ get_or-take at old i d low
with_part-outside {X} at new old i d within (inr high) =
    let front : length (take at old) ≡ at = length-take-le at old (omega arith) in
    let start : at ≤ i = omega arith in
    let behind : length new ≤ i - at = omega arith in
    let place : at + length new + (i - at - length new) ≡ i = omega arith in
    get_or-append_right (take at old) (new ++ drop (at + length new) old) at i d front start
    ∙ (get_or-append_right new (drop (at + length new) old) (length new) (i - at) d refl behind
    ∙ (get_or-drop (at + length new) old (i - at - length new) d ∙ ap (λ (j : ℕ). get_or old j d) place))

-- parts of two lists that agree at the places of the part
pub same_part : {X : Type 0} (n m : ℕ) (xs ys : List X) → length xs ≡ length ys →
    ((k : ℕ) (d : X) → k < n → get_or xs (m + k) d ≡ get_or ys (m + k) d) → take n (drop m xs) ≡ take n (drop m ys)
same_part {X} n m xs ys long same =
    let left : length (take n (drop m xs)) ≡ length (take n (drop m ys)) =
    omega (arith, length-take n (drop m xs), length-take n (drop m ys), length-drop m xs, length-drop m ys) in
    same_lists (take n (drop m xs)) (take n (drop m ys)) left
    (λ (k : ℕ) (d : X) lt.
    (let low : k < n = omega (arith, length-take n (drop m xs)) in
    get_or-take n (drop m xs) k d low
    ∙ (get_or-drop m xs k d ∙ (same k d low ∙ sym (get_or-take n (drop m ys) k d low ∙ get_or-drop m ys k d)))))

-- The numbers below n

pub get_or-below : (n i d : ℕ) → i < n → get_or (below n) i d ≡ i
get_or-below n i d lt = get_or_from_slice_get (below n) i i d (below_at n i lt)

pub length-made : {X : Type 0} (f : ℕ → X) (n : ℕ) → length (map f (below n)) ≡ n
length-made f n = length-map (below n) f ∙ length-below n

-- an element of a list made from a function of the place
pub get_or-made : {X : Type 0} (f : ℕ → X) (n i : ℕ) (d : X) → i < n → get_or (map f (below n)) i d ≡ f i
get_or-made f n i d lt =
    let long = length-below n in
    let here : i < length (below n) = omega arith in
    get_or-map f (below n) i 0 d here ∙ ap f (get_or-below n i 0 lt)

-- a list is made from its elements
pub made_of : {X : Type 0} (f : ℕ → X) (n : ℕ) (xs : List X) → length xs ≡ n →
    ((i : ℕ) (d : X) → i < n → f i ≡ get_or xs i d) → map f (below n) ≡ xs
made_of {X} f n xs long same =
    let made = length-made f n in
    same_lists (map f (below n)) xs (made ∙ sym long)
    (λ (k : ℕ) (d : X) lt. (let low : k < n = omega arith in get_or-made f n k d low ∙ same k d low))

-- lists made from functions that agree below n
pub made_same : {X : Type 0} (f g : ℕ → X) (n : ℕ) → ((i : ℕ) → i < n → f i ≡ g i) → map f (below n) ≡ map g (below n)
made_same {X} f g n same =
    let long = length-made g n in
    made_of f n (map g (below n)) long (λ (i : ℕ) (d : X) lt. same i lt ∙ sym (get_or-made g n i d lt))

-- Parts of the same size

-- one more part at the end
pub joined_next : {X : Type 0} (f : ℕ → List X) (n : ℕ) → flat_map f (below (suc n)) ≡ flat_map f (below n) ++ f n
joined_next f n =
    flat_map-append f (below n) (n ∷ []) ∙ ap (λ rest. flat_map f (below n) ++ rest) (append-nil (f n))

pub joined_same : {X : Type 0} (f g : ℕ → List X) (n : ℕ) → ((i : ℕ) → i < n → f i ≡ g i) →
    flat_map f (below n) ≡ flat_map g (below n)
joined_same f g zero same = refl
joined_same f g (suc n) same =
    let before = joined_same f g n (λ (i : ℕ) lt. same i (omega arith)) in
    let last : f n ≡ g n = same n (omega arith) in
    let left = joined_next f n in
    let right = joined_next g n in
    cc

pub length-joined : {X : Type 0} (f : ℕ → List X) (size n : ℕ) → ((i : ℕ) → i < n → length (f i) ≡ size) →
    length (flat_map f (below n)) ≡ size * n
length-joined f size zero each = omega arith
length-joined f size (suc n) each =
    let before = length-joined f size n (λ (i : ℕ) lt. each i (omega arith)) in
    let last : length (f n) ≡ size = each n (omega arith) in
    ap length (joined_next f n) ∙ (length-append (flat_map f (below n)) (f n) ∙ omega arith)

-- the i-th of the parts that a list joins
pub joined_part : {X : Type 0} (f : ℕ → List X) (size n i : ℕ) → ((j : ℕ) → j < n → length (f j) ≡ size) → i < n →
    take size (drop (size * i) (flat_map f (below n))) ≡ f i
joined_part f size zero i each lt = absurd (omega arith)
joined_part {X} f size (suc n) i each lt =
    let front : List X = flat_map f (below n) in
    let before : (j : ℕ) → j < n → length (f j) ≡ size = λ (j : ℕ) low. each j (omega arith) in
    let long : length front ≡ size * n = length-joined f size n before in
    let last : length (f n) ≡ size = each n (omega arith) in
    ap (λ xs. take size (drop (size * i) xs)) (joined_next f n)
    ∙ elim (cases_lt i n) [
      | inl low ↦
          (let room : size * suc i ≤ size * n = mul-le-mul_left size low in
          let start : size * i ≤ length front = omega arith in
          let whole : size ≤ length (drop (size * i) front) = omega (arith, length-drop (size * i) front) in
          ap (take size) (drop-append-le (size * i) front (f n) start)
          ∙ (take-append-le size (drop (size * i) front) (f n) whole ∙ joined_part f size n i before low))
      | inr high ↦
          (let same : n ≡ i = omega arith in
          let start : length front ≡ size * i = long ∙ ap (λ (k : ℕ). size * k) same in
          ap (take size) (drop_at front (f n) (size * i) start) ∙ (take_all size (f n) (omega arith) ∙ ap f same))
    ]

-- the first a + b elements
take_sum : {X : Type 0} (a b : ℕ) (xs : List X) → take a xs ++ take b (drop a xs) ≡ take (a + b) xs
take_sum a b xs =
    let first = take-take a (a + b) xs (omega arith) in
    let second = drop-take a b xs in
    let whole = take-append-drop a (take (a + b) xs) in
    cc

-- the parts of a list, joined again
pub parts_joined : {X : Type 0} (size n : ℕ) (xs : List X) →
    flat_map (λ i. take size (drop (size * i) xs)) (below n) ≡ take (size * n) xs
parts_joined size zero xs =
    let none : 0 ≡ size * zero = omega arith in
    ap (λ (k : ℕ). take k xs) none
parts_joined {X} size (suc n) xs =
    let part : ℕ → List X = λ (i : ℕ). take size (drop (size * i) xs) in
    let before = parts_joined size n xs in
    let sum : size * n + size ≡ size * suc n = omega arith in
    joined_next part n
    ∙ (ap (λ ys. ys ++ part n) before ∙ (take_sum (size * n) size xs ∙ ap (λ (k : ℕ). take k xs) sum))
