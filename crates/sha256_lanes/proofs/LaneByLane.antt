-- What one instruction on vectors does in each lane, and what rows are in one lane.
use Rattle.std.proofs.Common.{◌≡◌, ℕ, zero, suc, ◌-◌, ◌*◌, ◌/◌, ◌%◌, ◌<◌, ◌^◌, List, [], ◌∷◌, length}
use Rattle.std.proofs.Common.{slice_index, slice_set, bit_or, bit_xor, arith, refl, take, drop}
use Rattle.std.proofs.lemmas.List.{map-set}
use Rattle.std.proofs.Math.ListN.{get_or-map}
use Rattle.std.proofs.lemmas.Simd.{Each1-get_or}
use Rattle.std.specs.Int.{rotate_right, w32}
use Rattle.std.specs.Simd.Lanes.{Each1, zip2}
use mir.Val.{Fits}
use Rattle.sha256_lanes.specs.Lanes.{lane, lane_at, of_four, window_lane}

-- what holds of each of the four lanes
pub below_four : (P : ℕ → Type 0) → P 0 → P 1 → P 2 → P 3 → (j : ℕ) → j < 4 → P j
below_four P p0 p1 p2 p3 zero h = p0
below_four P p0 p1 p2 p3 (suc zero) h = p1
below_four P p0 p1 p2 p3 (suc (suc zero)) h = p2
below_four P p0 p1 p2 p3 (suc (suc (suc zero))) h = p3
below_four P p0 p1 p2 p3 (suc (suc (suc (suc n)))) h = absurd (omega arith)

-- what holds of each list of four elements
four_lanes : (P : List ℕ → Type 0) → ((a b c d : ℕ) → P (a ∷ b ∷ c ∷ d ∷ [])) → (xs : List ℕ) → length xs ≡ 4 → P xs
four_lanes P p (a ∷ b ∷ c ∷ d ∷ []) h = p a b c d
four_lanes P p [] h = absurd (omega arith)
four_lanes P p (a ∷ []) h = absurd (omega arith)
four_lanes P p (a ∷ b ∷ []) h = absurd (omega arith)
four_lanes P p (a ∷ b ∷ c ∷ []) h = absurd (omega arith)
four_lanes P p (a ∷ b ∷ c ∷ d ∷ e ∷ xs) h = absurd (omega arith)

-- in each lane, F of three vectors is f of their words
abbrev InLanes : (List ℕ → List ℕ → List ℕ → List ℕ) → (ℕ → ℕ → ℕ → ℕ) → List ℕ → List ℕ → List ℕ → Type 0
InLanes F f x y z =
    (j : ℕ) → j < 4 → slice_index (F x y z) j ≡ f (slice_index x j) (slice_index y j) (slice_index z j)

-- what is so at any four words of each of three vectors is so of the vectors
pub in_lanes : (F : List ℕ → List ℕ → List ℕ → List ℕ) (f : ℕ → ℕ → ℕ → ℕ)
    → ((a0 a1 a2 a3 b0 b1 b2 b3 c0 c1 c2 c3 : ℕ)
    → F (a0 ∷ a1 ∷ a2 ∷ a3 ∷ []) (b0 ∷ b1 ∷ b2 ∷ b3 ∷ []) (c0 ∷ c1 ∷ c2 ∷ c3 ∷ [])
    ≡ f a0 b0 c0 ∷ f a1 b1 c1 ∷ f a2 b2 c2 ∷ f a3 b3 c3 ∷ [])
    → (x y z : List ℕ) → length x ≡ 4 → length y ≡ 4 → length z ≡ 4 → InLanes F f x y z
in_lanes F f each x y z lx ly lz =
    four_lanes (λ x. (y : List ℕ) → length y ≡ 4 → (z : List ℕ) → length z ≡ 4 → InLanes F f x y z) (λ a0 a1 a2 a3.
    four_lanes (λ y. (z : List ℕ) → length z ≡ 4 → InLanes F f (a0 ∷ a1 ∷ a2 ∷ a3 ∷ []) y z) (λ b0 b1 b2 b3.
    four_lanes (λ z. InLanes F f (a0 ∷ a1 ∷ a2 ∷ a3 ∷ []) (b0 ∷ b1 ∷ b2 ∷ b3 ∷ []) z) (λ c0 c1 c2 c3.
    rw (each a0 a1 a2 a3 b0 b1 b2 b3 c0 c1 c2 c3) (below_four _ refl refl refl refl)))) x lx y ly z lz

-- a vector and a shifted one under xor
pub xor_shifted : (k : ℕ) (x y : List ℕ) → length x ≡ 4 → length y ≡ 4 → (j : ℕ) → j < 4
    → slice_index (zip2 bit_xor x (zip2 (λ x n. x / 2 ^ n) y (k ∷ k ∷ k ∷ k ∷ []))) j
    ≡ bit_xor (slice_index x j) (slice_index y j / 2 ^ k)
xor_shifted k x y lx ly =
    in_lanes (λ x y z. zip2 bit_xor x (zip2 (λ x n. x / 2 ^ n) y (k ∷ k ∷ k ∷ k ∷ [])))
    (λ x y z. bit_xor x (y / 2 ^ k)) (λ a0 a1 a2 a3 b0 b1 b2 b3 c0 c1 c2 c3. refl) x y y lx ly ly

-- a lane has a word
pub word_lt : (x : List ℕ) (j : ℕ) → length x ≡ 4 → Each1 (Fits w32) x → j < 4 → slice_index x j < 2 ^ 32
word_lt x j long fit h = (Each1-get_or (Fits w32) x j 0 (omega arith) fit).fits

-- two shifts of each lane and an or are a rotation
abbrev Rotates : ℕ → List ℕ → Type 0
Rotates k x = (j : ℕ) → j < 4
    → slice_index (zip2 bit_or
    (zip2 (λ x n. x / 2 ^ n) x (k ∷ k ∷ k ∷ k ∷ []))
    (zip2 (λ x n. x * 2 ^ n % 2 ^ 32) x ((32 - k) ∷ (32 - k) ∷ (32 - k) ∷ (32 - k) ∷ []))) j
    ≡ rotate_right w32 (slice_index x j) k

pub shifts_rotate : (k : ℕ) → 0 < k → k < 32 → (x : List ℕ) → length x ≡ 4 → Rotates k x
shifts_rotate k low high =
    let right : k % 32 ≡ k = omega arith in
    let left : (32 - k) % 32 ≡ 32 - k = omega arith in
    four_lanes (Rotates k) (λ a b c d.
    below_four _ (rw (right, left) refl) (rw (right, left) refl) (rw (right, left) refl) (rw (right, left) refl))

-- word k of message j
pub slice_index-lane : (rows : List (List ℕ)) (j k : ℕ) → k < 8 → slice_index (lane j rows) k ≡ lane_at rows k j
slice_index-lane rows j zero h = refl
slice_index-lane rows j (suc zero) h = refl
slice_index-lane rows j (suc (suc zero)) h = refl
slice_index-lane rows j (suc (suc (suc zero))) h = refl
slice_index-lane rows j (suc (suc (suc (suc zero)))) h = refl
slice_index-lane rows j (suc (suc (suc (suc (suc zero))))) h = refl
slice_index-lane rows j (suc (suc (suc (suc (suc (suc zero)))))) h = refl
slice_index-lane rows j (suc (suc (suc (suc (suc (suc (suc zero))))))) h = refl
slice_index-lane rows j (suc (suc (suc (suc (suc (suc (suc (suc k)))))))) h = absurd (omega arith)

-- the word of message j at a place of the window
pub window_lane_at : (j : ℕ) (rows : List (List ℕ)) (k : ℕ) → slice_index (window_lane j rows) k ≡ lane_at rows k j
window_lane_at j rows k = get_or-map (λ (row : List ℕ). slice_index row j) rows k []

-- a row that is written over is a word of each message written over
pub window_lane-set : (j : ℕ) (rows : List (List ℕ)) (k : ℕ) (row : List ℕ)
    → window_lane j (slice_set rows k row) ≡ slice_set (window_lane j rows) k (slice_index row j)
window_lane-set j rows k row = map-set (λ (row : List ℕ). slice_index row j) rows k row

-- one part of each message is that part of message j
pub of_four-part : (a b c d : List ℕ) (n m : ℕ) (j : ℕ)
    → of_four (take n (drop m a)) (take n (drop m b)) (take n (drop m c)) (take n (drop m d)) j
    ≡ take n (drop m (of_four a b c d j))
of_four-part a b c d n m zero = refl
of_four-part a b c d n m (suc zero) = refl
of_four-part a b c d n m (suc (suc zero)) = refl
of_four-part a b c d n m (suc (suc (suc j))) = refl
