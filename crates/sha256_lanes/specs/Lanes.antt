-- Four messages of one length, side by side. A row has one word of each message, and its lane j that of message j.
use Rattle.std.specs.Prelude.{ℕ, zero, suc, List, [], ◌∷◌, ◌+◌, ◌-◌, ◌%◌, map, slice_index, slice_index_or}

-- message j of four, or what stands for it
abbrev pub of_four : List ℕ → List ℕ → List ℕ → List ℕ → ℕ → List ℕ
of_four a b c d zero = a
of_four a b c d (suc zero) = b
of_four a b c d (suc (suc zero)) = c
of_four a b c d (suc (suc (suc j))) = d

-- lane j of row k
abbrev pub lane_at : List (List ℕ) → ℕ → ℕ → ℕ
lane_at rows k j = slice_index (slice_index_or rows k []) j

-- the eight words of message j: its hash value, or its working variables (FIPS 180-4, 6.2)
abbrev pub lane : ℕ → List (List ℕ) → List ℕ
lane j rows =
    lane_at rows 0 j ∷ lane_at rows 1 j ∷ lane_at rows 2 j ∷ lane_at rows 3 j
    ∷ lane_at rows 4 j ∷ lane_at rows 5 j ∷ lane_at rows 6 j ∷ lane_at rows 7 j ∷ []

-- the last words of the message schedule of message j, which are as many as there are rows
abbrev pub window_lane : ℕ → List (List ℕ) → List ℕ
window_lane j rows = map (λ row. slice_index row j) rows

-- how many bytes come after the last whole block of n bytes, with the padding (FIPS 180-4, 5.1.1)
abbrev pub tail_size : ℕ → ℕ
tail_size n = n % 64 + 1 + (119 - n % 64) % 64 + 8
