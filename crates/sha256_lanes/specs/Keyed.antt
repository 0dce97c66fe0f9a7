-- The words of a block's message schedule, each with the constant of its round added (FIPS 180-4, 6.2.2).
use Rattle.std.specs.Prelude.{◌≡◌, ℕ, ◌<◌, ◌*◌, List, drop, slice_index, take}
use Rattle.sha2.specs.Sha256.{IsWindow, add32, round_constants, schedule, word_at}
use Rattle.sha256_lanes.specs.Lanes.{lane_at, window_lane}

-- block j of a message
abbrev pub part : List ℕ → ℕ → List ℕ
part p j = take 64 (drop (64 * j) p)

-- W t of a block and K t, added
abbrev pub keyed : List ℕ → ℕ → ℕ
keyed b t = add32 (slice_index (schedule b 48) t) (slice_index round_constants t)

-- lane j of the rows has these of the block, up to round n
abbrev pub AreKeyedTo : List ℕ → List (List ℕ) → ℕ → ℕ → Type 0
AreKeyedTo b rows j n = (t : ℕ) → t < n → lane_at rows t j ≡ keyed b t

-- lane j of the rows has these of the block, for all 64 rounds
abbrev pub AreKeyed : List ℕ → List (List ℕ) → ℕ → Type 0
AreKeyed b rows j = AreKeyedTo b rows j 64

-- the rows have these of the first four blocks of a message
abbrev pub AreFour : List ℕ → List (List ℕ) → Type 0
AreFour p rows = (j : ℕ) → j < 4 → AreKeyed (part p j) rows j

-- the rows have these of a block up to round n, one of the first sixteen, and the window has its words
abbrev pub IsFirstTo : List ℕ → ℕ → List (List ℕ) → List (List ℕ) → ℕ → Type 0
IsFirstTo b j rows window n =
    ((k : ℕ) → k < n → lane_at window k j ≡ word_at b (4 * k)) × AreKeyedTo b rows j n

-- the same up to round n, while lane j of the window has the last sixteen words before it
abbrev pub IsKeyedTo : List ℕ → ℕ → List (List ℕ) → List (List ℕ) → ℕ → Type 0
IsKeyedTo b j rows window n = IsWindow (window_lane j window) (schedule b 48) n × AreKeyedTo b rows j n
