use Rattle.std.proofs.Common.{◌≡◌, ℕ, ◌<◌, ◌*◌, length}
use Rattle.sha2.specs.Sha256.{word_at}
use Rattle.sha256_lanes.specs.Lanes.{lane_at, of_four}
use Rattle.sha256_lanes.proofs.schedule.first_words.Given as goal

-- the rows so far are the blocks' words
abbrev pub invariant-words : goal.invariant-words
invariant-words l =
    (length l.window ≡ 16)
    × ((k : ℕ) → k < l.i → (j : ℕ) → j < 4 → lane_at l.window k j ≡ word_at (of_four l.a l.b l.c l.d j) (4 * k))
