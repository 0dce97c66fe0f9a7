-- Rows of words with the constants of their rounds, and the order in which a round adds.
use Rattle.std.proofs.Common.{◌≡◌, ℕ, ◌+◌, ◌*◌, ◌%◌, ◌<◌, ◌≤◌, List, [], length, slice_index, slice_set, ap, ◌∙◌, arith, inl, inr, refl}
use Rattle.std.proofs.lemmas.Bool.{cases_lt}
use Rattle.std.proofs.lemmas.List.{get_or-set_other, get_or-set_same, length-map}
use Rattle.sha2.specs.Sha256.{IsWindow, add32, round, round_constants, rounds, schedule}
use Rattle.sha2.proofs.Schedule256.{IsWindow_first, IsWindow_next, rounds_next}
use Rattle.sha256_lanes.specs.Keyed.{AreKeyed, AreKeyedTo, IsFirstTo, IsKeyedTo, part}
use Rattle.sha256_lanes.specs.Lanes.{lane_at, of_four, window_lane}
use Rattle.sha256_lanes.proofs.LaneByLane.{below_four, window_lane_at}

-- one row more, where lane j of the rows is w
pub rows_next : (w : ℕ → ℕ) (rows : List (List ℕ)) (j n : ℕ) (row : List ℕ) → n < length rows
    → ((k : ℕ) → k < n → lane_at rows k j ≡ w k) → slice_index row j ≡ w n
    → (k : ℕ) → k < n + 1 → lane_at (slice_set rows n row) k j ≡ w k
rows_next w rows j n row within held e = λ k lt.
    let word = λ (r : List ℕ). slice_index r j in
    elim (cases_lt k n) [
      | inl a ↦ ap word (get_or-set_other rows n k row [] (omega arith)) ∙ held k a
      | inr c ↦
          let same : n ≡ k = omega arith in
          rw (← same) (ap word (get_or-set_same rows n row [] within) ∙ e)
    ]

-- the words of one of four blocks
pub of_parts : (p r0 r1 r2 r3 : List ℕ) → r0 ≡ part p 0 → r1 ≡ part p 1 → r2 ≡ part p 2 → r3 ≡ part p 3
    → (j : ℕ) → j < 4 → of_four r0 r1 r2 r3 j ≡ part p j
of_parts p r0 r1 r2 r3 e0 e1 e2 e3 = below_four (λ j. of_four r0 r1 r2 r3 j ≡ part p j) e0 e1 e2 e3

-- after sixteen rounds the window has the last sixteen words
pub first_done : (b : List ℕ) (j : ℕ) (rows window : List (List ℕ)) → length window ≡ 16 → IsFirstTo b j rows window 16
    → IsKeyedTo b j rows window 16
first_done b j rows window long held = (
  IsWindow_first b (window_lane j window) (omega (arith, length-map window (λ (row : List ℕ). slice_index row j)))
      (λ k lt. window_lane_at j window k ∙ held.0 k lt),
  held.1,
)

-- a round adds its parts in another order than the standard
pub sum_order : (h k w x s : ℕ) → add32 (add32 (add32 h (add32 w k)) x) s ≡ add32 (add32 (add32 (add32 h s) x) k) w
sum_order h k w x s = omega arith

-- round t of a block, by its row
pub rounds_keyed : (b h : List ℕ) (rows : List (List ℕ)) (v next : List ℕ) (j t : ℕ) → t < 64 → AreKeyed b rows j
    → v ≡ rounds h (schedule b 48) t
    → next ≡ round v (slice_index round_constants t) (slice_index (schedule b 48) t)
    → next ≡ rounds h (schedule b 48) (t + 1)
rounds_keyed b h rows v next j t lt rowed ev en = rw en (rw (rounds_next h (schedule b 48) t, ← ev) refl)

-- the same rows, up to a round that is spelled another way
pub keyed_at : (b : List ℕ) (rows : List (List ℕ)) (j n k : ℕ) → n ≡ k → AreKeyedTo b rows j n → AreKeyedTo b rows j k
keyed_at b rows j n k e held = rw (← e) held

-- the window of a place, one word on
pub window_at_next : (b w next : List ℕ) (turn place x : ℕ) → 1 ≤ turn → turn < 4 → place < 16
    → IsWindow w (schedule b 48) (16 * turn + place) → x ≡ slice_index (schedule b 48) (16 * turn + place)
    → next ≡ slice_set w place x → IsWindow next (schedule b 48) (16 * turn + (place + 1))
window_at_next b w next turn place x low high within win ex en =
    let t = 16 * turn + place in
    let at : t % 16 ≡ place = omega arith in
    let end : t + 1 ≡ 16 * turn + (place + 1) = omega arith in
    let moved = IsWindow_next b w t (omega arith) (omega arith) win in
    rw (en, ex) (rw (at, end) at moved)

-- the same of rows with their window
pub keyed_to_at : (b : List ℕ) (j : ℕ) (rows window : List (List ℕ)) (n k : ℕ) → n ≡ k → IsKeyedTo b j rows window n
    → IsKeyedTo b j rows window k
keyed_to_at b j rows window n k e held = rw (← e) held
