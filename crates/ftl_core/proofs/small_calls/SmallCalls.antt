-- What the smaller calls tell.
use Rattle.ftl_core.proofs.Common.{Bool, Core, Describes, Translation, ap, arith, bad_blocks, greatest_number, length}
use Rattle.ftl_core.proofs.Common.{nat_lt, nat_tests, not, ℕ, ◌+◌, ◌-◌, ◌||◌, ◌≡◌}
use Rattle.ufs_spec.specs.Ledger as ledger
use Rattle.ufs_spec.specs.Translation as layer
use Rattle.ftl_core.specs.Moves.{free_slots, is_locked}
use Rattle.ftl_core.proofs.job_taken.OpenBlocks.{bad_alike}
use Rattle.ftl_core.proofs.look_and_accept.Numbers.{kept_length, numbers_right}

-- no number is left where the next one is above the greatest
lock_same : (a b : Bool) (x y most : ℕ) → a ≡ b → x + 1 ≡ y → (a || not (nat_lt x most)) ≡ (b || nat_lt most y)
lock_same a b x y most e f = (λ i. e i || numbers i)
  where
    numbers : not (nat_lt x most) ≡ nat_lt most y
    numbers = grind (arith, nat_tests)

pub locks_right : (c : Core) (t : Translation) → Describes c t → is_locked c ≡ layer.is_locked t
locks_right c t h =
    lock_same (nat_lt c.numbers.spare (bad_blocks c)) (nat_lt t.numbers.spare (layer.count_blocks t layer.is_bad))
    c.last (ledger.next_number t.ledger) greatest_number
    (λ i. nat_lt (h.kept.numbers i).spare (bad_alike c t h.kept i)) (numbers_right c t h)

pub slots_right : (c : Core) (t : Translation) → Describes c t → free_slots c ≡ layer.free_slots t
slots_right c t h =
    let pages = kept_length c t h in
    (λ i. (h.kept.numbers i).slots - pages i - h.kept.claims i)

pub pending_right : (c : Core) (t : Translation) → Describes c t → nat_lt 0 (length c.pages) ≡ layer.has_pending t
pending_right c t h = ap (nat_lt 0) (kept_length c t h)

-- How far the mending is

-- The configuration

pub numbers_kept : (c : Core) (t : Translation) → Describes c t → c.numbers ≡ t.numbers
numbers_kept c t h = h.kept.numbers
