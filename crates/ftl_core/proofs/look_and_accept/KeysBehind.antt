-- The addresses behind one that the device has: they are short, so that none of them saturates.
use Rattle.ftl_core.proofs.Common.{InRange, IsKey, Key, Numbers, arith, key_at, key_behind, shape_of_numbers, ℕ, ◌+◌}
use Rattle.ftl_core.proofs.Common.{◌≡◌}
use Rattle.std.specs.Prelude.{min}
use Rattle.power_loss.proofs.stops.SealedCells.{key_ranges}

pub keys_same : (n : Numbers) (k : Key) (i : ℕ) → InRange n → IsKey (shape_of_numbers n) (key_behind k i) →
    key_at k i ≡ key_behind k i
keys_same n k i ranges is =
    let short = (key_ranges ranges is).address in
    let same : min (k.address + i) 4294967295 ≡ k.address + i = omega arith in
    λ j. record { kind = k.kind; unit = k.unit; address = same j }
