-- A vector with given elements.
use Rattle.lanes.proofs.Common.{List, Vec, arith, length, refl, ◌<◌, ◌≡◌}
use Rattle.std.proofs.Common.{◌^◌}
use Rattle.std.specs.Ptr.{null_ptr}

pub vector_of : {A : Type 0} → (xs : List A) → length xs < 2 ^ 63 → (v : Vec A) × (v.items ≡ xs)
vector_of {A} xs short = (made, refl)
  where
    made : Vec A
    made = record {
      ptr = null_ptr;
      len = length xs;
      cap = length xs;
      alloc = record { memory = record { seal = tt } };
      items = xs;
      ok = (refl, omega arith);
      small = short;
    }
