-- Numbers inside a row of bytes, the highest byte first.
use Rattle.std.specs.Prelude.{ℕ, List, ◌++◌, take, drop}
use Rattle.byteorder.specs.Endian.{big_bytes, big_number}

-- the number in the n bytes from an offset on
abbrev pub field_at : ℕ → ℕ → List ℕ → ℕ
field_at n offset bytes = big_number n (drop offset bytes)

-- the bytes with a number written into the n bytes from an offset on: all else stays
abbrev pub with_field : ℕ → ℕ → ℕ → List ℕ → List ℕ
with_field n offset number bytes = take offset bytes ++ (big_bytes n number ++ drop n (drop offset bytes))
