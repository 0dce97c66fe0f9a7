-- The bits in which two rows of bytes differ, all put together.
use Rattle.std.proofs.Common.{◌≡◌, ◌↔◌, ◌+◌, ◌<◌, ◌∙◌, ℕ, List, ap, arith, length, refl, sym, take}
use Rattle.std.proofs.Common.{bit_or, bit_xor, get_or}
use Rattle.std.specs.Int.Bits.{or_zero_l, xor_add_and, xor_self}
use Rattle.std.proofs.lemmas.List.{get_or-take, take-take, take_more}
use Rattle.std.proofs.lemmas.Nat.{and_le_l, and_le_r, le_or_l, le_or_r}

-- bytes that differ in no bit are the same
same_byte : (x y : ℕ) → bit_xor x y ≡ 0 → x ≡ y
same_byte x y none = omega (arith, xor_add_and x y, and_le_l x y, and_le_r x y)

-- one more byte of each: no bit differs before it nor in it exactly if the bytes up to it are the same
pub one_more : (a b : List ℕ) (i difference : ℕ) → i < length a → i < length b
    → (difference ≡ 0) ↔ (take i a ≡ take i b)
    → (bit_or difference (bit_xor (get_or a i 0) (get_or b i 0)) ≡ 0) ↔ (take (i + 1) a ≡ take (i + 1) b)
one_more a b i difference in_a in_b before = (same, none)
  where
    here : ℕ
    here = bit_xor (get_or a i 0) (get_or b i 0)

    same : bit_or difference here ≡ 0 → take (i + 1) a ≡ take (i + 1) b
    same nowhere =
        let front : take i a ≡ take i b = before.0 (omega (arith, le_or_l difference here)) in
        let last : get_or a i 0 ≡ get_or b i 0 =
        same_byte (get_or a i 0) (get_or b i 0) (omega (arith, le_or_r difference here)) in
        rw (take_more a i 0 in_a, take_more b i 0 in_b, front, last) refl

    none : take (i + 1) a ≡ take (i + 1) b → bit_or difference here ≡ 0
    none equal =
        let short : i < i + 1 = omega arith in
        let front : take i a ≡ take i b =
        sym (take-take i (i + 1) a (omega arith)) ∙ ap (take i) equal ∙ take-take i (i + 1) b (omega arith) in
        let last : get_or a i 0 ≡ get_or b i 0 =
        sym (get_or-take (i + 1) a i 0 short)
        ∙ ap (λ (l : List ℕ). get_or l i 0) equal
        ∙ get_or-take (i + 1) b i 0 short in
        rw (before.1 front, last, xor_self (get_or b i 0)) (or_zero_l 0)
