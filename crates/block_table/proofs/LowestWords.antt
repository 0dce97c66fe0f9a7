-- The lowest block of a die, word by word.
use Rattle.block_table.proofs.Common.{BlockState, Blocks, Bool, Buckets, IsLowest, IsWord, IsWordOf, Lives, None, Some}
use Rattle.block_table.proofs.Common.{and_from, and_parts, and_right, ap, arith, bit, bit_and, blocks_in, cases_lt}
use Rattle.block_table.proofs.Common.{false, has, has_block, has_no_pin, inl, inr, is_pinned, is_used_from, le-leb}
use Rattle.block_table.proofs.Common.{le-ltb, length, lt-ltb, mul-add-lt, mul_comm, nat_le, nat_lt, not, same_state}
use Rattle.block_table.proofs.Common.{spot, spot_there, state_of, state_there, sym, true, ℕ, ◌%◌, ◌&&◌, ◌*◌, ◌+◌, ◌-◌}
use Rattle.block_table.proofs.Common.{◌/◌, ◌<◌, ◌==◌, ◌^◌, ◌∙◌, ◌≡◌, ◌≤◌, ◌⊎◌}
use Rattle.std.proofs.lemmas.Nat.{div-mul-add, mod-mul-add}
use Rattle.std.proofs.lemmas.Nat.Bits.{bit_at_mask_below, bit_at_mask_inside, ones_shl}
use Rattle.std.proofs.Math.Bool.{and-true}
use Rattle.ufs_spec.proofs.Facts.{leb-true, lt-leb}
use Rattle.block_table.specs.Lowest.{IsLowestBlock, may_be_used}
use Rattle.block_table.proofs.Unpinned.{no_pin_past, no_pin_there}
use Rattle.block_table.proofs.WordBits.{bit_both}

-- a word without its lowest bits
pub bit_from : (word first j : ℕ) → first < 64 → j < 64 →
    bit (bit_and word (18446744073709551615 * 2 ^ first % 18446744073709551616)) j ≡ (nat_le first j && bit word j)
bit_from word first j l m =
    ap (λ (k : ℕ). bit (bit_and word k) j) (ones_shl 64 first (omega arith))
    ∙ bit_both word (2 ^ 64 - 2 ^ first) j
    ∙ by (cases_lt j first)
  where
    by : (j < first) ⊎ (first ≤ j) → (bit word j && bit (2 ^ 64 - 2 ^ first) j) ≡ (nat_le first j && bit word j)
    by (inl u) =
        and_right (bit word j) _ (ap (λ (k : ℕ). k == 1) (bit_at_mask_below first 64 j u))
        ∙ sym (ap (λ (c : Bool). c && bit word j) (lt-leb first j u))
    by (inr u) =
        ap (λ (c : ℕ). bit word j && (c == 1)) (bit_at_mask_inside first 64 j u m)
        ∙ and-true (bit word j)
        ∙ sym (ap (λ (c : Bool). c && bit word j) (le-leb first j u))

pub used_bits : (l : Lives) (t : Blocks) (one : Buckets) (s : BlockState) (start number so free after first : ℕ) →
    length l.pins ≡ blocks_in l.sizes → ((p : ℕ) → has one 0 p ≡ has_no_pin l.pins p) →
    IsWordOf t s l.sizes number so → IsWord (has one 0) number free → first ≡ start - number * 64 →
    ((j : ℕ) → j < 64 → bit after j ≡ (nat_le first j && bit (bit_and so free) j)) →
    IsWord (is_used_from l t s start) number after
used_bits l t one s start number so free after first whole unpinned is_so is_free from is j m =
    is j m
    ∙ (λ i. same_order i && bit_both so free j i)
    ∙ ap (λ (c : Bool). nat_le start p && (bit so j && c)) (is_free j m ∙ unpinned p)
    ∙ ap (λ (c : Bool). nat_le start p && c) (by (cases_lt p (blocks_in l.sizes)))
  where
    p : ℕ
    p = 64 * number + j

    same_order : nat_le first j ≡ nat_le start p
    same_order = order (cases_lt p start)
      where
        order : (64 * number + j < start) ⊎ (start ≤ 64 * number + j) →
            nat_le first j ≡ nat_le start (64 * number + j)
        order (inl u) = lt-leb first j (omega (arith, from)) ∙ sym (lt-leb start (64 * number + j) u)
        order (inr u) = le-leb first j (omega (arith, from)) ∙ sym (le-leb start (64 * number + j) u)

    by : (p < blocks_in l.sizes) ⊎ (blocks_in l.sizes ≤ p) →
        (bit so j && has_no_pin l.pins p)
        ≡ (nat_lt p (blocks_in l.sizes)
        && (same_state (state_there t l.sizes p) s && not (is_pinned l (spot_there l.sizes p))))
    by (inl inside) =
        (λ i. is_so j m inside i && no_pin_there l p whole inside i)
        ∙ sym (ap (λ (c : Bool). c
        && (same_state (state_there t l.sizes p) s && not (is_pinned l (spot_there l.sizes p))))
        (lt-ltb p (blocks_in l.sizes) inside))
    by (inr out) =
        and_right (bit so j) _ (no_pin_past l.pins p (blocks_in l.sizes) whole out)
        ∙ sym (ap (λ (c : Bool). c
        && (same_state (state_there t l.sizes p) s && not (is_pinned l (spot_there l.sizes p))))
        (le-ltb p (blocks_in l.sizes) out))

pub none_below : (l : Lives) (t : Blocks) (s : BlockState) (start p : ℕ) → p < 64 * (start / 64) →
    is_used_from l t s start p ≡ false
none_below l t s start p u =
    ap (λ (c : Bool). c && (nat_lt p (blocks_in l.sizes)
    && (same_state (state_there t l.sizes p) s && not (is_pinned l (spot_there l.sizes p)))))
    (lt-leb start p (omega arith))

-- The blocks of one die

used_is : (l : Lives) (t : Blocks) (s : BlockState) (die block : ℕ) → die < l.sizes.dies → block < l.sizes.blocks →
    is_used_from l t s (die * l.sizes.blocks) (die * l.sizes.blocks + block) ≡ may_be_used l t die s block
used_is l t s die block d b =
    (λ i. le-leb (die * l.sizes.blocks) p (omega arith) i
    && (lt-ltb p (blocks_in l.sizes) inside i
    && (same_state (state_of t (div-mul-add die l.sizes.blocks block b i) (mod-mul-add die l.sizes.blocks block b i)) s
    && not (is_pinned l (spot (div-mul-add die l.sizes.blocks block b i) (mod-mul-add die l.sizes.blocks block b i))))))
    ∙ sym (ap (λ (c : Bool). c && (same_state (state_of t die block) s && not (is_pinned l (spot die block))))
    (and_from (nat_lt die l.sizes.dies) (nat_lt block l.sizes.blocks) (lt-ltb die l.sizes.dies d)
    (lt-ltb block l.sizes.blocks b)))
  where
    p : ℕ
    p = die * l.sizes.blocks + block

    inside : p < blocks_in l.sizes
    inside =
        let r = mul-add-lt die l.sizes.blocks block l.sizes.dies d b in
        let e = mul_comm l.sizes.blocks l.sizes.dies in
        omega arith

not_there : (l : Lives) (t : Blocks) (s : BlockState) (die block : ℕ) → has_block l.sizes (spot die block) ≡ false →
    may_be_used l t die s block ≡ false
not_there l t s die block h =
    ap (λ (c : Bool). c && (same_state (state_of t die block) s && not (is_pinned l (spot die block)))) h

pub no_die : (l : Lives) (t : Blocks) (s : BlockState) (die : ℕ) → l.sizes.dies ≤ die → IsLowestBlock l t die s None
no_die l t s die out = λ block.
    not_there l t s die block (ap (λ (c : Bool). c && nat_lt block l.sizes.blocks) (le-ltb die l.sizes.dies out))

pub no_block : (l : Lives) (t : Blocks) (s : BlockState) (die : ℕ) → die < l.sizes.dies →
    ((p : ℕ) → p < die * l.sizes.blocks + l.sizes.blocks → is_used_from l t s (die * l.sizes.blocks) p ≡ false) →
    IsLowestBlock l t die s None
no_block l t s die d none = λ block. by block (cases_lt block l.sizes.blocks)
  where
    by : (block : ℕ) → (block < l.sizes.blocks) ⊎ (l.sizes.blocks ≤ block) → may_be_used l t die s block ≡ false
    by block (inl b) = sym (used_is l t s die block d b) ∙ none (die * l.sizes.blocks + block) (omega arith)
    by block (inr out) =
        not_there l t s die block (and_right (nat_lt die l.sizes.dies) _ (le-ltb block l.sizes.blocks out))

pub some_block : (l : Lives) (t : Blocks) (s : BlockState) (die p : ℕ) → die < l.sizes.dies →
    p < die * l.sizes.blocks + l.sizes.blocks → IsLowest (is_used_from l t s (die * l.sizes.blocks)) p →
    die * l.sizes.blocks ≤ p → IsLowestBlock l t die s (Some (p - die * l.sizes.blocks))
some_block l t s die p d inside low from = record {
  passes = sym (used_is l t s die (p - die * l.sizes.blocks) d (omega arith))
      ∙ ap (is_used_from l t s (die * l.sizes.blocks)) (back p from) ∙ low.passes;
  below = λ j m. sym (used_is l t s die j d (omega arith)) ∙ low.below (die * l.sizes.blocks + j) (omega arith);
}
  where
    back : (p : ℕ) → die * l.sizes.blocks ≤ p → die * l.sizes.blocks + (p - die * l.sizes.blocks) ≡ p
    back p u = omega arith

-- what is found stands at its start or after it
pub found_from : (l : Lives) (t : Blocks) (s : BlockState) (start p : ℕ) → is_used_from l t s start p ≡ true → start ≤ p
found_from l t s start p h = leb-true start p (and_parts (nat_le start p) (nat_lt p (blocks_in l.sizes)
    && (same_state (state_there t l.sizes p) s && not (is_pinned l (spot_there l.sizes p)))) h).0
