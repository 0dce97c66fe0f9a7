-- Bits of words, and which blocks stand in which bucket after a bit has changed.
use Rattle.block_table.proofs.Common.{Bool, IsLowest, List, Option, Some, and_parts, ap, arith, bit, bit_and}
use Rattle.block_table.proofs.Common.{bit_not, bit_or, cases_eq, cases_lt, eq-eqb, eqb-true, false, false_from_ne_true}
use Rattle.block_table.proofs.Common.{has_in, if◌then◌else◌, inl, inr, le-ltb, lt-ltb, nat_lt, ne_eqb, not, refl}
use Rattle.block_table.proofs.Common.{set_other, set_there, slice_get, slice_set, suc, sym, trailing_zeros, true}
use Rattle.block_table.proofs.Common.{unwrap_or, w64, with_bit, with_block, zero, ℕ, ◌%◌, ◌&&◌, ◌*◌, ◌+◌, ◌-◌, ◌/◌, ◌<◌}
use Rattle.block_table.proofs.Common.{◌==◌, ◌^◌, ◌||◌, ◌∙◌, ◌≡◌, ◌≤◌, ◌⊎◌}
use Rattle.std.specs.Prelude.{max, min}
use Rattle.std.specs.Int.{bit_at}
use Rattle.std.proofs.lemmas.Nat.Bits.{bit_at_clear_other, bit_at_clear_same, bit_at_set_other, bit_at_set_same}
use Rattle.std.proofs.lemmas.Nat.Bits.{bit_at-lt, bit_at-trailing_zeros, bit_at-zero, bit_at_and, bit_at_not, bit_at_or}
use Rattle.block_table.proofs.LiveCounts.{one_place}

-- Bits

pub bit_set : (word place j : ℕ) → place < 64 →
    bit (bit_or word (1 * 2 ^ place % 18446744073709551616)) j ≡ with_bit (bit word) place true j
bit_set word place j l = by (cases_eq j place)
  where
    by : (j ≡ place) ⊎ (j ≡ place → ⊥) →
        bit (bit_or word (1 * 2 ^ place % 18446744073709551616)) j ≡ with_bit (bit word) place true j
    by (inl e) =
        ap (λ (k : ℕ). bit_at (bit_or word (1 * 2 ^ place % 18446744073709551616)) k == 1) e
        ∙ ap (λ (k : ℕ). k == 1) (bit_at_set_same w64 word place l)
        ∙ sym (ap (λ (b : Bool). if b then true else bit word j) (eq-eqb j place e))
    by (inr apart) =
        ap (λ (k : ℕ). k == 1) (bit_at_set_other w64 word place l j apart)
        ∙ sym (ap (λ (b : Bool). if b then true else bit word j) (ne_eqb j place apart))

pub bit_clear : (word place j : ℕ) → place < 64 → j < 64 →
    bit (bit_and word (18446744073709551615 - 1 * 2 ^ place % 18446744073709551616)) j
    ≡ with_bit (bit word) place false j
bit_clear word place j l m = by (cases_eq j place)
  where
    by : (j ≡ place) ⊎ (j ≡ place → ⊥) →
        bit (bit_and word (18446744073709551615 - 1 * 2 ^ place % 18446744073709551616)) j
        ≡ with_bit (bit word) place false j
    by (inl e) =
        ap (λ (k : ℕ). bit_at (bit_and word (18446744073709551615 - 1 * 2 ^ place % 18446744073709551616)) k == 1) e
        ∙ ap (λ (k : ℕ). k == 1) (bit_at_clear_same w64 word place l)
        ∙ sym (ap (λ (b : Bool). if b then false else bit word j) (eq-eqb j place e))
    by (inr apart) =
        ap (λ (k : ℕ). k == 1) (bit_at_clear_other w64 word place l j m apart)
        ∙ sym (ap (λ (b : Bool). if b then false else bit word j) (ne_eqb j place apart))

pub bit_zero : (j : ℕ) → bit 0 j ≡ false
bit_zero j = ap (λ (k : ℕ). k == 1) (bit_at-zero j)

both_one : (m n : ℕ) → m < 2 → n < 2 → (min m n == 1) ≡ ((m == 1) && (n == 1))
both_one zero zero l k = refl
both_one zero (suc zero) l k = refl
both_one (suc zero) zero l k = refl
both_one (suc zero) (suc zero) l k = refl
both_one (suc (suc m)) n l k = absurd (omega arith)
both_one zero (suc (suc n)) l k = absurd (omega arith)
both_one (suc zero) (suc (suc n)) l k = absurd (omega arith)

some_one : (m n : ℕ) → m < 2 → n < 2 → (max m n == 1) ≡ ((m == 1) || (n == 1))
some_one zero zero l k = refl
some_one zero (suc zero) l k = refl
some_one (suc zero) zero l k = refl
some_one (suc zero) (suc zero) l k = refl
some_one (suc (suc m)) n l k = absurd (omega arith)
some_one zero (suc (suc n)) l k = absurd (omega arith)
some_one (suc zero) (suc (suc n)) l k = absurd (omega arith)

turned_one : (m : ℕ) → m < 2 → ((1 - m) == 1) ≡ not (m == 1)
turned_one zero l = refl
turned_one (suc zero) l = refl
turned_one (suc (suc m)) l = absurd (omega arith)

pub bit_both : (a b j : ℕ) → bit (bit_and a b) j ≡ (bit a j && bit b j)
bit_both a b j =
    ap (λ (k : ℕ). k == 1) (bit_at_and a b j) ∙ both_one (bit_at a j) (bit_at b j) (bit_at-lt a j) (bit_at-lt b j)

pub bit_some : (a b j : ℕ) → bit (bit_or a b) j ≡ (bit a j || bit b j)
bit_some a b j =
    ap (λ (k : ℕ). k == 1) (bit_at_or a b j) ∙ some_one (bit_at a j) (bit_at b j) (bit_at-lt a j) (bit_at-lt b j)

pub bit_turned : (a j : ℕ) → a < 2 ^ 64 → j < 64 → bit (bit_not w64 a) j ≡ not (bit a j)
bit_turned a j l m = ap (λ (k : ℕ). k == 1) (bit_at_not w64 a j l m) ∙ turned_one (bit_at a j) (bit_at-lt a j)

pub lowest_is : (word : ℕ) → 0 < word → word < 2 ^ 64 →
    (trailing_zeros w64 word < 64) × IsLowest (bit word) (trailing_zeros w64 word)
lowest_is word some fits =
    let h = bit_at-trailing_zeros w64 word some fits in (
      h.0,
      record {
        passes = eq-eqb (bit_at word (trailing_zeros w64 word)) 1 h.1;
        below = λ j l. ap (λ (k : ℕ). k == 1) (h.2 j l);
      },
    )

-- Which block stands where after a bit has changed

same_place : (p q : ℕ) → p / 64 ≡ q / 64 → (p % 64 == q % 64) ≡ (p == q)
same_place p q e = by (cases_eq (p % 64) (q % 64))
  where
    by : (p % 64 ≡ q % 64) ⊎ (p % 64 ≡ q % 64 → ⊥) → (p % 64 == q % 64) ≡ (p == q)
    by (inl f) = eq-eqb (p % 64) (q % 64) f ∙ sym (eq-eqb p q (omega arith))
    by (inr apart) =
        ne_eqb (p % 64) (q % 64) apart ∙ sym (ne_eqb p q (λ f. apart (ap (λ (k : ℕ). k % 64) f)))

pub word_inside : (words p : ℕ) → p < 64 * words → p / 64 < words
word_inside words p l = omega arith

-- the word of a place is another one, whose bits are those that the change makes of them
pub word_set : (table : List ℕ) (words bucket place word after : ℕ) (stands : Bool) → place < 64 * words →
    slice_get table (bucket * words + place / 64) ≡ Some word →
    ((j : ℕ) → j < 64 → bit after j ≡ with_bit (bit word) (place % 64) stands j) → (k p : ℕ) →
    has_in (slice_set table (bucket * words + place / 64) after) words k p
    ≡ with_block (has_in table words) bucket place stands k p
word_set table words bucket place word after stands inside read is k p = by (cases_lt p (64 * words))
  where
    other : ((k == bucket) && (p == place)) ≡ false →
        slice_get (slice_set table (bucket * words + place / 64) after) (k * words + p / 64)
        ≡ slice_get table (k * words + p / 64) →
        has_in (slice_set table (bucket * words + place / 64) after) words k p
        ≡ with_block (has_in table words) bucket place stands k p
    other e f =
        ap (λ (o : Option ℕ). nat_lt p (64 * words) && bit (unwrap_or o 0) (p % 64)) f
        ∙ sym (ap (λ (b : Bool). if b then stands else has_in table words k p) e)

    here : k ≡ bucket → p / 64 ≡ place / 64 → p < 64 * words →
        has_in (slice_set table (bucket * words + place / 64) after) words k p
        ≡ with_block (has_in table words) bucket place stands k p
    here e f l =
        let index : k * words + p / 64 ≡ bucket * words + place / 64 = λ i. e i * words + f i in
        ap (λ (b : Bool). b && bit (unwrap_or
        (slice_get (slice_set table (bucket * words + place / 64) after) (k * words + p / 64)) 0) (p % 64))
        (lt-ltb p (64 * words) l)
        ∙ ap (λ (i : ℕ). bit (unwrap_or (slice_get (slice_set table (bucket * words + place / 64) after) i) 0)
        (p % 64)) index
        ∙ ap (λ (o : Option ℕ). bit (unwrap_or o 0) (p % 64))
        (set_there table (bucket * words + place / 64) word after read)
        ∙ is (p % 64) (omega arith)
        ∙ ap (λ (b : Bool). if b then stands else bit word (p % 64)) (same_place p place f)
        ∙ ap (λ (b : Bool). if b && (p == place) then stands else bit word (p % 64)) (sym (eq-eqb k bucket e))
        ∙ ap (λ (b : Bool). if (k == bucket) && (p == place) then stands else b)
        (sym (ap (λ (b : Bool). b && bit (unwrap_or (slice_get table (k * words + p / 64)) 0) (p % 64))
        (lt-ltb p (64 * words) l)
        ∙ ap (λ (i : ℕ). bit (unwrap_or (slice_get table i) 0) (p % 64)) index
        ∙ ap (λ (o : Option ℕ). bit (unwrap_or o 0) (p % 64)) read))

    apart_here : (k * words + p / 64 ≡ bucket * words + place / 64 → ⊥) → ((k == bucket) && (p == place)) ≡ false
    apart_here apart = false_from_ne_true ((k == bucket) && (p == place)) (λ h.
        let u = and_parts (k == bucket) (p == place) h in
        let e = eqb-true k bucket u.0 in
        let f = eqb-true p place u.1 in
        apart (λ i. e i * words + f i / 64))

    inner : p < 64 * words →
        (k * words + p / 64 ≡ bucket * words + place / 64)
        ⊎ (k * words + p / 64 ≡ bucket * words + place / 64 → ⊥) →
        has_in (slice_set table (bucket * words + place / 64) after) words k p
        ≡ with_block (has_in table words) bucket place stands k p
    inner l (inl e) =
        let r = one_place words k (p / 64) bucket (place / 64) (word_inside words p l)
        (word_inside words place inside) e in
        here r.0 r.1 l
    inner l (inr apart) =
        other (apart_here apart)
        (set_other table (bucket * words + place / 64) (k * words + p / 64) after apart)

    by : (p < 64 * words) ⊎ (64 * words ≤ p) →
        has_in (slice_set table (bucket * words + place / 64) after) words k p
        ≡ with_block (has_in table words) bucket place stands k p
    by (inl l) = inner l (cases_eq (k * words + p / 64) (bucket * words + place / 64))
    by (inr l) =
        ap (λ (b : Bool). b && bit (unwrap_or
        (slice_get (slice_set table (bucket * words + place / 64) after) (k * words + p / 64)) 0) (p % 64))
        (le-ltb p (64 * words) l)
        ∙ sym (ap (λ (b : Bool). if b then stands else has_in table words k p)
        (false_from_ne_true ((k == bucket) && (p == place)) (λ h.
        let u = and_parts (k == bucket) (p == place) h in
        let f = eqb-true p place u.1 in omega arith))
        ∙ ap (λ (b : Bool). b && bit (unwrap_or (slice_get table (k * words + p / 64)) 0) (p % 64))
        (le-ltb p (64 * words) l))

-- the bit that is read
pub bit_read : (table : List ℕ) (words bucket place word : ℕ) → place < 64 * words →
    slice_get table (bucket * words + place / 64) ≡ Some word →
    has_in table words bucket place ≡ bit word (place % 64)
bit_read table words bucket place word inside read =
    ap (λ (b : Bool). b && bit (unwrap_or (slice_get table (bucket * words + place / 64)) 0) (place % 64))
    (lt-ltb place (64 * words) inside)
    ∙ ap (λ (o : Option ℕ). bit (unwrap_or o 0) (place % 64)) read
