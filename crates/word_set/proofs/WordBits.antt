-- Bits of words, which numbers are in a set after a bit has changed, and the first of them.
use Rattle.std.proofs.Common.{◌≡◌, ◌∙◌, ◌⊎◌, ℕ, zero, suc, ◌+◌, ◌-◌, ◌*◌, ◌/◌, ◌%◌, ◌^◌, ◌<◌, ◌≤◌, ◌&&◌, Bool}
use Rattle.std.proofs.Common.{true, false, List, Option, Some, None, ap, arith, length, refl, sym, subst}
use Rattle.std.proofs.Common.{inl, inr, replicate, if◌then◌else◌, get_or}
use Rattle.std.specs.Prelude.{nat_le, ◌==◌, slice_get, slice_set, unwrap_or, bit_or, bit_and, min}
use Rattle.std.specs.Int.{bit_at, trailing_zeros, w64}
use Rattle.std.proofs.lemmas.Bool.{and_parts, cases_eq, cases_lt, eq-eqb, false_from_ne_true, le-leb, leb-true}
use Rattle.std.proofs.lemmas.List.{get_or-replicate, length-replicate}
use Rattle.std.proofs.lemmas.Nat.{and_le_l, div-mul-add, mod-mul-add}
use Rattle.std.proofs.lemmas.Nat.Bits.{bit_at_set_same, bit_at_set_other, bit_at_clear_same, bit_at_clear_other}
use Rattle.std.proofs.lemmas.Nat.Bits.{bit_at_and, bit_at-zero, bit_at-lt, bit_at-trailing_zeros}
use Rattle.std.proofs.lemmas.Nat.Bits.{bit_at_mask_below, bit_at_mask_inside, ones_shl}
use Rattle.std.proofs.lemmas.Option.{slice_get-get_or, slice_get_past, slice_get_read, slice_get_within}
use Rattle.word_set.specs.Tests.{IsFirst, IsFirstFrom, IsFirstWithin, bit, changed, has_in}
use Rattle.word_set.specs.Flags.{first_passing, flags_of, is_set, passes}
use Rattle.word_set.proofs.Flags.{changed_other, changed_there, first_is, flags_get, flags_length, flags_pass}
use Rattle.word_set.proofs.Flags.{flags_set, ne-eqb, set_here, set_other}

-- Tests

gt-leb : (a b : ℕ) → b < a → nat_le a b ≡ false
gt-leb a b l = false_from_ne_true (nat_le a b) (λ h. let m = leb-true a b h in omega arith)

and_no : (a : Bool) {b : Bool} → b ≡ false → (a && b) ≡ false
and_no true h = h
and_no false h = refl

and_true : (a : Bool) → (a && true) ≡ a
and_true true = refl
and_true false = refl

-- Bits

pub bit_set : (word place j : ℕ) → place < 64 →
    bit (bit_or word (1 * 2 ^ place % 18446744073709551616)) j ≡ changed (bit word) place true j
bit_set word place j l = by (cases_eq j place)
  where
    by : (j ≡ place) ⊎ (j ≡ place → ⊥) →
        bit (bit_or word (1 * 2 ^ place % 18446744073709551616)) j ≡ changed (bit word) place true j
    by (inl e) =
        ap (λ (k : ℕ). bit_at (bit_or word (1 * 2 ^ place % 18446744073709551616)) k == 1) e
        ∙ ap (λ (k : ℕ). k == 1) (bit_at_set_same w64 word place l)
        ∙ sym (changed_there (bit word) place j true e)
    by (inr apart) =
        ap (λ (k : ℕ). k == 1) (bit_at_set_other w64 word place l j apart)
        ∙ sym (changed_other (bit word) place j true apart)

pub bit_clear : (word place j : ℕ) → place < 64 → j < 64 →
    bit (bit_and word (18446744073709551615 - 1 * 2 ^ place % 18446744073709551616)) j
    ≡ changed (bit word) place false j
bit_clear word place j l m = by (cases_eq j place)
  where
    by : (j ≡ place) ⊎ (j ≡ place → ⊥) →
        bit (bit_and word (18446744073709551615 - 1 * 2 ^ place % 18446744073709551616)) j
        ≡ changed (bit word) place false j
    by (inl e) =
        ap (λ (k : ℕ). bit_at (bit_and word (18446744073709551615 - 1 * 2 ^ place % 18446744073709551616)) k == 1) e
        ∙ ap (λ (k : ℕ). k == 1) (bit_at_clear_same w64 word place l)
        ∙ sym (changed_there (bit word) place j false e)
    by (inr apart) =
        ap (λ (k : ℕ). k == 1) (bit_at_clear_other w64 word place l j m apart)
        ∙ sym (changed_other (bit word) place j false apart)

bit_zero : (j : ℕ) → bit 0 j ≡ false
bit_zero j = ap (λ (k : ℕ). k == 1) (bit_at-zero j)

both_one : (m n : ℕ) → m < 2 → n < 2 → (min m n == 1) ≡ ((m == 1) && (n == 1))
both_one zero zero l k = refl
both_one zero (suc zero) l k = refl
both_one (suc zero) zero l k = refl
both_one (suc zero) (suc zero) l k = refl
both_one (suc (suc m)) n l k = absurd (omega arith)
both_one zero (suc (suc n)) l k = absurd (omega arith)
both_one (suc zero) (suc (suc n)) l k = absurd (omega arith)

bit_both : (a b j : ℕ) → bit (bit_and a b) j ≡ (bit a j && bit b j)
bit_both a b j =
    ap (λ (k : ℕ). k == 1) (bit_at_and a b j) ∙ both_one (bit_at a j) (bit_at b j) (bit_at-lt a j) (bit_at-lt b j)

-- the word without its bits below this one
abbrev pub left_of : (word from : ℕ) → ℕ
left_of word from = bit_and word (18446744073709551615 * 2 ^ from % 18446744073709551616)

bit_left : (word from j : ℕ) → from < 64 → j < 64 → bit (left_of word from) j ≡ (nat_le from j && bit word j)
bit_left word from j l m =
    ap (λ (k : ℕ). bit (bit_and word k) j) (ones_shl 64 from (omega arith))
    ∙ bit_both word (2 ^ 64 - 2 ^ from) j
    ∙ by (cases_lt j from)
  where
    by : (j < from) ⊎ (from ≤ j) → (bit word j && bit (2 ^ 64 - 2 ^ from) j) ≡ (nat_le from j && bit word j)
    by (inl u) =
        and_no (bit word j) (ap (λ (k : ℕ). k == 1) (bit_at_mask_below from 64 j u))
        ∙ sym (ap (λ (c : Bool). c && bit word j) (gt-leb from j u))
    by (inr u) =
        ap (λ (c : ℕ). bit word j && (c == 1)) (bit_at_mask_inside from 64 j u m)
        ∙ and_true (bit word j)
        ∙ sym (ap (λ (c : Bool). c && bit word j) (le-leb from j u))

behind_left : (word from j : ℕ) → from < 64 → j < 64 → from ≤ j → bit word j ≡ bit (left_of word from) j
behind_left word from j l m u =
    sym (bit_left word from j l m ∙ ap (λ (c : Bool). c && bit word j) (le-leb from j u))

pub none_left : (word from : ℕ) → from < 64 → left_of word from ≡ 0 → IsFirstWithin (bit word) from 64 None
none_left word from l e j u m =
    behind_left word from j l m u ∙ ap (λ (k : ℕ). bit k j) e ∙ bit_zero j

pub lowest_left : (word from : ℕ) → from < 64 → word < 2 ^ 64 → 0 < left_of word from →
    IsFirstWithin (bit word) from 64 (Some (trailing_zeros w64 (left_of word from)))
lowest_left word from l less some = by (bit_at-trailing_zeros w64 (left_of word from) some fits)
  where
    low : ℕ
    low = trailing_zeros w64 (left_of word from)

    fits : left_of word from < 2 ^ 64
    fits = let u = and_le_l word (18446744073709551615 * 2 ^ from % 18446744073709551616) in omega arith

    by : (low < 64) × (bit_at (left_of word from) low ≡ 1) × ((j : ℕ) → j < low → bit_at (left_of word from) j ≡ 0) →
        IsFirst (bit word) from low × (low < 64)
    by h =
        let u = and_parts (nat_le from low) (bit word low)
        (sym (bit_left word from low l h.0) ∙ eq-eqb (bit_at (left_of word from) low) 1 h.1) in (
          record {
            behind = leb-true from low u.0;
            passes = u.1;
            before = λ j m n.
                let k : j < 64 = let t = h.0 in omega arith in
                behind_left word from j l k m ∙ ap (λ (k : ℕ). k == 1) (h.2 j n);
          },
          h.0,
        )

-- Words

-- the number of a word and a bit is in, as the bit says
bit_there : (words : List ℕ) (index word j : ℕ) → slice_get words index ≡ Some word → j < 64 →
    has_in words (index * 64 + j) ≡ bit word j
bit_there words index word j read l =
    (λ i. bit (unwrap_or (slice_get words (div-mul-add index 64 j l i)) 0) (mod-mul-add index 64 j l i))
    ∙ ap (λ (o : Option ℕ). bit (unwrap_or o 0) j) read

same_place : (p q : ℕ) → p / 64 ≡ q / 64 → (p % 64 == q % 64) ≡ (p == q)
same_place p q e = by (cases_eq (p % 64) (q % 64))
  where
    by : (p % 64 ≡ q % 64) ⊎ (p % 64 ≡ q % 64 → ⊥) → (p % 64 == q % 64) ≡ (p == q)
    by (inl f) = eq-eqb (p % 64) (q % 64) f ∙ sym (eq-eqb p q (omega arith))
    by (inr apart) =
        ne-eqb (p % 64) (q % 64) apart ∙ sym (ne-eqb p q (λ f. apart (ap (λ (k : ℕ). k % 64) f)))

-- a number is in or not from now on
pub word_changed : (words : List ℕ) (at word after : ℕ) (b : Bool) → slice_get words (at / 64) ≡ Some word →
    ((j : ℕ) → j < 64 → bit after j ≡ changed (bit word) (at % 64) b j) → (p : ℕ) →
    has_in (slice_set words (at / 64) after) p ≡ changed (has_in words) at b p
word_changed words at word after b read is p = by (cases_eq (p / 64) (at / 64))
  where
    by : (p / 64 ≡ at / 64) ⊎ (p / 64 ≡ at / 64 → ⊥) →
        has_in (slice_set words (at / 64) after) p ≡ changed (has_in words) at b p
    by (inl e) =
        ap (λ (i : ℕ). bit (unwrap_or (slice_get (slice_set words (at / 64) after) i) 0) (p % 64)) e
        ∙ ap (λ (o : Option ℕ). bit (unwrap_or o 0) (p % 64))
        (set_here words (at / 64) after (slice_get_within words (at / 64) word read))
        ∙ is (p % 64) (omega arith)
        ∙ ap (λ (c : Bool). if c then b else bit word (p % 64)) (same_place p at e)
        ∙ sym (ap (λ (c : Bool). if p == at then b else c)
        (ap (λ (i : ℕ). bit (unwrap_or (slice_get words i) 0) (p % 64)) e
        ∙ ap (λ (o : Option ℕ). bit (unwrap_or o 0) (p % 64)) read))
    by (inr apart) =
        ap (λ (o : Option ℕ). bit (unwrap_or o 0) (p % 64)) (set_other words (at / 64) (p / 64) after apart)
        ∙ sym (changed_other (has_in words) at p b (λ e. apart (ap (λ (k : ℕ). k / 64) e)))

-- no number that is not below the size is in
pub still_below : (size : ℕ) (words : List ℕ) (at word after : ℕ) (b : Bool) → at < size →
    slice_get words (at / 64) ≡ Some word →
    ((j : ℕ) → j < 64 → bit after j ≡ changed (bit word) (at % 64) b j) →
    ((p : ℕ) → size ≤ p → has_in words p ≡ false) → (p : ℕ) → size ≤ p →
    has_in (slice_set words (at / 64) after) p ≡ false
still_below size words at word after b l read is below p u =
    word_changed words at word after b read is p
    ∙ changed_other (has_in words) at p b (λ e. omega arith)
    ∙ below p u

-- No number is in

get_replicate : {A : Type 0} (n k : ℕ) (x : A) → k < n → slice_get (replicate n x) k ≡ Some x
get_replicate n k x l =
    slice_get-get_or (replicate n x) k x (omega (arith, length-replicate n x, l)) ∙ ap Some (get_or-replicate n k x x l)

none_in : (n p : ℕ) → has_in (replicate n 0) p ≡ false
none_in n p = read (cases_lt (p / 64) n) ∙ bit_zero (p % 64)
  where
    read : (p / 64 < n) ⊎ (n ≤ p / 64) → has_in (replicate n 0) p ≡ bit 0 (p % 64)
    read (inl l) = ap (λ (o : Option ℕ). bit (unwrap_or o 0) (p % 64)) (get_replicate n (p / 64) 0 l)
    read (inr l) = ap (λ (o : Option ℕ). bit (unwrap_or o 0) (p % 64))
        (slice_get_past (replicate n 0) (p / 64) (omega (arith, length-replicate {A = ℕ} n 0)))

pub new_none : (n : ℕ) (words : List ℕ) → words ≡ replicate n 0 → (p : ℕ) → has_in words p ≡ false
new_none n words e p = ap (λ (xs : List ℕ). has_in xs p) e ∙ none_in n p

-- The first that is in

-- word by word
pub found_in : (words : List ℕ) (at index b low word : ℕ) → slice_get words index ≡ Some word →
    at ≤ index * 64 + b → ((j : ℕ) → at ≤ j → j < index * 64 + b → has_in words j ≡ false) →
    IsFirst (bit word) b low → low < 64 → IsFirst (has_in words) at (index * 64 + low)
found_in words at index b low word read from none first less = record {
  behind = let u = first.behind in omega arith;
  passes = bit_there words index word low read less ∙ first.passes;
  before = λ j m n. by j m n (cases_lt j (index * 64 + b));
}
  where
    by : (j : ℕ) → at ≤ j → j < index * 64 + low → (j < index * 64 + b) ⊎ (index * 64 + b ≤ j) → has_in words j ≡ false
    by j m n (inl u) = none j m u
    by j m n (inr u) =
        ap (has_in words) (back j u)
        ∙ bit_there words index word (j - index * 64) read (omega arith)
        ∙ first.before (j - index * 64) (omega arith) (omega arith)
      where
        back : (j : ℕ) → index * 64 + b ≤ j → j ≡ index * 64 + (j - index * 64)
        back j u = omega arith

pub passed_in : (words : List ℕ) (at index b word : ℕ) → slice_get words index ≡ Some word →
    ((j : ℕ) → at ≤ j → j < index * 64 + b → has_in words j ≡ false) →
    ((j : ℕ) → b ≤ j → j < 64 → bit word j ≡ false) →
    (j : ℕ) → at ≤ j → j < (index + 1) * 64 + 0 → has_in words j ≡ false
passed_in words at index b word read none off j m n = by (cases_lt j (index * 64 + b))
  where
    by : (j < index * 64 + b) ⊎ (index * 64 + b ≤ j) → has_in words j ≡ false
    by (inl u) = none j m u
    by (inr u) =
        ap (has_in words) (back j u)
        ∙ bit_there words index word (j - index * 64) read (omega arith)
        ∙ off (j - index * 64) (omega arith) (omega arith)
      where
        back : (j : ℕ) → index * 64 + b ≤ j → j ≡ index * 64 + (j - index * 64)
        back j u = omega arith

pub words_over : (words : List ℕ) (at index b : ℕ) → length words ≤ index →
    ((j : ℕ) → at ≤ j → j < index * 64 + b → has_in words j ≡ false) → (j : ℕ) → at ≤ j → has_in words j ≡ false
words_over words at index b over none j m = by (cases_lt j (index * 64 + b))
  where
    by : (j < index * 64 + b) ⊎ (index * 64 + b ≤ j) → has_in words j ≡ false
    by (inl u) = none j m u
    by (inr u) =
        ap (λ (o : Option ℕ). bit (unwrap_or o 0) (j % 64)) (slice_get_past words (j / 64) (omega arith))
        ∙ bit_zero (j % 64)

-- As contracts see them

pub inside : (size at : ℕ) (words : List ℕ) (v : List Bool) → flags_of (has_in words) 0 size ≡ v → at < length v →
    at < size
inside size at words v same l =
    subst (λ (n : ℕ). at < n) (flags_length (has_in words) 0 size)
    (subst (λ (xs : List Bool). at < length xs) (sym same) l)

-- the word of a number is read
pub read_word : (size at word : ℕ) (words : List ℕ) → at < size → length words ≡ size / 64 + 1 →
    word ≡ get_or words (at / 64) word → slice_get words (at / 64) ≡ Some word
read_word size at word words l whole read =
    slice_get_read words (length words) (at / 64) word refl (omega arith) read

pub has_read : (size at word : ℕ) (words : List ℕ) (v : List Bool) (b : Bool) → flags_of (has_in words) 0 size ≡ v →
    at < size → slice_get words (at / 64) ≡ Some word → b ≡ bit word (at % 64) → slice_get v at ≡ Some b
has_read size at word words v b same l read is =
    ap (λ (xs : List Bool). slice_get xs at) (sym same)
    ∙ flags_get (has_in words) 0 size at at l (omega arith)
    ∙ ap (λ (c : Bool). Some c) (ap (λ (o : Option ℕ). bit (unwrap_or o 0) (at % 64)) read ∙ sym is)

pub set_changed : (size at word after : ℕ) (words : List ℕ) (v : List Bool) (b : Bool) →
    flags_of (has_in words) 0 size ≡ v → at < size → slice_get words (at / 64) ≡ Some word →
    ((j : ℕ) → j < 64 → bit after j ≡ changed (bit word) (at % 64) b j) →
    ((p : ℕ) → size ≤ p → has_in words p ≡ false) →
    flags_of (has_in (slice_set words (at / 64) after)) 0 size ≡ slice_set v at b
set_changed size at word after words v b same l read is below =
    ap (λ (f : ℕ → Bool). flags_of f 0 size) (λ i p. word_changed words at word after b read is p i)
    ∙ flags_set (has_in words) size at b below l
    ∙ ap (λ (xs : List Bool). slice_set xs at b) same

-- what is found of the words is the first
pub first_seen : (size at : ℕ) (words : List ℕ) (v : List Bool) (o : Option ℕ) → flags_of (has_in words) 0 size ≡ v →
    ((p : ℕ) → size ≤ p → has_in words p ≡ false) → IsFirstFrom (has_in words) at o → o ≡ first_passing is_set at v
first_seen size at words v o same below found =
    first_is is_set v at o
    (subst (λ (xs : List Bool). IsFirstFrom (passes is_set xs) at o) same
    (subst (λ (f : ℕ → Bool). IsFirstFrom f at o) (λ i p. sym (flags_pass (has_in words) size below p) i) found))
