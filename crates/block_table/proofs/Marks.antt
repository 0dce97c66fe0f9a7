-- The second level of buckets: which words have a bit, after a bit has changed and as it is read.
use Rattle.block_table.proofs.Common.{Bool, Buckets, List, Some, and_from, and_parts, ap, arith, bit, cases_Bool}
use Rattle.block_table.proofs.Common.{eq-eqb, eqb-true, false, false_from_ne_true, get_or, has, has_in, if◌then◌else◌}
use Rattle.block_table.proofs.Common.{inl, inr, le-ltb, length, length-replicate, lt-ltb, ltb-true, mul-add-lt}
use Rattle.block_table.proofs.Common.{mul_comm, nat_lt, refl, replicate, set_there, slice_get, slice_get_read}
use Rattle.block_table.proofs.Common.{slice_set, subst, suc, sym, trailing_zeros, true, unwrap_or, w64, with_bit}
use Rattle.block_table.proofs.Common.{with_block, words_for, zero, ℕ, ◌%◌, ◌&&◌, ◌*◌, ◌+◌, ◌/◌, ◌<◌, ◌==◌, ◌^◌, ◌∙◌}
use Rattle.block_table.proofs.Common.{◌≡◌, ◌≤◌, ◌⊎◌}
use Rattle.std.proofs.Math.Nat.{mul-le-mul_left}
use Rattle.ufs_spec.proofs.Facts.{true≢false}
use Rattle.block_table.specs.Buckets.{AreMarks, IsMark}
use Rattle.block_table.proofs.WordBits.{bit_read, bit_zero, lowest_is, word_set}
use Rattle.block_table.proofs.BucketCounts.{IsRead, is_read, none_in, seen}

-- what is said of the numbers of one test is said of those of another that pass alike
pub mark_same : (f g : ℕ → Bool) (w : ℕ) (b : Bool) → ((j : ℕ) → j < 64 → g (64 * w + j) ≡ f (64 * w + j)) →
    IsMark f w b → IsMark g w b
mark_same f g w true same (j, (l, h)) = (j, (l, same j l ∙ h))
mark_same f g w false same h = λ j l. same j l ∙ h j l

-- the second level is that of the table
abbrev pub AreMarked : List ℕ → List ℕ → ℕ → Type 0
AreMarked table marks words = (k w : ℕ) → IsMark (has_in table words k) w (has_in marks (words_for words) k w)

-- At first

pub fewer_words : (words : ℕ) → words_for words ≤ words
fewer_words words = omega arith

pub fewer_marks : (buckets words : ℕ) → buckets * words_for words ≤ buckets * words
fewer_marks buckets words = mul-le-mul_left buckets (fewer_words words)

pub new_level : (buckets words : ℕ) (marks held : List ℕ) → marks ≡ replicate (buckets * words_for words) 0 →
    held ≡ replicate buckets 0 → length marks ≡ length held * words_for words
new_level buckets words marks held e f =
    ap length e ∙ length-replicate {A = ℕ} (buckets * words_for words) 0
    ∙ ap (λ (n : ℕ). n * words_for words) (sym (ap length f ∙ length-replicate {A = ℕ} buckets 0))

pub new_marks : (n m words : ℕ) (table marks : List ℕ) → table ≡ replicate n 0 → marks ≡ replicate m 0 →
    AreMarked table marks words
new_marks n m words table marks e f k w =
    subst (IsMark (has_in table words k) w)
    (sym (ap (λ (xs : List ℕ). has_in xs (words_for words) k w) f ∙ none_in m (words_for words) k w))
    (λ j l. ap (λ (xs : List ℕ). has_in xs words k (64 * w + j)) e ∙ none_in n words k (64 * w + j))

-- After a bit has changed

-- the word of the second level that is read
pub group_read : {words : ℕ} {table held : List ℕ} {bucket place word : ℕ} (marks : List ℕ) (groups mark : ℕ) →
    IsRead words table held bucket place word → length marks ≡ length held * words_for words →
    groups ≡ words_for words → mark ≡ get_or marks (bucket * groups + place / 64 / 64) mark →
    IsRead (words_for words) marks held bucket (place / 64) mark
group_read {words} {table} {held} {bucket} {place} marks groups mark r whole e read =
    is_read (words_for words) marks held (seen (words_for words) marks held) bucket (place / 64) mark refl r.there
    (inside words place r.inside) whole
    (subst (λ (g : ℕ). mark ≡ get_or marks (bucket * g + place / 64 / 64) mark) e read)
  where
    inside : (words place : ℕ) → place < 64 * words → place / 64 < 64 * words_for words
    inside words place l = omega arith

-- a word of a table that was written has these bits
written : (table : List ℕ) (words bucket number word after j : ℕ) → number < words → j < 64 →
    slice_get table (bucket * words + number) ≡ Some word →
    has_in (slice_set table (bucket * words + number) after) words bucket (64 * number + j) ≡ bit after j
written table words bucket number word after j l m read =
    bit_read (slice_set table (bucket * words + number) after) words bucket (64 * number + j) after (omega arith)
    (ap (λ (n : ℕ). slice_get (slice_set table (bucket * words + number) after) (bucket * words + n)) (there number j m)
    ∙ set_there table (bucket * words + number) word after read)
    ∙ ap (bit after) (left number j m)
  where
    there : (number j : ℕ) → j < 64 → (64 * number + j) / 64 ≡ number
    there number j m = omega arith

    left : (number j : ℕ) → j < 64 → (64 * number + j) % 64 ≡ j
    left number j m = omega arith

-- its mark is whether it is not 0
mark_written : (test : ℕ → Bool) (number after : ℕ) → after < 2 ^ 64 →
    ((j : ℕ) → j < 64 → test (64 * number + j) ≡ bit after j) → IsMark test number (nat_lt 0 after)
mark_written test number after fits is = by (cases_Bool (nat_lt 0 after))
  where
    zero_is : (n : ℕ) → nat_lt 0 n ≡ false → n ≡ 0
    zero_is zero h = refl
    zero_is (suc n) h = absurd (true≢false (sym (lt-ltb 0 (suc n) (omega arith)) ∙ h))

    by : (nat_lt 0 after ≡ true) ⊎ (nat_lt 0 after ≡ false) → IsMark test number (nat_lt 0 after)
    by (inl h) =
        let low = lowest_is after (ltb-true 0 after h) fits in
        subst (IsMark test number) (sym h)
        (trailing_zeros w64 after, (low.0, is (trailing_zeros w64 after) low.0 ∙ low.1.passes))
    by (inr h) =
        subst (IsMark test number) (sym h)
        (λ j l. is j l ∙ ap (λ (a : ℕ). bit a j) (zero_is after h) ∙ bit_zero j)

pub marked_after : {words : ℕ} {table held marks : List ℕ} {bucket place word mark : ℕ} (after turned : ℕ)
    (stands : Bool) → IsRead words table held bucket place word →
    IsRead (words_for words) marks held bucket (place / 64) mark → AreMarked table marks words → after < 2 ^ 64 →
    ((j : ℕ) → j < 64 → bit after j ≡ with_bit (bit word) (place % 64) stands j) →
    ((j : ℕ) → j < 64 → bit turned j ≡ with_bit (bit mark) (place / 64 % 64) (nat_lt 0 after) j) →
    AreMarked (slice_set table (bucket * words + place / 64) after)
    (slice_set marks (bucket * words_for words + place / 64 / 64) turned) words
marked_after {words} {table} {held} {marks} {bucket} {place} {word} {mark} after turned stands r s old fits bits tells
    k w = by (cases_Bool ((k == bucket) && (w == place / 64)))
  where
    now : List ℕ
    now = slice_set table (bucket * words + place / 64) after

    level : List ℕ
    level = slice_set marks (bucket * words_for words + place / 64 / 64) turned

    is : has_in level (words_for words) k w
        ≡ with_block (has_in marks (words_for words)) bucket (place / 64) (nat_lt 0 after) k w
    is = word_set marks (words_for words) bucket (place / 64) mark turned (nat_lt 0 after) s.inside s.read tells k w

    inside : (words place : ℕ) → place < 64 * words → place / 64 < words
    inside words place l = omega arith

    here : IsMark (has_in now words bucket) (place / 64) (nat_lt 0 after)
    here = mark_written (has_in now words bucket) (place / 64) after fits
        (λ j l. written table words bucket (place / 64) word after j (inside words place r.inside) l r.read)

    apart : ((k == bucket) && (w == place / 64)) ≡ false → (j : ℕ) → j < 64 →
        ((k == bucket) && (64 * w + j == place)) ≡ false
    apart e j l = false_from_ne_true ((k == bucket) && (64 * w + j == place)) (λ h.
        let u = and_parts (k == bucket) (64 * w + j == place) h in
        true≢false (sym (and_from (k == bucket) (w == place / 64) u.0
        (eq-eqb w (place / 64) (of w j place l (eqb-true (64 * w + j) place u.1)))) ∙ e))
      where
        of : (w j place : ℕ) → j < 64 → 64 * w + j ≡ place → w ≡ place / 64
        of w j place l e = omega arith

    by : (((k == bucket) && (w == place / 64)) ≡ true) ⊎ (((k == bucket) && (w == place / 64)) ≡ false) →
        IsMark (has_in now words k) w (has_in level (words_for words) k w)
    by (inl e) =
        let u = and_parts (k == bucket) (w == place / 64) e in
        subst (IsMark (has_in now words k) w)
        (sym (is ∙ ap (λ (b : Bool). if b then nat_lt 0 after else has_in marks (words_for words) k w) e))
        (subst (λ (b : ℕ). IsMark (has_in now words b) w (nat_lt 0 after)) (sym (eqb-true k bucket u.0))
        (subst (λ (n : ℕ). IsMark (has_in now words bucket) n (nat_lt 0 after)) (sym (eqb-true w (place / 64) u.1))
        here))
    by (inr e) =
        subst (IsMark (has_in now words k) w)
        (sym (is ∙ ap (λ (b : Bool). if b then nat_lt 0 after else has_in marks (words_for words) k w) e))
        (mark_same (has_in table words k) (has_in now words k) w (has_in marks (words_for words) k w)
        (λ j l. word_set table words bucket place word after stands r.inside r.read bits k (64 * w + j)
        ∙ ap (λ (b : Bool). if b then stands else has_in table words k (64 * w + j)) (apart e j l)) (old k w))

pub marked_at : {words : ℕ} {table held marks : List ℕ} {bucket place word mark : ℕ} (groups after turned : ℕ)
    (stands : Bool) → IsRead words table held bucket place word →
    IsRead (words_for words) marks held bucket (place / 64) mark → AreMarked table marks words →
    groups ≡ words_for words → after < 2 ^ 64 →
    ((j : ℕ) → j < 64 → bit after j ≡ with_bit (bit word) (place % 64) stands j) →
    ((j : ℕ) → j < 64 → bit turned j ≡ with_bit (bit mark) (place / 64 % 64) (nat_lt 0 after) j) →
    AreMarked (slice_set table (bucket * words + place / 64) after)
    (slice_set marks (bucket * groups + place / 64 / 64) turned) words
marked_at {words} {table} {held} {marks} {bucket} {place} groups after turned stands r s old e fits bits tells =
    subst (λ (g : ℕ). AreMarked (slice_set table (bucket * words + place / 64) after)
    (slice_set marks (bucket * g + place / 64 / 64) turned) words) (sym e)
    (marked_after after turned stands r s old fits bits tells)

-- As it is read

seen_marks : (words : ℕ) (table held : List ℕ) (v : Buckets) (bucket group word : ℕ) → seen words table held ≡ v →
    AreMarks (has_in table words bucket) group word → AreMarks (has v bucket) group word
seen_marks words table held v bucket group word same h =
    subst (λ (b : Buckets). AreMarks (has b bucket) group word) same h

pub group_index : (words : ℕ) (table marks held : List ℕ) (v : Buckets) (bucket group : ℕ) →
    seen words table held ≡ v → bucket < v.buckets → length marks ≡ length held * words_for words →
    group < words_for words → bucket * words_for words + group < length marks
group_index words table marks held v bucket group same l whole m =
    let u : bucket < length held = subst (λ (b : Buckets). bucket < b.buckets) (sym same) l in
    let r = mul-add-lt bucket (words_for words) group (length held) u m in
    let e = mul_comm (words_for words) (length held) in
    omega (arith, r, e, whole)

pub marks_read : (words : ℕ) (table marks held : List ℕ) (v : Buckets) (bucket group word : ℕ) →
    seen words table held ≡ v → bucket < v.buckets → length marks ≡ length held * words_for words →
    AreMarked table marks words → group < words_for words →
    word ≡ get_or marks (bucket * words_for words + group) word → AreMarks (has v bucket) group word
marks_read words table marks held v bucket group word same l whole old m read =
    seen_marks words table held v bucket group word same (λ j u.
    subst (IsMark (has_in table words bucket) (64 * group + j))
    (bit_read marks (words_for words) bucket (64 * group + j) word (omega arith)
    (ap (λ (n : ℕ). slice_get marks (bucket * words_for words + n)) (there group j u) ∙ got)
    ∙ ap (bit word) (left group j u)) (old bucket (64 * group + j)))
  where
    there : (group j : ℕ) → j < 64 → (64 * group + j) / 64 ≡ group
    there group j u = omega arith

    left : (group j : ℕ) → j < 64 → (64 * group + j) % 64 ≡ j
    left group j u = omega arith

    got : slice_get marks (bucket * words_for words + group) ≡ Some word
    got = slice_get_read marks (length marks) (bucket * words_for words + group) word refl
        (group_index words table marks held v bucket group same l whole m) read

pub marks_past : (words : ℕ) (table marks held : List ℕ) (v : Buckets) (bucket group : ℕ) →
    seen words table held ≡ v → AreMarked table marks words → words_for words ≤ group →
    AreMarks (has v bucket) group 0
marks_past words table marks held v bucket group same old past =
    seen_marks words table held v bucket group 0 same (λ j u.
    subst (IsMark (has_in table words bucket) (64 * group + j))
    (ap (λ (b : Bool). b && bit (unwrap_or (slice_get marks (bucket * words_for words + (64 * group + j) / 64)) 0)
    ((64 * group + j) % 64)) (le-ltb (64 * group + j) (64 * words_for words) (omega arith)) ∙ sym (bit_zero j))
    (old bucket (64 * group + j)))
