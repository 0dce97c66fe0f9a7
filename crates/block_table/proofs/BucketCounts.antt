-- How many blocks stand in each bucket: in new buckets, after a block was set, and whether a bucket is empty.
use Rattle.block_table.proofs.Common.{Bool, Buckets, List, Option, Some, Stands, [], and_parts, ap, arith, below, beq}
use Rattle.block_table.proofs.Common.{bit, cases_Bool, cases_eq, cases_lt, cond, count_by, eq-eqb, eqb-self, eqb-true}
use Rattle.block_table.proofs.Common.{false, false_from_ne_true, get_or, get_replicate, has, has_in, if◌then◌else◌, inl}
use Rattle.block_table.proofs.Common.{inr, le-ltb, length, length-replicate, mul-add-lt, mul_comm, nat_lt, ne_eqb, not}
use Rattle.block_table.proofs.Common.{refl, replicate, set_length, set_other, set_there, slice_get, slice_get_past}
use Rattle.block_table.proofs.Common.{slice_get_read, slice_set, subst, suc, sym, true, unwrap_or, with_bit, with_block}
use Rattle.block_table.proofs.Common.{zero, ℕ, ◌%◌, ◌&&◌, ◌*◌, ◌+◌, ◌/◌, ◌<◌, ◌==◌, ◌∙◌, ◌∷◌, ◌≡◌, ◌≤◌, ◌⊎◌}
use Rattle.std.proofs.lemmas.List.Sums.{sum_by-append}
use Rattle.std.proofs.lemmas.Option.{get_or_from_slice_get}
use Rattle.ufs_spec.proofs.Facts.{same_Some, true≢false}
use Rattle.block_table.proofs.LiveCounts.{count, count_more, count_room, count_same, count_some, count_zero}
use Rattle.block_table.proofs.LiveCounts.{count_after, one}
use Rattle.block_table.proofs.WordBits.{bit_zero, word_inside, word_set, bit_read}

-- How many

pub count_below : (f : ℕ → Bool) (n : ℕ) → count_by f (below n) ≡ count n f
count_below f zero = refl
count_below f (suc n) =
    sum_by-append (λ k. cond (f k) 1 0) (below n) (n ∷ [])
    ∙ (λ i. count_below f n i + last (f n) i)
  where
    last : (b : Bool) → 0 + cond b 1 0 ≡ one b
    last true = refl
    last false = refl

-- of each bucket it is kept how many of the first places pass
abbrev pub AreCounts : List ℕ → ℕ → (ℕ → ℕ → Bool) → Type 0
AreCounts held n f = (k : ℕ) → k < length held → slice_get held k ≡ Some (count_by (f k) (below n))

count_changed : (f g : ℕ → Bool) (n place : ℕ) (stands : Bool) → place < n → f place ≡ not stands →
    ((p : ℕ) → g p ≡ (if p == place then stands else f p)) →
    count_by g (below n) ≡ count_after stands (count_by f (below n))
count_changed f g n place true l was is =
    count_below g n
    ∙ count_more n f g place l was (is place ∙ ap (λ (b : Bool). if b then true else f place) (eqb-self place))
    (λ j m apart. sym (is j ∙ ap (λ (b : Bool). if b then true else f j) (ne_eqb j place apart)))
    ∙ ap (λ (c : ℕ). c + 1) (sym (count_below f n))
count_changed f g n place false l was is =
    let h = count_more n g f place l
    (is place ∙ ap (λ (b : Bool). if b then false else f place) (eqb-self place)) was
    (λ j m apart. is j ∙ ap (λ (b : Bool). if b then false else f j) (ne_eqb j place apart)) in
    let u = count_below f n in
    let v = count_below g n in
    omega arith

pub counts_changed : (held : List ℕ) (n bucket place had now : ℕ) (stands : Bool) (f g : ℕ → ℕ → Bool) → place < n →
    f bucket place ≡ not stands → ((k p : ℕ) → g k p ≡ with_block f bucket place stands k p) →
    slice_get held bucket ≡ Some had → now ≡ count_after stands had → AreCounts held n f →
    AreCounts (slice_set held bucket now) n g
counts_changed held n bucket place had now stands f g l was is read after kept k inside =
    by (cases_eq k bucket) (subst (λ (m : ℕ). k < m) (set_length held bucket now) inside)
  where
    same : k ≡ bucket → (p : ℕ) → g k p ≡ (if p == place then stands else f k p)
    same e p = is k p ∙ ap (λ (b : Bool). if b && (p == place) then stands else f k p) (eq-eqb k bucket e)

    beside : (k ≡ bucket → ⊥) → (p : ℕ) → g k p ≡ f k p
    beside apart p = is k p ∙ ap (λ (b : Bool). if b && (p == place) then stands else f k p) (ne_eqb k bucket apart)

    by : (k ≡ bucket) ⊎ (k ≡ bucket → ⊥) → k < length held →
        slice_get (slice_set held bucket now) k ≡ Some (count_by (g k) (below n))
    by (inl e) m =
        ap (λ (j : ℕ). slice_get (slice_set held bucket now) j) e
        ∙ set_there held bucket had now read
        ∙ ap (λ (c : ℕ). Some c) (after
        ∙ ap (count_after stands) (same_Some had (count_by (f k) (below n))
        (sym read ∙ ap (slice_get held) (sym e) ∙ kept k m))
        ∙ sym (count_changed (f k) (g k) n place stands l (ap (λ (j : ℕ). f j place) e ∙ was) (same e)))
    by (inr apart) m =
        set_other held bucket k now apart ∙ kept k m
        ∙ ap (λ (c : ℕ). Some c) (count_below (f k) n ∙ count_same n (f k) (g k) (λ j u. sym (beside apart j))
        ∙ sym (count_below (g k) n))

-- there is room for one more, or there is one to be taken out
pub count_free : (f : ℕ → Bool) (n place : ℕ) → place < n → f place ≡ false → count_by f (below n) < n
count_free f n place l off = subst (λ (c : ℕ). c < n) (sym (count_below f n)) (count_room n f place l off)

pub count_taken : (f : ℕ → Bool) (n place : ℕ) → place < n → f place ≡ true → 0 < count_by f (below n)
count_taken f n place l on = subst (λ (c : ℕ). 0 < c) (sym (count_below f n)) (count_some n f place l on)

one_of : (f : ℕ → Bool) (n : ℕ) → 0 < count n f → (p : ℕ) × (f p ≡ true)
one_of f zero l = absurd (omega arith)
one_of f (suc n) l = by (cases_Bool (f n)) (λ m. one_of f n m)
  where
    by : (f n ≡ true) ⊎ (f n ≡ false) → (0 < count n f → (p : ℕ) × (f p ≡ true)) → (p : ℕ) × (f p ≡ true)
    by (inl h) rest = (n, h)
    by (inr h) rest = rest (let e : one (f n) ≡ 0 = ap one h in omega arith)

pub some_counted : (f : ℕ → Bool) (n : ℕ) → 0 < count_by f (below n) → (p : ℕ) × (f p ≡ true)
some_counted f n l = one_of f n (subst (λ (c : ℕ). 0 < c) (count_below f n) l)

pub none_counted : (f : ℕ → Bool) (n p : ℕ) → count_by f (below n) ≡ 0 → p < n → f p ≡ false
none_counted f n p e l = false_from_ne_true (f p) (λ h. let k = count_taken f n p l h in omega arith)

-- Empty buckets

pub none_in : (n words k p : ℕ) → has_in (replicate n 0) words k p ≡ false
none_in n words k p = either (nat_lt p (64 * words)) (off (k * words + p / 64))
  where
    off : (i : ℕ) → bit (unwrap_or (slice_get (replicate n 0) i) 0) (p % 64) ≡ false
    off i = read (cases_lt i n) ∙ bit_zero (p % 64)
      where
        read : (i < n) ⊎ (n ≤ i) →
            bit (unwrap_or (slice_get (replicate n 0) i) 0) (p % 64) ≡ bit 0 (p % 64)
        read (inl l) = ap (λ (o : Option ℕ). bit (unwrap_or o 0) (p % 64)) (get_replicate n i 0 l)
        read (inr l) = ap (λ (o : Option ℕ). bit (unwrap_or o 0) (p % 64))
            (slice_get_past (replicate n 0) i (omega (arith, length-replicate {A = ℕ} n 0)))

    either : (a : Bool) {b : Bool} → b ≡ false → (a && b) ≡ false
    either true h = h
    either false h = refl

pub none_held : (f : ℕ → Bool) (n : ℕ) → ((p : ℕ) → f p ≡ false) → count_by f (below n) ≡ 0
none_held f n off = count_below f n ∙ count_zero n f off

pub new_whole : (buckets words : ℕ) (table held : List ℕ) → table ≡ replicate (buckets * words) 0 →
    held ≡ replicate buckets 0 → length table ≡ length held * words
new_whole buckets words table held e f =
    ap length e ∙ length-replicate {A = ℕ} (buckets * words) 0
    ∙ ap (λ (n : ℕ). n * words) (sym (ap length f ∙ length-replicate {A = ℕ} buckets 0))

pub new_counts : (n buckets words : ℕ) (table held : List ℕ) → table ≡ replicate n 0 → held ≡ replicate buckets 0 →
    AreCounts held (64 * words) (has_in table words)
new_counts n buckets words table held e f k inside =
    ap (λ (xs : List ℕ). slice_get xs k) f
    ∙ get_replicate buckets k 0 (let u = ap length f in omega (arith, length-replicate {A = ℕ} buckets 0))
    ∙ ap (λ (c : ℕ). Some c) (sym (none_held (has_in table words k) (64 * words) (λ p.
    ap (λ (xs : List ℕ). has_in xs words k p) e ∙ none_in n words k p)))

-- A block that is set

same_bool : (a b : Bool) → beq a b ≡ true → a ≡ b
same_bool true true h = refl
same_bool true false h = sym h
same_bool false true h = h
same_bool false false h = refl

other_bool : (a b : Bool) → beq a b ≡ false → a ≡ not b
other_bool true true h = h
other_bool true false h = refl
other_bool false true h = refl
other_bool false false h = sym h

-- the fields of buckets as contracts see them
abbrev pub seen : ℕ → List ℕ → List ℕ → Buckets
seen words table held = record { buckets = length held; words = words; table = table }

index_inside : (words bucket place : ℕ) (table held : List ℕ) → place < 64 * words → bucket < length held →
    length table ≡ length held * words → bucket * words + place / 64 < length table
index_inside words bucket place table held l m whole =
    let r = mul-add-lt bucket words (place / 64) (length held) m (word_inside words place l) in
    let e = mul_comm words (length held) in
    omega arith

pub already : (v : Buckets) (bucket place : ℕ) (stands : Bool) → has v bucket place ≡ stands →
    Stands v v.buckets v.words (with_block (has v) bucket place stands)
already v bucket place stands h = record {
  buckets_are = refl;
  words_are = refl;
  has_is = λ k p. by k p (cases_Bool ((k == bucket) && (p == place)));
}
  where
    by : (k p : ℕ) → (((k == bucket) && (p == place)) ≡ true) ⊎ (((k == bucket) && (p == place)) ≡ false) →
        has v k p ≡ with_block (has v) bucket place stands k p
    by k p (inl e) =
        let u = and_parts (k == bucket) (p == place) e in
        (λ i. has v (eqb-true k bucket u.0 i) (eqb-true p place u.1 i))
        ∙ h ∙ sym (ap (λ (b : Bool). if b then stands else has v k p) e)
    by k p (inr e) = sym (ap (λ (b : Bool). if b then stands else has v k p) e)

-- what is read where the block of a place is set in a bucket
pub record IsRead (words : ℕ) (table held : List ℕ) (bucket place word : ℕ) : Type 0 where
  pub inside : place < 64 * words
  pub there : bucket < length held
  pub read : slice_get table (bucket * words + place / 64) ≡ Some word

pub is_read : (words : ℕ) (table held : List ℕ) (v : Buckets) (bucket place word : ℕ) → seen words table held ≡ v →
    bucket < v.buckets → place < 64 * v.words → length table ≡ length held * words →
    word ≡ get_or table (bucket * words + place / 64) word → IsRead words table held bucket place word
is_read words table held v bucket place word same l m whole read =
    let u : bucket < length held = subst (λ (b : Buckets). bucket < b.buckets) (sym same) l in
    let w : place < 64 * words = subst (λ (b : Buckets). place < 64 * b.words) (sym same) m in
    record {
      inside = w;
      there = u;
      read = slice_get_read table (length table) (bucket * words + place / 64) word refl
          (index_inside words bucket place table held w u whole) read;
    }

pub stands_already : {words : ℕ} {table held : List ℕ} {bucket place word : ℕ} (v : Buckets) (found stands : Bool) →
    IsRead words table held bucket place word → seen words table held ≡ v → found ≡ bit word (place % 64) →
    beq found stands ≡ true → Stands v v.buckets v.words (with_block (has v) bucket place stands)
stands_already {words} {table} {held} {bucket} {place} {word} v found stands r same is equal =
    already v bucket place stands (subst (λ (b : Buckets). has b bucket place ≡ stands) same
    (bit_read table words bucket place word r.inside r.read ∙ sym is ∙ same_bool found stands equal))

was_other : {words : ℕ} {table held : List ℕ} {bucket place word : ℕ} (found stands : Bool) →
    IsRead words table held bucket place word → found ≡ bit word (place % 64) → beq found stands ≡ false →
    has_in table words bucket place ≡ not stands
was_other {words} {table} {held} {bucket} {place} {word} found stands r is apart =
    bit_read table words bucket place word r.inside r.read ∙ sym is ∙ other_bool found stands apart

-- the number of blocks that stood in the bucket
had_is : {words : ℕ} {table held : List ℕ} {bucket place word : ℕ} (had : ℕ) →
    IsRead words table held bucket place word → AreCounts held (64 * words) (has_in table words) →
    had ≡ get_or held bucket had → had ≡ count_by (has_in table words bucket) (below (64 * words))
had_is {words} {table} {held} {bucket} had r kept read =
    read ∙ get_or_from_slice_get held bucket (count_by (has_in table words bucket) (below (64 * words))) had
    (kept bucket r.there)

pub held_room : {words : ℕ} {table held : List ℕ} {bucket place word : ℕ} (had : ℕ) (found : Bool) →
    IsRead words table held bucket place word → AreCounts held (64 * words) (has_in table words) →
    had ≡ get_or held bucket had → found ≡ bit word (place % 64) → beq found true ≡ false → had < 64 * words
held_room {words} {table} {held} {bucket} {place} had found r kept read is apart =
    subst (λ (c : ℕ). c < 64 * words) (sym (had_is had r kept read))
    (count_free (has_in table words bucket) (64 * words) place r.inside (was_other found true r is apart))

pub held_some : {words : ℕ} {table held : List ℕ} {bucket place word : ℕ} (had : ℕ) (found : Bool) →
    IsRead words table held bucket place word → AreCounts held (64 * words) (has_in table words) →
    had ≡ get_or held bucket had → found ≡ bit word (place % 64) → beq found false ≡ false → 0 < had
held_some {words} {table} {held} {bucket} {place} had found r kept read is apart =
    subst (λ (c : ℕ). 0 < c) (sym (had_is had r kept read))
    (count_taken (has_in table words bucket) (64 * words) place r.inside (was_other found false r is apart))

pub held_after : {words : ℕ} {table held : List ℕ} {bucket place word : ℕ} (had now after : ℕ) (found stands : Bool) →
    IsRead words table held bucket place word → AreCounts held (64 * words) (has_in table words) →
    had ≡ get_or held bucket had → found ≡ bit word (place % 64) → beq found stands ≡ false →
    now ≡ count_after stands had →
    ((j : ℕ) → j < 64 → bit after j ≡ with_bit (bit word) (place % 64) stands j) →
    AreCounts (slice_set held bucket now) (64 * words)
    (has_in (slice_set table (bucket * words + place / 64) after) words)
held_after {words} {table} {held} {bucket} {place} {word} had now after found stands r kept read is apart e bits =
    counts_changed held (64 * words) bucket place had now stands (has_in table words)
    (has_in (slice_set table (bucket * words + place / 64) after) words) r.inside
    (was_other found stands r is apart) (word_set table words bucket place word after stands r.inside r.read bits)
    (kept bucket r.there ∙ ap (λ (c : ℕ). Some c) (sym (had_is had r kept read))) e kept

pub stands_after : {words : ℕ} {table held : List ℕ} {bucket place word : ℕ} (v : Buckets) (now after : ℕ)
    (stands : Bool) → IsRead words table held bucket place word → seen words table held ≡ v →
    ((j : ℕ) → j < 64 → bit after j ≡ with_bit (bit word) (place % 64) stands j) →
    Stands (seen words (slice_set table (bucket * words + place / 64) after) (slice_set held bucket now))
    v.buckets v.words (with_block (has v) bucket place stands)
stands_after {words} {table} {held} {bucket} {place} {word} v now after stands r same bits =
    subst (λ (b : Buckets).
    Stands (seen words (slice_set table (bucket * words + place / 64) after) (slice_set held bucket now))
    b.buckets b.words (with_block (has b) bucket place stands)) same
    (record {
      buckets_are = set_length held bucket now;
      words_are = refl;
      has_is = word_set table words bucket place word after stands r.inside r.read bits;
    })

pub whole_after : (words : ℕ) (table held : List ℕ) (i k x y : ℕ) → length table ≡ length held * words →
    length (slice_set table i x) ≡ length (slice_set held k y) * words
whole_after words table held i k x y whole =
    set_length table i x ∙ whole ∙ ap (λ (n : ℕ). n * words) (sym (set_length held k y))

-- Whether a bucket is empty

pub held_is : (words : ℕ) (table held : List ℕ) (v : Buckets) (bucket now : ℕ) → seen words table held ≡ v →
    bucket < v.buckets → AreCounts held (64 * words) (has_in table words) → now ≡ get_or held bucket now →
    now ≡ count_by (has v bucket) (below (64 * v.words))
held_is words table held v bucket now same l kept read =
    subst (λ (b : Buckets). now ≡ count_by (has b bucket) (below (64 * b.words))) same
    (read ∙ get_or_from_slice_get held bucket (count_by (has_in table words bucket) (below (64 * words))) now
    (kept bucket (subst (λ (b : Buckets). bucket < b.buckets) (sym same) l)))

pub empty_is : (v : Buckets) (bucket now : ℕ) → now ≡ count_by (has v bucket) (below (64 * v.words)) →
    (now == 0) ≡ true → (p : ℕ) → has v bucket p ≡ false
empty_is v bucket now e none p = by (cases_lt p (64 * v.words))
  where
    by : (p < 64 * v.words) ⊎ (64 * v.words ≤ p) → has v bucket p ≡ false
    by (inl l) = none_counted (has v bucket) (64 * v.words) p (sym e ∙ eqb-true now 0 none) l
    by (inr l) = ap (λ (b : Bool). b && bit (unwrap_or (slice_get v.table (bucket * v.words + p / 64)) 0) (p % 64))
        (le-ltb p (64 * v.words) l)

pub held_one : (v : Buckets) (bucket now : ℕ) → now ≡ count_by (has v bucket) (below (64 * v.words)) →
    (now == 0) ≡ false → (p : ℕ) × (has v bucket p ≡ true)
held_one v bucket now e some =
    some_counted (has v bucket) (64 * v.words) (subst (λ (c : ℕ). 0 < c) e (above now some))
  where
    above : (n : ℕ) → (n == 0) ≡ false → 0 < n
    above zero h = absurd (true≢false h)
    above (suc n) h = omega arith
