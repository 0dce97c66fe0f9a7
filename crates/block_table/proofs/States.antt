-- The blocks of a table in a bucket for each state: at first, after a change, and word by word.
use Rattle.block_table.proofs.Common.{BlockState, Blocks, Bool, Buckets, IsWord, IsWordOf, List, Option, Sizes, Some}
use Rattle.block_table.proofs.Common.{Stands, and_right, ap, arith, bit, blocks_in, cases_eq, cases_lt, cond, count_by}
use Rattle.block_table.proofs.Common.{eq-eqb, eqb-self, false, get_or, has, if◌then◌else◌, inl, inr, le-ltb, length}
use Rattle.block_table.proofs.Common.{lt-ltb, moved, nat_lt, ne_eqb, refl, same_state, set_length, set_other, set_there}
use Rattle.block_table.proofs.Common.{slice_get, slice_get_past, slice_set, state_there, suc, sym, true, unwrap_or}
use Rattle.block_table.proofs.Common.{with_bit, with_block, words_for, zero, ℕ, ◌%◌, ◌&&◌, ◌*◌, ◌+◌, ◌/◌, ◌<◌, ◌==◌}
use Rattle.block_table.proofs.Common.{◌∙◌, ◌≡◌, ◌≤◌, ◌⊎◌}
use Rattle.std.proofs.Common.{mul-zero}
use Rattle.std.proofs.lemmas.List.Sums.{sum_by-set}
use Rattle.std.proofs.lemmas.Nat.{div-add-mod'}
use Rattle.ufs_spec.proofs.Lists.{get_there}
use Rattle.block_table.specs.Blocks.{block_index}
use Rattle.block_table.specs.Buckets.{in_none}
use Rattle.block_table.specs.Sorted.{HasAll, IsSorted, bucket_of, is_for}
use Rattle.block_table.specs.declared.BlockState.TheVariants as state

-- A list that is sorted into buckets

-- the first of the list stand in their buckets
abbrev pub sorted_to : ℕ → List BlockState → ℕ → ℕ → Bool
sorted_to n states k p = nat_lt p n && is_for k (slice_get states p)

pub bucket_below : (s : BlockState) → bucket_of s < 6
bucket_below state.Free = omega arith
bucket_below state.Stale = omega arith
bucket_below state.Ready = omega arith
bucket_below state.Open = omega arith
bucket_below state.Closed = omega arith
bucket_below state.Bad = omega arith

pub none_sorted : (b : Buckets) (words : ℕ) (states : List BlockState) → Stands b 6 words in_none →
    Stands b 6 words (sorted_to 0 states)
none_sorted b words states h = record {
  buckets_are = h.buckets_are;
  words_are = h.words_are;
  has_is = λ k p. h.has_is k p
      ∙ sym (ap (λ (c : Bool). c && is_for k (slice_get states p)) (le-ltb p 0 (omega arith)));
}

pub one_sorted : (b new : Buckets) (words n : ℕ) (states : List BlockState) (s : BlockState) →
    slice_get states n ≡ Some s → Stands b 6 words (sorted_to n states) →
    Stands new b.buckets b.words (with_block (has b) (bucket_of s) n true) → Stands new 6 words (sorted_to (n + 1) states)
one_sorted b new words n states s there old h = record {
  buckets_are = h.buckets_are ∙ old.buckets_are;
  words_are = h.words_are ∙ old.words_are;
  has_is = λ k p. h.has_is k p ∙ by k p (cases_eq p n) (cases_eq k (bucket_of s));
}
  where
    beside : (k p : ℕ) → (p ≡ n → ⊥) → sorted_to n states k p ≡ sorted_to (n + 1) states k p
    beside k p apart = ap (λ (c : Bool). c && is_for k (slice_get states p)) (less (cases_lt p n))
      where
        less : (p < n) ⊎ (n ≤ p) → nat_lt p n ≡ nat_lt p (n + 1)
        less (inl l) = lt-ltb p n l ∙ sym (lt-ltb p (n + 1) (omega arith))
        less (inr l) = le-ltb p n l ∙ sym (le-ltb p (n + 1) (further (order_of p n l)))
          where
            order_of : (p n : ℕ) → n ≤ p → (p ≡ n) ⊎ (n < p)
            order_of p n l = grind arith

            further : (p ≡ n) ⊎ (n < p) → n + 1 ≤ p
            further (inl e) = absurd (apart e)
            further (inr m) = omega arith

    by : (k p : ℕ) → (p ≡ n) ⊎ (p ≡ n → ⊥) → (k ≡ bucket_of s) ⊎ (k ≡ bucket_of s → ⊥) →
        with_block (has b) (bucket_of s) n true k p ≡ sorted_to (n + 1) states k p
    by k p (inl e) (inl f) =
        (λ i. if eq-eqb k (bucket_of s) f i && eq-eqb p n e i then true else has b k p)
        ∙ sym (ap (λ (c : Bool). c && is_for k (slice_get states p)) (lt-ltb p (n + 1) (omega arith))
        ∙ ap (is_for k) (ap (slice_get states) e ∙ there)
        ∙ eq-eqb (bucket_of s) k (sym f))
    by k p (inl e) (inr apart) =
        ap (λ (c : Bool). if c && (p == n) then true else has b k p) (ne_eqb k (bucket_of s) apart)
        ∙ old.has_is k p
        ∙ ap (λ (c : Bool). c && is_for k (slice_get states p)) (le-ltb p n (omega arith))
        ∙ sym (ap (λ (c : Bool). c && is_for k (slice_get states p)) (lt-ltb p (n + 1) (omega arith))
        ∙ ap (is_for k) (ap (slice_get states) e ∙ there)
        ∙ ne_eqb (bucket_of s) k (λ f. apart (sym f)))
    by k p (inr apart) (inl f) =
        (λ i. if eq-eqb k (bucket_of s) f i && ne_eqb p n apart i then true else has b k p)
        ∙ old.has_is k p ∙ beside k p apart
    by k p (inr apart) (inr other) =
        ap (λ (c : Bool). if c && (p == n) then true else has b k p) (ne_eqb k (bucket_of s) other)
        ∙ old.has_is k p ∙ beside k p apart

pub all_sorted : (b : Buckets) (n words : ℕ) (states : List BlockState) → length states ≤ n →
    Stands b 6 words (sorted_to n states) → Stands b 6 words (λ k p. is_for k (slice_get states p))
all_sorted b n words states all h = record {
  buckets_are = h.buckets_are;
  words_are = h.words_are;
  has_is = λ k p. h.has_is k p ∙ by k p (cases_lt p n);
}
  where
    by : (k p : ℕ) → (p < n) ⊎ (n ≤ p) → sorted_to n states k p ≡ is_for k (slice_get states p)
    by k p (inl l) = ap (λ (c : Bool). c && is_for k (slice_get states p)) (lt-ltb p n l)
    by k p (inr l) =
        ap (λ (c : Bool). c && is_for k (slice_get states p)) (le-ltb p n l)
        ∙ sym (ap (is_for k) (slice_get_past states p (omega arith)))

-- A block that is so from now on

abbrev weight : Bool → ℕ
weight b = cond b 1 0

-- the number of blocks that are so, which is counted anew
pub counted_after : (p : BlockState → Bool) (states : List BlockState) (i : ℕ) (was s : BlockState) (before now : ℕ)
    (counted counts : Bool) → i < length states → was ≡ get_or states i was → before ≡ count_by p states →
    counted ≡ p was → counts ≡ p s → now + (if counted then 1 else 0) ≡ before + (if counts then 1 else 0) →
    now ≡ count_by p (slice_set states i s)
counted_after p states i was s before now counted counts l read kept is new step =
    let h : count_by p (slice_set states i s) + weight (p (get_or states i was)) ≡ count_by p states + weight (p s) =
    sum_by-set (λ x. cond (p x) 1 0) states i s was l in
    let e : weight counted ≡ weight (p (get_or states i was)) = ap weight (is ∙ ap p read) in
    let f : weight counts ≡ weight (p s) = ap weight new in
    let g : now + weight counted ≡ before + weight counts = step in
    omega arith

-- of the number that a block had, the one that it has, and any, the last is the second
pub renumbered : (k had now : ℕ) →
    (if k == now then true else (if k == had then false else (had == k))) ≡ (now == k)
renumbered k had now = by (cases_eq k now) (cases_eq k had)
  where
    by : (k ≡ now) ⊎ (k ≡ now → ⊥) → (k ≡ had) ⊎ (k ≡ had → ⊥) →
        (if k == now then true else (if k == had then false else (had == k))) ≡ (now == k)
    by (inl e) other =
        ap (λ (c : Bool). if c then true else (if k == had then false else (had == k))) (eq-eqb k now e)
        ∙ sym (eq-eqb now k (sym e))
    by (inr apart) (inl f) =
        (λ i. if ne_eqb k now apart i then true else (if eq-eqb k had f i then false else (had == k)))
        ∙ sym (ne_eqb now k (λ e. apart (sym e)))
    by (inr apart) (inr away) =
        (λ i. if ne_eqb k now apart i then true else (if ne_eqb k had away i then false
        else ne_eqb had k (λ e. away (sym e)) i))
        ∙ sym (ne_eqb now k (λ e. apart (sym e)))

-- what a block that is moved stands in, and what any other does
pub moved_here : (test : ℕ → ℕ → Bool) (i from to k : ℕ) → test from i ≡ true →
    moved test i from to k i ≡ (if k == to then true else (if k == from then false else test k i))
moved_here test i from to k h =
    ap (λ (c : Bool). if c then with_block (with_block test from i false) to i true k i else test k i) h
    ∙ (λ j. if and_true (k == to) (eqb-self i) j then true
    else (if and_true (k == from) (eqb-self i) j then false else test k i))
  where
    and_true : (a : Bool) {b : Bool} → b ≡ true → (a && b) ≡ a
    and_true true h = h
    and_true false h = refl

pub set_beside : (test : ℕ → ℕ → Bool) (bucket i k p : ℕ) (stands : Bool) → (p ≡ i → ⊥) →
    with_block test bucket i stands k p ≡ test k p
set_beside test bucket i k p stands apart =
    ap (λ (c : Bool). if c then stands else test k p) (and_right (k == bucket) _ (ne_eqb p i apart))

pub moved_beside : (test : ℕ → ℕ → Bool) (i from to k p : ℕ) → (p ≡ i → ⊥) → moved test i from to k p ≡ test k p
moved_beside test i from to k p apart =
    ap (λ (x : Bool). if test from i then x else test k p)
    (set_beside (with_block test from i false) to i k p true apart ∙ set_beside test from i k p false apart)
    ∙ either (test from i)
  where
    either : (b : Bool) → (if b then test k p else test k p) ≡ test k p
    either true = refl
    either false = refl

pub sorted_moved : (b new : Buckets) (states : List BlockState) (i : ℕ) (was s : BlockState) → IsSorted states b →
    slice_get states i ≡ Some was → Stands new b.buckets b.words (moved (has b) i (bucket_of was) (bucket_of s)) →
    IsSorted (slice_set states i s) new
sorted_moved b new states i was s old there h = record {
  buckets_are = h.buckets_are ∙ old.buckets_are;
  words_are = h.words_are ∙ old.words_are ∙ ap words_for (sym (set_length states i s));
  has_is = λ k p. h.has_is k p ∙ by k p (cases_eq p i);
}
  where
    here : (k : ℕ) → has b k i ≡ (bucket_of was == k)
    here k = old.has_is k i ∙ ap (is_for k) there

    by : (k p : ℕ) → (p ≡ i) ⊎ (p ≡ i → ⊥) →
        moved (has b) i (bucket_of was) (bucket_of s) k p ≡ is_for k (slice_get (slice_set states i s) p)
    by k p (inl e) =
        ap (moved (has b) i (bucket_of was) (bucket_of s) k) e
        ∙ moved_here (has b) i (bucket_of was) (bucket_of s) k (here (bucket_of was) ∙ eqb-self (bucket_of was))
        ∙ ap (λ (c : Bool). if k == bucket_of s then true else (if k == bucket_of was then false else c)) (here k)
        ∙ renumbered k (bucket_of was) (bucket_of s)
        ∙ sym (ap (is_for k) (ap (slice_get (slice_set states i s)) e ∙ set_there states i was s there))
    by k p (inr apart) =
        moved_beside (has b) i (bucket_of was) (bucket_of s) k p apart
        ∙ old.has_is k p
        ∙ ap (is_for k) (sym (set_other states i p s apart))

-- Words

-- the words of the buckets, for a device whose blocks have the same places
pub sorted_word : (b : Buckets) (t : Blocks) (n : Sizes) (s : BlockState) (number word : ℕ) → IsSorted t.states b →
    HasAll t n → IsWord (has b (bucket_of s)) number word → IsWordOf t s n number word
sorted_word b t n s number word sorted all is j l inside =
    is j l ∙ sorted.has_is (bucket_of s) p
    ∙ read (get_there t.states p (let m = all.all in omega arith))
  where
    p : ℕ
    p = 64 * number + j

    place : block_index t (p / n.blocks) (p % n.blocks) ≡ p
    place = (λ i. p / n.blocks * sym all.row i + p % n.blocks) ∙ div-add-mod' p n.blocks

    read : (x : BlockState) × (slice_get t.states p ≡ Some x) →
        is_for (bucket_of s) (slice_get t.states p) ≡ same_state (state_there t n p) s
    read (x, h) =
        ap (is_for (bucket_of s)) h
        ∙ ap (λ (y : BlockState). same_state y s)
        (sym (ap (λ (o : Option BlockState). unwrap_or o state.Bad) (ap (slice_get t.states) place ∙ h)))

pub some_blocks : (d b p : ℕ) → p < d * b → 0 < b
some_blocks d zero p h = absurd (omega (arith, mul-zero d))
some_blocks d (suc b) p h = omega arith

-- and for any other device
pub word_more : (t : Blocks) (n : Sizes) (s : BlockState) (number place word after index : ℕ) (so : Bool) → place < 64 →
    ((j : ℕ) → j < place → 64 * number + j < blocks_in n →
    bit word j ≡ same_state (state_there t n (64 * number + j)) s) →
    (0 < n.blocks → index ≡ (number * 64 + place) / n.blocks * t.sizes.blocks + (number * 64 + place) % n.blocks) →
    so ≡ same_state (unwrap_or (slice_get t.states index) state.Bad) s →
    ((j : ℕ) → j < 64 → bit after j ≡ with_bit (bit word) place so j) →
    (j : ℕ) → j < place + 1 → 64 * number + j < blocks_in n →
    bit after j ≡ same_state (state_there t n (64 * number + j)) s
word_more t n s number place word after index so l before at is bits j m inside =
    bits j (omega arith) ∙ by (cases_eq j place)
  where
    index_is : j ≡ place → index ≡ block_index t ((64 * number + j) / n.blocks) ((64 * number + j) % n.blocks)
    index_is e =
        at (some_blocks n.dies n.blocks (64 * number + j) inside)
        ∙ ap (λ (p : ℕ). p / n.blocks * t.sizes.blocks + p % n.blocks) (same e)
      where
        same : j ≡ place → number * 64 + place ≡ 64 * number + j
        same e = omega arith

    by : (j ≡ place) ⊎ (j ≡ place → ⊥) →
        with_bit (bit word) place so j ≡ same_state (state_there t n (64 * number + j)) s
    by (inl e) =
        ap (λ (c : Bool). if c then so else bit word j) (eq-eqb j place e)
        ∙ is
        ∙ ap (λ (i : ℕ). same_state (unwrap_or (slice_get t.states i) state.Bad) s) (index_is e)
    by (inr apart) =
        ap (λ (c : Bool). if c then so else bit word j) (ne_eqb j place apart)
        ∙ before j (further apart) inside
      where
        further : (j ≡ place → ⊥) → j < place
        further w = omega (arith, w)
