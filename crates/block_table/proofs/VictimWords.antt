-- Blocks that may be collected, word by word, and bad blocks that hold live pages.
use Rattle.block_table.proofs.Common.{AreCounted, BlockState, Blocks, Bool, Buckets, IsLowest, IsWord, IsWordOf, List}
use Rattle.block_table.proofs.Common.{Lives, Sizes, Spot, [], and_parts, ap, arith, below, bit, bit_and, bit_not}
use Rattle.block_table.proofs.Common.{bit_or, block_place, blocks_in, cases_lt, eqb-true, false, flat_map}
use Rattle.block_table.proofs.Common.{flat_map-append, gains, has, has_block, has_no_pin, inl, inr, is_bad_at}
use Rattle.block_table.proofs.Common.{is_pinned, is_victim_at, le-ltb, length, list_any, live_count, lt-ltb, ltb-true}
use Rattle.block_table.proofs.Common.{map, map-append, may_be_victim, nat_lt, ne_eqb, not, refl, same_state, slice_get}
use Rattle.block_table.proofs.Common.{spot, spot_there, state_of, state_there, suc, sym, trailing_zeros, true}
use Rattle.block_table.proofs.Common.{unwrap_or, w64, words_for, zero, ℕ, ◌%◌, ◌&&◌, ◌*◌, ◌++◌, ◌+◌, ◌-◌, ◌/◌, ◌<◌}
use Rattle.block_table.proofs.Common.{◌==◌, ◌^◌, ◌||◌, ◌∙◌, ◌∷◌, ◌≡◌, ◌≤◌, ◌⊎◌}
use Rattle.std.proofs.Math.Bool.{and-false}
use Rattle.std.proofs.lemmas.List.{append-nil}
use Rattle.std.proofs.lemmas.List.Folds.{list_any-append}
use Rattle.std.proofs.lemmas.Nat.{div-mul-add, mod-mul-add}
use Rattle.ufs_spec.proofs.Facts.{or_left, or_right}
use Rattle.block_table.specs.Blocks.{is_bad}
use Rattle.block_table.specs.LiveRooms.{is_unpinned_with}
use Rattle.block_table.specs.Lives.{is_bad_with_live, spots_in, spots_of_die}
use Rattle.block_table.specs.declared.BlockState.TheVariants as state
use Rattle.block_table.proofs.LiveCounts.{spot_inside}
use Rattle.block_table.proofs.Relations.{any_same}
use Rattle.block_table.proofs.Unpinned.{AreUnpinned, counted_there, no_pin_past, no_pin_there, spot_block, spot_die}
use Rattle.block_table.proofs.WordBits.{bit_both, bit_some, bit_turned, lowest_is}

-- One block

-- the block without a pin and with so many live pages, by its place
pub unpinned_is : (l : Lives) (counts : List ℕ) (k p : ℕ) → AreCounted l counts → length l.pins ≡ blocks_in l.sizes →
    p < blocks_in l.sizes →
    is_unpinned_with counts l.pins k p
    ≡ (not (is_pinned l (spot_there l.sizes p)) && (live_count l (spot_there l.sizes p) == k))
unpinned_is l counts k p kept whole inside = λ i.
    no_pin_there l p whole inside i && (unwrap_or (counted_there l counts p kept inside i) 0 == k)

pub unpinned_past : (l : Lives) (counts : List ℕ) (k p : ℕ) → length l.pins ≡ blocks_in l.sizes → blocks_in l.sizes ≤ p →
    is_unpinned_with counts l.pins k p ≡ false
unpinned_past l counts k p whole out =
    ap (λ (c : Bool). c && (unwrap_or (slice_get counts p) 0 == k)) (no_pin_past l.pins p (blocks_in l.sizes) whole out)

-- what a block gains, by the words of its states
gains_bits : (l : Lives) (scarce : Bool) (s : Spot) (count : ℕ) (x : BlockState) → live_count l s ≡ count →
    gains l scarce s x
    ≡ (((scarce && nat_lt count l.sizes.pages) && same_state x state.Closed)
    || ((not scarce && nat_lt 0 count) && same_state x state.Bad))
gains_bits l scarce s count x e = by x
  where
    closed : Bool
    closed = scarce && nat_lt count l.sizes.pages

    bad : Bool
    bad = not scarce && nat_lt 0 count

    neither : (a b : Bool) → false ≡ ((a && false) || (b && false))
    neither true true = refl
    neither true false = refl
    neither false true = refl
    neither false false = refl

    first : (a b : Bool) → a ≡ ((a && true) || (b && false))
    first true b = refl
    first false true = refl
    first false false = refl

    second : (a b : Bool) → b ≡ ((a && false) || (b && true))
    second true true = refl
    second true false = refl
    second false true = refl
    second false false = refl

    by : (x : BlockState) → gains l scarce s x
        ≡ ((closed && same_state x state.Closed) || (bad && same_state x state.Bad))
    by state.Free = neither closed bad
    by state.Stale = neither closed bad
    by state.Ready = neither closed bad
    by state.Open = neither closed bad
    by state.Closed = ap (λ (c : ℕ). scarce && nat_lt c l.sizes.pages) e ∙ first closed bad
    by state.Bad = ap (λ (c : ℕ). not scarce && nat_lt 0 c) e ∙ second closed bad

bad_is : (x : BlockState) → same_state x state.Bad ≡ is_bad x
bad_is state.Free = refl
bad_is state.Stale = refl
bad_is state.Ready = refl
bad_is state.Open = refl
bad_is state.Closed = refl
bad_is state.Bad = refl

-- Words

-- the blocks with so many live pages that may be collected
pub victim_bits : (l : Lives) (t : Blocks) (scarce : Bool) (counts : List ℕ) (b : Buckets)
    (count number closed bad gc gb stand : ℕ) → count ≤ l.sizes.pages → length l.pins ≡ blocks_in l.sizes →
    AreCounted l counts →
    AreUnpinned b l.sizes.pages counts l.pins → IsWordOf t state.Closed l.sizes number closed →
    IsWordOf t state.Bad l.sizes number bad →
    ((j : ℕ) → bit gc j ≡ (scarce && (nat_lt count l.sizes.pages && bit closed j))) →
    ((j : ℕ) → bit gb j ≡ (not scarce && (nat_lt 0 count && bit bad j))) → IsWord (has b count) number stand →
    IsWord (is_victim_at l t scarce count) number (bit_and stand (bit_or gc gb))
victim_bits l t scarce counts b count number closed bad gc gb stand few whole kept old is_closed is_bad is_gc is_gb is
    j m =
    bit_both stand (bit_or gc gb) j
    ∙ (λ i. unpinned i && gain i)
    ∙ by (cases_lt (64 * number + j) (blocks_in l.sizes))
  where
    p : ℕ
    p = 64 * number + j

    frees : Bool
    frees = scarce && nat_lt count l.sizes.pages

    saves : Bool
    saves = not scarce && nat_lt 0 count

    s : Spot
    s = spot_there l.sizes p

    unpinned : bit stand j ≡ is_unpinned_with counts l.pins count p
    unpinned = is j m ∙ old count p few

    joined : (a b c : Bool) → (a && (b && c)) ≡ ((a && b) && c)
    joined true b c = refl
    joined false b c = refl

    gain : bit (bit_or gc gb) j ≡ ((frees && bit closed j) || (saves && bit bad j))
    gain = bit_some gc gb j ∙ (λ i. (is_gc j ∙ joined scarce (nat_lt count l.sizes.pages) (bit closed j)) i
        || (is_gb j ∙ joined (not scarce) (nat_lt 0 count) (bit bad j)) i)

    turned : (a b c : Bool) → ((a && b) && c) ≡ (b && (a && c))
    turned true true c = refl
    turned true false c = refl
    turned false true c = refl
    turned false false c = refl

    gained : (c : Bool) → live_count l s == count ≡ c → p < blocks_in l.sizes →
        ((not (is_pinned l s) && c)
        && ((frees && bit closed j) || (saves && bit bad j)))
        ≡ (c && may_be_victim l t scarce s)
    gained true e inside =
        (λ i. (not (is_pinned l s) && true)
        && ((frees && is_closed j m inside i) || (saves && is_bad j m inside i)))
        ∙ ap (λ (g : Bool). (not (is_pinned l s) && true) && g)
        (sym (gains_bits l scarce s count (state_of t s.die s.block) (eqb-true (live_count l s) count e)))
        ∙ turned (not (is_pinned l s)) true (gains l scarce s (state_of t s.die s.block))
    gained false e inside =
        turned (not (is_pinned l s)) false
        ((frees && bit closed j) || (saves && bit bad j))

    by : (p < blocks_in l.sizes) ⊎ (blocks_in l.sizes ≤ p) →
        (is_unpinned_with counts l.pins count p
        && ((frees && bit closed j) || (saves && bit bad j)))
        ≡ is_victim_at l t scarce count p
    by (inl inside) =
        ap (λ (u : Bool). u && ((frees && bit closed j) || (saves && bit bad j)))
        (unpinned_is l counts count p kept whole inside)
        ∙ gained (live_count l s == count) refl inside
        ∙ sym (ap (λ (c : Bool). c && ((live_count l s == count) && may_be_victim l t scarce s))
        (lt-ltb p (blocks_in l.sizes) inside))
    by (inr out) =
        ap (λ (u : Bool). u && ((frees && bit closed j) || (saves && bit bad j)))
        (unpinned_past l counts count p whole out)
        ∙ sym (ap (λ (c : Bool). c && ((live_count l s == count) && may_be_victim l t scarce s))
        (le-ltb p (blocks_in l.sizes) out))

-- the bad blocks without a pin that hold live pages
pub bad_bits : (l : Lives) (t : Blocks) (counts : List ℕ) (b one : Buckets) (number bad free none : ℕ) →
    length l.pins ≡ blocks_in l.sizes → AreCounted l counts → AreUnpinned b l.sizes.pages counts l.pins →
    ((p : ℕ) → has one 0 p ≡ has_no_pin l.pins p) → none < 2 ^ 64 →
    IsWordOf t state.Bad l.sizes number bad → IsWord (has one 0) number free → IsWord (has b 0) number none →
    IsWord (is_bad_at l t) number (bit_and (bit_and bad free) (bit_not w64 none))
bad_bits l t counts b one number bad free none whole kept old unpinned fits is_bad_word is_free is_none j m =
    bit_both (bit_and bad free) (bit_not w64 none) j
    ∙ (λ i. bit_both bad free j i && bit_turned none j fits m i)
    ∙ (λ i. (bit bad j && frees i) && not (nones i))
    ∙ by (cases_lt (64 * number + j) (blocks_in l.sizes))
  where
    p : ℕ
    p = 64 * number + j

    s : Spot
    s = spot_there l.sizes p

    frees : bit free j ≡ has_no_pin l.pins p
    frees = is_free j m ∙ unpinned p

    nones : bit none j ≡ is_unpinned_with counts l.pins 0 p
    nones = is_none j m ∙ old 0 p (omega arith)

    three : (a n : Bool) (x : ℕ) → ((a && n) && not (n && (x == 0))) ≡ ((a && n) && nat_lt 0 x)
    three false n x = refl
    three true false x = refl
    three true true zero = refl
    three true true (suc x) =
        ap not (ne_eqb (suc x) 0 (λ e. omega arith)) ∙ sym (lt-ltb 0 (suc x) (omega arith))

    by : (p < blocks_in l.sizes) ⊎ (blocks_in l.sizes ≤ p) →
        ((bit bad j && has_no_pin l.pins p) && not (is_unpinned_with counts l.pins 0 p)) ≡ is_bad_at l t p
    by (inl inside) =
        (λ i. ((is_bad_word j m inside ∙ bad_is (state_there t l.sizes p)) i && no_pin_there l p whole inside i)
        && not (unpinned_is l counts 0 p kept whole inside i))
        ∙ three (is_bad (state_of t s.die s.block)) (not (is_pinned l s)) (live_count l s)
        ∙ sym (ap (λ (c : Bool). c && is_bad_with_live l t s) (lt-ltb p (blocks_in l.sizes) inside))
    by (inr out) =
        ap (λ (c : Bool). (bit bad j && c) && not (is_unpinned_with counts l.pins 0 p))
        (no_pin_past l.pins p (blocks_in l.sizes) whole out)
        ∙ ap (λ (c : Bool). c && not (is_unpinned_with counts l.pins 0 p)) (and-false (bit bad j))
        ∙ sym (ap (λ (c : Bool). c && is_bad_with_live l t s) (le-ltb p (blocks_in l.sizes) out))

-- one word more
pub word_passed : (test : ℕ → Bool) (number word : ℕ) → IsWord test number word → ((j : ℕ) → bit word j ≡ false) →
    ((p : ℕ) → p < 64 * number → test p ≡ false) → (p : ℕ) → p < 64 * (number + 1) → test p ≡ false
word_passed test number word is off before p l = by (cases_lt p (64 * number))
  where
    by : (p < 64 * number) ⊎ (64 * number ≤ p) → test p ≡ false
    by (inl m) = before p m
    by (inr m) =
        ap test (place p m) ∙ sym (is (p - 64 * number) (omega arith)) ∙ off (p - 64 * number)
      where
        place : (p : ℕ) → 64 * number ≤ p → p ≡ 64 * number + (p - 64 * number)
        place p m = omega arith

-- the word has the first that passes
pub word_first : (test : ℕ → Bool) (number word k : ℕ) → IsWord test number word → IsLowest (bit word) k → k < 64 →
    ((p : ℕ) → p < 64 * number → test p ≡ false) → IsLowest test (number * 64 + k)
word_first test number word k is low l before = record {
  passes = ap test (turned number k) ∙ sym (is k l) ∙ low.passes;
  below = λ p m. by p m (cases_lt p (64 * number));
}
  where
    turned : (n k : ℕ) → n * 64 + k ≡ 64 * n + k
    turned n k = omega arith

    place : (p : ℕ) → 64 * number ≤ p → p ≡ 64 * number + (p - 64 * number)
    place p m = omega arith

    by : (p : ℕ) → p < number * 64 + k → (p < 64 * number) ⊎ (64 * number ≤ p) → test p ≡ false
    by p m (inl u) = before p u
    by p m (inr u) =
        ap test (place p u) ∙ sym (is (p - 64 * number) (omega arith)) ∙ low.below (p - 64 * number) (omega arith)

-- and after all words nothing is left
pub words_over : (n number : ℕ) → words_for n ≤ number → (p : ℕ) → p < n → p < 64 * number
words_over n number l p m = omega arith

pub no_victim_left : (l : Lives) (t : Blocks) (scarce : Bool) (count number : ℕ) →
    words_for (blocks_in l.sizes) ≤ number →
    ((p : ℕ) → p < 64 * number → is_victim_at l t scarce count p ≡ false) → (p : ℕ) →
    is_victim_at l t scarce count p ≡ false
no_victim_left l t scarce count number over before p = by (cases_lt p (blocks_in l.sizes))
  where
    by : (p < blocks_in l.sizes) ⊎ (blocks_in l.sizes ≤ p) → is_victim_at l t scarce count p ≡ false
    by (inl m) = before p (words_over (blocks_in l.sizes) number over p m)
    by (inr m) = ap (λ (c : Bool). c && ((live_count l (spot_there l.sizes p) == count)
        && may_be_victim l t scarce (spot_there l.sizes p))) (le-ltb p (blocks_in l.sizes) m)

-- Some block of all

any_one : (f : Spot → Bool) (die n k : ℕ) → k < n → f (spot die k) ≡ true → list_any f (map (spot die) (below n)) ≡ true
any_one f die zero k l h = absurd (omega arith)
any_one f die (suc n) k l h =
    ap (list_any f) (map-append (spot die) (below n) (n ∷ []))
    ∙ list_any-append f (map (spot die) (below n)) (spot die n ∷ [])
    ∙ by (last k n l) (λ m. any_one f die n k m h)
  where
    last : (k n : ℕ) → k < suc n → (k < n) ⊎ (k ≡ n)
    last k n l = grind arith

    by : (k < n) ⊎ (k ≡ n) → (k < n → list_any f (map (spot die) (below n)) ≡ true) →
        (list_any f (map (spot die) (below n)) || (f (spot die n) || false)) ≡ true
    by (inl m) rest = or_left (list_any f (map (spot die) (below n))) (f (spot die n) || false) (rest m)
    by (inr e) rest = or_right (list_any f (map (spot die) (below n))) (f (spot die n) || false)
        (ap (λ (i : ℕ). f (spot die i) || false) (sym e) ∙ ap (λ (c : Bool). c || false) h)

any_die : (f : Spot → Bool) (g : ℕ → List Spot) (n k : ℕ) → k < n → list_any f (g k) ≡ true →
    list_any f (flat_map g (below n)) ≡ true
any_die f g zero k l h = absurd (omega arith)
any_die f g (suc n) k l h =
    ap (list_any f) (flat_map-append g (below n) (n ∷ []) ∙ ap (λ xs. flat_map g (below n) ++ xs) (append-nil (g n)))
    ∙ list_any-append f (flat_map g (below n)) (g n)
    ∙ by (last k n l) (λ m. any_die f g n k m h)
  where
    last : (k n : ℕ) → k < suc n → (k < n) ⊎ (k ≡ n)
    last k n l = grind arith

    by : (k < n) ⊎ (k ≡ n) → (k < n → list_any f (flat_map g (below n)) ≡ true) →
        (list_any f (flat_map g (below n)) || list_any f (g n)) ≡ true
    by (inl m) rest = or_left (list_any f (flat_map g (below n))) (list_any f (g n)) (rest m)
    by (inr e) rest = or_right (list_any f (flat_map g (below n))) (list_any f (g n))
        (ap (λ (i : ℕ). list_any f (g i)) (sym e) ∙ h)

-- the block at a place that passes is one of all
pub any_there : (f : Spot → Bool) (n : Sizes) (p : ℕ) → p < blocks_in n → f (spot_there n p) ≡ true →
    list_any f (spots_in n) ≡ true
any_there f n p l h =
    any_die f (spots_of_die n) n.dies (p / n.blocks) (spot_die n p l)
    (any_one f (p / n.blocks) n.blocks (p % n.blocks) (spot_block n p l) h)

none_any : (xs : List Spot) → list_any (λ (s : Spot). false) xs ≡ false
none_any [] = refl
none_any (x ∷ xs) = none_any xs

pub spot_placed : (n : Sizes) (s : Spot) → has_block n s ≡ true → spot_there n (block_place n s) ≡ s
spot_placed n s h =
    let u = and_parts (nat_lt s.die n.dies) (nat_lt s.block n.blocks) h in
    let b = ltb-true s.block n.blocks u.1 in
    λ i. record { die = div-mul-add s.die n.blocks s.block b i; block = mod-mul-add s.die n.blocks s.block b i }

-- and if none passes at its place, none of all does
pub none_there : (f : Spot → Bool) (n : Sizes) → ((p : ℕ) → p < blocks_in n → f (spot_there n p) ≡ false) →
    list_any f (spots_in n) ≡ false
none_there f n off =
    any_same n f (λ (s : Spot). false) (λ s h.
    ap f (sym (spot_placed n s h)) ∙ off (block_place n s) (spot_inside n s h))
    ∙ none_any (spots_in n)

bad_parts : (l : Lives) (t : Blocks) (p : ℕ) → is_bad_at l t p ≡ true →
    (p < blocks_in l.sizes) × (is_bad_with_live l t (spot_there l.sizes p) ≡ true)
bad_parts l t p h =
    let u = and_parts (nat_lt p (blocks_in l.sizes)) (is_bad_with_live l t (spot_there l.sizes p)) h in
    (ltb-true p (blocks_in l.sizes) u.0, u.1)

pub bad_found : (l : Lives) (t : Blocks) (number word : ℕ) → IsWord (is_bad_at l t) number word → 0 < word →
    word < 2 ^ 64 → true ≡ list_any (is_bad_with_live l t) (spots_in l.sizes)
bad_found l t number word is some fits =
    let low = lowest_is word some fits in
    let k = trailing_zeros w64 word in
    let h : is_bad_at l t (64 * number + k) ≡ true = sym (is k low.0) ∙ low.1.passes in
    let u = bad_parts l t (64 * number + k) h in
    sym (any_there (is_bad_with_live l t) l.sizes (64 * number + k) u.0 u.1)

pub bad_none : (l : Lives) (t : Blocks) (number : ℕ) → words_for (blocks_in l.sizes) ≤ number →
    ((p : ℕ) → p < 64 * number → is_bad_at l t p ≡ false) →
    false ≡ list_any (is_bad_with_live l t) (spots_in l.sizes)
bad_none l t number over before =
    sym (none_there (is_bad_with_live l t) l.sizes (λ p m.
    sym (ap (λ (c : Bool). c && is_bad_with_live l t (spot_there l.sizes p)) (lt-ltb p (blocks_in l.sizes) m))
    ∙ before p (words_over (blocks_in l.sizes) number over p m)))
