-- The blocks without a pin in a bucket for each number of live pages: at first, and after a page or a pin has changed.
use Rattle.block_table.proofs.Common.{AreCounted, Bool, Buckets, List, Lives, Option, Sizes, Some, Spot, Stands}
use Rattle.block_table.proofs.Common.{and_from, and_right, ap, arith, block_place, blocks_in, cases_Bool, cases_eq}
use Rattle.block_table.proofs.Common.{cases_lt, eq-eqb, eqb-self, false, get_replicate, has, has_block, has_no_pin}
use Rattle.block_table.proofs.Common.{if◌then◌else◌, inl, inr, is_pinned, le-ltb, length, length-replicate, live_count}
use Rattle.block_table.proofs.Common.{lt-ltb, moved, nat_lt, ne_eqb, not, refl, replicate, set_other, set_there}
use Rattle.block_table.proofs.Common.{slice_get, slice_get_past, slice_set, spot_there, subst, suc, sym, true}
use Rattle.block_table.proofs.Common.{unwrap_or, with_block, zero, ℕ, ◌%◌, ◌&&◌, ◌/◌, ◌<◌, ◌==◌, ◌∙◌, ◌≡◌, ◌≤◌, ◌⊎◌}
use Rattle.std.proofs.Math.Bool.{and-true}
use Rattle.std.proofs.lemmas.Nat.{div-add-mod', div_below, mod_below}
use Rattle.ufs_spec.proofs.Lists.{get_there, set_here}
use Rattle.block_table.specs.Buckets.{in_first}
use Rattle.block_table.specs.LiveRooms.{is_unpinned_with}
use Rattle.block_table.proofs.LiveCounts.{count_within, live_count_is, spot_inside}
use Rattle.block_table.proofs.States.{moved_beside, moved_here, renumbered, set_beside, some_blocks}

-- The block at a place

pub place_there : (n : Sizes) (p : ℕ) → block_place n (spot_there n p) ≡ p
place_there n p = div-add-mod' p n.blocks

pub spot_die : (n : Sizes) (p : ℕ) → p < blocks_in n → p / n.blocks < n.dies
spot_die n p l = div_below p n.blocks n.dies (some_blocks n.dies n.blocks p l) l

pub spot_block : (n : Sizes) (p : ℕ) → p < blocks_in n → p % n.blocks < n.blocks
spot_block n p l = mod_below p n.blocks (some_blocks n.dies n.blocks p l)

pub there_inside : (n : Sizes) (p : ℕ) → p < blocks_in n → has_block n (spot_there n p) ≡ true
there_inside n p l = and_from (nat_lt (p / n.blocks) n.dies) (nat_lt (p % n.blocks) n.blocks)
    (lt-ltb (p / n.blocks) n.dies (spot_die n p l)) (lt-ltb (p % n.blocks) n.blocks (spot_block n p l))

pub place_inside : {l : Lives} (now : Lives) (s : Spot) (place : ℕ) → l ≡ now → has_block now.sizes s ≡ true →
    place ≡ block_place now.sizes s → place < blocks_in l.sizes
place_inside {l} now s place same there e =
    subst (λ (m : Lives). place < blocks_in m.sizes) (sym same)
    (subst (λ (p : ℕ). p < blocks_in now.sizes) (sym e) (spot_inside now.sizes s there))

pub counted_there : (l : Lives) (counts : List ℕ) (p : ℕ) → AreCounted l counts → p < blocks_in l.sizes →
    slice_get counts p ≡ Some (live_count l (spot_there l.sizes p))
counted_there l counts p kept inside =
    ap (slice_get counts) (sym (place_there l.sizes p))
    ∙ kept (spot_there l.sizes p) (there_inside l.sizes p inside)

pub count_at_most : (l : Lives) (s : Spot) → live_count l s ≤ l.sizes.pages
count_at_most l s = subst (λ (c : ℕ). c ≤ l.sizes.pages) (sym (live_count_is l s)) (count_within l.sizes.pages _)

no_pin_is : (x : ℕ) → (x == 0) ≡ not (nat_lt 0 x)
no_pin_is zero = refl
no_pin_is (suc x) = ne_eqb (suc x) 0 (λ e. omega arith) ∙ sym (ap not (lt-ltb 0 (suc x) (omega arith)))

pub no_pin_there : (l : Lives) (p : ℕ) → length l.pins ≡ blocks_in l.sizes → p < blocks_in l.sizes →
    has_no_pin l.pins p ≡ not (is_pinned l (spot_there l.sizes p))
no_pin_there l p whole inside = by (get_there l.pins p (omega arith))
  where
    by : (x : ℕ) × (slice_get l.pins p ≡ Some x) → has_no_pin l.pins p ≡ not (is_pinned l (spot_there l.sizes p))
    by (x, e) =
        ap (λ (o : Option ℕ). unwrap_or o 1 == 0) e
        ∙ no_pin_is x
        ∙ sym (ap (λ (b : Bool). not (nat_lt 0 (if b
        then unwrap_or (slice_get l.pins (block_place l.sizes (spot_there l.sizes p))) 0 else 0)))
        (there_inside l.sizes p inside)
        ∙ ap (λ (o : Option ℕ). not (nat_lt 0 (unwrap_or o 0))) (ap (slice_get l.pins) (place_there l.sizes p) ∙ e))

pub no_pin_past : (pins : List ℕ) (p n : ℕ) → length pins ≡ n → n ≤ p → has_no_pin pins p ≡ false
no_pin_past pins p n whole l = ap (λ (o : Option ℕ). unwrap_or o 1 == 0) (slice_get_past pins p (omega arith))

-- After a page has changed

-- the buckets are those of the counts and the pins, up to so many live pages
abbrev pub AreUnpinned : Buckets → ℕ → List ℕ → List ℕ → Type 0
AreUnpinned b pages counts pins =
    (k p : ℕ) → k ≤ pages → has b k p ≡ is_unpinned_with counts pins k p

pub moved_unpinned : (b new : Buckets) (counts pins : List ℕ) (pages i from to : ℕ) → AreUnpinned b pages counts pins →
    slice_get counts i ≡ Some from → from ≤ pages →
    ((k p : ℕ) → has new k p ≡ moved (has b) i from to k p) → AreUnpinned new pages (slice_set counts i to) pins
moved_unpinned b new counts pins pages i from to old read few is k p l =
    is k p ∙ by (cases_Bool (has_no_pin pins i)) (cases_eq p i)
  where
    stood : (k : ℕ) → k ≤ pages → has b k i ≡ (has_no_pin pins i && (from == k))
    stood k m = old k i m ∙ ap (λ (o : Option ℕ). has_no_pin pins i && (unwrap_or o 0 == k)) read

    stands : has b from i ≡ has_no_pin pins i
    stands = stood from few ∙ ap (λ (c : Bool). has_no_pin pins i && c) (eqb-self from) ∙ and-true (has_no_pin pins i)

    beside : (p ≡ i → ⊥) → has b k p ≡ is_unpinned_with (slice_set counts i to) pins k p
    beside apart =
        old k p l
        ∙ ap (λ (o : Option ℕ). has_no_pin pins p && (unwrap_or o 0 == k)) (sym (set_other counts i p to apart))

    by : (has_no_pin pins i ≡ true) ⊎ (has_no_pin pins i ≡ false) → (p ≡ i) ⊎ (p ≡ i → ⊥) →
        moved (has b) i from to k p ≡ is_unpinned_with (slice_set counts i to) pins k p
    by (inl u) (inl e) =
        ap (moved (has b) i from to k) e
        ∙ moved_here (has b) i from to k (stands ∙ u)
        ∙ ap (λ (c : Bool). if k == to then true else (if k == from then false else c))
        (stood k l ∙ ap (λ (c : Bool). c && (from == k)) u)
        ∙ renumbered k from to
        ∙ sym (ap (is_unpinned_with (slice_set counts i to) pins k) e
        ∙ ap (λ (c : Bool). c && (unwrap_or (slice_get (slice_set counts i to) i) 0 == k)) u
        ∙ ap (λ (o : Option ℕ). unwrap_or o 0 == k) (set_there counts i from to read))
    by (inr u) (inl e) =
        ap (moved (has b) i from to k) e
        ∙ ap (λ (c : Bool). if c then with_block (with_block (has b) from i false) to i true k i else has b k i)
        (stands ∙ u)
        ∙ stood k l
        ∙ ap (λ (c : Bool). c && (from == k)) u
        ∙ sym (ap (is_unpinned_with (slice_set counts i to) pins k) e
        ∙ ap (λ (c : Bool). c && (unwrap_or (slice_get (slice_set counts i to) i) 0 == k)) u)
    by u (inr apart) = moved_beside (has b) i from to k p apart ∙ beside apart

-- After a pin has changed

pub set_unpinned : (b new : Buckets) (counts pins : List ℕ) (pages i live count : ℕ) →
    AreUnpinned b pages counts pins → slice_get counts i ≡ Some live → i < length pins →
    ((k p : ℕ) → has new k p ≡ with_block (has b) live i (count == 0) k p) →
    AreUnpinned new pages counts (slice_set pins i count)
set_unpinned b new counts pins pages i live count old read inside is k p l =
    is k p ∙ by (cases_eq p i) (cases_eq k live)
  where
    now : has_no_pin (slice_set pins i count) i ≡ (count == 0)
    now = ap (λ (o : Option ℕ). unwrap_or o 1 == 0) (set_here pins i count inside)

    after : p ≡ i → is_unpinned_with counts (slice_set pins i count) k p ≡ ((count == 0) && (live == k))
    after e =
        ap (is_unpinned_with counts (slice_set pins i count) k) e
        ∙ ap (λ (c : Bool). c && (unwrap_or (slice_get counts i) 0 == k)) now
        ∙ ap (λ (o : Option ℕ). (count == 0) && (unwrap_or o 0 == k)) read

    by : (p ≡ i) ⊎ (p ≡ i → ⊥) → (k ≡ live) ⊎ (k ≡ live → ⊥) →
        with_block (has b) live i (count == 0) k p ≡ is_unpinned_with counts (slice_set pins i count) k p
    by (inl e) (inl f) =
        (λ j. if eq-eqb k live f j && eq-eqb p i e j then (count == 0) else has b k p)
        ∙ sym (after e ∙ ap (λ (c : Bool). (count == 0) && c) (eq-eqb live k (sym f)) ∙ and-true (count == 0))
    by (inl e) (inr away) =
        ap (λ (c : Bool). if c && (p == i) then (count == 0) else has b k p) (ne_eqb k live away)
        ∙ ap (has b k) e
        ∙ old k i l
        ∙ ap (λ (o : Option ℕ). has_no_pin pins i && (unwrap_or o 0 == k)) read
        ∙ and_right (has_no_pin pins i) _ (ne_eqb live k (λ f. away (sym f)))
        ∙ sym (after e ∙ and_right (count == 0) _ (ne_eqb live k (λ f. away (sym f))))
    by (inr apart) other =
        set_beside (has b) live i k p (count == 0) apart
        ∙ old k p l
        ∙ ap (λ (o : Option ℕ). (unwrap_or o 1 == 0) && (unwrap_or (slice_get counts p) 0 == k))
        (sym (set_other pins i p count apart))

pub set_no_pin : (b new : Buckets) (pins : List ℕ) (i count : ℕ) → ((p : ℕ) → has b 0 p ≡ has_no_pin pins p) →
    i < length pins → ((k p : ℕ) → has new k p ≡ with_block (has b) 0 i (count == 0) k p) → (p : ℕ) →
    has new 0 p ≡ has_no_pin (slice_set pins i count) p
set_no_pin b new pins i count old inside is p = is 0 p ∙ by (cases_eq p i)
  where
    by : (p ≡ i) ⊎ (p ≡ i → ⊥) →
        with_block (has b) 0 i (count == 0) 0 p ≡ has_no_pin (slice_set pins i count) p
    by (inl e) =
        ap (λ (c : Bool). if c then (count == 0) else has b 0 p) (eq-eqb p i e)
        ∙ sym (ap (has_no_pin (slice_set pins i count)) e
        ∙ ap (λ (o : Option ℕ). unwrap_or o 1 == 0) (set_here pins i count inside))
    by (inr apart) =
        set_beside (has b) 0 i 0 p (count == 0) apart
        ∙ old p
        ∙ ap (λ (o : Option ℕ). unwrap_or o 1 == 0) (sym (set_other pins i p count apart))

-- At first

turned : (n : ℕ) → (n == 0) ≡ (0 == n)
turned zero = refl
turned (suc n) = ne_eqb (suc n) 0 (λ e. omega arith) ∙ sym (ne_eqb 0 (suc n) (λ e. omega arith))

pub new_no_pin : (n : ℕ) (pins : List ℕ) (b : Buckets) (buckets words : ℕ) → pins ≡ replicate n 0 →
    Stands b buckets words (in_first n) → (p : ℕ) → has b 0 p ≡ has_no_pin pins p
new_no_pin n pins b buckets words e h p = h.has_is 0 p ∙ by (cases_lt p n)
  where
    by : (p < n) ⊎ (n ≤ p) → in_first n 0 p ≡ has_no_pin pins p
    by (inl l) =
        lt-ltb p n l
        ∙ sym (ap (λ (o : Option ℕ). unwrap_or o 1 == 0) (ap (λ (xs : List ℕ). slice_get xs p) e ∙ get_replicate n p 0 l))
    by (inr l) =
        le-ltb p n l
        ∙ sym (no_pin_past pins p n (ap length e ∙ length-replicate {A = ℕ} n 0) l)

pub new_unpinned : (n pages : ℕ) (counts pins : List ℕ) (b : Buckets) (buckets words : ℕ) → counts ≡ replicate n 0 →
    pins ≡ replicate n 0 → Stands b buckets words (in_first n) → AreUnpinned b pages counts pins
new_unpinned n pages counts pins b buckets words e f h k p few = h.has_is k p ∙ by (cases_lt p n)
  where
    by : (p < n) ⊎ (n ≤ p) → in_first n k p ≡ is_unpinned_with counts pins k p
    by (inl l) =
        ap (λ (c : Bool). (k == 0) && c) (lt-ltb p n l)
        ∙ and-true (k == 0)
        ∙ turned k
        ∙ sym (ap (λ (o : Option ℕ). (unwrap_or o 1 == 0) && (unwrap_or (slice_get counts p) 0 == k))
        (ap (λ (xs : List ℕ). slice_get xs p) f ∙ get_replicate n p 0 l)
        ∙ ap (λ (o : Option ℕ). unwrap_or o 0 == k) (ap (λ (xs : List ℕ). slice_get xs p) e ∙ get_replicate n p 0 l))
    by (inr l) =
        and_right (k == 0) _ (le-ltb p n l)
        ∙ sym (ap (λ (c : Bool). c && (unwrap_or (slice_get counts p) 0 == k))
        (no_pin_past pins p n (ap length f ∙ length-replicate {A = ℕ} n 0) l))
