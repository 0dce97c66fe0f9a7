-- Each block has as many pins as readers keep pages of it and rests are still to be read from it, and goes on to have
-- as many while the pins of readers change. RestPins has what changes the rests.
use Rattle.ftl_core.proofs.Common.{ArePinsCounted, Bool, InSlot, List, Lives, Looked, Name, None, OnPage, Option}
use Rattle.ftl_core.proofs.Common.{Pending, Pin, Place, Sizes, Some, Spot, Stored, Unwritten, [], and_from, ap, arith}
use Rattle.ftl_core.proofs.Common.{cases_Bool, cond, false, false≢true, filter, filter-append, fold, has_block}
use Rattle.ftl_core.proofs.Common.{if◌then◌else◌, inl, inr, keeps_page, length, length-append, list_any, map, min}
use Rattle.ftl_core.proofs.Common.{most_pins, moved_pin, nat_lt, none_live, refl, same_name, slice_get, slice_set, suc}
use Rattle.ftl_core.proofs.Common.{sym, true, unwrap_or, with_live, with_stored, without_pins, zero, ℕ, ◌*◌, ◌++◌, ◌+◌}
use Rattle.ftl_core.proofs.Common.{◌<◌, ◌∙◌, ◌∷◌, ◌≡◌, ◌≢◌, ◌≤◌, ◌⊎◌}
use Rattle.std.proofs.Common.{not, ◌-◌, ◌||◌}
use Rattle.std.specs.Prelude.{◌^◌}
use Rattle.std.proofs.Math.Nat.{min-eq_left}
use Rattle.ufs_spec.proofs.Equalities.{spot_cases, spot_self}
use Rattle.ufs_spec.proofs.Facts.{lt-ltb}
use Rattle.ufs_spec.proofs.Lists.{get_replicate, set_other, set_there}
use Rattle.ufs_spec.specs.Disk.{same_spot, spot_of}
use Rattle.block_table.specs.Lives.{block_place, pins_of, with_pins}
use Rattle.block_table.proofs.LiveCounts.{one, one_spot, spot_inside}
use Rattle.ftl_core.specs.Moves.{keeps, reads_block}
use Rattle.readers.specs.Pins.{block_pinned, block_unpinned, is_slot_of, let_go, now_stored, pin_moves}
use Rattle.ftl_core.specs.PinCounts.{pins_on, rests_on}

-- Counts of blocks

-- each block of the dies has the pins that are counted for it
abbrev pub HasCounts : Lives → (Spot → ℕ) → Type 0
HasCounts l c = (s : Spot) → has_block l.sizes s ≡ true → slice_get l.pins (block_place l.sizes s) ≡ Some (c s)

pub counts_as : (l : Lives) (c d : Spot → ℕ) → ((s : Spot) → c s ≡ d s) → HasCounts l c → HasCounts l d
counts_as l c d same kept s there = kept s there ∙ ap (λ (n : ℕ). Some n) (same s)

-- the count that is read is that of the block
counted_pins : (l : Lives) (t : Spot) (c : Spot → ℕ) → HasCounts l c → has_block l.sizes t ≡ true → pins_of l t ≡ c t
counted_pins l t c kept there =
    ap (λ (b : Bool). if b then unwrap_or (slice_get l.pins (block_place l.sizes t)) 0 else 0) there
    ∙ ap (λ (o : Option ℕ). unwrap_or o 0) (kept t there)

-- another count of one block
counts_set : (l : Lives) (t : Spot) (n : ℕ) (c d : Spot → ℕ) → HasCounts l c →
    (has_block l.sizes t ≡ true → n ≡ d t) → ((s : Spot) → s ≢ t → c s ≡ d s) → HasCounts (with_pins l t n) d
counts_set l t n c d kept here others s there = by (cases_Bool (has_block l.sizes t)) (spot_cases s t)
  where
    after : Bool → Option ℕ
    after b = slice_get (if b then slice_set l.pins (block_place l.sizes t) n else l.pins) (block_place l.sizes s)

    by : (has_block l.sizes t ≡ true) ⊎ (has_block l.sizes t ≡ false) →
        ((same_spot s t ≡ true) × (s ≡ t)) ⊎ ((same_spot s t ≡ false) × (s ≢ t)) →
        after (has_block l.sizes t) ≡ Some (d s)
    by (inl h) (inl e) =
        ap after h
        ∙ ap (λ (r : Spot). slice_get (slice_set l.pins (block_place l.sizes t) n) (block_place l.sizes r)) e.1
        ∙ set_there l.pins (block_place l.sizes t) (c t) n (kept t h)
        ∙ ap (λ (m : ℕ). Some m) (here h ∙ ap d (sym e.1))
    by (inl h) (inr e) =
        ap after h
        ∙ set_other l.pins (block_place l.sizes t) (block_place l.sizes s) n
        (λ w. e.1 (one_spot l.sizes s t there h w))
        ∙ kept s there
        ∙ ap (λ (m : ℕ). Some m) (others s e.1)
    by (inr h) (inl e) = absurd (false≢true (sym h ∙ ap (has_block l.sizes) (sym e.1) ∙ there))
    by (inr h) (inr e) = ap after h ∙ kept s there ∙ ap (λ (m : ℕ). Some m) (others s e.1)

-- One pin

keeps_here : (name : Name) (p : Place) → keeps_page p.die p.block (OnPage name p) ≡ true
keeps_here name p = spot_self (spot_of p)

keeps_beside : (s : Spot) (name : Name) (p : Place) → s ≢ spot_of p → keeps_page s.die s.block (OnPage name p) ≡ false
keeps_beside s name p apart = by (spot_cases (spot_of p) s)
  where
    by : ((same_spot (spot_of p) s ≡ true) × (spot_of p ≡ s)) ⊎ ((same_spot (spot_of p) s ≡ false) × (spot_of p ≢ s)) →
        keeps_page s.die s.block (OnPage name p) ≡ false
    by (inl e) = absurd (apart (sym e.1))
    by (inr e) = e.0

-- what is looked at is a page of the block, or none is
abbrev pub on_block : Spot → Looked → ℕ
on_block s k = one (keeps_page s.die s.block k)

least : (n : ℕ) → n ≤ 8192 → min (n + 1) (2 ^ 32 - 1) ≡ n + 1
least n l = min-eq_left (omega (arith, l))

pub block_counted : (l : Lives) (k : Looked) (c d : Spot → ℕ) → HasCounts l c → ((s : Spot) → c s ≤ 8192) →
    ((s : Spot) → d s ≡ on_block s k + c s) → HasCounts (block_pinned l k) d
block_counted l (OnPage name p) c d kept few is =
    counts_set l t (min (pins_of l t + 1) (2 ^ 32 - 1)) c d kept
    (λ there.
    ap (λ (n : ℕ). min (n + 1) (2 ^ 32 - 1)) (counted_pins l t c kept there)
    ∙ least (c t) (few t)
    ∙ (let e : on_block t (OnPage name p) ≡ 1 = ap one (keeps_here name p) in let f = is t in omega (arith, e, f)))
    (λ s apart.
    let e : on_block s (OnPage name p) ≡ 0 = ap one (keeps_beside s name p apart) in
    let f = is s in omega (arith, e, f))
  where
    t : Spot
    t = spot_of p
block_counted l (InSlot name) c d kept few is = counts_as l c d (λ s. let f = is s in omega (arith, f)) kept
block_counted l Unwritten c d kept few is = counts_as l c d (λ s. let f = is s in omega (arith, f)) kept

pub block_uncounted : (l : Lives) (k : Looked) (c d : Spot → ℕ) → HasCounts l c →
    ((s : Spot) → c s ≡ on_block s k + d s) → HasCounts (block_unpinned l k) d
block_uncounted l (OnPage name p) c d kept is =
    counts_set l t (pins_of l t - 1) c d kept
    (λ there.
    ap (λ (n : ℕ). n - 1) (counted_pins l t c kept there)
    ∙ (let e : on_block t (OnPage name p) ≡ 1 = ap one (keeps_here name p) in let f = is t in omega (arith, e, f)))
    (λ s apart.
    let e : on_block s (OnPage name p) ≡ 0 = ap one (keeps_beside s name p apart) in
    let f = is s in omega (arith, e, f))
  where
    t : Spot
    t = spot_of p
block_uncounted l (InSlot name) c d kept is = counts_as l c d (λ s. let f = is s in omega (arith, f)) kept
block_uncounted l Unwritten c d kept is = counts_as l c d (λ s. let f = is s in omega (arith, f)) kept

-- Pins of a list

pub one_more : {A : Type 0} (p : A) (ps : List A) (b : Bool) → length (cond b (p ∷ ps) ps) ≡ one b + length ps
one_more p ps true = omega arith
one_more p ps false = omega arith

pub bit : (b : Bool) → one b ≤ 1
bit true = omega arith
bit false = omega arith

-- no more of a list pass than it has
pub passed_few : {A : Type 0} (test : A → Bool) (ps : List A) → length (filter test ps) ≤ length ps
passed_few test [] = omega arith
passed_few test (p ∷ ps) =
    let e = one_more p (filter test ps) (test p) in
    let f = passed_few test ps in let g = bit (test p) in omega (arith, e, f, g)

pins_next : (s : Spot) (p : Pin) (ps : List Pin) → pins_on s (p ∷ ps) ≡ on_block s p.looked + pins_on s ps
pins_next s p ps = one_more p (filter (keeps s.die s.block) ps) (keeps s.die s.block p)

pub pins_few : (s : Spot) (ps : List Pin) → pins_on s ps ≤ length ps
pins_few s ps = passed_few (keeps s.die s.block) ps

rests_few : (s : Spot) (pages : List Pending) → rests_on s pages ≤ length pages
rests_few s pages = passed_few (reads_block s.die s.block) pages

pins_behind : (s : Spot) (ps : List Pin) (p : Pin) → pins_on s (ps ++ p ∷ []) ≡ on_block s p.looked + pins_on s ps
pins_behind s ps p =
    let e : pins_on s (ps ++ p ∷ []) ≡ length (filter (keeps s.die s.block) ps ++ filter (keeps s.die s.block) (p ∷ []))
    = ap length (filter-append (keeps s.die s.block) ps (p ∷ [])) in
    let f = length-append (filter (keeps s.die s.block) ps) (filter (keeps s.die s.block) (p ∷ [])) in
    let g = pins_next s p [] in
    omega (arith, e, f, g)

-- a pin more
pub pinned_counted : (l : Lives) (ps : List Pin) (pages : List Pending) (p : Pin) → ArePinsCounted l ps pages →
    length ps ≤ most_pins → length pages ≤ 1024 → ArePinsCounted (block_pinned l p.looked) (ps ++ p ∷ []) pages
pinned_counted l ps pages p kept few few_pages =
    block_counted l p.looked (λ s. pins_on s ps + rests_on s pages)
    (λ s. pins_on s (ps ++ p ∷ []) + rests_on s pages) kept
    (λ s. let h = pins_few s ps in let r = rests_few s pages in omega (arith, h, few, r, few_pages))
    (λ s. let e = pins_behind s ps p in omega (arith, e))

-- the pins that pass go
gone : (goes : Pin → Bool) (ps : List Pin) (l : Lives) (c : Spot → ℕ) → HasCounts l (λ s. pins_on s ps + c s) →
    HasCounts (fold (let_go goes) l ps) (λ s. pins_on s (filter (λ p. not (goes p)) ps) + c s)
gone goes [] l c kept = kept
gone goes (p ∷ ps) l c kept = by (goes p) (λ m d h. gone goes ps m d h)
  where
    left : List Pin
    left = filter (λ q. not (goes q)) ps

    by : (b : Bool) → ((m : Lives) (d : Spot → ℕ) → HasCounts m (λ s. pins_on s ps + d s) →
        HasCounts (fold (let_go goes) m ps) (λ s. pins_on s (filter (λ q. not (goes q)) ps) + d s)) →
        HasCounts (fold (let_go goes) (if b then block_unpinned l p.looked else l) ps)
        (λ s. pins_on s (cond (not b) (p ∷ left) left) + c s)
    by true rest = rest (block_unpinned l p.looked) c
        (block_uncounted l p.looked (λ s. pins_on s (p ∷ ps) + c s) (λ s. pins_on s ps + c s) kept
        (λ s. let e = pins_next s p ps in omega (arith, e)))
    by false rest = counts_as (fold (let_go goes) l ps) (λ s. pins_on s left + (on_block s p.looked + c s))
        (λ s. pins_on s (p ∷ left) + c s)
        (λ s. let e = pins_next s p left in omega (arith, e))
        (rest l (λ s. on_block s p.looked + c s)
        (counts_as l (λ s. pins_on s (p ∷ ps) + c s) (λ s. pins_on s ps + (on_block s p.looked + c s))
        (λ s. let e = pins_next s p ps in omega (arith, e)) kept))

pub gone_counted : (goes : Pin → Bool) (ps : List Pin) (pages : List Pending) (l : Lives) →
    ArePinsCounted l ps pages → ArePinsCounted (fold (let_go goes) l ps) (filter (λ p. not (goes p)) ps) pages
gone_counted goes ps pages l kept = gone goes ps l (λ s. rests_on s pages) kept

-- the pins of a slot are those of a block
module _ (st : Stored) where
  moved_once : (l : Lives) (k : Looked) (c : Spot → ℕ) → ((s : Spot) → c s ≤ 8192) →
      HasCounts l (λ s. on_block s k + c s) →
      HasCounts (if is_slot_of st k then block_pinned l (OnPage st.name st.place) else l)
      (λ s. on_block s (now_stored st k) + c s)
  moved_once l (InSlot name) c few kept = by (same_name name st.name)
    where
      by : (b : Bool) → HasCounts (if b then block_pinned l (OnPage st.name st.place) else l)
          (λ s. on_block s (if b then OnPage st.name st.place else InSlot name) + c s)
      by true = block_counted l (OnPage st.name st.place) c (λ s. on_block s (OnPage st.name st.place) + c s)
          (counts_as l (λ s. on_block s (InSlot name) + c s) c (λ s. omega arith) kept) few (λ s. refl)
      by false = kept
  moved_once l (OnPage name p) c few kept = kept
  moved_once l Unwritten c few kept = kept

  moves : (ps : List Pin) (l : Lives) (c : Spot → ℕ) → ((s : Spot) → length ps + c s ≤ 8192) →
      HasCounts l (λ s. pins_on s ps + c s) →
      HasCounts (fold (pin_moves st) l ps) (λ s. pins_on s (map (moved_pin st) ps) + c s)
  moves [] l c few kept = kept
  moves (p ∷ ps) l c few kept =
      counts_as (fold (pin_moves st) (pin_moves st l p) ps)
      (λ s. pins_on s (map (moved_pin st) ps) + (on_block s (now_stored st p.looked) + c s))
      (λ s. pins_on s (map (moved_pin st) (p ∷ ps)) + c s)
      (λ s. let e = pins_next s (moved_pin st p) (map (moved_pin st) ps) in omega (arith, e))
      (moves ps (pin_moves st l p) (λ s. on_block s (now_stored st p.looked) + c s)
      (λ s.
      let h = few s in
      let g = bit (keeps_page s.die s.block (now_stored st p.looked)) in omega (arith, h, g))
      (counts_as (pin_moves st l p)
      (λ s. on_block s (now_stored st p.looked) + (pins_on s ps + c s))
      (λ s. pins_on s ps + (on_block s (now_stored st p.looked) + c s))
      (λ s. omega arith)
      (moved_once l p.looked (λ s. pins_on s ps + c s)
      (λ s. let h = few s in let g = pins_few s ps in omega (arith, h, g))
      (counts_as l (λ s. pins_on s (p ∷ ps) + c s) (λ s. on_block s p.looked + (pins_on s ps + c s))
      (λ s. let e = pins_next s p ps in omega (arith, e)) kept))))

  pub moved_counted : (ps : List Pin) (pages : List Pending) (l : Lives) → ArePinsCounted l ps pages →
      length ps ≤ most_pins → length pages ≤ 1024 → ArePinsCounted (fold (pin_moves st) l ps) (map (moved_pin st) ps) pages
  moved_counted ps pages l kept few few_pages =
      moves ps l (λ s. rests_on s pages)
      (λ s. let r = rests_few s pages in omega (arith, few, r, few_pages)) kept

-- pins that go on to look at the same
as_looked : (g : Pin → Pin) → ((p : Pin) → (g p).looked ≡ p.looked) → (s : Spot) (ps : List Pin) →
    pins_on s (map g ps) ≡ pins_on s ps
as_looked g same s [] = refl
as_looked g same s (p ∷ ps) =
    let e = pins_next s (g p) (map g ps) in
    let f = pins_next s p ps in
    let h = as_looked g same s ps in
    let k : on_block s (g p).looked ≡ on_block s p.looked = ap (on_block s) (same p) in
    omega (arith, e, f, h, k)

pub looked_counted : (g : Pin → Pin) → ((p : Pin) → (g p).looked ≡ p.looked) → (l : Lives) (ps : List Pin)
    (pages : List Pending) → ArePinsCounted l ps pages → ArePinsCounted l (map g ps) pages
looked_counted g same l ps pages kept =
    counts_as l (λ s. pins_on s ps + rests_on s pages) (λ s. pins_on s (map g ps) + rests_on s pages)
    (λ s. ap (λ (n : ℕ). n + rests_on s pages) (sym (as_looked g same s ps))) kept

-- A block with pins is one of which a page is kept, or from which a rest is still to be read

some_passes : {A : Type 0} (test : A → Bool) (ps : List A) → nat_lt 0 (length (filter test ps)) ≡ list_any test ps
some_passes test [] = refl
some_passes test (p ∷ ps) = by (test p) (some_passes test ps)
  where
    by : (b : Bool) → nat_lt 0 (length (filter test ps)) ≡ list_any test ps →
        nat_lt 0 (length (cond b (p ∷ filter test ps) (filter test ps))) ≡ (b || list_any test ps)
    by true rest = lt-ltb 0 (suc (length (filter test ps))) (omega arith)
    by false rest = rest

none_before : (n : ℕ) → 0 + n ≡ n
none_before n = omega arith

some_of_both : (a b : ℕ) → nat_lt 0 (a + b) ≡ (nat_lt 0 a || nat_lt 0 b)
some_of_both zero b = ap (nat_lt 0) (none_before b)
some_of_both (suc a) b =
    lt-ltb 0 (suc a + b) (omega arith)
    ∙ sym (ap (λ (x : Bool). x || nat_lt 0 b) (lt-ltb 0 (suc a) (omega arith)))

pub pinned_is : (l : Lives) (ps : List Pin) (pages : List Pending) (die block : ℕ) → ArePinsCounted l ps pages →
    die < l.sizes.dies → block < l.sizes.blocks →
    nat_lt 0 (pins_of l (record { die = die; block = block }))
    ≡ (list_any (keeps die block) ps || list_any (reads_block die block) pages)
pinned_is l ps pages die block kept in_dies in_blocks =
    ap (nat_lt 0) (counted_pins l at (λ s. pins_on s ps + rests_on s pages) kept
    (and_from _ _ (lt-ltb die l.sizes.dies in_dies) (lt-ltb block l.sizes.blocks in_blocks)))
    ∙ some_of_both (pins_on at ps) (rests_on at pages)
    ∙ (λ i. some_passes (keeps die block) ps i || some_passes (reads_block die block) pages i)
  where
    at : Spot
    at = record { die = die; block = block }

-- At first no block has a pin

pub stored_bare : (ps : List (Option Stored)) (l : Lives) → without_pins (fold with_stored l ps) ≡
    fold with_stored (without_pins l) ps
stored_bare [] l = refl
stored_bare (None ∷ ps) l = stored_bare ps l
stored_bare (Some s ∷ ps) l = stored_bare ps (with_live l s.place true)

pub stored_sizes : (ps : List (Option Stored)) (l : Lives) → (fold with_stored l ps).sizes ≡ l.sizes
stored_sizes [] l = refl
stored_sizes (None ∷ ps) l = stored_sizes ps l
stored_sizes (Some s ∷ ps) l = stored_sizes ps (with_live l s.place true)

pub stored_counted : (ps : List (Option Stored)) (l : Lives) (pins : List Pin) (pages : List Pending) →
    ArePinsCounted l pins pages → ArePinsCounted (fold with_stored l ps) pins pages
stored_counted [] l pins pages kept = kept
stored_counted (None ∷ ps) l pins pages kept = stored_counted ps l pins pages kept
stored_counted (Some s ∷ ps) l pins pages kept = stored_counted ps (with_live l s.place true) pins pages kept

pub none_counted : (n : Sizes) → ArePinsCounted (none_live n) [] []
none_counted n s there = get_replicate (n.dies * n.blocks) (block_place n s) 0 (spot_inside n s there)
