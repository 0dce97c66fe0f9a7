-- Each page has its own place among all pages, and what is live after a page has changed.
use Rattle.block_table.proofs.Common.{AreCounted, Bool, List, Lives, Place, Sizes, Some, Spot, [], and_parts, and_right}
use Rattle.block_table.proofs.Common.{ap, arith, below, beq, block_place, cases_Bool, cases_lt, cond, false, filter}
use Rattle.block_table.proofs.Common.{get_or, get_replicate, has_block, inl, inr, is_live, length, length-replicate}
use Rattle.block_table.proofs.Common.{live_count, ltb-true, map, map-append, mul-add-lt, mul_comm, nat_lt, not}
use Rattle.block_table.proofs.Common.{place_in, refl, replicate, set_other, set_there, slice_get, slice_get_past}
use Rattle.block_table.proofs.Common.{slice_set, spot_of, subst, suc, sym, true, unwrap_or, zero, ℕ, ◌&&◌, ◌*◌, ◌+◌}
use Rattle.block_table.proofs.Common.{◌-◌, ◌<◌, ◌∙◌, ◌∷◌, ◌≡◌, ◌≤◌, ◌⊎◌}
use Rattle.std.proofs.Common.{length-append, ◌≢◌}
use Rattle.std.proofs.Math.Nat.{mul-le-mul_left}
use Rattle.std.proofs.lemmas.List.Elements.{filter-append}
use Rattle.std.proofs.lemmas.Option.{get_or_from_slice_get, slice_get-get_or, slice_get_within}
use Rattle.ufs_spec.proofs.Lists.{set_here}
use Rattle.block_table.specs.Lives.{has_page, page_place}

-- Places

pub order : (a b : ℕ) → (a < b) ⊎ ((a ≡ b) ⊎ (b < a))
order a b = grind arith

-- a column of a row has its own place
pub one_place : (n a b c d : ℕ) → b < n → d < n → a * n + b ≡ c * n + d → (a ≡ c) × (b ≡ d)
one_place n a b c d l m e = by (order a c)
  where
    by : (a < c) ⊎ ((a ≡ c) ⊎ (c < a)) → (a ≡ c) × (b ≡ d)
    by (inl k) = let h : n * (a + 1) ≤ n * c = mul-le-mul_left n (omega arith) in absurd (omega (arith, h))
    by (inr (inl k)) = (k, let h : a * n ≡ c * n = ap (λ (x : ℕ). x * n) k in omega (arith, h))
    by (inr (inr k)) = let h : n * (c + 1) ≤ n * a = mul-le-mul_left n (omega arith) in absurd (omega (arith, h))

pub one_spot : (n : Sizes) (s t : Spot) → has_block n s ≡ true → has_block n t ≡ true →
    block_place n s ≡ block_place n t → s ≡ t
one_spot n s t h k e =
    let u = and_parts _ _ h in
    let v = and_parts _ _ k in
    let r = one_place n.blocks s.die s.block t.die t.block (ltb-true s.block n.blocks u.1)
    (ltb-true t.block n.blocks v.1) e in
    λ i. record { die = r.0 i; block = r.1 i }

pub one_page : (n : Sizes) (p q : Place) → has_page n p ≡ true → has_page n q ≡ true →
    page_place n p ≡ page_place n q → p ≡ q
one_page n p q h k e =
    let u = and_parts _ _ h in
    let v = and_parts _ _ k in
    let r = one_place n.pages (block_place n (spot_of p)) p.page (block_place n (spot_of q)) q.page
    (ltb-true p.page n.pages u.1) (ltb-true q.page n.pages v.1) e in
    let s = one_spot n (spot_of p) (spot_of q) u.0 v.0 r.0 in
    λ i. record { die = (s i).die; block = (s i).block; page = r.1 i }

pub spot_inside : (n : Sizes) (s : Spot) → has_block n s ≡ true → block_place n s < n.dies * n.blocks
spot_inside n s h =
    let u : (nat_lt s.die n.dies ≡ true) × (nat_lt s.block n.blocks ≡ true) = and_parts _ _ h in
    let r = mul-add-lt s.die n.blocks s.block n.dies (ltb-true s.die n.dies u.0) (ltb-true s.block n.blocks u.1) in
    omega (arith, mul_comm n.blocks n.dies)

-- How many of the first n pass

abbrev pub one : Bool → ℕ
one true = 1
one false = 0

abbrev pub count : ℕ → (ℕ → Bool) → ℕ
count zero f = 0
count (suc n) f = count n f + one (f n)

one_kept : (f : Place → Bool) (p : Place) → length (filter f (p ∷ [])) ≡ one (f p)
one_kept f p = by (f p)
  where
    by : (b : Bool) → length (cond b (p ∷ []) []) ≡ one b
    by true = refl
    by false = refl

pub count_is : (f : Place → Bool) (g : ℕ → Place) (n : ℕ) → length (filter f (map g (below n))) ≡ count n (λ k. f (g k))
count_is f g zero = refl
count_is f g (suc n) =
    ap (λ zs. length (filter f zs)) (map-append g (below n) (n ∷ []))
    ∙ ap length (filter-append f (map g (below n)) (g n ∷ []))
    ∙ length-append (filter f (map g (below n))) (filter f (g n ∷ []))
    ∙ (λ i. count_is f g n i + one_kept f (g n) i)

pub count_same : (n : ℕ) (f g : ℕ → Bool) → ((k : ℕ) → k < n → f k ≡ g k) → count n f ≡ count n g
count_same zero f g same = refl
count_same (suc n) f g same =
    λ i. count_same n f g (λ k l. same k (omega arith)) i + one (same n (omega arith) i)

last : (k n : ℕ) → k < suc n → (k ≡ n) ⊎ (k < n)
last k n l = grind arith

pub count_more : (n : ℕ) (f g : ℕ → Bool) (k : ℕ) → k < n → f k ≡ false → g k ≡ true →
    ((j : ℕ) → j < n → j ≢ k → f j ≡ g j) → count n g ≡ count n f + 1
count_more zero f g k l off on same = absurd (omega arith)
count_more (suc n) f g k l off on same =
    by (last k n l) (λ m. count_more n f g k m off on (λ j a b. same j (omega arith) b))
  where
    by : (k ≡ n) ⊎ (k < n) → (k < n → count n g ≡ count n f + 1) →
        count n g + one (g n) ≡ (count n f + one (f n)) + 1
    by (inl e) rest =
        let u : count n f ≡ count n g = count_same n f g (λ j m. same j (omega arith) (λ w. omega arith)) in
        let v : one (g n) ≡ 1 = ap one (ap g (sym e) ∙ on) in
        let w : one (f n) ≡ 0 = ap one (ap f (sym e) ∙ off) in
        omega arith
    by (inr m) rest =
        let u = rest m in
        let v : one (f n) ≡ one (g n) = ap one (same n (omega arith) (λ w. omega arith)) in
        omega arith

count_bit : (b : Bool) → one b ≤ 1
count_bit true = omega arith
count_bit false = omega arith

pub count_within : (n : ℕ) (f : ℕ → Bool) → count n f ≤ n
count_within zero f = omega arith
count_within (suc n) f = let u = count_within n f in let v = count_bit (f n) in omega arith

pub count_room : (n : ℕ) (f : ℕ → Bool) (k : ℕ) → k < n → f k ≡ false → count n f < n
count_room zero f k l off = absurd (omega arith)
count_room (suc n) f k l off = by (last k n l) (λ m. count_room n f k m off)
  where
    by : (k ≡ n) ⊎ (k < n) → (k < n → count n f < n) → count n f + one (f n) < suc n
    by (inl e) rest =
        let u = count_within n f in
        let v : one (f n) ≡ 0 = ap one (ap f (sym e) ∙ off) in
        omega arith
    by (inr m) rest = let u = rest m in let v = count_bit (f n) in omega arith

pub count_some : (n : ℕ) (f : ℕ → Bool) (k : ℕ) → k < n → f k ≡ true → 0 < count n f
count_some zero f k l on = absurd (omega arith)
count_some (suc n) f k l on = by (last k n l) (λ m. count_some n f k m on)
  where
    by : (k ≡ n) ⊎ (k < n) → (k < n → 0 < count n f) → 0 < count n f + one (f n)
    by (inl e) rest = let v : one (f n) ≡ 1 = ap one (ap f (sym e) ∙ on) in omega arith
    by (inr m) rest = let u = rest m in omega arith

pub count_zero : (n : ℕ) (f : ℕ → Bool) → ((k : ℕ) → f k ≡ false) → count n f ≡ 0
count_zero zero f off = refl
count_zero (suc n) f off = λ i. count_zero n f off i + one (off n i)

-- Live pages after a change

pub live_count_is : (l : Lives) (s : Spot) → live_count l s ≡ count l.sizes.pages (λ k. is_live l (place_in s k))
live_count_is l s = count_is (is_live l) (place_in s) l.sizes.pages

pub counts_room : (l : Lives) (p : Place) → has_page l.sizes p ≡ true → is_live l p ≡ false →
    live_count l (spot_of p) < l.sizes.pages
counts_room l p h off =
    let u : (has_block l.sizes (spot_of p) ≡ true) × (nat_lt p.page l.sizes.pages ≡ true) = and_parts _ _ h in
    let e = live_count_is l (spot_of p) in
    let r = count_room l.sizes.pages (λ k. is_live l (place_in (spot_of p) k)) p.page
    (ltb-true p.page l.sizes.pages u.1) off in
    omega arith

pub counts_some : (l : Lives) (p : Place) → has_page l.sizes p ≡ true → is_live l p ≡ true →
    0 < live_count l (spot_of p)
counts_some l p h on =
    let u : (has_block l.sizes (spot_of p) ≡ true) × (nat_lt p.page l.sizes.pages ≡ true) = and_parts _ _ h in
    let e = live_count_is l (spot_of p) in
    let r = count_some l.sizes.pages (λ k. is_live l (place_in (spot_of p) k)) p.page
    (ltb-true p.page l.sizes.pages u.1) on in
    omega arith

-- a block that is not there has no live page
pub counts_none : (l : Lives) (s : Spot) → has_block l.sizes s ≡ false → live_count l s ≡ 0
counts_none l s off = live_count_is l s ∙ count_zero l.sizes.pages (λ k. is_live l (place_in s k)) (λ k.
    ap (λ b. (b && nat_lt k l.sizes.pages)
    && unwrap_or (slice_get l.live (page_place l.sizes (place_in s k))) false) off)

pub replicate_off : (n k : ℕ) → unwrap_or (slice_get (replicate n false) k) false ≡ false
replicate_off n k = by (cases_lt k n)
  where
    by : (k < n) ⊎ (n ≤ k) → unwrap_or (slice_get (replicate n false) k) false ≡ false
    by (inl l) = ap (λ o. unwrap_or o false) (get_replicate n k false l)
    by (inr l) =
        ap (λ o. unwrap_or o false) (slice_get_past (replicate n false) k (omega (arith, length-replicate n false)))

-- and at first none has
pub counts_new : (n : Sizes) (pages blocks : ℕ) (s : Spot) →
    live_count (record { sizes = n; live = replicate pages false; pins = replicate blocks 0 }) s ≡ 0
counts_new n pages blocks s = live_count_is l s ∙ count_zero n.pages (λ k. is_live l (place_in s k)) (λ k. none k)
  where
    l : Lives
    l = record { sizes = n; live = replicate pages false; pins = replicate blocks 0 }

    none : (k : ℕ) → is_live l (place_in s k) ≡ false
    none k = and_right (has_page n (place_in s k)) _ (replicate_off pages (page_place n (place_in s k)))

-- the lives with the page noted
abbrev pub noted : Lives → Place → Bool → Lives
noted l p b = record l { live = slice_set l.live (page_place l.sizes p) b }

pub noted_here : (l : Lives) (p : Place) (b : Bool) → has_page l.sizes p ≡ true →
    page_place l.sizes p < length l.live → is_live (noted l p b) p ≡ b
noted_here l p b h k =
    ap (λ c. c && unwrap_or (slice_get (slice_set l.live (page_place l.sizes p) b) (page_place l.sizes p)) false) h
    ∙ ap (λ o. unwrap_or o false) (set_here l.live (page_place l.sizes p) b k)

pub noted_beside : (l : Lives) (p q : Place) (b : Bool) → has_page l.sizes p ≡ true → q ≢ p →
    is_live (noted l p b) q ≡ is_live l q
noted_beside l p q b h apart = by (cases_Bool (has_page l.sizes q))
  where
    by : (has_page l.sizes q ≡ true) ⊎ (has_page l.sizes q ≡ false) → is_live (noted l p b) q ≡ is_live l q
    by (inl k) = ap (λ o. has_page l.sizes q && unwrap_or o false)
        (set_other l.live (page_place l.sizes p) (page_place l.sizes q) b
        (λ e. apart (one_page l.sizes q p k h e)))
    by (inr k) = ap (λ c. c
        && unwrap_or (slice_get (slice_set l.live (page_place l.sizes p) b) (page_place l.sizes q)) false) k
        ∙ sym (ap (λ c. c && unwrap_or (slice_get l.live (page_place l.sizes q)) false) k)

-- the count of its block is one more, or was
pub noted_more : (l : Lives) (p : Place) → has_page l.sizes p ≡ true → page_place l.sizes p < length l.live →
    is_live l p ≡ false → live_count (noted l p true) (spot_of p) ≡ live_count l (spot_of p) + 1
noted_more l p h k off =
    let u : (has_block l.sizes (spot_of p) ≡ true) × (nat_lt p.page l.sizes.pages ≡ true) = and_parts _ _ h in
    let e = live_count_is l (spot_of p) in
    let f = live_count_is (noted l p true) (spot_of p) in
    let g = count_more l.sizes.pages (λ j. is_live l (place_in (spot_of p) j))
    (λ j. is_live (noted l p true) (place_in (spot_of p) j)) p.page (ltb-true p.page l.sizes.pages u.1) off
    (noted_here l p true h k)
    (λ j m apart. sym (noted_beside l p (place_in (spot_of p) j) true h
    (λ w. apart (ap (λ (q : Place). q.page) w)))) in
    omega arith

pub noted_less : (l : Lives) (p : Place) → has_page l.sizes p ≡ true → page_place l.sizes p < length l.live →
    is_live l p ≡ true → live_count l (spot_of p) ≡ live_count (noted l p false) (spot_of p) + 1
noted_less l p h k on =
    let u : (has_block l.sizes (spot_of p) ≡ true) × (nat_lt p.page l.sizes.pages ≡ true) = and_parts _ _ h in
    let e = live_count_is l (spot_of p) in
    let f = live_count_is (noted l p false) (spot_of p) in
    let g = count_more l.sizes.pages (λ j. is_live (noted l p false) (place_in (spot_of p) j))
    (λ j. is_live l (place_in (spot_of p) j)) p.page (ltb-true p.page l.sizes.pages u.1)
    (noted_here l p false h k) on
    (λ j m apart. noted_beside l p (place_in (spot_of p) j) false h
    (λ w. apart (ap (λ (q : Place). q.page) w))) in
    omega arith

pub noted_other : (l : Lives) (p : Place) (s : Spot) (b : Bool) → has_page l.sizes p ≡ true → s ≢ spot_of p →
    live_count (noted l p b) s ≡ live_count l s
noted_other l p s b h apart =
    live_count_is (noted l p b) s
    ∙ count_same l.sizes.pages (λ j. is_live (noted l p b) (place_in s j)) (λ j. is_live l (place_in s j))
    (λ j m. noted_beside l p (place_in s j) b h (λ w. apart (ap spot_of w)))
    ∙ sym (live_count_is l s)

spot_cases : (n : Sizes) (s t : Spot) → has_block n s ≡ true → has_block n t ≡ true →
    (s ≡ t) ⊎ (block_place n s ≢ block_place n t)
spot_cases n s t h k = by (order (block_place n s) (block_place n t))
  where
    by : (block_place n s < block_place n t)
        ⊎ ((block_place n s ≡ block_place n t) ⊎ (block_place n t < block_place n s)) →
        (s ≡ t) ⊎ (block_place n s ≢ block_place n t)
    by (inl e) = inr (λ w. omega arith)
    by (inr (inl e)) = inl (one_spot n s t h k e)
    by (inr (inr e)) = inr (λ w. omega arith)

-- so each block's count is right again
pub counted_noted : (l : Lives) (p : Place) (b : Bool) (counts : List ℕ) (c : ℕ) → AreCounted l counts →
    has_page l.sizes p ≡ true → live_count (noted l p b) (spot_of p) ≡ c →
    AreCounted (noted l p b) (slice_set counts (block_place l.sizes (spot_of p)) c)
counted_noted l p b counts c kept h is s inside =
    by (and_parts _ _ h).0 (spot_cases l.sizes s (spot_of p) inside (and_parts _ _ h).0)
  where
    by : has_block l.sizes (spot_of p) ≡ true →
        (s ≡ spot_of p) ⊎ (block_place l.sizes s ≢ block_place l.sizes (spot_of p)) →
        slice_get (slice_set counts (block_place l.sizes (spot_of p)) c) (block_place l.sizes s)
        ≡ Some (live_count (noted l p b) s)
    by there (inl e) =
        subst (λ (t : Spot). slice_get (slice_set counts (block_place l.sizes (spot_of p)) c) (block_place l.sizes t)
        ≡ Some (live_count (noted l p b) t)) (sym e)
        (set_there counts (block_place l.sizes (spot_of p)) (live_count l (spot_of p)) c (kept (spot_of p) there)
        ∙ ap (λ (x : ℕ). Some x) (sym is))
    by there (inr apart) =
        set_other counts (block_place l.sizes (spot_of p)) (block_place l.sizes s) c apart
        ∙ kept s inside
        ∙ ap (λ (x : ℕ). Some x) (sym (noted_other l p s b h (λ e. apart (ap (block_place l.sizes) e))))

pub new_counted : (n : Sizes) (live : List Bool) (counts pins : List ℕ) →
    live ≡ replicate (n.dies * n.blocks * n.pages) false → counts ≡ replicate (n.dies * n.blocks) 0 →
    pins ≡ replicate (n.dies * n.blocks) 0 → AreCounted (record { sizes = n; live = live; pins = pins }) counts
new_counted n live counts pins e f g s there =
    ap (λ (xs : List ℕ). slice_get xs (block_place n s)) f
    ∙ get_replicate (n.dies * n.blocks) (block_place n s) 0 (spot_inside n s there)
    ∙ ap (λ (x : ℕ). Some x) (sym (counts_new n (n.dies * n.blocks * n.pages) (n.dies * n.blocks) s))
    ∙ sym (λ i. Some (live_count (record { sizes = n; live = e i; pins = g i }) s))

-- A page that is noted

-- the page at this place is there, and was not so
pub record IsChange (l : Lives) (p : Place) (b : Bool) (index : ℕ) : Type 0 where
  pub there : has_page l.sizes p ≡ true
  pub index_is : index ≡ page_place l.sizes p
  pub within : index < length l.live
  pub was : is_live l p ≡ not b

pub is_change : (l now : Lives) (p : Place) (b : Bool) (index : ℕ) (x : Bool) → l ≡ now →
    has_page now.sizes p ≡ true → index ≡ page_place now.sizes p → index < length l.live → x ≡ get_or l.live index x →
    beq x b ≡ false → IsChange l p b index
is_change l now p b index x same there index_is within read apart = record {
  there = ap (λ (m : Lives). has_page m.sizes p) same ∙ there;
  index_is = index_is ∙ sym (ap (λ (m : Lives). page_place m.sizes p) same);
  within = within;
  was =
      ap (λ c. c && unwrap_or (slice_get l.live (page_place l.sizes p)) false)
      (ap (λ (m : Lives). has_page m.sizes p) same ∙ there)
      ∙ ap (λ (k : ℕ). unwrap_or (slice_get l.live k) false)
      (ap (λ (m : Lives). page_place m.sizes p) same ∙ sym index_is)
      ∙ ap (λ o. unwrap_or o false) (slice_get-get_or l.live index x within)
      ∙ sym read
      ∙ other x b apart;
}
  where
    other : (x b : Bool) → beq x b ≡ false → x ≡ not b
    other true true h = h
    other true false h = refl
    other false true h = refl
    other false false h = sym h

pub change_inside : {l : Lives} {p : Place} {b : Bool} {index : ℕ} (counts : List ℕ) (block : ℕ) →
    IsChange l p b index → AreCounted l counts → block ≡ block_place l.sizes (spot_of p) → block < length counts
change_inside {l} {p} counts block c kept e = subst (λ (k : ℕ). k < length counts) (sym e)
    (slice_get_within counts (block_place l.sizes (spot_of p)) (live_count l (spot_of p))
    (kept (spot_of p) (and_parts _ _ c.there).0))

pub change_room : {l : Lives} {p : Place} {index : ℕ} (count : ℕ) → IsChange l p true index →
    count ≡ live_count l (spot_of p) → count < l.sizes.pages
change_room {l} {p} count c e = let h = counts_room l p c.there c.was in omega arith

pub change_some : {l : Lives} {p : Place} {index : ℕ} (count : ℕ) → IsChange l p false index →
    count ≡ live_count l (spot_of p) → 0 < count
change_some {l} {p} count c e = let h = counts_some l p c.there c.was in omega arith

-- the block's count after the change
abbrev pub count_after : Bool → ℕ → ℕ
count_after true c = c + 1
count_after false c = c - 1

pub change_within : {l : Lives} {p : Place} (b : Bool) {index : ℕ} (count : ℕ) → IsChange l p b index →
    count ≡ live_count l (spot_of p) → count_after b count ≤ l.sizes.pages
change_within {l} {p} true count c e = let h = change_room count c e in omega arith
change_within {l} {p} false count c e =
    let h = count_within l.sizes.pages (λ k. is_live l (place_in (spot_of p) k)) in
    let f = live_count_is l (spot_of p) in
    omega arith

noted_count : {l : Lives} {p : Place} (b : Bool) {index : ℕ} → IsChange l p b index →
    live_count (noted l p b) (spot_of p) ≡ count_after b (live_count l (spot_of p))
noted_count {l} {p} true c = noted_more l p c.there (subst (λ k. k < length l.live) c.index_is c.within) c.was
noted_count {l} {p} false c =
    let h = noted_less l p c.there (subst (λ k. k < length l.live) c.index_is c.within) c.was in omega arith

pub change_counted : {l : Lives} {p : Place} {b : Bool} {index : ℕ} (counts : List ℕ) (block count : ℕ) →
    IsChange l p b index → AreCounted l counts → block ≡ block_place l.sizes (spot_of p) →
    count ≡ count_after b (live_count l (spot_of p)) →
    AreCounted (record l { live = slice_set l.live index b }) (slice_set counts block count)
change_counted {l} {p} {b} {index} counts block count c kept e f =
    subst (λ (i : ℕ). AreCounted (record l { live = slice_set l.live i b }) (slice_set counts block count))
    (sym c.index_is)
    (subst (λ (k : ℕ). AreCounted (noted l p b) (slice_set counts k count)) (sym e)
    (counted_noted l p b counts count kept c.there (noted_count b c ∙ sym f)))

-- A count that is read

pub count_there : (l now : Lives) (counts : List ℕ) (s : Spot) (place : ℕ) → l ≡ now → AreCounted l counts →
    has_block now.sizes s ≡ true → place ≡ block_place now.sizes s → slice_get counts place ≡ Some (live_count now s)
count_there l now counts s place same kept there e =
    ap (λ (k : ℕ). slice_get counts k) e
    ∙ ap (λ (m : Lives). slice_get counts (block_place m.sizes s)) (sym same)
    ∙ kept s (ap (λ (m : Lives). has_block m.sizes s) same ∙ there)
    ∙ ap (λ (m : Lives). Some (live_count m s)) same

pub count_inside : (l now : Lives) (counts : List ℕ) (s : Spot) (place : ℕ) → l ≡ now → AreCounted l counts →
    has_block now.sizes s ≡ true → place ≡ block_place now.sizes s → place < length counts
count_inside l now counts s place same kept there e =
    slice_get_within counts place (live_count now s) (count_there l now counts s place same kept there e)

pub count_read : (l now : Lives) (counts : List ℕ) (s : Spot) (place x : ℕ) → l ≡ now → AreCounted l counts →
    has_block now.sizes s ≡ true → place ≡ block_place now.sizes s → x ≡ get_or counts place x → x ≡ live_count now s
count_read l now counts s place x same kept there e read =
    read
    ∙ get_or_from_slice_get counts place (live_count now s) x (count_there l now counts s place same kept there e)

pub seen_now : {l : Lives} (now : Lives) (s : Spot) {count : ℕ} → l ≡ now → count ≡ live_count now s →
    count ≡ live_count l s
seen_now now s same e = e ∙ sym (ap (λ (m : Lives). live_count m s) same)

pub place_now : {l : Lives} (now : Lives) (s : Spot) {place : ℕ} → l ≡ now → place ≡ block_place now.sizes s →
    place ≡ block_place l.sizes s
place_now now s same e = e ∙ sym (ap (λ (m : Lives). block_place m.sizes s) same)
