-- The plain search, block by block and die by die, and what it finds.
use Rattle.block_table.proofs.Common.{BlockState, Blocks, Bool, CanBeVictim, IsVictim, List, Lives, None, Option, Place}
use Rattle.block_table.proofs.Common.{Some, Spot, [], and_from, and_parts, ap, arith, below, cases_lt, cond, false}
use Rattle.block_table.proofs.Common.{false≢true, filter, flat_map, flat_map-append, gains, has_block, if◌then◌else◌}
use Rattle.block_table.proofs.Common.{inl, inr, is_live, is_pinned, le-leb, live_count, lt-ltb, ltb-true, map}
use Rattle.block_table.proofs.Common.{map-append, may_be_victim, nat_le, nat_lt, not, place_in, refl, spot, state_of}
use Rattle.block_table.proofs.Common.{subst, suc, sym, true, zero, ℕ, ◌&&◌, ◌++◌, ◌<◌, ◌∙◌, ◌∷◌, ◌≡◌, ◌≤◌, ◌⊎◌}
use Rattle.std.proofs.Common.{⊎_elim}
use Rattle.std.specs.Prelude.{find}
use Rattle.std.specs.Option.{option_or}
use Rattle.std.proofs.lemmas.List.{append-nil}
use Rattle.std.proofs.lemmas.List.Elements.{filter-append}
use Rattle.std.proofs.lemmas.List.Folds.{find-append}
use Rattle.ufs_spec.proofs.Facts.{lt-leb, ltb-false, not-true}
use Rattle.ufs_spec.proofs.Lists.{find_behind, find_here}
use Rattle.ufs_spec.specs.Translation.{least_of}
use Rattle.block_table.specs.Lives.{live_from, places_in, victim}
use Rattle.block_table.specs.Victims.{IsBefore, IsNoVictim}
use Rattle.block_table.specs.declared.BlockState.TheVariants as state
use Rattle.block_table.proofs.LiveCounts.{order}

-- A list after another

pub least_append : {A : Type 0} (count : A → ℕ) (o : Option A) (xs ys : List A) →
    least_of count o (xs ++ ys) ≡ least_of count (least_of count o xs) ys
least_append count o [] ys = refl
least_append count None (x ∷ xs) ys = least_append count (Some x) xs ys
least_append count (Some best) (x ∷ xs) ys =
    least_append count (Some (if nat_lt (count x) (count best) then x else best)) xs ys

-- one block more of a die
pub block_more : (count : Spot → ℕ) (may : Spot → Bool) (die n : ℕ) (o : Option Spot) →
    least_of count o (filter may (map (spot die) (below (suc n))))
    ≡ least_of count (least_of count o (filter may (map (spot die) (below n)))) (filter may (spot die n ∷ []))
block_more count may die n o =
    ap (λ xs. least_of count o (filter may xs)) (map-append (spot die) (below n) (n ∷ []))
    ∙ ap (least_of count o) (filter-append may (map (spot die) (below n)) (spot die n ∷ []))
    ∙ least_append count o (filter may (map (spot die) (below n))) (filter may (spot die n ∷ []))

-- one die more
pub die_more : (count : Spot → ℕ) (may : Spot → Bool) (f : ℕ → List Spot) (n : ℕ) (o : Option Spot) →
    least_of count o (filter may (flat_map f (below (suc n))))
    ≡ least_of count (least_of count o (filter may (flat_map f (below n)))) (filter may (f n))
die_more count may f n o =
    ap (λ xs. least_of count o (filter may xs))
    (flat_map-append f (below n) (n ∷ []) ∙ ap (λ xs. flat_map f (below n) ++ xs) (append-nil (f n)))
    ∙ ap (least_of count o) (filter-append may (flat_map f (below n)) (f n))
    ∙ least_append count o (filter may (flat_map f (below n))) (filter may (f n))

-- What is found

-- of those that are such it is the first of those with the least count
pub record IsBest (P : Spot → Type 0) (count : Spot → ℕ) (b : Spot) : Type 0 where
  pub is : P b
  pub least : (a : Spot) → P a → count b ≤ count a
  pub first : (a : Spot) → P a → count a ≡ count b → IsBefore a b → ⊥

abbrev pub Finds : (Spot → Type 0) → (Spot → ℕ) → Option Spot → Type 0
Finds P count None = (a : Spot) → P a → ⊥
Finds P count (Some b) = IsBest P count b

-- the blocks of this number and below of a die, and all of the dies below
abbrev pub IsSeen : ℕ → ℕ → ℕ → Spot → Type 0
IsSeen blocks die block s = (s.block < blocks) × ((s.die < die) ⊎ ((s.die ≡ die) × (s.block < block)))

never_before : (x : Spot) → IsBefore x x → ⊥
never_before x (inl l) = omega arith
never_before x (inr l) = let k = l.1 in omega arith

one_way : (x y : Spot) → IsBefore x y → IsBefore y x → ⊥
one_way x y (inl l) (inl k) = omega arith
one_way x y (inl l) (inr k) = let e = k.0 in omega arith
one_way x y (inr l) (inl k) = let e = l.0 in omega arith
one_way x y (inr l) (inr k) = let e = l.1 in let f = k.1 in omega arith

finds_same : {P Q : Spot → Type 0} (count : Spot → ℕ) (o : Option Spot) → ((a : Spot) → P a → Q a) →
    ((a : Spot) → Q a → P a) → Finds P count o → Finds Q count o
finds_same count None to from h = λ a q. h a (from a q)
finds_same count (Some b) to from h = record {
  is = to b h.is;
  least = λ a q. h.least a (from a q);
  first = λ a q. h.first a (from a q);
}

-- and one more, after all others
finds_one : {P Q : Spot → Type 0} (count : Spot → ℕ) (x : Spot) (o : Option Spot) → ((a : Spot) → P a → Q a) →
    ((a : Spot) → Q a → P a ⊎ (a ≡ x)) → Q x → ((a : Spot) → P a → IsBefore a x) → Finds P count o →
    Finds Q count (least_of count o (x ∷ []))
finds_one {P} {Q} count x None to from this after h = record {
  is = this;
  least = λ a q. ⊎_elim (λ p. absurd (h a p)) (λ (e : a ≡ x). let f : count a ≡ count x = ap count e in omega arith)
      (from a q);
  first = λ a q same before. ⊎_elim (λ p. h a p)
      (λ (e : a ≡ x). never_before x (subst (λ (z : Spot). IsBefore z x) e before)) (from a q);
}
finds_one {P} {Q} count x (Some b) to from this after h = by (nat_lt (count x) (count b)) refl
  where
    by : (c : Bool) → nat_lt (count x) (count b) ≡ c → IsBest Q count (if c then x else b)
    by true e =
        let l = ltb-true (count x) (count b) e in
        record {
          is = this;
          least = λ a q. ⊎_elim (λ p. let m = h.least a p in omega arith)
              (λ (e : a ≡ x). let f : count a ≡ count x = ap count e in omega arith) (from a q);
          first = λ a q same before. ⊎_elim (λ p. let m = h.least a p in omega arith)
              (λ (e : a ≡ x). never_before x (subst (λ (z : Spot). IsBefore z x) e before)) (from a q);
        }
    by false e =
        let l = ltb-false (count x) (count b) e in
        record {
          is = to b h.is;
          least = λ a q. ⊎_elim (λ p. h.least a p)
              (λ (e : a ≡ x). let f : count a ≡ count x = ap count e in omega arith) (from a q);
          first = λ a q same before. ⊎_elim (λ p. h.first a p same before)
              (λ (e : a ≡ x). one_way b x (after b h.is) (subst (λ (z : Spot). IsBefore z b) e before)) (from a q);
        }

abbrev pub IsPassed : (Spot → Bool) → ℕ → ℕ → ℕ → Spot → Type 0
IsPassed may blocks die block s = IsSeen blocks die block s × (may s ≡ true)

seen_more : (blocks die k : ℕ) (a : Spot) → IsSeen blocks die (suc k) a →
    IsSeen blocks die k a ⊎ ((a.die ≡ die) × (a.block ≡ k))
seen_more blocks die k a (l, inl m) = inl (l, inl m)
seen_more blocks die k a (l, inr m) = ⊎_elim (λ u. inl (l, inr (m.0, u))) (λ u. inr (m.0, u)) (last a.block k m.1)
  where
    last : (b k : ℕ) → b < suc k → (b < k) ⊎ (b ≡ k)
    last b k l = grind arith

seen_wider : (blocks die k : ℕ) (a : Spot) → IsSeen blocks die k a → IsSeen blocks die (suc k) a
seen_wider blocks die k a (l, inl m) = (l, inl m)
seen_wider blocks die k a (l, inr m) = (l, inr (m.0, let n = m.1 in omega arith))

seen_before : (blocks die k : ℕ) (a : Spot) → IsSeen blocks die k a → IsBefore a (spot die k)
seen_before blocks die k a (l, inl m) = inl m
seen_before blocks die k a (l, inr m) = inr m

spot_is : {a : Spot} {die k : ℕ} → a.die ≡ die → a.block ≡ k → a ≡ spot die k
spot_is e f = λ i. record { die = e i; block = f i }

finds_block : (count : Spot → ℕ) (may : Spot → Bool) (blocks die k : ℕ) (o : Option Spot) → k < blocks →
    Finds (IsPassed may blocks die k) count o →
    Finds (IsPassed may blocks die (suc k)) count (least_of count o (filter may (spot die k ∷ [])))
finds_block count may blocks die k o l h = by (may (spot die k)) refl
  where
    by : (b : Bool) → may (spot die k) ≡ b →
        Finds (IsPassed may blocks die (suc k)) count (least_of count o (cond b (spot die k ∷ []) []))
    by true e = finds_one count (spot die k) o
        (λ a p. (seen_wider blocks die k a p.0, p.1))
        (λ a q. ⊎_elim (λ u. inl (u, q.1)) (λ u. inr (spot_is u.0 u.1)) (seen_more blocks die k a q.0))
        ((l, inr (refl, omega arith)), e)
        (λ a p. seen_before blocks die k a p.0) h
    by false e = finds_same count o
        (λ a p. (seen_wider blocks die k a p.0, p.1))
        (λ a q. ⊎_elim (λ u. (u, q.1))
        (λ u. absurd (false≢true (sym e ∙ ap may (sym (spot_is {a = a} u.0 u.1)) ∙ q.1)))
        (seen_more blocks die k a q.0)) h

finds_blocks : (count : Spot → ℕ) (may : Spot → Bool) (blocks die k : ℕ) (o : Option Spot) → k ≤ blocks →
    Finds (IsPassed may blocks die 0) count o →
    Finds (IsPassed may blocks die k) count (least_of count o (filter may (map (spot die) (below k))))
finds_blocks count may blocks die zero o l h = h
finds_blocks count may blocks die (suc k) o l h =
    subst (λ r. Finds (IsPassed may blocks die (suc k)) count r) (sym (block_more count may die k o))
    (finds_block count may blocks die k (least_of count o (filter may (map (spot die) (below k)))) (omega arith)
    (finds_blocks count may blocks die k o (omega arith) h))

die_seen : (blocks die : ℕ) (a : Spot) → IsSeen blocks die blocks a → IsSeen blocks (suc die) 0 a
die_seen blocks die a (l, inl m) = (l, inl (omega arith))
die_seen blocks die a (l, inr m) = (l, inl (let e = m.0 in omega arith))

seen_die : (blocks die : ℕ) (a : Spot) → IsSeen blocks (suc die) 0 a → IsSeen blocks die blocks a
seen_die blocks die a (l, inl m) = (l, ⊎_elim (λ u. inl u) (λ u. inr (u, l)) (last a.die die m))
  where
    last : (b k : ℕ) → b < suc k → (b < k) ⊎ (b ≡ k)
    last b k l = grind arith
seen_die blocks die a (l, inr m) = let n = m.1 in absurd (omega arith)

finds_dies : (count : Spot → ℕ) (may : Spot → Bool) (blocks dies : ℕ) →
    Finds (IsPassed may blocks dies 0) count
    (least_of count None (filter may (flat_map (λ die. map (spot die) (below blocks)) (below dies))))
finds_dies count may blocks zero = λ a p. none p.0.1
  where
    none : {a : Spot} → (a.die < 0) ⊎ ((a.die ≡ 0) × (a.block < 0)) → ⊥
    none (inl l) = omega arith
    none (inr l) = let k = l.1 in omega arith
finds_dies count may blocks (suc dies) =
    subst (λ r. Finds (IsPassed may blocks (suc dies) 0) count r)
    (sym (die_more count may (λ die. map (spot die) (below blocks)) dies None))
    (finds_same count _ (λ a p. (die_seen blocks dies a p.0, p.1)) (λ a q. (seen_die blocks dies a q.0, q.1))
    (finds_blocks count may blocks dies blocks _ (omega arith) (finds_dies count may blocks dies)))

-- The victim

abbrev Gains : Lives → Blocks → (scarce : Bool) → Spot → Type 0
Gains l t scarce s =
    ((state_of t s.die s.block ≡ state.Closed) × (scarce ≡ true) × (live_count l s < l.sizes.pages))
    ⊎ ((state_of t s.die s.block ≡ state.Bad) × (scarce ≡ false) × (0 < live_count l s))

gain_told : (l : Lives) (t : Blocks) (scarce : Bool) (s : Spot) (x : BlockState) → state_of t s.die s.block ≡ x →
    gains l scarce s x ≡ true → Gains l t scarce s
gain_told l t scarce s state.Closed is h =
    let c = and_parts scarce (nat_lt (live_count l s) l.sizes.pages) h in
    inl (is, c.0, ltb-true (live_count l s) l.sizes.pages c.1)
gain_told l t scarce s state.Bad is h =
    let c = and_parts (not scarce) (nat_lt 0 (live_count l s)) h in
    inr (is, not-true scarce c.0, ltb-true 0 (live_count l s) c.1)
gain_told l t scarce s x is h = absurd (false≢true h)

gain_shown : (l : Lives) (t : Blocks) (scarce : Bool) (s : Spot) → Gains l t scarce s →
    gains l scarce s (state_of t s.die s.block) ≡ true
gain_shown l t scarce s (inl h) = ap (gains l scarce s) h.0 ∙ and_from scarce (nat_lt (live_count l s) l.sizes.pages)
    h.1 (lt-ltb (live_count l s) l.sizes.pages h.2)
gain_shown l t scarce s (inr h) = ap (gains l scarce s) h.0 ∙ and_from (not scarce) (nat_lt 0 (live_count l s))
    (ap not h.1) (lt-ltb 0 (live_count l s) h.2)

pub can_told : {l : Lives} {t : Blocks} {scarce : Bool} {s : Spot} → CanBeVictim l t scarce s →
    IsPassed (may_be_victim l t scarce) l.sizes.blocks l.sizes.dies 0 s
can_told {l} {t} {scarce} {s} c =
    let u : (nat_lt s.die l.sizes.dies ≡ true) × (nat_lt s.block l.sizes.blocks ≡ true) = and_parts _ _ c.inside in (
      (ltb-true s.block l.sizes.blocks u.1, inl (ltb-true s.die l.sizes.dies u.0)),
      and_from (not (is_pinned l s)) (gains l scarce s (state_of t s.die s.block))
          (ap not c.unpinned) (gain_shown l t scarce s c.gain),
    )

pub can_shown : {l : Lives} {t : Blocks} {scarce : Bool} {s : Spot} →
    IsPassed (may_be_victim l t scarce) l.sizes.blocks l.sizes.dies 0 s →
    CanBeVictim l t scarce s
can_shown {l} {t} {scarce} {s} p =
    let b = and_parts (not (is_pinned l s)) (gains l scarce s (state_of t s.die s.block)) p.1 in
    record {
      inside = inside p.0;
      unpinned = not-true (is_pinned l s) b.0;
      gain = gain_told l t scarce s (state_of t s.die s.block) refl b.1;
    }
  where
    inside : IsSeen l.sizes.blocks l.sizes.dies 0 s → has_block l.sizes s ≡ true
    inside (k, inl m) = and_from (nat_lt s.die l.sizes.dies) (nat_lt s.block l.sizes.blocks)
        (lt-ltb s.die l.sizes.dies m) (lt-ltb s.block l.sizes.blocks k)
    inside (k, inr m) = let n = m.1 in absurd (omega arith)

same_best : {P : Spot → Type 0} {count : Spot → ℕ} (a b : Spot) → IsBest P count a → IsBest P count b → a ≡ b
same_best {P} {count} a b h k = by (order a.die b.die) (order a.block b.block)
  where
    same : count a ≡ count b
    same = let l = h.least b k.is in let m = k.least a h.is in omega arith

    not_first : IsBefore a b → ⊥
    not_first w = k.first a h.is same w

    not_second : IsBefore b a → ⊥
    not_second w = h.first b k.is (sym same) w

    by : (a.die < b.die) ⊎ ((a.die ≡ b.die) ⊎ (b.die < a.die)) →
        (a.block < b.block) ⊎ ((a.block ≡ b.block) ⊎ (b.block < a.block)) → a ≡ b
    by (inl l) m = absurd (not_first (inl l))
    by (inr (inr l)) m = absurd (not_second (inl l))
    by (inr (inl e)) (inl m) = absurd (not_first (inr (e, m)))
    by (inr (inl e)) (inr (inr m)) = absurd (not_second (inr (sym e, m)))
    by (inr (inl e)) (inr (inl f)) = λ i. record { die = e i; block = f i }

-- the victim is what the plain search finds
pub victim_is : (l : Lives) (t : Blocks) (scarce : Bool) (s : Spot) → IsVictim l t scarce s → Some s ≡ victim l t scarce
victim_is l t scarce s h =
    by (victim l t scarce) (finds_dies (live_count l) (may_be_victim l t scarce) l.sizes.blocks l.sizes.dies)
  where
    by : (o : Option Spot) →
        Finds (IsPassed (may_be_victim l t scarce) l.sizes.blocks l.sizes.dies 0) (live_count l) o → Some s ≡ o
    by None none = absurd (none s (can_told h.can))
    by (Some b) best = ap (λ (x : Spot). Some x) (same_best s b (record {
      is = can_told h.can;
      least = λ a q. h.least a (can_shown q);
      first = λ a q. h.lowest a (can_shown q);
    }) best)

pub no_victim_is : (l : Lives) (t : Blocks) (scarce : Bool) → IsNoVictim l t scarce → None ≡ victim l t scarce
no_victim_is l t scarce h =
    by (victim l t scarce) (finds_dies (live_count l) (may_be_victim l t scarce) l.sizes.blocks l.sizes.dies)
  where
    by : (o : Option Spot) →
        Finds (IsPassed (may_be_victim l t scarce) l.sizes.blocks l.sizes.dies 0) (live_count l) o → None ≡ o
    by None none = refl
    by (Some b) best = absurd (h b (can_shown best.is))

-- The next live page

find_at : (p : Place → Bool) (g : ℕ → Place) (n : ℕ) →
    find p (map g (below (suc n))) ≡ option_or (find p (map g (below n))) (find p (g n ∷ []))
find_at p g n = ap (find p) (map-append g (below n) (n ∷ [])) ∙ find-append p (map g (below n)) (g n ∷ [])

find_none : (p : Place → Bool) (g : ℕ → Place) (n : ℕ) → ((j : ℕ) → j < n → p (g j) ≡ false) →
    find p (map g (below n)) ≡ None
find_none p g zero off = refl
find_none p g (suc n) off =
    find_at p g n
    ∙ ap (λ o. option_or o (find p (g n ∷ []))) (find_none p g n (λ j l. off j (omega arith)))
    ∙ find_behind p (g n) [] (off n (omega arith))

find_first : (p : Place → Bool) (g : ℕ → Place) (n k : ℕ) → k < n → p (g k) ≡ true →
    ((j : ℕ) → j < k → p (g j) ≡ false) → find p (map g (below n)) ≡ Some (g k)
find_first p g zero k l on off = absurd (omega arith)
find_first p g (suc n) k l on off = find_at p g n ∙ by (last k n l) (λ m. find_first p g n k m on off)
  where
    last : (k n : ℕ) → k < suc n → (k < n) ⊎ (k ≡ n)
    last k n l = grind arith

    by : (k < n) ⊎ (k ≡ n) → (k < n → find p (map g (below n)) ≡ Some (g k)) →
        option_or (find p (map g (below n))) (find p (g n ∷ [])) ≡ Some (g k)
    by (inl m) rest = ap (λ o. option_or o (find p (g n ∷ []))) (rest m)
    by (inr e) rest =
        ap (λ o. option_or o (find p (g n ∷ []))) (find_none p g n (λ j l. off j (omega arith)))
        ∙ find_here p (g n) [] (ap (λ i. p (g i)) (sym e) ∙ on)
        ∙ ap (λ i. Some (g i)) (sym e)

off_before : (l : Lives) (s : Spot) (from k : ℕ) →
    ((j : ℕ) → from ≤ j → j < k → is_live l (place_in s j) ≡ false) → (j : ℕ) → j < k →
    live_from l from (place_in s j) ≡ false
off_before l s from k off j m = by (cases_lt j from)
  where
    by : (j < from) ⊎ (from ≤ j) → live_from l from (place_in s j) ≡ false
    by (inl u) = ap (λ b. b && is_live l (place_in s j)) (lt-leb from j u)
    by (inr u) = ap (λ b. b && is_live l (place_in s j)) (le-leb from j u) ∙ off j u m

pub live_found : (l : Lives) (s : Spot) (from k : ℕ) → from ≤ k → k < l.sizes.pages → is_live l (place_in s k) ≡ true →
    ((j : ℕ) → from ≤ j → j < k → is_live l (place_in s j) ≡ false) →
    Some (place_in s k) ≡ find (live_from l from) (places_in l.sizes s)
live_found l s from k u m on off = sym (find_first (live_from l from) (place_in s) l.sizes.pages k m
    (and_from (nat_le from k) (is_live l (place_in s k)) (le-leb from k u) on) (off_before l s from k off))

pub live_none : (l : Lives) (s : Spot) (from k : ℕ) → l.sizes.pages ≤ k →
    ((j : ℕ) → from ≤ j → j < k → is_live l (place_in s j) ≡ false) →
    None ≡ find (live_from l from) (places_in l.sizes s)
live_none l s from k u off = sym (find_none (live_from l from) (place_in s) l.sizes.pages
    (λ j m. off_before l s from k off j (omega arith)))
