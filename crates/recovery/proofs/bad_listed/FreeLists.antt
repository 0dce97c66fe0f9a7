-- A list with an answer for each block: where each block stands in it, and the pages outside of the free blocks.
use Rattle.recovery.proofs.Common.{AreListed, AreWithin, Bool, Cells, FoundPage, GroupPage, List, Nothing, Numbers}
use Rattle.recovery.proofs.Common.{Place, Some, Spot, Tag, [], and_from, ap, arith, below, block_of, cond-true, false}
use Rattle.recovery.proofs.Common.{filter, flat_map, if◌then◌else◌, is_free_in, is_outside, length, length-map, lt-ltb}
use Rattle.recovery.proofs.Common.{none-some, not, option_map, outside, page_not_nothing, refl, same_Some, slice_get}
use Rattle.recovery.proofs.Common.{slice_get-get_or, slice_get-map, slice_get_within, slice_index_or, spot_number}
use Rattle.recovery.proofs.Common.{spot_of, spots, subst, suc, sym, true, true≢false, zero, ℕ, ⊎_elim, ◌*◌, ◌+◌, ◌<◌}
use Rattle.recovery.proofs.Common.{◌∙◌, ◌∷◌, ◌≡◌}
use Rattle.std.proofs.Common.{cond}
use Rattle.std.specs.Prelude.{nat_lt}
use Rattle.std.proofs.lemmas.List.{flat_map_more}
use Rattle.ufs_spec.proofs.Lists.{below_at, length-below}
use Rattle.ufs_laws.proofs.deciding.SearchOverPlaces.{is_place}
use Rattle.recovery.specs.Frees.{has_spot}
use Rattle.recovery.proofs.frees.Spots.{IsInside, row, rows_long}
use Rattle.recovery.proofs.tables.Joined.{in_either}
use Rattle.recovery.proofs.opened.OutsidePages.{outside_there}

-- ## Where a block stands

-- a block of a row
in_row : (columns die j : ℕ) (s : Spot) → slice_get (row columns die) j ≡ Some s →
    (s ≡ record { die = die; block = j }) × (j < columns)
in_row columns die j s h =
    let l = slice_get_within (row columns die) j s h in
    let long : length (row columns die) ≡ length (below columns) =
    length-map (below columns) (λ (block : ℕ). record { die = die; block = block }) in
    let all = length-below columns in
    let low : j < columns = omega arith in (
      same_Some s (record { die = die; block = j }) (sym h
          ∙ (slice_get-map (λ (block : ℕ). record { die = die; block = block }) (below columns) j
          ∙ ap (option_map (λ (block : ℕ). record { die = die; block = block })) (below_at columns j low))),
      low,
    )

rows_at : (columns dies i : ℕ) (s : Spot) → slice_get (flat_map (row columns) (below dies)) i ≡ Some s →
    (i ≡ s.die * columns + s.block) × (s.die < dies) × (s.block < columns)
rows_at columns zero i s h = absurd (none-some s h)
rows_at columns (suc dies) i s h = ⊎_elim
    (λ old.
    let r = rows_at columns dies i s old.1 in
    let l = r.1 in
    (r.0, omega arith, r.2))
    (λ new.
    let r = in_row columns dies new.0 s new.2 in
    let die = ap (λ (z : Spot). z.die) r.0 in
    let block = ap (λ (z : Spot). z.block) r.0 in
    let long = rows_long columns dies in
    let at = new.1 in
    let same : s.die * columns ≡ dies * columns = ap (λ (d : ℕ). d * columns) die in
    let low = r.1 in
    (omega arith, omega arith, omega arith))
    (in_either (flat_map (row columns) (below dies)) (row columns dies) i s
    (ap (λ (xs : List Spot). slice_get xs i) (flat_map_more (row columns) [] (below dies) dies) ∙ h))

-- each block has its number, and lies on the dies
pub spot_at : (n : Numbers) (i : ℕ) (s : Spot) → slice_get (spots n) i ≡ Some s →
    (i ≡ spot_number n.blocks s) × IsInside n s
spot_at n i s at = let r = rows_at n.blocks n.dies i s at in (r.0, record { die = r.1; block = r.2 })

-- in a list with an answer for each block this is the one of the block
pub free_at : (n : Numbers) (is_bad : Spot → Bool) (items : List Bool) (i : ℕ) (s : Spot) →
    length items ≡ length (spots n) → slice_get (spots n) i ≡ Some s →
    slice_get items i ≡ Some (is_free_in n is_bad items s)
free_at n is_bad items i s long at =
    let r = rows_at n.blocks n.dies i s at in
    let l = slice_get_within (spots n) i s at in
    let there : has_spot n s ≡ true =
    and_from (nat_lt s.die n.dies) (nat_lt s.block n.blocks) (lt-ltb s.die n.dies r.1) (lt-ltb s.block n.blocks r.2) in
    slice_get-get_or items i false (omega arith)
    ∙ ap Some (ap (λ (k : ℕ). slice_index_or items k false) r.0
    ∙ sym (cond-true (has_spot n s) (slice_index_or items (spot_number n.blocks s) false) (not (is_bad s)) there))

-- ## Pages outside of the free blocks

-- what is left of a list stood in it
there_step : {A : Type 0} (f : A → Bool) (x : A) (xs : List A) (i : ℕ) (a : A) →
    ((j : ℕ) → slice_get (filter f xs) j ≡ Some a → (k : ℕ) × (slice_get xs k ≡ Some a) × (f a ≡ true)) → (b : Bool) →
    f x ≡ b → slice_get (cond b (x ∷ filter f xs) (filter f xs)) i ≡ Some a →
    (k : ℕ) × (slice_get (x ∷ xs) k ≡ Some a) × (f a ≡ true)
there_step f x xs zero a rest true e h = (0, h, subst (λ y. f y ≡ true) (same_Some x a h) e)
there_step f x xs (suc i) a rest true e h = let r = rest i h in (suc r.0, r.1, r.2)
there_step f x xs i a rest false e h = let r = rest i h in (suc r.0, r.1, r.2)

left_there : {A : Type 0} (f : A → Bool) (xs : List A) (i : ℕ) (a : A) → slice_get (filter f xs) i ≡ Some a →
    (k : ℕ) × (slice_get xs k ≡ Some a) × (f a ≡ true)
left_there f [] i a h = absurd (none-some a h)
left_there f (x ∷ xs) i a h = there_step f x xs i a (λ j g. left_there f xs j a g) (f x) refl h

-- and in the same order
abbrev InOrder : {A : Type 0} → List A → A → A → Type 0
InOrder xs a b = (k : ℕ) × (l : ℕ) × (slice_get xs k ≡ Some a) × (slice_get xs l ≡ Some b) × (k < l)

order_later : {A : Type 0} (x : A) (xs : List A) (a b : A) → InOrder xs a b → InOrder (x ∷ xs) a b
order_later x xs a b (k, l, first, second, less) = (suc k, suc l, first, second, omega arith)

pair_step : {A : Type 0} (f : A → Bool) (x : A) (xs : List A) (i j : ℕ) (a b : A) →
    ((p q : ℕ) → slice_get (filter f xs) p ≡ Some a → slice_get (filter f xs) q ≡ Some b → p < q → InOrder xs a b) →
    (c : Bool) → f x ≡ c → slice_get (cond c (x ∷ filter f xs) (filter f xs)) i ≡ Some a →
    slice_get (cond c (x ∷ filter f xs) (filter f xs)) j ≡ Some b → i < j → InOrder (x ∷ xs) a b
pair_step f x xs i zero a b rest true e first second less = absurd (omega arith)
pair_step f x xs zero (suc j) a b rest true e first second less =
    let r = left_there f xs j b second in
    (0, suc r.0, first, r.1, omega arith)
pair_step f x xs (suc i) (suc j) a b rest true e first second less =
    order_later x xs a b (rest i j first second (omega arith))
pair_step f x xs i j a b rest false e first second less =
    order_later x xs a b (rest i j first second less)

left_pair : {A : Type 0} (f : A → Bool) (xs : List A) (i j : ℕ) (a b : A) → slice_get (filter f xs) i ≡ Some a →
    slice_get (filter f xs) j ≡ Some b → i < j → InOrder xs a b
left_pair f [] i j a b first second less = absurd (none-some a first)
left_pair f (x ∷ xs) i j a b first second less =
    pair_step f x xs i j a b (λ p q g h l. left_pair f xs p q a b g h l) (f x) refl first second less

-- and what passes is left
left_step : {A : Type 0} (f : A → Bool) (x : A) (xs : List A) (k : ℕ) (a : A) →
    ((j : ℕ) → slice_get xs j ≡ Some a → (i : ℕ) × (slice_get (filter f xs) i ≡ Some a)) → f a ≡ true → (b : Bool) →
    f x ≡ b → slice_get (x ∷ xs) k ≡ Some a →
    (i : ℕ) × (slice_get (cond b (x ∷ filter f xs) (filter f xs)) i ≡ Some a)
left_step f x xs zero a rest pass true e h = (0, h)
left_step f x xs zero a rest pass false e h =
    absurd (true≢false (sym (subst (λ y. f y ≡ true) (sym (same_Some x a h)) pass) ∙ e))
left_step f x xs (suc k) a rest pass true e h = let r = rest k h in (suc r.0, r.1)
left_step f x xs (suc k) a rest pass false e h = rest k h

there_left : {A : Type 0} (f : A → Bool) (xs : List A) (k : ℕ) (a : A) → slice_get xs k ≡ Some a → f a ≡ true →
    (i : ℕ) × (slice_get (filter f xs) i ≡ Some a)
there_left f [] k a h pass = absurd (none-some a h)
there_left f (x ∷ xs) k a h pass = left_step f x xs k a (λ j g. there_left f xs j a g pass) pass (f x) refl h

module _ (n : Numbers) (is_bad : Spot → Bool) (items : List Bool) (c : Cells) (within : AreWithin n c)
    (pages : List FoundPage) (listed : AreListed c pages) where
  abbrev free : Spot → Bool
  free = is_free_in n is_bad items

  -- of a page that is there the list says whether its block is free
  told : (p : Place) (t : Tag) (body : List ℕ) → c p ≡ GroupPage t body →
      free (spot_of p) ≡ slice_index_or items (p.die * n.blocks + p.block) false
  told p t body there = ⊎_elim
      (λ i. cond-true (has_spot n (spot_of p)) (slice_index_or items (p.die * n.blocks + p.block) false)
      (not (is_bad (spot_of p)))
      (and_from (nat_lt p.die n.dies) (nat_lt p.block n.blocks) (lt-ltb p.die n.dies i.die)
      (lt-ltb p.block n.blocks i.block)))
      (λ out. absurd (page_not_nothing (c p) t body there (within p out))) (is_place n p)

  not_false : (b : Bool) → not b ≡ true → b ≡ false
  not_false true e = absurd (true≢false (sym e))
  not_false false e = refl

  false_not : (b : Bool) → b ≡ false → not b ≡ true
  false_not b e = ap not e

  -- what is left lies outside of the free blocks
  left_outside : (e : FoundPage) (body : List ℕ) → c e.place ≡ GroupPage e.tag body →
      is_outside n.blocks items e ≡ true → outside free c e.place ≡ GroupPage e.tag body
  left_outside e body there pass =
      ap (λ (b : Bool). if b then Nothing else c e.place)
      (told e.place e.tag body there ∙ not_false (slice_index_or items (block_of n.blocks e) false) pass) ∙ there

  pub outside_listed : AreListed (outside free c) (filter (is_outside n.blocks items) pages)
  outside_listed = record {
    there = λ i e h.
        let r = left_there (is_outside n.blocks items) pages i e h in
        let k = listed.there r.0 e r.1 in
        (k.0, left_outside e k.0 k.1 r.2);
    tags = λ i e h. let r = left_there (is_outside n.blocks items) pages i e h in listed.tags r.0 e r.1;
    all = λ p t body h.
        let o = outside_there free c p (GroupPage t body) (page_not_nothing (GroupPage t body) t body refl) h in
        let k = listed.all p t body o.1 in
        there_left (is_outside n.blocks items) pages k.0 (record { place = p; tag = t }) k.1
        (false_not (slice_index_or items (p.die * n.blocks + p.block) false) (sym (told p t body o.1) ∙ o.0));
    rising = λ i j a b first second less.
        let r = left_pair (is_outside n.blocks items) pages i j a b first second less in
        listed.rising r.0 r.1 a b r.2 r.3 r.4;
  }
