-- One page more of a block, and one copy less.
use Rattle.std.proofs.Common.{Bool, List, None, Option, Some, [], ap, arith, cond, false, length, refl, suc, sym, true}
use Rattle.std.proofs.Common.{zero, ℕ, ◌++◌, ◌+◌, ◌∙◌, ◌∷◌, ◌≡◌, ◌≤◌}
use Rattle.std.specs.Prelude.{drop, filter, map, option_map}
use Rattle.std.proofs.Math.Numerals.{add-one}
use Rattle.std.proofs.lemmas.List.{append-nil, length-map, map-append}
use Rattle.std.proofs.lemmas.List.Elements.{filter-append}
use Rattle.ufs_spec.proofs.Lists.{length-below}
use Rattle.ufs_spec.specs.Disk.{Spot, place_in}
use Rattle.ufs_spec.specs.Keys.{below}
use Rattle.ufs_spec.specs.declared.flash.Place.{Place}
use Rattle.block_table.specs.Lives.{Lives, is_live}
use Rattle.block_table.specs.declared.live.BlockAt.{BlockAt}
use Rattle.collector.specs.Plans.{Collection, Plans, copy_ordered, live_below, place_of}
use Rattle.collector.specs.Rooms.{begun}
use Rattle.collector.specs.declared.PlannedCopy.{PlannedCopy}

few_kept : (p : Place → Bool) (xs : List Place) → length (filter p xs) ≤ length xs
few_kept p [] = omega arith
few_kept p (x ∷ xs) = by (p x) (few_kept p xs)
  where
    by : (b : Bool) → length (filter p xs) ≤ length xs →
        length (cond b (x ∷ filter p xs) (filter p xs)) ≤ suc (length xs)
    by true h = omega arith
    by false h = omega arith

mapped_length : (f : ℕ → Place) (xs : List ℕ) → length (map f xs) ≡ length xs
mapped_length f [] = refl
mapped_length f (x ∷ xs) = ap suc (mapped_length f xs)

pub few_live : (l : Lives) (n : ℕ) (s : Spot) → length (live_below l n s) ≤ n
few_live l n s =
    let h = few_kept (is_live l) (map (place_in s) (below n)) in
    let e = mapped_length (place_in s) (below n) in
    let f = length-below n in
    omega arith

more : (l : Lives) (n : ℕ) (s : Spot) →
    live_below l (n + 1) s ≡ live_below l n s ++ filter (is_live l) (place_in s n ∷ [])
more l n s =
    ap (λ (i : ℕ). live_below l i s) (add-one n)
    ∙ ap (filter (is_live l)) (map-append (place_in s) (below n) (n ∷ []))
    ∙ filter-append (is_live l) (map (place_in s) (below n)) (place_in s n ∷ [])

one_live : (l : Lives) (p : Place) (b : Bool) → is_live l p ≡ b → filter (is_live l) (p ∷ []) ≡ cond b (p ∷ []) []
one_live l p b e = ap (λ (c : Bool). cond c (p ∷ []) []) e

-- a live page is put after those before it
pub live_more : (l : Lives) (n : ℕ) (s : Spot) → is_live l (place_in s n) ≡ true →
    live_below l n s ++ place_in s n ∷ [] ≡ live_below l (n + 1) s
live_more l n s on = sym (more l n s ∙ ap (λ xs. live_below l n s ++ xs) (one_live l (place_in s n) true on))

pub dead_more : (l : Lives) (n : ℕ) (s : Spot) → is_live l (place_in s n) ≡ false →
    live_below l n s ≡ live_below l (n + 1) s
dead_more l n s off =
    sym (more l n s ∙ ap (λ xs. live_below l n s ++ xs) (one_live l (place_in s n) false off)
    ∙ append-nil (live_below l n s))

-- the copy of a live page is put after those of the pages before it
pub copy_more : (l : Lives) (n : ℕ) (s : Spot) (xs : List PlannedCopy) (x : PlannedCopy) →
    map place_of xs ≡ live_below l n s → x.from ≡ place_in s n → is_live l (place_in s n) ≡ true →
    map place_of (xs ++ x ∷ []) ≡ live_below l (n + 1) s
copy_more l n s xs x those from on =
    map-append place_of xs (x ∷ [])
    ∙ ap (λ (ps : List Place). ps ++ x.from ∷ []) those
    ∙ ap (λ (p : Place). live_below l n s ++ p ∷ []) from
    ∙ live_more l n s on

-- there are no more copies than pages
pub few_copied : (l : Lives) (n : ℕ) (s : Spot) (xs : List PlannedCopy) → map place_of xs ≡ live_below l n s →
    length xs ≤ n
few_copied l n s xs those =
    let few = few_live l n s in
    let e = ap length those in
    let f = length-map xs place_of in
    omega arith

-- One copy less

drop_one : {A : Type 0} (n : ℕ) (xs : List A) → drop (suc n) xs ≡ drop 1 (drop n xs)
drop_one zero xs = refl
drop_one (suc n) [] = refl
drop_one (suc n) (x ∷ xs) = drop_one n xs

pub ordered_one : (victim : Option BlockAt) (xs : List PlannedCopy) (n : ℕ) →
    begun victim (drop (n + 1) xs) ≡ option_map copy_ordered (begun victim (drop n xs))
ordered_one None xs n = refl
ordered_one (Some at) xs n =
    ap (λ (ps : List PlannedCopy). begun (Some at) ps) (ap (λ (i : ℕ). drop i xs) (add-one n) ∙ drop_one n xs)

abbrev pub after : Plans → Plans
after p = record p { plan = option_map copy_ordered p.plan }

abbrev pub made : ℕ → Option Collection → Plans
made pages plan = record { pages = pages; plan = plan }

pub with_plan : (pages : ℕ) {a b : Option Collection} → a ≡ b →
    made pages a ≡ made pages b
with_plan pages e = λ i. record { pages = pages; plan = e i }
