-- Cells that stand in a list: a test of each of them tells of every place.
use Rattle.ufs_laws.proofs.Common.{Bool, Cell, CellsSound, Fence, GroupPage, HasNone, Holds, IsNewestMark, IsRecorded}
use Rattle.ufs_laws.proofs.Common.{IsWhole, Key, List, Mark, MarkPage, None, Nothing, Option, Place, Some, Tag, []}
use Rattle.ufs_laws.proofs.Common.{and_parts, ap, arith, at_most, eq-eqb, false, fence_in, if◌then◌else◌, inl, inr, not}
use Rattle.ufs_laws.proofs.Common.{refl, sym, true, ℕ, ⊎_elim, ◌&&◌, ◌<◌, ◌||◌, ◌∙◌, ◌∷◌, ◌≡◌}
use Rattle.std.proofs.Common.{ap₂, eqb, eqb-true, leb, leb-true, true≢false}
use Rattle.ufs_laws.proofs.array_cells.StandsForOne.{recorded_one}
use Rattle.ufs_laws.specs.GapRows.{Standing, cells_of}
use Rattle.ufs_spec.specs.Cells.{key_of, same_place}
use Rattle.ufs_spec.specs.Keys.{same_key}
use Rattle.ufs_spec.specs.Kept.{IsFenced}
use Rattle.ufs_spec.specs.Plain.{zero_block}
use Rattle.ufs_spec.proofs.Facts.{or_cases}
use Rattle.ufs_spec.proofs.Equalities.{key_same}

-- Tests

not_so : (a : Bool) → not a ≡ true → a ≡ true → ⊥
not_so true e h = true≢false (sym e)
not_so false e h = true≢false (sym h)

-- each cell of the list passes
abbrev pub every : (Cell → Bool) → List Standing → Bool
every test [] = true
every test (s ∷ rest) = test s.cell && every test rest

chosen : (test : Cell → Bool) (b : Bool) (x y : Cell) → test x ≡ true → test y ≡ true → test (if b then x else y) ≡ true
chosen test true x y h g = h
chosen test false x y h g = g

at_each : (test : Cell → Bool) → test Nothing ≡ true → (xs : List Standing) → every test xs ≡ true → (p : Place) →
    test (cells_of xs p) ≡ true
at_each test none [] all p = none
at_each test none (s ∷ rest) all p =
    chosen test (same_place s.place p) s.cell (cells_of rest p) (and_parts _ _ all).0
    (at_each test none rest (and_parts _ _ all).1 p)

-- a test of tags alone, and one of marks alone
abbrev pub tags : (Tag → Bool) → Cell → Bool
tags test Nothing = true
tags test (GroupPage t body) = test t
tags test (MarkPage m) = true

abbrev pub marks : (Mark → Bool) → Cell → Bool
marks test Nothing = true
marks test (GroupPage t body) = true
marks test (MarkPage m) = test m

pub at_page : (test : Tag → Bool) (xs : List Standing) → every (tags test) xs ≡ true →
    (p : Place) (t : Tag) (body : List ℕ) → cells_of xs p ≡ GroupPage t body → test t ≡ true
at_page test xs all p t body e = sym (ap (tags test) e) ∙ at_each (tags test) refl xs all p

pub at_mark : (test : Mark → Bool) (xs : List Standing) → every (marks test) xs ≡ true → (p : Place) (m : Mark) →
    cells_of xs p ≡ MarkPage m → test m ≡ true
at_mark test xs all p m e = sym (ap (marks test) e) ∙ at_each (marks test) refl xs all p

-- Marks and frontiers

pub newest : (xs : List Standing) (m : Mark) (p : Place) → cells_of xs p ≡ MarkPage m →
    every (marks (λ o. leb o.number m.number)) xs ≡ true → IsNewestMark (cells_of xs) (Some m)
newest xs m p e all = ((p, e), λ q o f. leb-true o.number m.number (at_mark (λ o. leb o.number m.number) xs all q o f))

-- a mark records the greatest frontier
pub recorded : (xs : List Standing) (m : Mark) (p : Place) → cells_of xs p ≡ MarkPage m →
    every (tags (λ t. leb t.frontier m.records)) xs ≡ true → every (marks (λ o. leb o.records m.records)) xs ≡ true →
    IsRecorded (cells_of xs) (Some m) m.records
recorded xs m p e pages others = record {
  pages =
      λ q t body h. leb-true t.frontier m.records (at_page (λ t. leb t.frontier m.records) xs pages q t body h.there);
  marks = λ q o f. leb-true o.records m.records (at_mark (λ o. leb o.records m.records) xs others q o f);
  reached = inr (inr (p, m, e, refl));
}

-- Whole groups

-- a group of one page
pub whole : (xs : List Standing) (n : ℕ) (p : Place) (t : Tag) (body : List ℕ) → cells_of xs p ≡ GroupPage t body →
    t.number ≡ n → t.index ≡ 0 → every (tags (λ u. eqb u.size 1)) xs ≡ true → IsWhole (cells_of xs) n
whole xs n p t body e number index sizes = record {
  size = 1;
  some = omega arith;
  one_size = λ q u other f g. eqb-true u.size 1 (at_page (λ u. eqb u.size 1) xs sizes q u other f);
  each = λ i l. (p, t, body, e, number, index ∙ omega arith);
}

pub not_whole : (xs : List Standing) (n : ℕ) → every (tags (λ u. not (eqb u.number n))) xs ≡ true →
    IsWhole (cells_of xs) n → ⊥
not_whole xs n none w =
    let h = w.each 0 w.some in
    not_so (eqb h.1.number n) (at_page (λ u. not (eqb u.number n)) xs none h.0 h.1 h.2 h.3) (eq-eqb h.1.number n h.4)

-- Contents

abbrev pub in_fence : Option Fence → ℕ → Bool
in_fence None n = false
in_fence (Some f) n = leb f.first n && leb n f.last

fenced : (f : Option Fence) (n : ℕ) → in_fence f n ≡ true → IsFenced f n
fenced None n e = true≢false (sym e)
fenced (Some f) n e = let r = and_parts _ _ e in (leb-true f.first n r.0, leb-true n f.last r.1)

-- the tag is of another key, or not below the bound, or fenced; or the rest holds
abbrev pub is_other : Option Mark → ℕ → Key → Bool → Tag → Bool
is_other m bound k rest u =
    not (same_key (key_of u) k) || (leb bound u.number || (in_fence (fence_in m) u.number || rest))

the_rest : (m : Option Mark) (bound : ℕ) (k : Key) (rest : Bool) (u : Tag) → is_other m bound k rest u ≡ true →
    (IsFenced (fence_in m) u.number → ⊥) → key_of u ≡ k → u.number < bound → rest ≡ true
the_rest m bound k rest u e free key low =
    ⊎_elim
    (λ h. absurd (not_so _ h (key_same (key_of u) k key)))
    (λ g. ⊎_elim
    (λ h. absurd (let l = leb-true bound u.number h in omega arith))
    (λ f. ⊎_elim (λ h. absurd (free (fenced (fence_in m) u.number h))) (λ r. r) (or_cases _ _ f))
    (or_cases _ _ g))
    (or_cases _ _ e)

-- a page of the key that counts, and no other below the bound has a greater number
pub held : (xs : List Standing) (m : Option Mark) (bound : ℕ) (k : Key) (p : Place) (t : Tag) (body : List ℕ) →
    cells_of xs p ≡ GroupPage t body → (IsFenced (fence_in m) t.number → ⊥) → key_of t ≡ k → t.number < bound →
    every (tags (λ u. is_other m bound k (leb u.number t.number) u)) xs ≡ true → Holds (cells_of xs) m bound k body
held xs m bound k p t body e free key low all = inl (
  p,
  t,
  record {
    counts = record { there = e; free = free };
    key = key;
    within = low;
    greatest = λ q u other h same below.
        leb-true u.number t.number
        (the_rest m bound k (leb u.number t.number) u
        (at_page (λ u. is_other m bound k (leb u.number t.number) u) xs all q u other h.there) h.free same below);
  },
)

pub zeros : (xs : List Standing) (m : Option Mark) (bound : ℕ) (k : Key) →
    every (tags (is_other m bound k false)) xs ≡ true → Holds (cells_of xs) m bound k zero_block
zeros xs m bound k all = inr (none, refl)
  where
    none : HasNone (cells_of xs) m bound k
    none p t body h key =
        ⊎_elim
        (λ l. l)
        (λ l. absurd (true≢false
        (sym (the_rest m bound k false t (at_page (is_other m bound k false) xs all p t body h.there) h.free key l))))
        (at_most bound t.number)

-- Soundness

-- two pages of one group number, or two marks of one number
abbrev pub clash : Cell → Cell → Bool
clash (GroupPage t body) (GroupPage u other) = eqb t.number u.number
clash (MarkPage a) (MarkPage b) = eqb a.number b.number
clash _ _ = false

-- no two of the list
abbrev pub apart : List Standing → Bool
apart [] = true
apart (s ∷ rest) = every (λ y. not (clash s.cell y)) rest && apart rest

back : (a b : ℕ) → eqb a b ≡ true → eqb b a ≡ true
back a b e = eq-eqb b a (sym (eqb-true a b e))

turned : (x y : Cell) → clash x y ≡ true → clash y x ≡ true
turned (GroupPage t body) (GroupPage u other) e = back t.number u.number e
turned (MarkPage a) (MarkPage b) e = back a.number b.number e
turned x y e = absurd (true≢false (sym e))

clear : (x : Cell) → not (clash x Nothing) ≡ true
clear Nothing = refl
clear cell = refl

pick : (b d : Bool) (x y z : Cell) → not (clash x y) ≡ true → not (clash x z) ≡ true → (clash y z ≡ true → y ≡ z) →
    clash (if b then x else y) (if d then x else z) ≡ true → (if b then x else y) ≡ (if d then x else z)
pick true true x y z h g rest e = refl
pick true false x y z h g rest e = absurd (not_so _ g e)
pick false true x y z h g rest e = absurd (not_so _ h (turned y x e))
pick false false x y z h g rest e = rest e

one_cell : (xs : List Standing) → apart xs ≡ true → (p q : Place) → clash (cells_of xs p) (cells_of xs q) ≡ true →
    cells_of xs p ≡ cells_of xs q
one_cell [] all p q e = refl
one_cell (s ∷ rest) all p q e =
    let parts = and_parts _ _ all in
    pick (same_place s.place p) (same_place s.place q) s.cell (cells_of rest p) (cells_of rest q)
    (at_each (λ y. not (clash s.cell y)) (clear s.cell) rest parts.0 p)
    (at_each (λ y. not (clash s.cell y)) (clear s.cell) rest parts.0 q)
    (one_cell rest parts.1 p q) e

-- with a fence or without one: of the newest mark, which records the greatest frontier, its fence and the pages above
-- it are asked for
pub sound : (xs : List Standing) (m : Mark) → apart xs ≡ true → IsRecorded (cells_of xs) (Some m) m.records
    → ((f : Fence) → m.fence ≡ Some f → (m.records ≡ f.last) × (every (tags (λ t. leb t.number f.last)) xs ≡ true))
    → CellsSound (cells_of xs) (Some m)
sound xs m all top fence = record {
  pages = λ p q t u body other e f same either.
      let one : GroupPage t body ≡ GroupPage u other = sym e
      ∙ one_cell xs all p q (ap₂ clash e f ∙ eq-eqb t.number u.number same)
      ∙ f in
      let tag : t ≡ u = cc in
      (ap key_of tag, same, ap (λ v. v.index) tag, ap (λ v. v.size) tag, (let b : body ≡ other = cc in b));
  marks = λ p q a b e f same.
      let one : MarkPage a ≡ MarkPage b = sym e
      ∙ one_cell xs all p q (ap₂ clash e f ∙ eq-eqb a.number b.number same)
      ∙ f in
      cc;
  whole = λ r n h low high. absurd (let e = recorded_one (cells_of xs) (Some m) r m.records h top in omega arith);
  fence = λ f e. (fence f e).0;
  repairs = λ f e p t body h above.
      absurd (let l = leb-true t.number f.last (at_page (λ u. leb u.number f.last) xs (fence f e).1 p t body h.there) in
      omega arith);
}
