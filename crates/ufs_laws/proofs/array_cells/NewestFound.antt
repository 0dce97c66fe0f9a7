-- The newest mark, the greatest recorded frontier and the newest page of a key: each is found by one search.
use Rattle.ufs_laws.proofs.Common.{AreWithin, Cell, Cells, Fence, GroupPage, HasNone, Holds, IsNewestMark, IsRecorded}
use Rattle.ufs_laws.proofs.Common.{Key, List, Mark, MarkPage, None, Nothing, Numbers, Option, Place, Some, Tag, ap}
use Rattle.ufs_laws.proofs.Common.{arith, at_most, fence_in, inl, inr, refl, suc, sym, ℕ, ⊎_elim, ◌<◌, ◌∙◌, ◌≡◌, ◌≤◌}
use Rattle.ufs_laws.proofs.Common.{◌⊎◌}
use Rattle.ufs_spec.proofs.Facts.{key_is}
use Rattle.ufs_laws.proofs.deciding.SearchOverPlaces.{Decided, Greatest, alike, both, greatest, if_so, is_at_most}
use Rattle.ufs_laws.proofs.deciding.SearchOverPlaces.{is_below, is_number, not, so, was_so}
use Rattle.ufs_spec.specs.Cells.{key_of}
use Rattle.ufs_spec.specs.Kept.{Counts, IsFenced}
use Rattle.ufs_spec.specs.Plain.{zero_block}

-- The newest mark

abbrev mark_weight : Cell → ℕ
mark_weight Nothing = 0
mark_weight (GroupPage t body) = 0
mark_weight (MarkPage m) = suc m.number

module _ (c : Cells) (g : Greatest c mark_weight) where
  no_mark : g.weight ≤ 0 → IsNewestMark c None
  no_mark low p m e = let a = g.above p in let b = ap mark_weight e in omega arith

  is_mark : 0 < g.weight → (p : Place) (x : Cell) → c p ≡ x → mark_weight x ≡ g.weight →
      (m : Option Mark) × IsNewestMark c m
  is_mark high p (MarkPage m) e w =
      (Some m, ((p, e), λ q other f. let a = g.above q in let b = ap mark_weight f in omega arith))
  is_mark high p cell e w = absurd (omega arith)

  found_mark : 0 < g.weight → (m : Option Mark) × IsNewestMark c m
  found_mark high =
      ⊎_elim (λ e. absurd (omega arith))
      (λ (h : (p : Place) × (mark_weight (c p) ≡ g.weight)). is_mark high h.0 (c h.0) refl h.1) g.reached

pub newest_mark : (n : Numbers) (c : Cells) → AreWithin n c → (m : Option Mark) × IsNewestMark c m
newest_mark n c within =
    let g = greatest n c within mark_weight refl in
    ⊎_elim (λ low. (None, no_mark c g low)) (found_mark c g) (at_most g.weight 0)

-- The greatest recorded frontier

pub is_fenced : (f : Option Fence) (n : ℕ) → Decided (IsFenced f n)
is_fenced None n = inr (λ h. h)
is_fenced (Some f) n = both (is_at_most f.first n) (is_at_most n f.last)

-- a tag whose number is not fenced
abbrev IsFree : Option Mark → Tag → Type 0
IsFree m t = IsFenced (fence_in m) t.number → ⊥

is_free : (m : Option Mark) (t : Tag) → Decided (IsFree m t)
is_free m t = not (is_fenced (fence_in m) t.number)

abbrev frontier_weight : Option Mark → Cell → ℕ
frontier_weight m Nothing = 0
frontier_weight m (GroupPage t body) = if_so (is_free m t) t.frontier
frontier_weight m (MarkPage other) = other.records

module _ (c : Cells) (m : Option Mark) (g : Greatest c (frontier_weight m)) where
  abbrev Reached : Type 0
  Reached =
      (g.weight ≡ 0)
      ⊎ (((p : Place) × (t : Tag) × (body : List ℕ) × Counts c m p t body × (t.frontier ≡ g.weight))
      ⊎ ((p : Place) × (other : Mark) × (c p ≡ MarkPage other) × (other.records ≡ g.weight)))

  reached_by : (p : Place) (x : Cell) → c p ≡ x → frontier_weight m x ≡ g.weight → Reached
  reached_by p Nothing e w = inl (sym w)
  reached_by p (GroupPage t body) e w = ⊎_elim (λ low. inl (omega arith)) counted (at_most g.weight 0)
    where
      counted : 0 < g.weight → Reached
      counted high =
          let h = was_so (is_free m t) t.frontier (omega arith) in
          inr (inl (p, t, body, record { there = e; free = h.0 }, sym h.1 ∙ w))
  reached_by p (MarkPage other) e w = inr (inr (p, other, e, w))

  recorded_by : IsRecorded c m g.weight
  recorded_by = record {
    pages =
        λ p t body h. let a = g.above p in
        let b = ap (frontier_weight m) h.there in
        let s = so (is_free m t) t.frontier h.free in
        omega arith;
    marks = λ p other e. let a = g.above p in let b = ap (frontier_weight m) e in omega arith;
    reached =
        ⊎_elim (λ e. inl e)
        (λ (h : (p : Place) × (frontier_weight m (c p) ≡ g.weight)). reached_by h.0 (c h.0) refl h.1) g.reached;
  }

pub recorded : (n : Numbers) (c : Cells) → AreWithin n c → (m : Option Mark) → (r : ℕ) × IsRecorded c m r
recorded n c within m =
    let g = greatest n c within (frontier_weight m) refl in
    (g.weight, recorded_by c m g)

-- The newest page of a key

pub is_key : (j k : Key) → Decided (j ≡ k)
is_key j k =
    alike (λ h. key_is j k h.0 h.1.0 h.1.1) (λ e. (ap (λ l. l.kind) e, (ap (λ l. l.unit) e, ap (λ l. l.address) e)))
    (both (is_number j.kind k.kind) (both (is_number j.unit k.unit) (is_number j.address k.address)))

-- a tag of the key that counts and has a number below the bound
record IsUnder (m : Option Mark) (bound : ℕ) (k : Key) (t : Tag) : Type 0 where
  pub free : IsFree m t
  pub key : key_of t ≡ k
  pub within : t.number < bound

is_under : (m : Option Mark) (bound : ℕ) (k : Key) (t : Tag) → Decided (IsUnder m bound k t)
is_under m bound k t =
    alike (λ h. record { free = h.0; key = h.1.0; within = h.1.1 }) (λ h. (h.free, (h.key, h.within)))
    (both (is_free m t) (both (is_key (key_of t) k) (is_below t.number bound)))

abbrev number_weight : Option Mark → ℕ → Key → Cell → ℕ
number_weight m bound k Nothing = 0
number_weight m bound k (GroupPage t body) = if_so (is_under m bound k t) (suc t.number)
number_weight m bound k (MarkPage other) = 0

module _ (c : Cells) (m : Option Mark) (bound : ℕ) (k : Key) (g : Greatest c (number_weight m bound k)) where
  below_top : (p : Place) (t : Tag) (body : List ℕ) → Counts c m p t body → key_of t ≡ k → t.number < bound →
      t.number < g.weight
  below_top p t body h e l =
      let a = g.above p in
      let b = ap (number_weight m bound k) h.there in
      let s = so (is_under m bound k t) (suc t.number) record { free = h.free; key = e; within = l } in
      omega arith

  no_page : g.weight ≤ 0 → HasNone c m bound k
  no_page low p t body h e =
      ⊎_elim (λ l. l) (λ l. absurd (let a = below_top p t body h e l in omega arith)) (at_most bound t.number)

  is_page : 0 < g.weight → (p : Place) (x : Cell) → c p ≡ x → number_weight m bound k x ≡ g.weight →
      (x : List ℕ) × Holds c m bound k x
  is_page high p (GroupPage t body) e w =
      let h = was_so (is_under m bound k t) (suc t.number) (omega arith) in
      let n = h.1 in (
        body,
        inl (
          p,
          t,
          record {
            counts = record { there = e; free = h.0.free };
            key = h.0.key;
            within = h.0.within;
            greatest = λ q u other counts key within. let a = below_top q u other counts key within in omega arith;
          },
        ),
      )
  is_page high p cell e w = absurd (omega arith)

  found_page : 0 < g.weight → (x : List ℕ) × Holds c m bound k x
  found_page high =
      ⊎_elim (λ e. absurd (omega arith))
      (λ (h : (p : Place) × (number_weight m bound k (c p) ≡ g.weight)). is_page high h.0 (c h.0) refl h.1) g.reached

pub holds : (n : Numbers) (c : Cells) → AreWithin n c → (m : Option Mark) (bound : ℕ) (k : Key) →
    (x : List ℕ) × Holds c m bound k x
holds n c within m bound k =
    let g = greatest n c within (number_weight m bound k) refl in
    ⊎_elim (λ low. (zero_block, inr (no_page c m bound k g low, refl))) (found_page c m bound k g) (at_most g.weight 0)
