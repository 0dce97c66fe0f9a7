-- A sound array stands for one thing only.
use Rattle.ufs_laws.proofs.Common.{Array, Cell, Cells, CellsSound, Holds, IsCell, IsKept, IsKey, IsNewestMark, IsPlain}
use Rattle.ufs_laws.proofs.Common.{IsRecorded, Key, List, Mark, MarkPage, None, Numbers, Option, Page, Place, Plain}
use Rattle.ufs_laws.proofs.Common.{Shows, Some, Tag, ap, arith, at_most, content, inl, inr, refl, shape_of}
use Rattle.ufs_laws.proofs.Common.{shape_of_numbers, subst, suc, sym, ℕ, ⊎_elim, ◌∙◌, ◌≡◌, ◌≤◌}
use Rattle.ufs_spec.specs.Kept.{CellsStandFor, Counts, StandsFor}
use Rattle.ufs_spec.specs.Sound.{Sound}

pub mark_one : (c : Cells) (m a b : Option Mark) → CellsSound c m → IsNewestMark c a → IsNewestMark c b → a ≡ b
mark_one c m None None s h g = refl
mark_one c m None (Some b) s h g = absurd (h g.0.0 b g.0.1)
mark_one c m (Some a) None s h g = absurd (g h.0.0 a h.0.1)
mark_one c m (Some a) (Some b) s h g =
    let x = h.1 g.0.0 b g.0.1 in
    let y = g.1 h.0.0 a h.0.1 in
    ap Some (s.marks h.0.0 g.0.0 a b h.0.1 g.0.1 (omega arith))

pub recorded_under : (c : Cells) (m : Option Mark) (r s : ℕ) → IsRecorded c m r → IsRecorded c m s → r ≤ s
recorded_under c m r s h g =
    ⊎_elim
    (λ e. omega arith)
    (⊎_elim
    (λ (x : (p : Place) × (t : Tag) × (body : List ℕ) × Counts c m p t body × (t.frontier ≡ r)).
    let l = g.pages x.0 x.1 x.2 x.3 in let e = x.4 in omega arith)
    (λ (x : (p : Place) × (other : Mark) × (c p ≡ MarkPage other) × (other.records ≡ r)). let l = g.marks x.0 x.1 x.2 in
    let e = x.3 in omega arith))
    h.reached

pub recorded_one : (c : Cells) (m : Option Mark) (r s : ℕ) → IsRecorded c m r → IsRecorded c m s → r ≡ s
recorded_one c m r s h g =
    let x = recorded_under c m r s h g in
    let y = recorded_under c m s r g h in
    omega arith

pub kept_under : (c : Cells) (m : Option Mark) (j k : ℕ) → IsKept c m j → IsKept c m k → j ≤ k
kept_under c m j k h g =
    let e = recorded_one c m h.from g.from h.recorded g.recorded in
    let l = g.above in
    ⊎_elim (λ low. low) (λ high. absurd (g.stops (h.whole (suc k) (omega arith) (omega arith)))) (at_most j k)

pub kept_one : (c : Cells) (m : Option Mark) (j k : ℕ) → IsKept c m j → IsKept c m k → j ≡ k
kept_one c m j k h g =
    let x = kept_under c m j k h g in
    let y = kept_under c m k j g h in
    omega arith

pub content_one : (c : Cells) (m : Option Mark) (bound : ℕ) (k : Key) (x y : List ℕ) → CellsSound c m →
    Holds c m bound k x → Holds c m bound k y → x ≡ y
content_one c m bound k x y s (inl (p, t, h)) (inl (q, u, g)) =
    let low = g.greatest p t x h.counts h.key h.within in
    let high = h.greatest q u y g.counts g.key g.within in
    (s.pages p q t u x y h.counts.there g.counts.there (omega arith) (inr (h.key ∙ sym g.key))).4
content_one c m bound k x y s (inl (p, t, h)) (inr (none, f)) =
    absurd (let l = none p t x h.counts h.key in let v = h.within in omega arith)
content_one c m bound k x y s (inr (none, e)) (inl (q, u, g)) =
    absurd (let l = none q u y g.counts g.key in let v = g.within in omega arith)
content_one c m bound k x y s (inr (none, e)) (inr (more, f)) = e ∙ sym f

-- Plain states

-- what the laws of cells and of plain states say, as facts that the lemmas here take
abbrev pub PagesAreOne : Type 0
PagesAreOne = (page : Page) (c d : Cell) → IsCell page c → IsCell page d → c ≡ d

abbrev pub PlainIsOne : Type 0
PlainIsOne =
    (p q : Plain) → IsPlain p → IsPlain q → shape_of p ≡ shape_of q
    → ((k : Key) → IsKey (shape_of p) k → content p k ≡ content q k) → p ≡ q

pub cells_one : PagesAreOne → (array : Array) (c d : Cells) → Shows array c → Shows array d → c ≡ d
cells_one one array c d h g i p = one (array p) (c p) (d p) (h p) (g p) i

-- two plain states that the same sound cells stand for hold the same
module _ (n : Numbers) (c : Cells) (m : Option Mark) (s : CellsSound c m) (p q : Plain) (h : CellsStandFor n c p)
    (g : CellsStandFor n c q) where
  same_newest : g.newest ≡ h.newest
  same_newest = mark_one c m g.newest h.newest s g.is_newest h.is_newest

  same_kept : g.kept ≡ h.kept
  same_kept = kept_one c h.newest g.kept h.kept (subst (λ x. IsKept c x g.kept) same_newest g.is_kept) h.is_kept

  same_content : IsNewestMark c m → (k : Key) → IsKey (shape_of_numbers n) k → content p k ≡ content q k
  same_content newest k key =
      let e = mark_one c m m h.newest s newest h.is_newest in
      content_one c h.newest (suc h.kept) k (content p k) (content q k) (subst (CellsSound c) e s)
      (h.holds k key)
      (subst (λ x. Holds c x (suc h.kept) k (content q k)) same_newest
      (subst (λ x. Holds c g.newest (suc x) k (content q k)) same_kept (g.holds k key)))

  same_plain : PlainIsOne → IsNewestMark c m → p ≡ q
  same_plain one newest =
      one p q h.plain g.plain (h.shape ∙ sym g.shape)
      (λ k key. same_content newest k (subst (λ s. IsKey s k) h.shape key))

pub plain_one : PagesAreOne → PlainIsOne → (n : Numbers) (array : Array) (p q : Plain) → Sound array →
    StandsFor n array p → StandsFor n array q → p ≡ q
plain_one pages one n array p q s h g =
    same_plain n s.cells s.newest s.sound p q
    (subst (λ c. CellsStandFor n c p) (cells_one pages array h.0 s.cells h.1 s.shown) h.2)
    (subst (λ c. CellsStandFor n c q) (cells_one pages array g.0 s.cells g.1 s.shown) g.2)
    one s.is_newest
