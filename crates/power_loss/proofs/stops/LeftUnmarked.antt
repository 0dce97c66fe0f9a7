-- What a stop leaves before the first mark of the life is finished: what the life began with, but for spare pages, or
-- an image of its book.
use Rattle.power_loss.proofs.Common.{◌≡◌, ◌≢◌, ℕ, suc, ◌<◌, ◌≤◌, ◌⊎◌, false, List, [], Option, Some, None, slice_get}
use Rattle.power_loss.proofs.Common.{refl, sym, ap, ◌∙◌, AreWithin, Holds, HasStandIn, IsSpare, MayBeErased, Spot}
use Rattle.power_loss.proofs.Common.{spot_of, cases_Bool, mark_not_nothing, page_not_nothing, subst, inl, inr, ⊎_elim}
use Rattle.power_loss.proofs.Common.{arith, Cell, Cells, GroupPage, Mark, MarkPage, Nothing, Programming, Group}
use Rattle.power_loss.proofs.Common.{IsNewestMark, recorded_in, IsFirstFence, number_of, Translation, Fence, Key, Place}
use Rattle.power_loss.proofs.Common.{Tag, one_mark, Book, IsPlainMark, book, Valid}
use Rattle.power_loss.specs.Invariant.{OpeningRight}
use Rattle.power_loss.proofs.books.LayerParts.{StopLeaves, OwnMarkOf, UnmarkedOf}
use Rattle.power_loss.proofs.spent.CellsLost.{Loss, MayGo, holds_less, kept_less, less_sound, less_suits}
use Rattle.power_loss.proofs.stops.LeftCells.{mark_from, mark_stays, page_from, page_stays, stays, within}
use Rattle.ufs_laws.proofs.array_cells.KeptNumberFound.{kept as kept_number}
use Rattle.power_loss.proofs.stops.BookImage.{IsRepairing, Unchanged, Outcome, Parts, image}

abbrev pub Started : Translation → Option Fence → Type 0
Started t fence = (lost : List Key) × UnmarkedOf t fence lost

-- two marks of this life with one number are equal
own_same : (t : Translation) (fence : Option Fence) {m other : Mark} → OwnMarkOf t fence m → OwnMarkOf t fence other →
    m.number ≡ other.number → m ≡ other
own_same t fence a b n = λ i. record {
  number = n i;
  records = (a.records ∙ sym b.records) i;
  fence = (a.fence_is ∙ sym b.fence_is) i;
  numbers = (a.numbers ∙ sym b.numbers) i;
}

pub opened_below : (c : Cells) (newest : Option Mark) {p : Place} {m : Mark} → IsNewestMark c newest →
    c p ≡ MarkPage m → m.number ≤ number_of newest
opened_below c None {p = p} {m = m} n h = absurd (n p m h)
opened_below c (Some newest) {p = p} {m = m} n h = n.1 p m h

pub newest_one : {c : Cells} (a b : Option Mark) → ((p q : Place) (m other : Mark) → c p ≡ MarkPage m →
    c q ≡ MarkPage other → m.number ≡ other.number → m ≡ other) → IsNewestMark c a → IsNewestMark c b → a ≡ b
newest_one None None same h k = refl
newest_one None (Some n) same h k = absurd (h k.0.0 n k.0.1)
newest_one (Some m) None same h k = absurd (k h.0.0 m h.0.1)
newest_one (Some m) (Some n) same h k =
    let x = h.1 k.0.0 n k.0.1 in let y = k.1 h.0.0 m h.0.1 in ap Some (same h.0.0 k.0.0 m n h.0.1 k.0.1 (omega arith))

first_good : {b : Book} (newest : Option Mark) (fence : Option Fence) {m : Mark} → b.groups ≡ [] →
    IsFirstFence newest b.first_lost b.greatest_seen fence → m.fence ≡ fence → m.records ≡ b.greatest_seen →
    IsRepairing b m ⊎ IsPlainMark b m
first_good newest None none f e r = inr record {
  none = e;
  repaired = λ n i page l is. absurd (let x = l.from in
      let y = l.to in let z = f.1 in omega arith);
}
first_good newest (Some fence) none f e r = inl record {
  fence = record { fence = fence; is = e; first = f.0; last = f.1; some = f.2; records = r };
  repairs = λ j i g item h. absurd (no_group j g (ap (λ gs. slice_get gs j) (sym none) ∙ h));
}
  where
    no_group : (j : ℕ) (g : Group) → slice_get [] j ≡ Some g → ⊥
    no_group j g h = cc

pub some_or_nothing : (x : Cell) → (x ≡ Nothing) ⊎ (x ≢ Nothing)
some_or_nothing Nothing = inl refl
some_or_nothing (GroupPage tag body) = inr (page_not_nothing _ _ _ refl)
some_or_nothing (MarkPage m) = inr (mark_not_nothing _ _ refl)

pub not_erasing : (t : Translation) {s : Spot} → (MayBeErased t.disk.blocks t.disk.erasing s → ⊥) →
    t.disk.erasing s ≡ false
not_erasing t {s} out = ⊎_elim (λ e. absurd (out (inr e))) (λ e. e) (cases_Bool (t.disk.erasing s))

-- the cells of an opening that lose spare pages are as good
thinned : {b : Book} {c left : Cells} {m : Mark} → AreWithin b.numbers left → Loss c left m →
    OpeningRight b (Some m) c → OpeningRight b (Some m) left
thinned {b} {c} {left} {m} within x o =
    let found = kept_number b.numbers left within (Some m) in
    let same : o.kept ≡ found.0 = kept_less c left m x o.sound o.is_kept found.1 in
    let low = found.1.recorded.marks x.place m x.there in
    let high = found.1.above in
    record {
      sound = less_sound c left m x o.sound o.is_kept.recorded;
      is_newest = ((x.place, x.there), λ p other h. o.is_newest.1 p other (x.marks p other h));
      kept = found.0;
      is_kept = found.1;
      holds = λ k has. holds_less c left m x o.sound (suc found.0) k (b.base k) (λ j free far. omega arith)
          (subst (λ y. Holds c (Some m) (suc y) k (b.base k)) same (o.holds k has));
      suits = less_suits c left m x o.sound o.suits;
      marks = λ p other h. o.marks p other (x.marks p other h);
    }

abbrev NoneOwn : Translation → Option Fence → Cells → Type 0
NoneOwn t fence c = (p : Place) (m : Mark) → c p ≡ MarkPage m → OwnMarkOf t fence m → ⊥

pub page_no_mark : {tag : Tag} {body : List ℕ} {m : Mark} → GroupPage tag body ≡ MarkPage m → ⊥
page_no_mark e = cc

module _ (t : Translation) {fence : Option Fence} (u : Started t fence) where
  -- a page of a group on the disk stood at the opening
  pub disk_page : {p : Place} {tag : Tag} {body : List ℕ} → t.disk.cells p ≡ GroupPage tag body →
      u.1.opening p ≡ GroupPage tag body
  disk_page {p} h = ⊎_elim (λ k. sym k ∙ h)
      (λ k. ⊎_elim (λ e. absurd (page_not_nothing _ _ _ h e)) (λ o. absurd (page_no_mark (sym h ∙ o.1.1))) k)
      (u.1.same p)

  -- a mark on the disk stood at the opening, or is one of this life, which is not finished
  pub disk_mark : {p : Place} (m : Mark) → t.disk.cells p ≡ MarkPage m → (u.1.opening p ≡ MarkPage m) ⊎
      ((t.disk.finished p ≡ false) × OwnMarkOf t fence m)
  disk_mark {p} m h = ⊎_elim (λ k. inl (sym k ∙ h))
      (λ k. ⊎_elim (λ e. absurd (mark_not_nothing _ _ h e))
      (λ o. inr (o.0, subst (OwnMarkOf t fence) (one_mark o.1.0 m (sym o.1.1 ∙ h)) o.1.2)) k) (u.1.same p)

  -- the newest mark of the opening is there, in a block of which no page may go
  pub newest_there : {m : Mark} → t.ledger.newest ≡ Some m → (p : Place) × (u.1.opening p ≡ MarkPage m) ×
      (t.disk.cells p ≡ MarkPage m) × (MayBeErased t.disk.blocks t.disk.erasing (spot_of p) → ⊥)
  newest_there {m} is =
      let n = subst (IsNewestMark u.1.opening) is u.1.opened.is_newest in
      ⊎_elim (λ e. (n.0.0, n.0.1, e.0 ∙ n.0.1, e.1))
      (λ s. absurd (not_spare (subst (λ (z : Option Mark × Cell). IsSpare t.disk.cells z.0
      (MayBeErased t.disk.blocks t.disk.erasing) z.1) (λ i. (is i, n.0.1 i)) s)))
      (u.1.spare n.0.0 (mark_not_nothing _ _ n.0.1))
    where
      not_spare : m.number < m.number → ⊥
      not_spare l = omega arith

  flown_mark : (die : ℕ) (p : Place) (m : Mark) → t.disk.flights die ≡ Some (Programming p (MarkPage m)) →
      OwnMarkOf t fence m
  flown_mark die p m h = let f = u.1.flies die p (MarkPage m) h in subst (OwnMarkOf t fence)
      (sym (one_mark m f.0 f.1)) f.2

  shown_mark : {c : Cells} {p : Place} {m : Mark} → StopLeaves t c → c p ≡ MarkPage m → (u.1.opening p ≡ MarkPage m) ⊎
      OwnMarkOf t fence m
  shown_mark {c} {p} {m} crash h = ⊎_elim (λ e. ⊎_elim (λ k. inl k) (λ k. inr k.1) (disk_mark m e))
      (λ e. inr (flown_mark p.die p m e)) (mark_from t.disk c p {m = m} crash h)

  started_same : {c : Cells} (p q : Place) {m other : Mark} → StopLeaves t c → c p ≡ MarkPage m → c q ≡ MarkPage other →
      m.number ≡ other.number → m ≡ other
  started_same p q {m} {other} crash h l n = go (shown_mark crash h) (shown_mark crash l)
    where
      go : (u.1.opening p ≡ MarkPage m) ⊎ OwnMarkOf t fence m → (u.1.opening q ≡ MarkPage other) ⊎
          OwnMarkOf t fence other → m ≡ other
      go (inl a) (inl b) = u.1.opened.sound.marks p q m other a b n
      go (inl a) (inr b) = absurd (let x = opened_below u.1.opening t.ledger.newest u.1.opened.is_newest a in
          let y = b.newer in omega arith)
      go (inr a) (inl b) = absurd (let x = opened_below u.1.opening t.ledger.newest u.1.opened.is_newest b in
          let y = a.newer in omega arith)
      go (inr a) (inr b) = own_same t fence a b n

  recorded_below : recorded_in t.ledger.newest ≤ t.ledger.greatest_seen
  recorded_below = go t.ledger.newest u.1.opened.is_newest
    where
      go : (newest : Option Mark) → IsNewestMark u.1.opening newest → recorded_in newest ≤ t.ledger.greatest_seen
      go None h = omega arith
      go (Some m) h = u.1.opened.marks h.0.0 m h.0.1

  started_parts : {c : Cells} {m : Mark} (p : Place) → Valid t → StopLeaves t c → c p ≡ MarkPage m →
      OwnMarkOf t fence m → Parts (book t) t.ledger.frontier (recorded_in t.ledger.newest) c m
  started_parts p v crash h own = record {
    marks = λ q other k. ⊎_elim (λ e. let x = u.1.opened.marks q other e in let y = u.1.still in omega arith)
        (λ e. let x = e.records in let y = u.1.still in omega arith) (shown_mark crash k);
    same = λ q r a other k l n. started_same q r crash k l n;
    place = p;
    there = h;
    above = let x = recorded_below in let y = own.records in omega arith;
    good = first_good t.ledger.newest fence u.1.none_new u.1.fence_right own.fence_is own.records;
    whole = λ n l k. absurd (let y = own.records in omega arith);
    numbers = own.numbers;
  }

  module _ {c : Cells} (v : Valid t) (crash : StopLeaves t c) (none : NoneOwn t fence c) where
    left_page : (p : Place) (tag : Tag) (body : List ℕ) → c p ≡ GroupPage tag body →
        u.1.opening p ≡ GroupPage tag body
    left_page p tag body h = ⊎_elim (λ e. disk_page e)
        (λ e. let f = u.1.flies p.die p (GroupPage tag body) e in absurd (page_no_mark f.1))
        (page_from t.disk p crash h)

    left_mark : (p : Place) (m : Mark) → c p ≡ MarkPage m → u.1.opening p ≡ MarkPage m
    left_mark p m h = ⊎_elim (λ e. e) (λ own. absurd (none p m h own)) (shown_mark crash h)

    -- what stands in for a page is left
    stand_in_left : {m : Mark} {tag : Tag} {body : List ℕ} →
        HasStandIn t.disk.cells m (MayBeErased t.disk.blocks t.disk.erasing) tag body → MayGo u.1.opening c m tag body
    stand_in_left s = ⊎_elim
        (λ same. inr (inl (
          s.place,
          s.tag,
          page_stays v crash (s.there ∙ ap (GroupPage s.tag) (sym same.4)) (not_erasing t s.outside),
          (same.0, same.1, same.2, same.3, refl),
        )))
        (λ over. inr (inr (
          s.place,
          s.tag,
          s.other,
          disk_page s.there,
          over.counts,
          over.key,
          over.newer,
          over.recorded,
        ))) s.instead

    spare_left : {m : Mark} {tag : Tag} {body : List ℕ} →
        IsSpare t.disk.cells (Some m) (MayBeErased t.disk.blocks t.disk.erasing) (GroupPage tag body) →
        MayGo u.1.opening c m tag body
    spare_left (inl f) = inl f
    spare_left (inr s) = stand_in_left s

    -- of the pages of the opening only spare ones are gone
    loss : {m : Mark} → t.ledger.newest ≡ Some m → Loss u.1.opening c m
    loss {m} is = record {
      pages = left_page;
      marks = left_mark;
      may = λ p tag body h. ⊎_elim (λ e. inl (page_stays v crash (e.0 ∙ h) (not_erasing t e.1)))
          (λ s. inr (spare_left (subst (λ (z : Option Mark × Cell). IsSpare t.disk.cells z.0
          (MayBeErased t.disk.blocks t.disk.erasing) z.1) (λ i. (is i, h i)) s)))
          (u.1.spare p (page_not_nothing _ _ _ h));
      place = (newest_there is).0;
      there = let n = newest_there is in mark_stays v crash n.0 m n.2 (not_erasing t n.3);
    }

    -- without a mark none is gone
    all_left : t.ledger.newest ≡ None → c ≡ u.1.opening
    all_left is = λ i p. by p (some_or_nothing (u.1.opening p)) i
      where
        blank : (p : Place) (x : Cell) → c p ≡ x → u.1.opening p ≡ Nothing → x ≡ Nothing
        blank p Nothing h out = refl
        blank p (GroupPage tag body) h out = absurd (page_not_nothing _ _ _ (left_page p tag body h) out)
        blank p (MarkPage m) h out = absurd (mark_not_nothing _ _ (left_mark p m h) out)

        by : (p : Place) → (u.1.opening p ≡ Nothing) ⊎ (u.1.opening p ≢ Nothing) → c p ≡ u.1.opening p
        by p (inl out) = blank p (c p) refl out ∙ sym out
        by p (inr some) = ⊎_elim (λ e. stays v crash some e.0 (not_erasing t e.1))
            (λ s. absurd (subst (λ z. IsSpare t.disk.cells z (MayBeErased t.disk.blocks t.disk.erasing)
            (u.1.opening p)) is s)) (u.1.spare p some)

unchanged : {t : Translation} {c : Cells} {fence : Option Fence} (u : Started t fence) {m : Option Mark} → Valid t →
    StopLeaves t c → NoneOwn t fence c → IsNewestMark c m → Unchanged (book t) t.ledger.newest c m
unchanged {t} {c} u {m} v crash none n = by t.ledger.newest refl
  where
    with_opened : OpeningRight (book t) t.ledger.newest c → Unchanged (book t) t.ledger.newest c m
    with_opened o = record {
      opened = o;
      newest_is = newest_one m t.ledger.newest o.sound.marks n o.is_newest;
      none_new = u.1.none_new;
    }

    by : (newest : Option Mark) → t.ledger.newest ≡ newest → Unchanged (book t) t.ledger.newest c m
    by None is = with_opened (subst (OpeningRight (book t) t.ledger.newest) (sym (all_left t u v crash none is))
        u.1.opened)
    by (Some first) is = with_opened (subst (λ z. OpeningRight (book t) z c) (sym is)
        (thinned (within t c v crash) (loss t u v crash none is)
        (subst (λ z. OpeningRight (book t) z u.1.opening) is u.1.opened)))

pub started : {t : Translation} (c : Cells) {fence : Option Fence} (u : Started t fence) (m : Option Mark) → Valid t →
    StopLeaves t c → IsNewestMark c m → Outcome t c m
started {t} c u None v crash n = inl (unchanged u v crash (λ p m h own. n p m h) n)
started {t} c {fence} u (Some m) v crash n = ⊎_elim
    (λ e. inl (unchanged u v crash (none (opened_below u.1.opening t.ledger.newest u.1.opened.is_newest e)) n))
    (λ own. inr record { mark = m; is = refl; image = image v crash (started_parts t u n.0.0 v crash n.0.1 own) })
    (shown_mark t u crash n.0.1)
  where
    none : m.number ≤ number_of t.ledger.newest → NoneOwn t fence c
    none low p other h own = let x = n.1 p other h in let y = own.newer in omega arith
