-- A block of which each page may go loses its pages: what is left shows all that is not lost.
use Rattle.power_loss.proofs.Common.{AreWithin, Cell, CellCrash, Cells, Disk, Entry, GroupPage, HasPage, IsFenced}
use Rattle.power_loss.proofs.Common.{IsLostNumber, IsNewestFinished, IsNewestMark, IsOverwritten, IsPageAt, IsPlainMark}
use Rattle.power_loss.proofs.Common.{IsReplaced, IsWritten, Key, List, Mark, MarkPage, MayErase, Mended, Mending, None}
use Rattle.power_loss.proofs.Common.{Nothing, Option, Place, Repairing, Some, SpentBy, Spot, Tag, Touches, Translation}
use Rattle.power_loss.proofs.Common.{Unmarked, Valid, ap, arith, at_spot_cases, book, false, inl, inr, key_of}
use Rattle.power_loss.proofs.Common.{mark_not_nothing, recorded_in, refl, spot_of, subst, suc, sym, true, true≢false}
use Rattle.power_loss.proofs.Common.{with_erasing, zero, ℕ, ⊎_elim, ◌+◌, ◌<◌, ◌∙◌, ◌≡◌, ◌≢◌, ◌≤◌, ◌⊎◌}
use Rattle.power_loss.proofs.MachineWords.{LosesIn, is_marked}
use Rattle.power_loss.proofs.books.LayerParts.{MarksOf, StopLeaves, MendingOf, SecureOf}
use Rattle.power_loss.proofs.collected_blocks.LivePages.{newest_is}
use Rattle.power_loss.proofs.spent.ErasedIsSpent.{entry_for, fenced_none, known_one, lost_or_not, old_page}
use Rattle.power_loss.proofs.stops.LeftCells.{stays, within}
use Rattle.power_loss.proofs.stops.BookImage.{finished_parts, Image, image, IsRepairing, IsShown, newest_stays}
use Rattle.power_loss.proofs.stops.LeftImage.{all_repairs}
use Rattle.power_loss.proofs.books.PagesByName.{overwritten_twice}

-- Pages that are gone stood on the disk

abbrev pub IsGone : Disk → Spot → Cells → Cells → Type 0
IsGone d s c left = (p : Place) → (left p ≡ c p) ⊎ ((spot_of p ≡ s) × (left p ≡ Nothing) × (c p ≡ d.cells p))

-- a page that is gone is taken to be as on the disk before
abbrev pub restored : (d : Disk) {s : Spot} (c : Cells) {left : Cells} → LosesIn s c left → Place → Cell
restored d c loses p = ⊎_elim (λ e. c p) (λ e. d.cells p) (loses p)

pub restored_crash : (d : Disk) (s : Spot) (c left : Cells) (loses : LosesIn s c left) → CellCrash d.cells d.flights c →
    CellCrash d.cells d.flights (restored d c loses)
restored_crash d s c left loses crash p = go (loses p)
  where
    go : (x : (left p ≡ c p) ⊎ ((spot_of p ≡ s) × (left p ≡ Nothing))) →
        (⊎_elim (λ e. c p) (λ e. d.cells p) x ≡ d.cells p) ⊎ ((intended : Cell) × Touches (d.flights p.die) p intended ×
        ((⊎_elim (λ e. c p) (λ e. d.cells p) x ≡ intended) ⊎ (⊎_elim (λ e. c p) (λ e. d.cells p) x ≡ Nothing)))
    go (inl e) = crash p
    go (inr e) = inl refl

pub restored_gone : (d : Disk) (s : Spot) (c left : Cells) (loses : LosesIn s c left) →
    IsGone d s (restored d c loses) left
restored_gone d s c left loses p = go (loses p)
  where
    go : (x : (left p ≡ c p) ⊎ ((spot_of p ≡ s) × (left p ≡ Nothing))) →
        (left p ≡ ⊎_elim (λ e. c p) (λ e. d.cells p) x) ⊎ ((spot_of p ≡ s) × (left p ≡ Nothing) × (⊎_elim (λ e. c p)
        (λ e. d.cells p) x ≡ d.cells p))
    go (inl e) = inl e
    go (inr e) = inr (e.0, e.1, refl)

-- What is left

some_page : {x : Cell} {tag : Tag} {body : List ℕ} → x ≡ GroupPage tag body → x ≢ Nothing
some_page e f = cc

-- the newest finished mark, and what its fence and what it records say of lost numbers
pub record Judged (t : Translation) (s : Spot) (newest : Mark) : Type 0 where
  pub fenced : (n : ℕ) → IsFenced newest.fence n → IsLostNumber (book t) n
  pub repaired : (n i : ℕ) (e : Entry) → IsPageAt (book t) n i e → (IsFenced newest.fence n → ⊥) →
      IsLostNumber (book t) n → n ≤ newest.records → IsWritten (book t) e.item.key newest.records
  pub one : (m : Mark) → IsNewestFinished (with_erasing t.disk s) m → m ≡ newest
  pub within : newest.records ≤ t.ledger.frontier

module _ (t : Translation) (s : Spot) (c left : Cells) (v : Valid t) (may : MayErase t.disk s)
    (crash : StopLeaves t c)
    (gone : IsGone t.disk s c left) where
  -- a cell that is left was there
  pub was : (p : Place) (x : Cell) → x ≢ Nothing → left p ≡ x → c p ≡ x
  was p x some h = ⊎_elim (λ e. sym e ∙ h) (λ e. absurd (some (sym h ∙ e.1))) (gone p)

  -- what no erase is near is left, if the block counts as being erased
  pub outside : (p : Place) (x : Cell) → x ≢ Nothing → t.disk.cells p ≡ x → (with_erasing t.disk s).erasing
      (spot_of p) ≡ false → left p ≡ x
  outside p x some h out = ⊎_elim (λ k. absurd (true≢false (sym k.1 ∙ out)))
      (λ k. ⊎_elim (λ e. e ∙ stays v crash some h (sym k.1 ∙ out)) (λ e. absurd (k.0 e.0)) (gone p))
      (at_spot_cases t.disk.erasing s true (spot_of p))

  -- a page that is gone was spent
  pub spent : (p : Place) (x : Cell) → x ≢ Nothing → spot_of p ≡ s → t.disk.cells p ≡ x → (m : Mark) × IsNewestFinished
      (with_erasing t.disk s) m × SpentBy (with_erasing t.disk s) m x
  spent p x some at h =
      let r = may p at (λ e. some (sym h ∙ e)) in
      subst (λ (q : Spot × Cell). (m : Mark) × IsNewestFinished (with_erasing t.disk q.0) m × SpentBy
      (with_erasing t.disk q.0) m q.1) (λ j. (at j, h j)) r

  pub mark_left : (m : Mark) (n : IsNewestFinished (with_erasing t.disk s) m) → left n.stands.place ≡ MarkPage m
  mark_left m n = outside n.stands.place (MarkPage m) (mark_not_nothing _ _ refl) n.stands.there n.stands.stays

  -- the newest mark of what is left was the newest
  pub newest_was : (m : Option Mark) → IsNewestMark left m → IsNewestMark c m
  newest_was None n = λ p other h. ⊎_elim (λ e. n p other (e ∙ h))
      (λ e.
      let r = spent p (MarkPage other) (mark_not_nothing _ _ refl) e.0 (sym e.2 ∙ h) in
      n r.1.stands.place r.0 (mark_left r.0 r.1)) (gone p)
  newest_was (Some m) n = (
    (n.0.0, was n.0.0 (MarkPage m) (mark_not_nothing _ _ refl) n.0.1),
    λ p other h. ⊎_elim (λ e. n.1 p other (e ∙ h))
        (λ e.
        let r = spent p (MarkPage other) (mark_not_nothing _ _ refl) e.0 (sym e.2 ∙ h) in
        let l = n.1 r.1.stands.place r.0 (mark_left r.0 r.1) in
        let k = r.2 in
        omega arith) (gone p),
  )

  -- A mark by which pages are judged

  module _ (newest : Mark) (is : t.ledger.newest ≡ Some newest) (judged : Judged t s newest) where
    abbrev Over : ℕ → Key → Type 0
    Over n k = IsOverwritten (book t) n k (recorded_in t.ledger.newest)

    -- so a page that was replaced is overwritten by one that is not lost
    replaced_over : {tag : Tag} {k : Key} → key_of tag ≡ k → IsReplaced (with_erasing t.disk s) newest tag →
        Over tag.number k
    replaced_over {tag} {k} key r = ⊎_elim lost free (lost_or_not)
      where
        known : IsPageAt (book t) r.tag.number r.tag.index (entry_for r.tag r.body)
        known = v.pages.known r.place r.tag r.body r.there

        lost : IsLostNumber (book t) r.tag.number → Over tag.number k
        lost l =
            let w = judged.repaired r.tag.number r.tag.index (entry_for r.tag r.body) known r.counts l r.recorded in
            let new = w.new in let in_time = w.within in let to = l.to in let up = r.newer in
            let same = ap recorded_in is in
            record {
              number = w.number;
              index = w.index;
              page = w.page;
              is = w.is;
              key = w.key ∙ r.key ∙ key;
              newer = omega arith;
              within = omega arith;
              free = λ z. let y = z.to in omega arith;
            }

        free : (IsLostNumber (book t) r.tag.number → ⊥) → Over tag.number k
        free f =
            let same = ap recorded_in is in
            let far = r.recorded in
            record {
              number = r.tag.number;
              index = r.tag.index;
              page = entry_for r.tag r.body;
              is = known;
              key = r.key ∙ key;
              newer = r.newer;
              within = omega arith;
              free = f;
            }

    -- a page that stands securely is left, or is overwritten
    secure_left : {n : ℕ} (i : ℕ) (e : Entry) → IsPageAt (book t) n i e → (IsLostNumber (book t) n → ⊥) →
        SecureOf t n i → HasPage left n i ⊎ Over n e.item.key
    secure_left {n} i e page free q = ⊎_elim
        (λ h. inl (q.place, q.tag, q.body, h ∙ stays v crash (some_page refl) q.there q.stays, q.number, q.index))
        (λ h. lost (spent q.place (GroupPage q.tag q.body) (some_page refl) h.0 q.there)) (gone q.place)
      where
        by : SpentBy (with_erasing t.disk s) newest (GroupPage q.tag q.body) → HasPage left n i ⊎ Over n e.item.key
        by (inl f) = absurd (free (subst (IsLostNumber (book t)) q.number (judged.fenced q.tag.number f)))
        by (inr (inl copy)) =
            let there = outside copy.place (GroupPage copy.tag q.body) (some_page refl) copy.there copy.stays in
            inl (copy.place, copy.tag, q.body, there, sym copy.same.1 ∙ q.number, sym copy.same.2 ∙ q.index)
        by (inr (inr r)) =
            let k = known_one (book t) q.tag page (v.pages.known q.place q.tag q.body q.there) q.number q.index in
            inr (subst (λ z. Over z e.item.key) q.number (replaced_over (sym (ap (λ x. x.item.key) k)) r))

        lost : (m : Mark) × IsNewestFinished (with_erasing t.disk s) m × SpentBy (with_erasing t.disk s) m
            (GroupPage q.tag q.body) → HasPage left n i ⊎ Over n e.item.key
        lost r = by (subst (λ m. SpentBy (with_erasing t.disk s) m (GroupPage q.tag q.body)) (judged.one r.0 r.1) r.2)

    compose : (n i : ℕ) (e : Entry) (o : Over n e.item.key) →
        IsShown (book t) (recorded_in t.ledger.newest) left o.number o.index o.page →
        IsShown (book t) (recorded_in t.ledger.newest) left n i e
    compose n i e o (inl h) = inr (o, h)
    compose n i e o (inr h) = inr (overwritten_twice o h.0, h.1)

    -- what is not lost is shown, or a page that overwrites it is
    shown_step : {n : ℕ} (i : ℕ) (e : Entry) → n ≤ t.ledger.frontier → IsPageAt (book t) n i e →
        (IsLostNumber (book t) n → ⊥) → HasPage left n i ⊎ Over n e.item.key
    shown_step {n} i e up page free =
        let q = v.frontier.stand n i e up page in
        ⊎_elim (λ h. secure_left i e page free h) (λ h. inr h.by) (v.safe.safe n i e q.0 page q.1 free)

    marked_within : recorded_in t.ledger.newest ≤ t.ledger.frontier
    marked_within = let e = ap recorded_in is in let w = judged.within in omega arith

    shown_by : (fuel : ℕ) {n : ℕ} (i : ℕ) (e : Entry) → recorded_in t.ledger.newest < n + fuel → n ≤ t.ledger.frontier →
        IsPageAt (book t) n i e → (IsLostNumber (book t) n → ⊥) →
        IsShown (book t) (recorded_in t.ledger.newest) left n i e
    shown_by zero {n} i e l up page free =
        ⊎_elim (λ h. inl h) (λ o. let a = o.newer in let b = o.within in absurd (omega arith))
        (shown_step i e up page free)
    shown_by (suc fuel) {n} i e l up page free = ⊎_elim (λ h. inl h)
        (λ o.
        let a = o.newer in let b = o.within in let w = marked_within in
        compose n i e o (shown_by fuel o.index o.page (omega arith) (omega arith) o.is o.free))
        (shown_step i e up page free)

    pub image_left : {m : Mark} → IsNewestMark left (Some m) → Image (book t) t.ledger.frontier
        (recorded_in t.ledger.newest) c m → Image (book t) t.ledger.frontier (recorded_in t.ledger.newest) left m
    image_left n x = record {
      right = x.right;
      top = x.top;
      last = x.last;
      known = λ p tag body h. x.known p tag body (was p (GroupPage tag body) (some_page refl) h);
      recorded = λ p tag body h. x.recorded p tag body (was p (GroupPage tag body) (some_page refl) h);
      marks = λ p other h. x.marks p other (was p (MarkPage other) (mark_not_nothing _ _ refl) h);
      same = λ p q a other h k. x.same p q a other (was p (MarkPage a) (mark_not_nothing _ _ refl) h)
          (was q (MarkPage other) (mark_not_nothing _ _ refl) k);
      place = n.0.0;
      there = n.0.1;
      above = x.above;
      good = x.good;
      whole = x.whole;
      shown = λ k i e up page free. shown_by (suc (recorded_in t.ledger.newest)) i e (omega arith) up page free;
      numbers = x.numbers;
    }

-- What holds of it

pub record Marked (t : Translation) : Type 0 where
  pub newest : Mark
  pub is : t.ledger.newest ≡ Some newest
  pub right : MarksOf t newest
  pub good : IsRepairing (book t) newest ⊎ IsPlainMark (book t) newest

pub marked : {t : Translation} (w : Mending) → Valid t → t.work.mending ≡ w → is_marked w ≡ true → MendingOf t w →
    Marked t
marked (Unmarked fence lost) v e h r = cc
marked {t} (Repairing left) v e h r = record {
  newest = r.mark;
  is = r.is;
  right = r.right;
  good = inl (record { fence = r.more.fence; repairs = all_repairs v e });
}
marked Mended v e h r = record { newest = r.mark; is = r.is; right = r.right; good = inr r.more }

pub record ImageLeft (t : Translation) (left : Cells) (m : Option Mark) : Type 0 where
  pub mark : Mark
  pub is : m ≡ Some mark
  pub image : Image (book t) t.ledger.frontier (recorded_in t.ledger.newest) left mark

judged_by : (t : Translation) (s : Spot) (k : Marked t) → Judged t s k.newest
judged_by t s k = record {
  fenced = λ n f. ⊎_elim (λ r.
      let g : IsFenced (Some r.fence.fence) n = subst (λ z. IsFenced z n) r.fence.is f in
      let l = g.0 in let u = g.1 in let a = r.fence.first in let b = r.fence.last in
      record { from = omega arith; to = omega arith }) (λ p. absurd (fenced_none k.newest.fence n p.none f)) k.good;
  repaired = λ n i e page counts lost far. ⊎_elim (λ r. absurd (counts (subst (λ z. IsFenced z n) (sym r.fence.is)
      (let a = r.fence.first in let b = r.fence.last in let x = lost.from in let y = lost.to in
      (omega arith, omega arith))))) (λ p. p.repaired n i e lost (old_page (book t) n i e lost.to page)) k.good;
  one = λ m n. newest_is t s k.newest m k.right n;
  within = k.right.within;
}

pub left_image : {t : Translation} (s : Spot) (c : Cells) {left : Cells} (m : Option Mark) → Valid t → Marked t →
    MayErase t.disk s → StopLeaves t c → IsGone t.disk s c left → IsNewestMark left m → ImageLeft t left m
left_image {t} s c {left} None v k may crash gone n =
    absurd (newest_was t s c left v may crash gone None n k.right.stands.place k.newest (newest_stays v crash k.right))
left_image {t} s c {left} (Some m) v k may crash gone n =
    let b = newest_was t s c left v may crash gone (Some m) n in
    let up = b.1 k.right.stands.place k.newest (newest_stays v crash k.right) in
    let x = image v crash (finished_parts v crash k.right k.is k.good b.0.1 up) in
    record { mark = m; is = refl; image = image_left t s c left v may crash gone k.newest k.is (judged_by t s k) n x }

pub left_within : (t : Translation) (s : Spot) (c left : Cells) → Valid t → StopLeaves t c → LosesIn s c left →
    AreWithin t.numbers left
left_within t s c left v crash loses p out = ⊎_elim (λ e. e ∙ within t c v crash p out) (λ e. e.1) (loses p)
