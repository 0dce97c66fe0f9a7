-- What a stop leaves is sound, suits the device, and stands for a prefix of the accepted commands.
use Rattle.power_loss.proofs.Common.{◌≡◌, ℕ, suc, ◌+◌, ◌-◌, ◌<◌, ◌≤◌, ◌⊎◌, List, length, take, Option, Some, refl, sym}
use Rattle.power_loss.proofs.Common.{ap, ◌∙◌, subst, inl, inr, ⊎_elim, arith, length-drop, Cells, GroupPage, Mark}
use Rattle.power_loss.proofs.Common.{MarkPage, key_of, put_groups, Counts, HoldAll, Holds, IsKept, IsNewestMark}
use Rattle.power_loss.proofs.Common.{IsRecorded, recorded_in, Entry, CellsSound, CellsSuit, SamePage, Translation}
use Rattle.power_loss.proofs.Common.{Fence, Place, Tag, at_most, same_Some, none-some, Book, IsPlainMark, book}
use Rattle.power_loss.proofs.Common.{IsPrefix, Valid}
use Rattle.power_loss.proofs.books.LayerParts.{StopLeaves}
use Rattle.power_loss.proofs.books.PagesByName.{entry_for, page_new, page_one, page_same}
use Rattle.power_loss.proofs.stops.ImageContents.{after_none, after_same, base_stays, holds_kept}
use Rattle.power_loss.proofs.stops.ImagePages.{kept_accepted, kept_covers, recorded_within, whole_up}
use Rattle.power_loss.proofs.stops.BookImage.{Changed, Image, IsRepairing, Unchanged}
use Rattle.power_loss.proofs.stops.LeftImage.{outcome}

-- Sound

same_named : {b : Book} {frontier marked : ℕ} {c : Cells} {m : Mark} (p q : Place) (t u : Tag) {body other : List ℕ} →
    Image b frontier marked c m → c p ≡ GroupPage t body → c q ≡ GroupPage u other → t.number ≡ u.number →
    t.index ≡ u.index → SamePage t body u other
same_named {b} p q t u {body} {other} x h l n i =
    let e : Entry = entry_for t body in
    let f : Entry = entry_for u other in
    let k = page_one b u.number u.index _ f (page_same b _ n i (x.known p t body h)) (x.known q u other l) in
    (ap (λ y. y.item.key) k, n, i, ap (λ y. y.size) k, ap (λ y. y.item.body) k)

same_page : {b : Book} {frontier marked : ℕ} {c : Cells} {m : Mark} (p q : Place) (t u : Tag) {body other : List ℕ} →
    Image b frontier marked c m → c p ≡ GroupPage t body → c q ≡ GroupPage u other → t.number ≡ u.number →
    (t.index ≡ u.index) ⊎ (key_of t ≡ key_of u) → SamePage t body u other
same_page {b} p q t u x h l n (inl i) = same_named p q t u x h l n i
same_page {b} p q t u {body} {other} x h l n (inr k) =
    let e : Entry = entry_for t body in
    let f : Entry = entry_for u other in
    same_named p q t u x h l n
    (x.right.differ u.number t.index u.index e f (page_same b _ n refl (x.known p t body h)) (x.known q u other l) k)

is_repairing : {b : Book} {m : Mark} {f : Fence} → IsRepairing b m ⊎ IsPlainMark b m → m.fence ≡ Some f →
    IsRepairing b m
is_repairing (inl r) e = r
is_repairing (inr r) e = absurd (none-some _ (sym r.none ∙ e))

-- the ends of its fence
fence_ends : {b : Book} {m : Mark} {f : Fence} → IsRepairing b m → m.fence ≡ Some f →
    (f.first ≡ b.first_lost) × (f.last ≡ b.greatest_seen)
fence_ends {f = f} r e =
    let z = same_Some f r.fence.fence (sym e ∙ r.fence.is) in
    (ap (λ y. y.first) z ∙ r.fence.first, ap (λ y. y.last) z ∙ r.fence.last)

repair_holds : {b : Book} {frontier marked : ℕ} {c : Cells} {m : Mark} (p : Place) (t : Tag) (body : List ℕ) →
    Image b frontier marked c m → IsRepairing b m → c p ≡ GroupPage t body → b.greatest_seen < t.number →
    Holds c (Some m) b.first_lost (key_of t) body
repair_holds {b = b} {c = c} {m = m} p t body x r h up =
    let e : Entry = entry_for t body in
    let k = x.known p t body h in
    let g = page_new b t.number up k in
    subst (Holds c (Some m) b.first_lost (key_of t))
    (sym (r.repairs (t.number - b.greatest_seen - 1) t.index g.group e.item g.is g.item))
    (base_stays x r.fence.records (x.right.keys t.number t.index e k))

pub image_sound : {b : Book} {frontier marked : ℕ} {c : Cells} {m : Mark} → Image b frontier marked c m →
    CellsSound c (Some m)
image_sound {b} {c} {m} x = record {
  pages = λ p q t u body other h l n i. same_page p q t u x h l n i;
  marks = x.same;
  whole = λ r n is up far. let w = recorded_within x is in whole_up x up (omega arith);
  fence = λ f e. let r = is_repairing x.good e in r.fence.records ∙ sym (fence_ends r e).1;
  repairs = λ f e p t body h up.
      let r = is_repairing x.good e in
      let z = fence_ends r e in
      let top = z.1 in
      subst (λ y. Holds c (Some m) y (key_of t) body) (sym z.0) (repair_holds p t body x r h.there (omega arith));
}

pub sound : (t : Translation) (c : Cells) (m : Option Mark) → Valid t → StopLeaves t c → IsNewestMark c m →
    CellsSound c m
sound t c m v crash n = ⊎_elim same changed (outcome v crash n)
  where
    same : Unchanged (book t) t.ledger.newest c m → CellsSound c m
    same u = subst (CellsSound c) (sym u.newest_is) u.opened.sound

    changed : Changed (book t) t.ledger.frontier (recorded_in t.ledger.newest) c m → CellsSound c m
    changed u = subst (CellsSound c) (sym u.is) (image_sound u.image)

-- Suits

pub image_suits : {b : Book} {frontier marked : ℕ} {c : Cells} {m : Mark} → Image b frontier marked c m →
    CellsSuit b.numbers c (Some m)
image_suits {m} x = record {
  config = λ newest e. inl (ap (λ y. y.numbers) (sym (same_Some m newest e)) ∙ x.numbers);
  keys = λ p t body h. x.right.keys t.number t.index (entry_for t body) (x.known p t body h);
}

pub suits : (t : Translation) (c : Cells) (m : Option Mark) → Valid t → StopLeaves t c → IsNewestMark c m →
    CellsSuit t.numbers c m
suits t c m v crash n = ⊎_elim same changed (outcome v crash n)
  where
    same : Unchanged (book t) t.ledger.newest c m → CellsSuit t.numbers c m
    same u = subst (CellsSuit t.numbers c) (sym u.newest_is) u.opened.suits

    changed : Changed (book t) t.ledger.frontier (recorded_in t.ledger.newest) c m → CellsSuit t.numbers c m
    changed u = subst (CellsSuit t.numbers c) (sym u.is) (image_suits u.image)

-- A prefix

pub image_prefix : {t : Translation} {c : Cells} {m : Mark} {kept : ℕ} → Valid t → Image (book t) t.ledger.frontier
    (recorded_in t.ledger.newest) c m → IsKept c (Some m) kept → IsPrefix t c (Some m) kept
image_prefix {t} {c} {m} {kept} v x k = ⊎_elim more less (at_most _ _)
  where
    far : t.ledger.frontier ≤ kept
    far = kept_covers x k

    near : kept ≤ t.ledger.greatest_seen + length t.ledger.groups
    near = kept_accepted x k

    here : HoldAll t.numbers c (Some m) kept (put_groups t.ledger.base
        (take (kept - t.ledger.greatest_seen) t.ledger.groups))
    here = holds_kept x kept k

    more : t.ledger.repairs ≤ kept - t.ledger.greatest_seen → IsPrefix t c (Some m) kept
    more l = record {
      count = kept - t.ledger.greatest_seen - t.ledger.repairs;
      held = ⊎_elim (λ e. omega arith) (λ e. omega (arith, far)) v.history.durable;
      durable = omega (arith, far);
      within = omega (arith, near, length-drop t.ledger.repairs t.ledger.groups);
      holds = subst (HoldAll t.numbers c (Some m) kept) (after_same t.ledger.base t.ledger.groups t.ledger.repairs
          (kept - t.ledger.greatest_seen) v.history.contents l) here;
    }

    less : kept - t.ledger.greatest_seen < t.ledger.repairs → IsPrefix t c (Some m) kept
    less l = record {
      count = 0;
      held = ⊎_elim (λ e. omega arith) (λ e. let a = v.frontier.above in absurd (omega (arith, far))) v.history.durable;
      durable = let a = v.frontier.above in omega (arith, far);
      within = omega arith;
      holds = subst (HoldAll t.numbers c (Some m) kept) (after_none t.ledger.groups t.ledger.repairs
          (kept - t.ledger.greatest_seen) v.history.contents (omega arith)) here;
    }

-- the kept number is one

recorded_le : {c : Cells} {m : Option Mark} {r s : ℕ} → IsRecorded c m r → IsRecorded c m s → r ≤ s
recorded_le {c} {m} {r} {s} g h = go g.reached
  where
    go : (r ≡ 0) ⊎ (((p : Place) × (t : Tag) × (body : List ℕ) × Counts c m p t body × (t.frontier ≡ r)) ⊎
        ((p : Place) × (other : Mark) × (c p ≡ MarkPage other) × (other.records ≡ r))) → r ≤ s
    go (inl e) = omega arith
    go (inr (inl (p, t, body, x, e))) = let y = h.pages p t body x in omega arith
    go (inr (inr (p, n, x, e))) = let y = h.marks p n x in omega arith

kept_le : {c : Cells} {m : Option Mark} {k : ℕ} {l : ℕ} → IsKept c m k → IsKept c m l → k ≤ l
kept_le {c = c} {m = m} {l = l} g h = ⊎_elim (λ x. x)
    (λ x. absurd (h.stops (g.whole (suc l) (let y = recorded_le g.recorded h.recorded in
    let z = h.above in omega arith) (omega arith)))) (at_most _ _)

kept_one : {c : Cells} {m : Option Mark} {k : ℕ} {l : ℕ} → IsKept c m k → IsKept c m l → k ≡ l
kept_one {c} {m} {k} {l} g h = let a = kept_le g h in let b = kept_le h g in omega arith

unchanged_prefix : {t : Translation} {c : Cells} {kept : ℕ} → Valid t →
    Unchanged (book t) t.ledger.newest c t.ledger.newest → IsKept c t.ledger.newest kept →
    IsPrefix t c t.ledger.newest kept
unchanged_prefix {t} {c} {kept} v u k = record {
  count = 0;
  held = let g = ap length u.none_new in let w = v.frontier.within in ⊎_elim (λ e. omega arith)
      (λ e. omega arith) v.history.durable;
  durable = let g = ap length u.none_new in let w = v.frontier.within in omega arith;
  within = omega arith;
  holds = subst (λ y. HoldAll t.numbers c t.ledger.newest y t.ledger.base) (kept_one u.opened.is_kept k) u.opened.holds;
}

pub prefix : (t : Translation) (c : Cells) (m : Option Mark) (kept : ℕ) → Valid t → StopLeaves t c → IsNewestMark c m →
    IsKept c m kept → IsPrefix t c m kept
prefix t c m kept v crash n k = ⊎_elim same changed (outcome v crash n)
  where
    same : Unchanged (book t) t.ledger.newest c m → IsPrefix t c m kept
    same u = subst (λ y. IsPrefix t c y kept) (sym u.newest_is)
        (unchanged_prefix v (record { opened = u.opened; newest_is = refl; none_new = u.none_new })
        (subst (λ y. IsKept c y kept) u.newest_is k))

    changed : Changed (book t) t.ledger.frontier (recorded_in t.ledger.newest) c m → IsPrefix t c m kept
    changed u = subst (λ y. IsPrefix t c y kept) (sym u.is) (image_prefix v u.image
        (subst (λ y. IsKept c y kept) u.is k))
