-- What an opened translation layer has by name and by key: pages, the lost numbers, and the contents at the life's
-- start.
use Rattle.power_loss.proofs.Common.{◌≡◌, ℕ, suc, ◌≤◌, ◌⊎◌, Bool, List, Option, Some, None, slice_get, refl, sym, ap}
use Rattle.power_loss.proofs.Common.{◌∙◌, subst, inl, inr, ⊎_elim, arith, AreWithin, Cells, GroupPage, Mark, key_of}
use Rattle.power_loss.proofs.Common.{Spot, Group, IsKept, IsNewestMark, IsWhole, fence_in, recorded_in, Entry, HasName}
use Rattle.power_loss.proofs.Common.{IsEntry, IsOpenedTranslation, StandsAt, lost_from, CellsSound, SamePage}
use Rattle.power_loss.proofs.Common.{Translation, Numbers, Fence, Place, Tag, none_in_empty, at_most, CellsRight}
use Rattle.power_loss.proofs.Common.{IsKnown, IsPageAt, book}
use Rattle.power_loss.proofs.books.PagesByName.{entry_for, is_old, old_page as page_of_name, page_new}

-- The premises of the law

-- of the numbers and the cells that the layer itself has
pub record Opened (bad : Spot → Bool) (t : Translation) : Type 0 where
  pub pages : 1 ≤ t.numbers.pages
  pub right : CellsRight t.disk.cells
  pub within : AreWithin t.numbers t.disk.cells
  pub sound : CellsSound t.disk.cells t.ledger.newest
  pub start : IsOpenedTranslation t.numbers t.disk.cells bad t

pub opened : {n : Numbers} {c : Cells} (bad : Spot → Bool) {t : Translation} → 1 ≤ n.pages → CellsRight c →
    AreWithin n c → CellsSound c t.ledger.newest → IsOpenedTranslation n c bad t → Opened bad t
opened {c} bad {t} pages right within sound start =
    let e = sym start.disk.cells in
    let f = sym start.numbers in
    record {
      pages = subst (λ z. 1 ≤ z.pages) f pages;
      right = subst CellsRight e right;
      within = subst (AreWithin t.numbers) e (subst (λ z. AreWithin z c) f within);
      sound = subst (λ z. CellsSound z t.ledger.newest) e sound;
      start = subst (λ z. IsOpenedTranslation t.numbers z bad t) e (subst (λ z. IsOpenedTranslation z c bad t) f start);
    }

-- Pages by name

-- a page that stands under the name
pub record OldPage (c : Cells) (n i : ℕ) (e : Entry) : Type 0 where
  pub place : Place
  pub tag : Tag
  pub there : c place ≡ GroupPage tag e.item.body
  pub number : tag.number ≡ n
  pub index : tag.index ≡ i
  pub key : e.item.key ≡ key_of tag
  pub size : e.size ≡ tag.size

page_of_entry : {c : Cells} {n i : ℕ} {e : Entry} → IsEntry c (record { number = n; index = i }) (Some e) →
    OldPage c n i e
page_of_entry x = record {
  place = x.0;
  tag = x.1;
  there = x.2;
  number = ap (λ z. z.number) x.3;
  index = ap (λ z. z.index) x.3;
  key = x.4;
  size = x.5;
}

-- what a page shows
abbrev pub shown : Tag → List ℕ → Entry
shown tag body = entry_for tag body

module _ {bad : Spot → Bool} {t : Translation} (o : Opened bad t) where
  pub old_page : {n i : ℕ} {e : Entry} → t.ledger.entries_before n i ≡ Some e → OldPage t.disk.cells n i e
  old_page {n} {i} h =
      page_of_entry (subst (IsEntry t.disk.cells (record { number = n; index = i })) h
      (o.start.ledger.entries_before n i))

  -- a page is the one that its name has
  pub page_is_old : {p : Place} {tag : Tag} {body : List ℕ} → t.disk.cells p ≡ GroupPage tag body →
      t.ledger.entries_before tag.number tag.index ≡ Some (shown tag body)
  page_is_old {p} {tag} {body} h = go (t.ledger.entries_before tag.number tag.index) refl
      (o.start.ledger.entries_before tag.number tag.index)
    where
      go : (x : Option Entry) → t.ledger.entries_before tag.number tag.index ≡ x → IsEntry t.disk.cells
          (record { number = tag.number; index = tag.index }) x → t.ledger.entries_before tag.number tag.index ≡ Some
          (shown tag body)
      go None is x = absurd (x p (tag, body, h, refl))
      go (Some e) is x =
          let y = page_of_entry x in
          let s : SamePage y.tag e.item.body tag body = o.sound.pages y.place p y.tag tag e.item.body body y.there h
          y.number (inl y.index) in
          is ∙ (λ j. Some (record { item = record { key = (y.key ∙ s.0) j; body = s.4 j }; size = (y.size ∙ s.3) j }))

  -- the numbers of pages that stood are at or under the top
  pub old_within : {n i : ℕ} {e : Entry} → t.ledger.entries_before n i ≡ Some e → n ≤ t.ledger.greatest_seen
  old_within {e = e} h =
      let y = old_page h in
      let z = o.start.ledger.greatest_seen.0.numbers y.place y.tag e.item.body y.there in
      let w = y.number in
      omega arith

  pub no_group : (j : ℕ) {g : Group} → slice_get t.ledger.groups j ≡ Some g → ⊥
  no_group j {g} h = none_in_empty _ j g o.start.ledger.none_new h

  -- every page is of an earlier life
  pub only_old : (n i : ℕ) {e : Entry} → IsPageAt (book t) n i e → t.ledger.entries_before n i ≡ Some e
  only_old n i {e} h = ⊎_elim (λ l. is_old (book t) n i e l h)
      (λ l. let p = page_new (book t) n l h in absurd (no_group _ p.is)) (at_most _ _)

  pub from_old : {n i : ℕ} {e : Entry} → t.ledger.entries_before n i ≡ Some e → IsPageAt (book t) n i e
  from_old {n} {i} {e} h = page_of_name (book t) n i (old_within h) h

  pub is_known : {p : Place} {tag : Tag} {body : List ℕ} → t.disk.cells p ≡ GroupPage tag body →
      IsKnown (book t) tag body
  is_known h = from_old (page_is_old h)

  -- Where pages stand

  pub stands : {p : Place} {tag : Tag} {body : List ℕ} → t.disk.cells p ≡ GroupPage tag body →
      (q : Place) × (t.ledger.standing tag.number tag.index ≡ Some q)
  stands {p} {tag} {body} h = go (t.ledger.standing tag.number tag.index) refl
      (o.start.ledger.standing tag.number tag.index)
    where
      go : (x : Option Place) → t.ledger.standing tag.number tag.index ≡ x → StandsAt t.disk.cells
          t.disk.blocks (record { number = tag.number; index = tag.index }) x →
          (q : Place) × (t.ledger.standing tag.number tag.index ≡ Some q)
      go None is x = absurd (x p (tag, body, h, refl))
      go (Some q) is x = (q, is)

  pub stands_there : (n i : ℕ) {p : Place} → t.ledger.standing n i ≡ Some p → HasName t.disk.cells
      (record { number = n; index = i }) p
  stands_there n i h = (subst (StandsAt t.disk.cells t.disk.blocks (record { number = n; index = i })) h
      (o.start.ledger.standing n i)).0

  -- The lost numbers

  -- the kept number is one that was seen
  pub kept_within : o.start.ledger.kept ≤ t.ledger.greatest_seen
  kept_within = ⊎_elim (λ l. let z = reached in omega arith)
      (λ l. at_whole (k.whole o.start.ledger.kept l (omega arith))) (at_most _ _)
    where
      k : IsKept t.disk.cells t.ledger.newest o.start.ledger.kept
      k = o.start.ledger.is_kept

      reached : k.from ≤ t.ledger.greatest_seen
      reached = ⊎_elim (λ z. omega arith)
          (λ z. ⊎_elim
          (λ w.
          let x = o.start.ledger.greatest_seen.0.frontiers w.0 w.1 w.2 w.3.there in let y = w.4 in omega arith)
          (λ w.
          let x = o.start.ledger.greatest_seen.0.marks w.0 w.1 w.2 in let y = w.3 in omega arith) z) k.recorded.reached

      at_whole : IsWhole t.disk.cells o.start.ledger.kept → o.start.ledger.kept ≤ t.ledger.greatest_seen
      at_whole w =
          let x = w.each 0 w.some in
          let y = o.start.ledger.greatest_seen.0.numbers x.0 x.1 x.2 x.3 in
          let z = x.4 in
          omega arith

  -- what the newest mark records is kept
  pub recorded_kept : recorded_in t.ledger.newest ≤ o.start.ledger.kept
  recorded_kept = go t.ledger.newest refl o.start.ledger.newest
    where
      go : (m : Option Mark) → t.ledger.newest ≡ m → IsNewestMark t.disk.cells m →
          recorded_in t.ledger.newest ≤ o.start.ledger.kept
      go None is x = let e = ap recorded_in is in omega arith
      go (Some m) is x =
          let e = ap recorded_in is in
          let y = o.start.ledger.is_kept.recorded.marks x.0.0 m x.0.1 in
          let z = o.start.ledger.is_kept.above in
          omega arith

  -- the lost numbers begin behind the kept one, or with the fence of the newest mark
  pub low_cases : ((fence_in t.ledger.newest ≡ None) × (t.ledger.first_lost ≡ suc o.start.ledger.kept)) ⊎
      ((f : Fence) × (fence_in t.ledger.newest ≡ Some f) × (t.ledger.first_lost ≡ f.first))
  low_cases = go (fence_in t.ledger.newest) refl
    where
      go : (x : Option Fence) → fence_in t.ledger.newest ≡ x →
          ((fence_in t.ledger.newest ≡ None) × (t.ledger.first_lost ≡ suc o.start.ledger.kept)) ⊎
          ((f : Fence) × (fence_in t.ledger.newest ≡ Some f) × (t.ledger.first_lost ≡ f.first))
      go None is = inl (is, o.start.ledger.first_lost ∙ ap (λ z. lost_from z o.start.ledger.kept) is)
      go (Some f) is = inr (f, is, o.start.ledger.first_lost ∙ ap (λ z. lost_from z o.start.ledger.kept) is)

  -- the ends of the newest mark's fence are in order
  pub fence_ordered : {f : Fence} → fence_in t.ledger.newest ≡ Some f → f.first ≤ f.last
  fence_ordered {f} h = go t.ledger.newest o.start.ledger.newest h
    where
      go : (m : Option Mark) → IsNewestMark t.disk.cells m → fence_in m ≡ Some f → f.first ≤ f.last
      go None x e = cc
      go (Some m) x e = o.right.fences x.0.0 m f x.0.1 e

  pub low_within : (t.ledger.first_lost ≤ suc o.start.ledger.kept) × (t.ledger.first_lost ≤ suc t.ledger.greatest_seen)
  low_within =
      let k = kept_within in
      ⊎_elim
      (λ z. let e = z.1 in
      (omega arith, omega arith))
      (λ z.
      let e = z.2 in
      let u = fence_ordered z.1 in
      let r = recorded_kept in
      let w = o.sound.fence z.0 z.1 in
      (omega arith, omega arith)) (low_cases)
