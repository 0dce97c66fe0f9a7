-- The contents at the life's start, by the pages of earlier lives.
use Rattle.power_loss.proofs.Common.{◌≡◌, ℕ, suc, ◌<◌, ◌≤◌, ◌⊎◌, Bool, List, Option, Some, None, sym, ◌∙◌, subst, inl}
use Rattle.power_loss.proofs.Common.{inr, ⊎_elim, arith, GroupPage, Spot, Counts, Holds, IsFenced, fence_in, Entry}
use Rattle.power_loss.proofs.Common.{Name, IsFirst, zero_block, SamePage, Translation, Fence, Key, Place, Tag, at_most}
use Rattle.power_loss.proofs.Common.{BaseAt, BaseNone, BookRight, FirstRight, HasKey, IsPageAt, book}
use Rattle.ufs_spec.specs.Kept.{HasNone, IsNewest}
use Rattle.power_loss.proofs.openings.FirstPages.{first_held}
use Rattle.power_loss.proofs.openings.OpenedByName.{Opened, low_cases, low_within, no_group, old_page, old_within}
use Rattle.power_loss.proofs.openings.OpenedByName.{only_old, page_is_old, shown}

-- no page below the lost numbers is of the key
abbrev NoneBelow : Translation → Key → Type 0
NoneBelow t k = (n i : ℕ) (e : Entry) → t.ledger.entries_before n i ≡ Some e → e.item.key ≡ k →
    n < t.ledger.first_lost → ⊥

-- none of them is above the number
abbrev LastBelow : Translation → Key → ℕ → Type 0
LastBelow t k number = (n i : ℕ) (e : Entry) → t.ledger.entries_before n i ≡ Some e → e.item.key ≡ k →
    n < t.ledger.first_lost → n ≤ number

module _ {bad : Spot → Bool} {t : Translation} (o : Opened bad t) where
  -- a page below the lost numbers counts
  below_counts : {p : Place} {tag : Tag} {body : List ℕ} → t.disk.cells p ≡ GroupPage tag body →
      tag.number < t.ledger.first_lost → Counts t.disk.cells t.ledger.newest p tag body
  below_counts {tag} h l = record { there = h; free = free }
    where
      free : IsFenced (fence_in t.ledger.newest) tag.number → ⊥
      free x = ⊎_elim (λ z. subst (λ f. IsFenced f tag.number) z.0 x)
          (λ z.
          let y : (z.0.first ≤ tag.number) × (tag.number ≤ z.0.last) = subst (λ f. IsFenced f tag.number) z.1 x in
          let u = y.0 in let w = z.2 in omega arith) (low_cases o)

  last_below : {k : Key} {bound : ℕ} {p : Place} {tag : Tag} {body : List ℕ} → t.ledger.first_lost ≤ bound →
      IsNewest t.disk.cells t.ledger.newest bound k p tag body → LastBelow t k tag.number
  last_below up x n i e h key low =
      let y = old_page o h in
      let w = y.number in
      let c = below_counts y.there (omega arith) in
      let z = x.greatest y.place y.tag e.item.body c (sym y.key ∙ key) (omega arith) in
      omega arith

  none_below : {k : Key} {bound : ℕ} → t.ledger.first_lost ≤ bound → HasNone t.disk.cells t.ledger.newest bound k →
      NoneBelow t k
  none_below up x n i e h key low =
      let y = old_page o h in
      let w = y.number in
      let c = below_counts y.there (omega arith) in
      let z = x y.place y.tag e.item.body c (sym y.key ∙ key) in
      omega arith

  -- The base

  newest_base : {k : Key} {bound : ℕ} {p : Place} {tag : Tag} → t.ledger.first_lost ≤ bound →
      IsNewest t.disk.cells t.ledger.newest bound k p tag (t.ledger.base k) → tag.number < t.ledger.first_lost →
      BaseAt (book t) k
  newest_base {k = k} {tag = tag} up x low = record {
    number = tag.number;
    index = tag.index;
    size = tag.size;
    is = page_is_old o x.counts.there ∙ (λ j. Some (record {
      item = record { key = x.key j; body = t.ledger.base k };
      size = tag.size;
    }));
    below = low;
    last = last_below up x;
  }

  none_base : {k : Key} {bound : ℕ} → t.ledger.first_lost ≤ bound → HasNone t.disk.cells t.ledger.newest bound k →
      t.ledger.base k ≡ zero_block → BaseNone (book t) k
  none_base up x zeros = record { none = none_below up x; zeros = zeros }

  -- a page that counts above the lost numbers has the content of its key below them
  repaired_base : {k : Key} {p : Place} {tag : Tag} → IsNewest t.disk.cells t.ledger.newest
      (suc o.start.ledger.kept) k p tag (t.ledger.base k) → t.ledger.first_lost ≤ tag.number →
      BaseAt (book t) k ⊎ BaseNone (book t) k
  repaired_base {k} {p} {tag} x low = ⊎_elim (λ z. absurd (let u = x.within in let w = z.1 in omega arith))
      (λ z. at_fence z.0 z.1 z.2) (low_cases o)
    where
      above : (f : Fence) → fence_in t.ledger.newest ≡ Some f → t.ledger.first_lost ≡ f.first → f.last < tag.number
      above f is e = ⊎_elim (λ l. absurd (x.counts.free (subst (λ z. IsFenced z tag.number) (sym is) (omega arith, l))))
          (λ l. l) (at_most _ _)

      at_fence : (f : Fence) → fence_in t.ledger.newest ≡ Some f → t.ledger.first_lost ≡ f.first →
          BaseAt (book t) k ⊎ BaseNone (book t) k
      at_fence f is e = ⊎_elim
          (λ r.
          let w = r.2.within in inl (newest_base (omega arith) r.2 (omega arith)))
          (λ r. inr (none_base (omega arith) r.0 r.1))
          (subst (λ z. Holds t.disk.cells t.ledger.newest f.first z (t.ledger.base k)) x.key (o.sound.repairs f is p tag
          (t.ledger.base k) x.counts (above f is e)))

  base_is : {k : Key} → HasKey (book t) k → BaseAt (book t) k ⊎ BaseNone (book t) k
  base_is {k} has = ⊎_elim
      (λ x. ⊎_elim (λ l. repaired_base x.2 l) (λ l. inl (newest_base (low_within o).0 x.2 l))
      (at_most _ _)) (λ x. inr (none_base (low_within o).0 x.0 x.1)) (o.start.ledger.holds k has)

  -- The name of a key's content

  first_is : (k : Key) → HasKey (book t) k → FirstRight (book t) k (t.ledger.first_page k)
  first_is k has = go (t.ledger.first_page k) (o.start.ledger.first_page k has)
    where
      up : t.ledger.first_lost ≤ suc o.start.ledger.kept
      up = (low_within o).0

      go : (x : Option Name) → IsFirst t.disk.cells t.ledger.newest o.start.ledger.kept k x → FirstRight (book t) k x
      go None x = none_below up x
      go (Some name) (p, tag, body, x, is) = subst (λ z. FirstRight (book t) k (Some z)) is (
        shown tag body,
        page_is_old o x.counts.there,
        x.key,
        ⊎_elim (λ l. inl record { from = l; to = o.start.ledger.greatest_seen.0.numbers p tag body x.counts.there })
            (λ l. inr (l, last_below up x)) (at_most _ _),
      )

  -- The book

  keys : (n i : ℕ) (e : Entry) → IsPageAt (book t) n i e → HasKey (book t) e.item.key
  keys n i e h =
      let y = old_page o (only_old o n i h) in
      subst (HasKey (book t)) (sym y.key) (o.start.suits.keys y.place y.tag e.item.body y.there)

  differ : (n : ℕ) {i j : ℕ} (e f : Entry) → IsPageAt (book t) n i e → IsPageAt (book t) n j f →
      e.item.key ≡ f.item.key → i ≡ j
  differ n {i} {j} e f h l key =
      let y = old_page o (only_old o n i h) in
      let z = old_page o (only_old o n j l) in
      let s : SamePage y.tag e.item.body z.tag f.item.body =
      o.sound.pages y.place z.place y.tag z.tag e.item.body f.item.body y.there z.there (y.number ∙ sym z.number)
      (inr (sym y.key ∙ key ∙ z.key)) in
      sym y.index ∙ s.2 ∙ z.index

  pub book_is_right : BookRight (book t)
  book_is_right = record {
    pages = o.pages;
    keys = λ n i e h. keys n i e h;
    differ = λ n i j e f h l key. differ n e f h l key;
    some = λ j g h. absurd (no_group o j h);
    old_within = λ n i e h. old_within o h;
    first_lost = (low_within o).1;
    base = λ k has. base_is has;
    first_page = λ k has. first_is k has;
    first_content = λ k name has first.
        first_held t.disk.cells t.ledger.newest o.start.ledger.kept k (t.ledger.base k) (t.ledger.first_page k) name
        (t.ledger.entries_before name.number name.index) o.sound (o.start.ledger.first_page k has)
        (o.start.ledger.holds k has) first (o.start.ledger.entries_before name.number name.index);
  }
