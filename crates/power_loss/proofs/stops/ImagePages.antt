-- What an image of a book shows: the pages of whole groups, and the number up to which all is kept.
use Rattle.power_loss.proofs.Common.{◌≡◌, ℕ, ◌-◌, ◌<◌, ◌≤◌, ◌⊎◌, List, length, Some, slice_get, refl, sym, ap, ◌∙◌, inl}
use Rattle.power_loss.proofs.Common.{inr, ⊎_elim, arith, slice_get_within, Cells, GroupPage, Mark, MarkPage, key_of}
use Rattle.power_loss.proofs.Common.{Group, Counts, HasPage, IsKept, IsRecorded, IsWhole, Entry, Place, Tag, at_most}
use Rattle.power_loss.proofs.Common.{same_Some, Book, IsLostNumber, IsPageAt, IsWholeOld, last_number}
use Rattle.std.proofs.lemmas.Option.{slice_get_cases}
use Rattle.power_loss.proofs.books.PagesByName.{entry_for, is_old, new_page, old_page, page_new, page_one, page_same}
use Rattle.power_loss.proofs.books.PagesByName.{page_within}
use Rattle.power_loss.proofs.stops.BookImage.{Image, IsShown}

-- Pages of an image

same_group : (b : Book) (j : ℕ) {g : Group} {h : Group} → slice_get b.groups j ≡ Some g →
    slice_get b.groups j ≡ Some h → length h ≡ length g
same_group b j {g} {h} p q = ap length (same_Some h g (sym q ∙ p))

module _ {b : Book} {frontier marked : ℕ} {c : Cells} {m : Mark} (x : Image b frontier marked c m) where
  -- what the page there has is what its name has
  pub read_page : {n i : ℕ} {e : Entry} {p : Place} {t : Tag} {body : List ℕ} → IsPageAt b n i e →
      c p ≡ GroupPage t body → t.number ≡ n → t.index ≡ i → (key_of t ≡ e.item.key) × (body ≡ e.item.body)
  read_page {n} {i} {e} {p} {t} {body} is h tn ti =
      let k = page_same b _ tn ti (x.known p t body h) in
      let q = page_one b n i _ e k is in
      (ap (λ y. y.item.key) q, ap (λ y. y.item.body) q)

  -- above what the newest mark records no page is lost
  free_above : {n : ℕ} (i : ℕ) (e : Entry) → m.records < n → IsPageAt b n i e → IsLostNumber b n → ⊥
  free_above {n} i e up is lost = ⊎_elim (λ r. let y = r.fence.records in let z = lost.to in omega arith)
      (λ r. let w = r.repaired n i e lost (is_old b _ _ _ lost.to is) in let y = w.new in let z = w.within in
      let l = lost.to in
      omega arith) x.good

  there_above : (n i : ℕ) {e : Entry} → m.records < n → n ≤ frontier → IsPageAt b n i e → HasPage c n i
  there_above n i {e} up far is = ⊎_elim (λ h. h)
      (λ h. absurd (let y = h.0.newer in
      let z = h.0.within in let a = x.above in omega arith)) (x.shown n i e far is (free_above i e up is))

  whole_old : {n : ℕ} → m.records < n → n ≤ b.greatest_seen → IsWhole c n
  whole_old {n} up low = record {
    size = w.size;
    some = w.some;
    one_size = λ p t body h tn.
        let e : Entry = entry_for t body in
        w.one_size t.index e (is_old b _ _ _ low (page_same b _ tn refl (x.known p t body h)));
    each = λ i l. let e = w.each i l in there_above n i up (let y = x.top in omega arith) (old_page b _ _ low e.1);
  }
    where
      w : IsWholeOld b n
      w = x.whole n up low

  -- the size that a page of the group says
  size_said : {n : ℕ} {g : Group} → b.greatest_seen < n → slice_get b.groups (n - b.greatest_seen - 1) ≡ Some g →
      (p : Place) (t : Tag) (body : List ℕ) → c p ≡ GroupPage t body → t.number ≡ n → t.size ≡ length g
  size_said {n} {g} up is p t body h tn =
      let e : Entry = entry_for t body in
      let k = page_new b n up (page_same b _ tn refl (x.known p t body h)) in
      k.size ∙ same_group b (n - b.greatest_seen - 1) is k.is

  whole_new : {n : ℕ} → m.records < n → b.greatest_seen < n → n ≤ frontier → IsWhole c n
  whole_new {n} up high far = ⊎_elim (λ r. with_group r.0 r.2)
      (λ r. absurd (let l = r.0 in let z = x.last in omega arith))
      (slice_get_cases b.groups (n - b.greatest_seen - 1)).1
    where
      with_group : (g : Group) → slice_get b.groups (n - b.greatest_seen - 1) ≡ Some g → IsWhole c n
      with_group g is = record {
        size = length g;
        some = x.right.some (n - b.greatest_seen - 1) g is;
        one_size = λ p t body h tn. size_said high is p t body h tn;
        each = λ i l. ⊎_elim (λ r. there_above n i up far (new_page b n i (record { item = r.0; size = length g }) high
            (record { group = g; is = is; item = r.2; size = refl }))) (λ r. absurd (let z = r.0 in omega arith))
            (slice_get_cases g i).1;
      }

  -- each group above what the newest mark records, up to the frontier, is whole
  pub whole_up : {n : ℕ} → m.records < n → n ≤ frontier → IsWhole c n
  whole_up {n} up far = ⊎_elim (λ l. whole_old up l) (λ l. whole_new up l far) (at_most _ _)

  -- The kept number of an image

  pub recorded_within : {r : ℕ} → IsRecorded c (Some m) r → r ≤ frontier
  recorded_within {r} g = go g.reached
    where
      go : (r ≡ 0) ⊎ (((p : Place) × (t : Tag) × (body : List ℕ) × Counts c (Some m) p t body × (t.frontier ≡ r)) ⊎
          ((p : Place) × (other : Mark) × (c p ≡ MarkPage other) × (other.records ≡ r))) → r ≤ frontier
      go (inl e) = omega arith
      go (inr (inl (p, t, body, h, e))) = let k = x.recorded p t body h.there in omega arith
      go (inr (inr (p, other, h, e))) = let k = x.marks p other h in omega arith

  pub kept_covers : {kept : ℕ} → IsKept c (Some m) kept → frontier ≤ kept
  kept_covers k = ⊎_elim (λ h. h)
      (λ less. absurd (k.stops (let a = k.above in let r = k.recorded.marks x.place m x.there in whole_up
      (omega arith) (omega arith)))) (at_most _ _)

  whole_is_known : {n : ℕ} → IsWhole c n → n ≤ last_number b
  whole_is_known w =
      let h = w.each 0 w.some in
      let k = page_within b _ h.1.index _ (x.known h.0 h.1 h.2 h.3) in
      let e = h.4 in
      omega arith

  pub kept_accepted : {kept : ℕ} → IsKept c (Some m) kept → kept ≤ last_number b
  kept_accepted {kept} k = ⊎_elim (λ h. h)
      (λ more. let g = recorded_within k.recorded in let l = x.last in
      whole_is_known (k.whole kept (omega arith) (omega arith))) (at_most _ _)

  -- each page of a whole group of this life is there
  whole_has : {n : ℕ} (i : ℕ) (e : Entry) → b.greatest_seen < n → IsWhole c n → IsPageAt b n i e → HasPage c n i
  whole_has {n} i e up w is =
      let g = page_new b n up is in
      let l = slice_get_within g.group i e.item g.item in
      let h = w.each 0 w.some in
      let s = size_said up g.is h.0 h.1 h.2 h.3 h.4 in
      let z = w.one_size h.0 h.1 h.2 h.3 h.4 in
      w.each i (omega arith)

  -- a page at or under the kept number that is not lost is shown
  pub shown_kept : {kept n i : ℕ} {e : Entry} → IsKept c (Some m) kept → n ≤ kept → IsPageAt b n i e →
      (IsLostNumber b n → ⊥) → IsShown b marked c n i e
  shown_kept {n} {i} {e} k far is free = ⊎_elim (λ l. x.shown n i e l is free)
      (λ l. let g = recorded_within k.recorded in let a = x.top in
      inl (whole_has i e (omega arith) (k.whole n (omega arith) far) is)) (at_most _ _)
