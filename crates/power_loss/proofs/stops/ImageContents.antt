-- The content of each key in what a stop leaves.
use Rattle.power_loss.proofs.Common.{◌≡◌, ◌≢◌, ℕ, zero, suc, ◌+◌, ◌-◌, ◌<◌, ◌≤◌, ◌⊎◌, List, [], ◌∷◌, drop, length, take}
use Rattle.power_loss.proofs.Common.{Some, slice_get, refl, sym, ap, ◌∙◌, subst, inl, inr, ⊎_elim, arith, Cells}
use Rattle.power_loss.proofs.Common.{GroupPage, Mark, key_of, Contents, Group, Item, put_group, put_groups, same_key}
use Rattle.power_loss.proofs.Common.{Counts, HasPage, HoldAll, Holds, IsFenced, IsKept, fence_in, Entry, Key, Place}
use Rattle.power_loss.proofs.Common.{Tag, at_most, cond-false, cond-true, BaseAt, BaseNone, Book, HasKey, IsLostNumber}
use Rattle.power_loss.proofs.Common.{IsOverwritten, IsPageAt, IsPlainMark, IsWritten, same_Some}
use Rattle.ufs_spec.proofs.Equalities.{key_cases}
use Rattle.power_loss.proofs.books.PagesByName.{entry_for, is_old, new_page, old_page, page_new}
use Rattle.power_loss.proofs.stops.ImagePages.{kept_covers, read_page, shown_kept}
use Rattle.power_loss.proofs.stops.BookImage.{Image, IsRepairing}

-- Contents after groups

-- the group has the key, or it has not
abbrev Found : Group → Contents → Key → Type 0
Found g f k = ((i : ℕ) × (item : Item) × (slice_get g i ≡ Some item) × (item.key ≡ k) × (put_group f g k ≡ item.body))
    ⊎ (((i : ℕ) (item : Item) → slice_get g i ≡ Some item → item.key ≡ k → ⊥) × (put_group f g k ≡ f k))

miss_here : (x : Item) (g : Group) {k : Key} → x.key ≢ k → ((i : ℕ) (item : Item) → slice_get g i ≡ Some item →
    item.key ≡ k → ⊥) → (i : ℕ) (item : Item) → slice_get (x ∷ g) i ≡ Some item → item.key ≡ k → ⊥
miss_here x g other h zero item is e = other (ap (λ y. y.key) (same_Some x item is) ∙ e)
miss_here x g other h (suc i) item is e = h i item is e

found : (g : Group) (f : Contents) {k : Key} → Found g f k
found [] f = inr ((λ i item e. cc), refl)
found (x ∷ g) f {k} = ⊎_elim (λ h. inl (0, x, refl, h.1, cond-true (same_key x.key k) x.body (put_group f g k) h.0))
    (λ h. ⊎_elim (λ r. inl (suc r.0, r.1, r.2, r.3, cond-false (same_key x.key k) x.body (put_group f g k) h.0 ∙ r.4))
    (λ r. inr (miss_here x g h.1 r.0, cond-false (same_key x.key k) x.body (put_group f g k) h.0 ∙ r.1)) (found g f))
    (key_cases x.key k)

-- no group below the bound has the key at or behind the number
abbrev NoneFrom : List Group → ℕ → ℕ → Key → Type 0
NoneFrom gs from bound k = (j i : ℕ) (g : Group) (item : Item) → from ≤ j → j < bound → slice_get gs j ≡ Some g →
    slice_get g i ≡ Some item → item.key ≡ k → ⊥

-- the last of the groups below the bound that has the key
record LastWrite (gs : List Group) (bound : ℕ) (k : Key) (body : List ℕ) : Type 0 where
  pub number : ℕ
  pub index : ℕ
  pub group : Group
  pub item : Item
  pub is : slice_get gs number ≡ Some group
  pub there : slice_get group index ≡ Some item
  pub key : item.key ≡ k
  pub content : item.body ≡ body
  pub below : number < bound
  pub last : NoneFrom gs (suc number) bound k

abbrev Cases : Contents → List Group → ℕ → Key → Type 0
Cases f gs bound k = LastWrite gs bound k (put_groups f (take bound gs) k) ⊎
    (NoneFrom gs 0 bound k × (put_groups f (take bound gs) k ≡ f k))

later_next : (g : Group) (gs : List Group) {from bound : ℕ} (k : Key) → NoneFrom gs from bound k →
    NoneFrom (g ∷ gs) (suc from) (suc bound) k
later_next g gs k h zero i x item l u is there key = omega arith
later_next g gs k h (suc j) i x item l u is there key = h j i x item (omega arith) (omega arith) is there key

none_next : (g : Group) (gs : List Group) {bound : ℕ} {k : Key} → ((i : ℕ) (item : Item) → slice_get g i ≡ Some item →
    item.key ≡ k → ⊥) → NoneFrom gs 0 bound k → NoneFrom (g ∷ gs) 0 (suc bound) k
none_next g gs other h zero i x item l u is there key = other i item (subst (λ y. slice_get y i ≡ Some item)
    (same_Some x g (sym is)) there) key
none_next g gs other h (suc j) i x item l u is there key = h j i x item (omega arith) (omega arith) is there key

cases_next : (f : Contents) (g : Group) (gs : List Group) (bound : ℕ) (k : Key) → Cases (put_group f g) gs bound k →
    Found g f k → Cases f (g ∷ gs) (suc bound) k
cases_next f g gs bound k (inl h) r = inl record {
  number = suc h.number;
  index = h.index;
  group = h.group;
  item = h.item;
  is = h.is;
  there = h.there;
  key = h.key;
  content = h.content;
  below = let b = h.below in omega arith;
  last = later_next g gs {from = (suc h.number)} {bound = bound} k h.last;
}
cases_next f g gs bound k (inr h) (inl r) = inl record {
  number = 0;
  index = r.0;
  group = g;
  item = r.1;
  is = refl;
  there = r.2;
  key = r.3;
  content = sym r.4 ∙ sym h.1;
  below = omega arith;
  last = later_next g gs k h.0;
}
cases_next f g gs bound k (inr h) (inr r) = inr (none_next g gs r.0 h.0, h.1 ∙ r.1)

-- what the content of a key is after the groups below the bound, and why
after_cases : (f : Contents) (gs : List Group) (bound : ℕ) {k : Key} → Cases f gs bound k
after_cases f [] zero = inr ((λ j i g item l u is. cc), refl)
after_cases f [] (suc bound) = inr ((λ j i g item l u is. cc), refl)
after_cases f (g ∷ gs) zero = inr ((λ j i x item l u. omega arith), refl)
after_cases f (g ∷ gs) (suc bound) {k} = cases_next f g gs bound k (after_cases (put_group f g) gs bound) (found g f)

-- Which pages count

-- a new page of the key has a number at or under the last write
new_none : (b : Book) {from kept n : ℕ} (i : ℕ) {k : Key} {e : Entry} → NoneFrom b.groups from
    (kept - b.greatest_seen) k → IsPageAt b n i e → e.item.key ≡ k → b.greatest_seen + from < n → n ≤ kept → ⊥
new_none b {n} i {e} none is key up far =
    let g = page_new b n (omega arith) is in
    none (n - b.greatest_seen - 1) i g.group e.item (omega arith) (omega arith) g.is g.item key

-- what overwrites it is of this life
overwritten_new : (b : Book) {k : Key} {bound : ℕ} (a : BaseAt b k) → (o : IsOverwritten b a.number k bound) →
    b.greatest_seen < o.number
overwritten_new b a o = ⊎_elim
    (λ l. ⊎_elim (λ low. absurd (o.free record { from = low; to = l }))
    (λ low. absurd (let z = a.last o.number o.index o.page (is_old b _ _ _ l o.is) o.key low in let n = o.newer in
    omega arith)) (at_most _ _)) (λ l. l) (at_most _ _)

last_is : (b : Book) (kept : ℕ) {k : Key} {body : List ℕ} (l : LastWrite b.groups (kept - b.greatest_seen) k body) →
    IsPageAt b (suc (b.greatest_seen + l.number)) l.index (record { item = l.item; size = length l.group })
last_is b kept l =
    let e : suc (b.greatest_seen + l.number) - b.greatest_seen - 1 ≡ l.number = omega arith in
    new_page b (suc (b.greatest_seen + l.number)) l.index (record { item = l.item; size = length l.group })
    (omega arith) (record { group = l.group; is = (ap (slice_get b.groups) e ∙ l.is); item = l.there; size = refl })

module _ {b : Book} {frontier marked : ℕ} {c : Cells} {m : Mark} (x : Image b frontier marked c m) where
  -- a page that is not lost counts
  pub free_counts : {p : Place} {t : Tag} {body : List ℕ} → c p ≡ GroupPage t body → (IsLostNumber b t.number → ⊥) →
      Counts c (Some m) p t body
  free_counts {t} h free = record { there = h; free = ⊎_elim by_fence by_none x.good }
    where
      by_fence : IsRepairing b m → IsFenced (fence_in (Some m)) t.number → ⊥
      by_fence r e =
          let z = subst (λ f. IsFenced f t.number) r.fence.is e in
          let u = r.fence.first in
          let w = r.fence.last in
          let low = z.0 in
          let up = z.1 in
          free record { from = omega arith; to = omega arith }

      by_none : IsPlainMark b m → IsFenced (fence_in (Some m)) t.number → ⊥
      by_none r e = subst (λ f. IsFenced f t.number) r.none e

  -- a page that counts is not lost, or its key is written again at or under what the mark records
  free_or_written : {p : Place} {t : Tag} {body : List ℕ} → Counts c (Some m) p t body → t.number ≤ b.greatest_seen →
      (t.number < b.first_lost) ⊎ IsWritten b (key_of t) m.records
  free_or_written {p} {t} {body} h old =
      ⊎_elim (λ l. inr (⊎_elim (by_fence l) (by_none l) x.good)) (λ l. inl l) (at_most _ _)
    where
      e : Entry
      e = entry_for t body

      by_fence : b.first_lost ≤ t.number → IsRepairing b m → IsWritten b (key_of t) m.records
      by_fence l r =
          let u = r.fence.first in
          let w = r.fence.last in
          absurd (h.free (subst (λ f. IsFenced f t.number) (sym r.fence.is) (omega arith, omega arith)))

      by_none : b.first_lost ≤ t.number → IsPlainMark b m → IsWritten b (key_of t) m.records
      by_none l r = r.repaired t.number t.index e record { from = l; to = old }
          (is_old b _ _ _ old (x.known p t body h.there))

  records_within : m.records ≤ frontier
  records_within = x.marks x.place m x.there

  -- where no group of this life has the key, a page of it that counts is an old one that is not lost
  old_below : {kept : ℕ} {k : Key} {p : Place} {t : Tag} {body : List ℕ} → frontier ≤ kept → NoneFrom b.groups 0
      (kept - b.greatest_seen) k → Counts c (Some m) p t body → key_of t ≡ k → t.number ≤ kept →
      (t.number < b.first_lost) × (t.number ≤ b.greatest_seen)
  old_below {p = p} {t = t} {body = body} far none h key up = ⊎_elim
      (λ l. ⊎_elim (λ low. (low, l))
      (λ w. absurd (let z = w.within in let u = w.new in let r = records_within in
      new_none b w.index none w.is (w.key ∙ key) (omega arith) (omega arith))) (free_or_written h l))
      (λ l. absurd (new_none b t.index none (x.known p t body h.there) key (omega arith) up)) (at_most _ _)

  -- The content at the life's start

  base_is : (k : Key) (a : BaseAt b k) → (a.number ≤ b.greatest_seen) × IsPageAt b a.number a.index
      (record { item = record { key = k; body = b.base k }; size = a.size })
  base_is k a =
      let l = x.right.old_within a.number a.index (record { item = record { key = k; body = b.base k }; size = a.size })
      a.is in
      (l, old_page b _ _ l a.is)

  -- it is there, where nothing overwrites it
  base_there : {k : Key} (a : BaseAt b k) → (IsOverwritten b a.number k marked → ⊥) → HasPage c a.number a.index
  base_there {k} a none =
      let l = base_is k a in
      let t = x.top in
      ⊎_elim (λ h. h) (λ h. absurd (none h.0))
      (x.shown a.number a.index (record { item = record { key = k; body = b.base k }; size = a.size })
      (omega (arith, l.0)) l.1 (λ z. let u = z.from in let w = a.below in omega arith))

  base_holds : {k : Key} {bound : ℕ} (a : BaseAt b k) → a.number < bound → HasPage c a.number a.index →
      ((p : Place) (t : Tag) (body : List ℕ) → Counts c (Some m) p t body → key_of t ≡ k → t.number < bound →
      t.number ≤ a.number) → Holds c (Some m) bound k (b.base k)
  base_holds {k} a low h last =
      let l = base_is k a in
      let r = read_page x l.1 h.3 h.4 h.5 in
      let n = h.4 in
      inl (
        h.0,
        h.1,
        record {
          counts = free_counts (h.3 ∙ ap (GroupPage h.1) r.1) (λ z. let u = z.from in let w = a.below in
              omega arith);
          key = r.0;
          within = omega arith;
          greatest = λ q u other counts key up. let z = last q u other counts key up in omega arith;
        },
      )

  -- while the fence stands, what is below it has the old contents
  pub base_stays : {k : Key} → m.records ≡ b.greatest_seen → HasKey b k → Holds c (Some m) b.first_lost k (b.base k)
  base_stays {k} fenced has = ⊎_elim at_base at_none (x.right.base k has)
    where
      below : (p : Place) (t : Tag) (body : List ℕ) → Counts c (Some m) p t body → t.number < b.first_lost →
          b.entries_before t.number t.index ≡ Some (entry_for t body)
      below p t body h l =
          let z = x.right.first_lost in
          is_old b _ _ _ (omega arith) (x.known p t body h.there)

      at_base : BaseAt b k → Holds c (Some m) b.first_lost k (b.base k)
      at_base a = base_holds a a.below
          (base_there a (λ o. let z = overwritten_new b a o in let w = o.within in let y = x.above in
          omega arith)) (λ p t body h key l. a.last t.number t.index (entry_for t body) (below p t body h l) key l)

      at_none : BaseNone b k → Holds c (Some m) b.first_lost k (b.base k)
      at_none a = inr (
        (λ p t body h key. ⊎_elim (λ l. l)
            (λ l. absurd (a.none t.number t.index (entry_for t body) (below p t body h l) key l)) (at_most _ _)),
        a.zeros,
      )

  -- The content at the kept number

  -- nothing overwrites the page of the last write
  last_newest : {kept : ℕ} {k : Key} {body : List ℕ} → frontier ≤ kept →
      (l : LastWrite b.groups (kept - b.greatest_seen) k body) →
      IsOverwritten b (suc (b.greatest_seen + l.number)) l.item.key marked → ⊥
  last_newest far l o =
      let n = o.newer in
      let w = o.within in
      let y = x.above in
      let r = records_within in
      new_none b o.index l.last o.is (o.key ∙ l.key) (omega arith) (omega arith)

  -- it has the key's content, where it is there
  last_content : (kept : ℕ) (k : Key) (body : List ℕ) (l : LastWrite b.groups (kept - b.greatest_seen) k body) →
      HasPage c (suc (b.greatest_seen + l.number)) l.index → Holds c (Some m) (suc kept) k body
  last_content kept k body l h =
      let is = last_is b kept l in
      let r = read_page x is h.3 h.4 h.5 in
      let n = h.4 in
      let w = l.below in
      inl (
        h.0,
        h.1,
        record {
          counts = free_counts (h.3 ∙ ap (GroupPage h.1) (r.1 ∙ l.content)) (λ z. let u = z.to in omega arith);
          key = r.0 ∙ l.key;
          within = omega arith;
          greatest = λ q u other counts key up. ⊎_elim (λ z. z)
              (λ z. absurd (new_none b u.index l.last (x.known q u other counts.there) key (omega arith) (omega arith)))
              (at_most _ _);
        },
      )

  last_holds : {kept : ℕ} {k : Key} {body : List ℕ} → IsKept c (Some m) kept → LastWrite b.groups
      (kept - b.greatest_seen) k body → Holds c (Some m) (suc kept) k body
  last_holds {kept} {k} {body} is_kept l =
      let w = l.below in
      ⊎_elim (λ h. last_content kept k body l h) (λ h. absurd (last_newest (kept_covers x is_kept) l h.0))
      (shown_kept x is_kept (omega arith) (last_is b kept l) (λ z. let u = z.to in omega arith))

  none_holds : (kept : ℕ) (k : Key) → frontier ≤ kept → HasKey b k → NoneFrom b.groups 0 (kept - b.greatest_seen) k →
      Holds c (Some m) (suc kept) k (b.base k)
  none_holds kept k far has none = ⊎_elim at_base at_none (x.right.base k has)
    where
      old : (p : Place) (t : Tag) (body : List ℕ) → Counts c (Some m) p t body → t.number ≤ b.greatest_seen →
          b.entries_before t.number t.index ≡ Some (entry_for t body)
      old p t body h l = is_old b _ _ _ l (x.known p t body h.there)

      at_base : BaseAt b k → Holds c (Some m) (suc kept) k (b.base k)
      at_base a =
          let l = base_is k a in
          let u = x.top in
          base_holds a (omega (arith, l.0))
          (base_there a (λ o.
          let z = overwritten_new b a o in let w = o.within in let y = x.above in let r = records_within in
          new_none b o.index none o.is o.key (omega arith) (omega arith)))
          (λ p t body h key up.
          let y = old_below far none h key (omega arith) in
          a.last t.number t.index (entry_for t body) (old p t body h y.1) key y.0)

      at_none : BaseNone b k → Holds c (Some m) (suc kept) k (b.base k)
      at_none a = inr (
        (λ p t body h key. ⊎_elim
            (λ up. absurd (let y = old_below far none h key up in
            a.none t.number t.index (entry_for t body) (old p t body h y.1) key y.0)) (λ l. l) (at_most _ _)),
        a.zeros,
      )

  -- the cells hold what the groups up to the kept number leave
  pub holds_kept : (kept : ℕ) → IsKept c (Some m) kept → HoldAll b.numbers c (Some m) kept
      (put_groups b.base (take (kept - b.greatest_seen) b.groups))
  holds_kept kept is_kept k has = ⊎_elim (λ l. last_holds is_kept l)
      (λ h. subst (Holds c (Some m) (suc kept) k) (sym h.1) (none_holds kept k (kept_covers x is_kept) has h.0))
      (after_cases b.base b.groups (kept - b.greatest_seen))

-- Repairs change no content

put_same : (f : Contents) (g : Group) (k : Key) → ((i : ℕ) (item : Item) → slice_get g i ≡ Some item →
    item.body ≡ f item.key) → put_group f g k ≡ f k
put_same f g k h = ⊎_elim (λ r. r.4 ∙ h r.0 r.1 r.2 ∙ ap f r.3) (λ r. r.1) (found g f)

put_nil : {f : Contents} (n : ℕ) → put_groups f (take n []) ≡ f
put_nil zero = refl
put_nil (suc n) = refl

-- so many first groups have the contents themselves
abbrev pub AreSame : Contents → List Group → ℕ → Type 0
AreSame f gs r = (j i : ℕ) (g : Group) (item : Item) → j < r → slice_get gs j ≡ Some g → slice_get g i ≡ Some item →
    item.body ≡ f item.key

pub after_same : (f : Contents) (gs : List Group) (r n : ℕ) → AreSame f gs r → r ≤ n →
    put_groups f (take n gs) ≡ put_groups f (take (n - r) (drop r gs))
after_same f gs zero n h l = let e : n ≡ n - 0 = omega arith in ap (λ z. put_groups f (take z gs)) e
after_same f [] (suc r) n h l = put_nil n ∙ sym (put_nil (n - suc r))
after_same f (g ∷ gs) (suc r) zero h l = absurd (omega arith)
after_same f (g ∷ gs) (suc r) (suc n) h l =
    let w : put_group f g ≡ f = λ i k. put_same f g k (λ j item e. h 0 j g item (omega arith) refl e) i in
    let e : n - r ≡ suc n - suc r = omega arith in
    ap (λ z. put_groups z (take n gs)) w
    ∙ after_same f gs r n (λ j i x item u p q. h (suc j) i x item (omega arith) p q) (omega arith)
    ∙ ap (λ z. put_groups f (take z (drop r gs))) e

pub after_none : {f : Contents} (gs : List Group) (r n : ℕ) → AreSame f gs r → n ≤ r → put_groups f (take n gs) ≡ f
after_none {f} gs r n h l =
    let e : n - n ≡ 0 = omega arith in
    after_same f gs n n (λ j i x item u p q. h j i x item (omega arith) p q) (omega arith) ∙ ap
    (λ z. put_groups f (take z (drop n gs))) e
