-- What a book knows of a page, and how it grows by a group.
pub use Rattle.ufs_spec.proofs.Facts.{same_Some as some_is, none-some as none_some, false≢true as false_true, at_most}
pub use Rattle.ufs_spec.proofs.Lists.{get_grows, get_last, get_splits, grown_length}
use Rattle.power_loss.proofs.Common.{◌≡◌, ℕ, suc, ◌-◌, ◌<◌, ◌≤◌, ◌⊎◌, false, List, [], ◌∷◌, ◌++◌, length, Option, Some}
use Rattle.power_loss.proofs.Common.{None, slice_get, refl, sym, ap, ◌∙◌, subst, inl, inr, ⊎_elim, arith}
use Rattle.power_loss.proofs.Common.{option_and_then, option_map, slice_get_within, Mark, key_of, Group, Item, Entry}
use Rattle.power_loss.proofs.Common.{Name, entry_in, KeysDiffer, Key, Tag, none-some, same_Some, BaseAt, BaseNone, Book}
use Rattle.power_loss.proofs.Common.{BookRight, FirstRight, HasKey, IsFenceMark, IsKnown, IsLostNumber, IsOverwritten}
use Rattle.power_loss.proofs.Common.{IsPageAt, IsPlainMark, IsWritten, last_number, page_at}
use Rattle.std.proofs.Common.{le-leb, nat_le}
use Rattle.std.proofs.lemmas.Bool.Decides.{leb_tells}
use Rattle.power_loss.specs.Book.{IsLastOrLost}

-- what a page with this tag and body shows
abbrev pub entry_for : Tag → List ℕ → Entry
entry_for tag body = record { item = record { key = key_of tag; body = body }; size = tag.size }

-- Pages

-- a page of a group of this life
pub record IsNewPage (groups : List Group) (j i : ℕ) (e : Entry) : Type 0 where
  pub group : Group
  pub is : slice_get groups j ≡ Some group
  pub item : slice_get group i ≡ Some e.item
  pub size : e.size ≡ length group

entry_told : (g : Group) (i : ℕ) (o : Option Item) {e : Entry} →
    option_map (λ item. record { item = item; size = length g }) o ≡ Some e → (o ≡ Some e.item) × (e.size ≡ length g)
entry_told g i None {e} h = absurd (none-some e h)
entry_told g i (Some item) {e} h =
    let k = same_Some (record { item = item; size = length g }) e h in
    (ap (λ x. Some x.item) k, sym (ap (λ x. x.size) k))

entry_from : (g : Group) (i : ℕ) {e : Entry} → slice_get g i ≡ Some e.item → e.size ≡ length g → entry_in g i ≡ Some e
entry_from g i {e} h s = ap (option_map (λ item. record { item = item; size = length g })) h ∙ ap
    (λ n. Some (record { item = e.item; size = n })) (sym s)

found_told : {groups : List Group} {j : ℕ} {i : ℕ} (o : Option Group) {e : Entry} → slice_get groups j ≡ o →
    option_and_then (λ g. entry_in g i) o ≡ Some e → IsNewPage groups j i e
found_told None {e} is h = absurd (none-some e h)
found_told {i = i} (Some g) {e} is h =
    let k = entry_told g i (slice_get g i) h in
    record { group = g; is = is; item = k.0; size = k.1 }

found_from : {groups : List Group} {j : ℕ} {i : ℕ} {e : Entry} → IsNewPage groups j i e →
    option_and_then (λ g. entry_in g i) (slice_get groups j) ≡ Some e
found_from {i = i} {e = e} p = ap (option_and_then (λ g. entry_in g i)) p.is ∙ entry_from p.group i p.item p.size

-- a page of an earlier life
pub page_old : (b : Book) (n : ℕ) {i : ℕ} → n ≤ b.greatest_seen →
    page_at b (record { number = n; index = i }) ≡ b.entries_before n i
page_old b n l = rw (le-leb n b.greatest_seen l)

later : (b : Book) (n i : ℕ) → b.greatest_seen < n → page_at b (record { number = n; index = i }) ≡ option_and_then
    (λ g. entry_in g i) (slice_get b.groups (n - b.greatest_seen - 1))
later b n i l = rw (above n b.greatest_seen l)
  where
    above : (n top : ℕ) → top < n → nat_le n top ≡ false
    above n top l = ⊎_elim (λ h. absurd (omega (arith, h.1))) (λ h. h.0) (leb_tells n top)

pub old_page : (b : Book) (n i : ℕ) {e : Entry} → n ≤ b.greatest_seen → b.entries_before n i ≡ Some e → IsPageAt b n i e
old_page b n i l h = page_old b n l ∙ h

pub is_old : (b : Book) (n i : ℕ) (e : Entry) → n ≤ b.greatest_seen → IsPageAt b n i e → b.entries_before n i ≡ Some e
is_old b n i e l h = sym (page_old b n l) ∙ h

pub page_new : (b : Book) (n : ℕ) {i : ℕ} {e : Entry} → b.greatest_seen < n → IsPageAt b n i e → IsNewPage b.groups
    (n - b.greatest_seen - 1) i e
page_new b n {i} {e} l h = found_told (slice_get b.groups (n - b.greatest_seen - 1)) refl (sym (later b n i l) ∙ h)

pub new_page : (b : Book) (n i : ℕ) (e : Entry) → b.greatest_seen < n → IsNewPage b.groups
    (n - b.greatest_seen - 1) i e → IsPageAt b n i e
new_page b n i e l p = later b n i l ∙ found_from p

-- two entries of one name are equal
pub page_one : (b : Book) (n i : ℕ) (e f : Entry) → IsPageAt b n i e → IsPageAt b n i f → e ≡ f
page_one b n i e f h k = same_Some e f (sym h ∙ k)

-- and so they are at equal names
pub page_same : (b : Book) {n i m j : ℕ} (e : Entry) → n ≡ m → i ≡ j → IsPageAt b n i e → IsPageAt b m j e
page_same b e x y h = subst (λ (z : ℕ × ℕ). IsPageAt b z.0 z.1 e) (λ q. (x q, y q)) h

pub page_within : (b : Book) (n i : ℕ) (e : Entry) → IsPageAt b n i e → n ≤ last_number b
page_within b n i e h = ⊎_elim (λ l. omega arith) (λ l. let p = page_new b n l h in
    let w = slice_get_within b.groups (n - b.greatest_seen - 1) p.group p.is in omega arith) (at_most n b.greatest_seen)

-- One group more

abbrev pub grown : Book → Group → Book
grown b g = record b { groups = b.groups ++ g ∷ [] }

pub last_grows : (b : Book) (g : Group) → last_number (grown b g) ≡ suc (last_number b)
last_grows b g = let e = grown_length b.groups g in omega arith

pub page_grows : (b : Book) (g : Group) (n i : ℕ) (e : Entry) → IsPageAt b n i e → IsPageAt (grown b g) n i e
page_grows b g n i e h = ⊎_elim old new (at_most n b.greatest_seen)
  where
    old : n ≤ b.greatest_seen → IsPageAt (grown b g) n i e
    old l = old_page (grown b g) n i l (is_old b n i e l h)

    new : b.greatest_seen < n → IsPageAt (grown b g) n i e
    new l =
        let p = page_new b n l h in
        new_page (grown b g) n i e l (record {
          group = p.group;
          is = get_grows b.groups g (n - b.greatest_seen - 1) p.group p.is;
          item = p.item;
          size = p.size;
        })

-- a page of the group that is added
pub record IsAdded (b : Book) (g : Group) (n i : ℕ) (e : Entry) : Type 0 where
  pub last : n ≡ suc (last_number b)
  pub item : slice_get g i ≡ Some e.item
  pub size : e.size ≡ length g

pub page_splits : (b : Book) (g : Group) (n i : ℕ) (e : Entry) → IsPageAt (grown b g) n i e →
    IsPageAt b n i e ⊎ IsAdded b g n i e
page_splits b g n i e h = ⊎_elim (λ l. inl (old l)) new (at_most n b.greatest_seen)
  where
    old : n ≤ b.greatest_seen → IsPageAt b n i e
    old l = old_page b n i l (is_old (grown b g) n i e l h)

    new : b.greatest_seen < n → IsPageAt b n i e ⊎ IsAdded b g n i e
    new l =
        let p = page_new (grown b g) n l h in
        ⊎_elim (λ k. inl (new_page b n i e l (record { group = p.group; is = k; item = p.item; size = p.size })))
        (λ k.
        let at = k.0 in
        inr (record {
          last = omega arith;
          item = ap (λ z. slice_get z i) (sym k.1) ∙ p.item;
          size = p.size ∙ ap (λ z. length z) k.1;
        })) (get_splits b.groups g (n - b.greatest_seen - 1) p.group p.is)

pub added_page : (b : Book) (g : Group) (n i : ℕ) (e : Entry) → IsAdded b g n i e → IsPageAt (grown b g) n i e
added_page b g n i e a =
    let at = a.last in
    new_page (grown b g) n i e (omega arith)
    (record {
      group = g;
      is = ap (slice_get (b.groups ++ g ∷ [])) (omega arith) ∙ get_last b.groups g;
      item = a.item;
      size = a.size;
    })

-- at or under the last number nothing is new
pub page_before : (b : Book) (g : Group) (n i : ℕ) (e : Entry) → n ≤ last_number b → IsPageAt (grown b g) n i e →
    IsPageAt b n i e
page_before b g n i e l h = ⊎_elim (λ p. p) (λ a. let z = a.last in absurd (omega arith)) (page_splits b g n i e h)

pub known_grows : (b : Book) (g : Group) (t : Tag) {body : List ℕ} → IsKnown b t body → IsKnown (grown b g) t body
known_grows b g t h = page_grows b g t.number t.index _ h

pub lost_grows : {b : Book} (g : Group) {n : ℕ} → IsLostNumber b n → IsLostNumber (grown b g) n
lost_grows g h = record { from = h.from; to = h.to }

pub lost_before : {b : Book} (g : Group) {n : ℕ} → IsLostNumber (grown b g) n → IsLostNumber b n
lost_before g h = record { from = h.from; to = h.to }

pub free_grows : {b : Book} (g : Group) {n : ℕ} → (IsLostNumber b n → ⊥) → IsLostNumber (grown b g) n → ⊥
free_grows {b} g {n} free h = free (lost_before g h)

pub written_grows : {b : Book} (g : Group) {k : Key} {bound : ℕ} → IsWritten b k bound → IsWritten (grown b g) k bound
written_grows {b} g h = record {
  number = h.number;
  index = h.index;
  page = h.page;
  is = page_grows b g h.number h.index h.page h.is;
  key = h.key;
  new = h.new;
  within = h.within;
}

pub written_more : (b : Book) (k : Key) (bound more : ℕ) → bound ≤ more → IsWritten b k bound → IsWritten b k more
written_more b k bound more l h = record {
  number = h.number;
  index = h.index;
  page = h.page;
  is = h.is;
  key = h.key;
  new = h.new;
  within = let w = h.within in omega arith;
}

abbrev pub overwritten_grows : {b : Book} (g : Group) {n : ℕ} {k : Key} {bound : ℕ} → IsOverwritten b n k bound →
    IsOverwritten (grown b g) n k bound
overwritten_grows {b} g h = record {
  number = h.number;
  index = h.index;
  page = h.page;
  is = page_grows b g h.number h.index h.page h.is;
  key = h.key;
  newer = h.newer;
  within = h.within;
  free = free_grows g h.free;
}

abbrev pub overwritten_more : {b : Book} {n : ℕ} {k : Key} {bound more : ℕ} → bound ≤ more → IsOverwritten b n k bound →
    IsOverwritten b n k more
overwritten_more l h = record {
  number = h.number;
  index = h.index;
  page = h.page;
  is = h.is;
  key = h.key;
  newer = h.newer;
  within = let w = h.within in omega arith;
  free = h.free;
}

-- Marks

pub plain_grows : {b : Book} (g : Group) {m : Mark} → IsPlainMark b m → IsPlainMark (grown b g) m
plain_grows {b} g {m} h = record {
  none = h.none;
  repaired = λ n i e lost is. written_grows g (h.repaired n i e (lost_before g lost) is);
}

-- what overwrites a page that overwrites this one
abbrev pub overwritten_twice : {b : Book} {n : ℕ} {k : Key} {marked bound : ℕ} (o : IsOverwritten b n k marked) →
    IsOverwritten b o.number o.page.item.key bound → IsOverwritten b n k bound
overwritten_twice o u = record {
  number = u.number;
  index = u.index;
  page = u.page;
  is = u.is;
  key = u.key ∙ o.key;
  newer = let y = o.newer in let z = u.newer in omega arith;
  within = u.within;
  free = u.free;
}

pub fence_grows : {b : Book} (g : Group) {m : Mark} → IsFenceMark b m → IsFenceMark (grown b g) m
fence_grows g h = record {
  fence = h.fence;
  is = h.is;
  first = h.first;
  last = h.last;
  some = h.some;
  records = h.records;
}

-- All that holds of the book

last_or_lost_grows : (b : Book) (g : Group) (k : Key) (n : ℕ) → IsLastOrLost b k n → IsLastOrLost (grown b g) k n
last_or_lost_grows b g k n (inl h) = inl (lost_grows g h)
last_or_lost_grows b g k n (inr h) = inr h

first_grows : (b : Book) (g : Group) (k : Key) (o : Option Name) → FirstRight b k o → FirstRight (grown b g) k o
first_grows b g k None h = h
first_grows b g k (Some name) h = (h.0, h.1, h.2, last_or_lost_grows b g k name.number h.3)

base_grows : {b : Book} (g : Group) {k : Key} → BaseAt b k ⊎ BaseNone b k → BaseAt (grown b g) k ⊎ BaseNone
    (grown b g) k
base_grows g (inl h) = inl (record {
  number = h.number;
  index = h.index;
  size = h.size;
  is = h.is;
  below = h.below;
  last = h.last;
})
base_grows g (inr h) = inr (record { none = h.none; zeros = h.zeros })

-- the group that is added has a page, and its keys are keys of the device and differ
pub record MayAdd (b : Book) (g : Group) : Type 0 where
  pub some : 0 < length g
  pub differ : KeysDiffer g
  pub keys : (i : ℕ) (item : Item) → slice_get g i ≡ Some item → HasKey b item.key

differ_grows : {b : Book} {g : Group} {n i j : ℕ} {e f : Entry} → BookRight b → MayAdd b g →
    IsPageAt b n i e ⊎ IsAdded b g n i e → IsPageAt b n j f ⊎ IsAdded b g n j f → e.item.key ≡ f.item.key → i ≡ j
differ_grows {n = n} {i = i} {j = j} {e = e} {f = f} r may (inl h) (inl k) same = r.differ n i j e f h k same
differ_grows {b = b} {n = n} {i = i} {e = e} r may (inl h) (inr k) same = let w = page_within b n i e h in let z =
    k.last in
    absurd (omega arith)
differ_grows {b = b} {n = n} {j = j} {f = f} r may (inr h) (inl k) same = let w = page_within b n j f k in let z =
    h.last in
    absurd (omega arith)
differ_grows {i = i} {j = j} {e = e} {f = f} r may (inr h) (inr k) same =
    may.differ i j e.item f.item h.item k.item same

pub book_grows : (b : Book) (g : Group) → MayAdd b g → BookRight b → BookRight (grown b g)
book_grows b g may r = record {
  pages = r.pages;
  keys = λ n i e h. ⊎_elim (λ p. r.keys n i e p) (λ a. may.keys i e.item a.item) (page_splits b g n i e h);
  differ = λ n i j e f h k. differ_grows r may (page_splits b g n i e h) (page_splits b g n j f k);
  some = λ j x h. ⊎_elim (λ p. r.some j x p) (λ a. subst
      (λ z. 0 < length z) (sym a.1) may.some) (get_splits b.groups g j x h);
  old_within = r.old_within;
  first_lost = r.first_lost;
  base = λ k h. base_grows g (r.base k h);
  first_page = λ k h. first_grows b g k (b.first_page k) (r.first_page k h);
  first_content = r.first_content;
}
