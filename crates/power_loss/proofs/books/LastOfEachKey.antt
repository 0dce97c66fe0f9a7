-- The page that has a key's content at the frontier is the last of the pages of the key that are not lost.
pub use Rattle.ufs_spec.proofs.Lists.{position_cases, get_take, take_get}
pub use Rattle.ufs_spec.proofs.Equalities.{key_told, key_self}
use Rattle.power_loss.proofs.Common.{◌≡◌, ℕ, zero, suc, ◌+◌, ◌-◌, ◌<◌, ◌≤◌, ◌⊎◌, true, false, List, [], ◌∷◌, length}
use Rattle.power_loss.proofs.Common.{take, Option, Some, None, slice_get, refl, sym, ap, ◌∙◌, subst, inl, inr, ⊎_elim}
use Rattle.power_loss.proofs.Common.{arith, Mark, Group, Item, same_key, Entry, Name, index_in, is_name, latest_durable}
use Rattle.power_loss.proofs.Common.{latest_in, name_or, same_name, Mended, Translation, Key, at_most, false≢true}
use Rattle.power_loss.proofs.Common.{none-some, same_Some, name_is, name_self, Book, FirstRight, IsLostNumber}
use Rattle.power_loss.proofs.Common.{IsOverwritten, IsPageAt, IsPlainMark, book, Valid}
use Rattle.power_loss.proofs.books.LayerParts.{MendingOf}
use Rattle.power_loss.proofs.books.PagesByName.{is_old, new_page, old_page, page_new}

-- The last group that has the key

pub record IsLastOf (k : Key) (n : ℕ) (gs : List Group) (o : Option Name) : Type 0 where
  pub name : Name
  pub is : o ≡ Some name
  pub at : ℕ
  pub group : Group
  pub there : slice_get gs at ≡ Some group
  pub item : Item
  pub has : slice_get group name.index ≡ Some item
  pub key : item.key ≡ k
  pub number : name.number ≡ suc (n + at)
  pub last : (j i : ℕ) (g : Group) (x : Item) → slice_get gs j ≡ Some g → slice_get g i ≡ Some x → x.key ≡ k → j ≤ at

abbrev pub NoneOf : Key → List Group → Type 0
NoneOf k gs = (j i : ℕ) (g : Group) (x : Item) → slice_get gs j ≡ Some g → slice_get g i ≡ Some x → x.key ≡ k → ⊥

lasts_on : {k : Key} {n : ℕ} (g : Group) {gs : List Group} {o : Option Name} → IsLastOf k (suc n) gs o →
    IsLastOf k n (g ∷ gs) o
lasts_on {k} g {gs} r = record {
  name = r.name;
  is = r.is;
  at = suc r.at;
  group = r.group;
  there = r.there;
  item = r.item;
  has = r.has;
  key = r.key;
  number = let e = r.number in omega arith;
  last = still;
}
  where
    still : (j i : ℕ) (h : Group) (x : Item) → slice_get (g ∷ gs) j ≡ Some h → slice_get h i ≡ Some x → x.key ≡ k →
        j ≤ suc r.at
    still zero i h x a b c = omega arith
    still (suc j) i h x a b c = let l = r.last j i h x a b c in omega arith

lasts_here : {k : Key} {n : ℕ} (g : Group) (gs : List Group) {o : Option Name} (i : ℕ) {x : Item} →
    o ≡ Some (record { number = suc n; index = i }) → slice_get g i ≡ Some x → x.key ≡ k → NoneOf k gs →
    IsLastOf k n (g ∷ gs) o
lasts_here {k} {n} g gs i {x} e h same none = record {
  name = record { number = suc n; index = i };
  is = e;
  at = 0;
  group = g;
  there = refl;
  item = x;
  has = h;
  key = same;
  number = omega arith;
  last = still;
}
  where
    still : (j i : ℕ) (h : Group) (x : Item) → slice_get (g ∷ gs) j ≡ Some h → slice_get h i ≡ Some x → x.key ≡ k →
        j ≤ 0
    still zero i h x a b c = omega arith
    still (suc j) i h x a b c = absurd (none j i h x a b c)

none_on : {k : Key} (g : Group) (gs : List Group) → ((j : ℕ) (y : Item) → slice_get g j ≡ Some y →
    same_key y.key k ≡ false) → NoneOf k gs → NoneOf k (g ∷ gs)
none_on g gs here none zero i h x a b c =
    false≢true (sym (here i x (ap (λ z. slice_get z i) (same_Some g h a) ∙ b)) ∙ subst
    (λ z. same_key x.key z ≡ true) c (key_self x.key))
none_on g gs here none (suc j) i h x a b c = none j i h x a b c

pub latest_cases : (k : Key) (n : ℕ) (gs : List Group) (older : Option Name) →
    IsLastOf k n gs (latest_in k n gs older) ⊎ ((latest_in k n gs older ≡ older) × NoneOf k gs)
latest_cases k n [] older = inr (refl, λ j i g x a b c. none-some g a)
latest_cases k n (g ∷ gs) older = ⊎_elim (λ r. inl (lasts_on g r))
    (λ r. ⊎_elim
    (λ c. inl (lasts_here g gs c.0 (r.0 ∙ ap (λ o. name_or (suc n) o older) c.2) c.3 (key_told c.1.key k c.4) r.1))
    (λ c. inr (r.0 ∙ ap (λ o. name_or (suc n) o older) c.0, none_on g gs c.1 r.1))
    (position_cases (λ item. same_key item.key k) g)) (latest_cases k (suc n) gs (name_or (suc n) (index_in k g) older))

-- At the frontier

abbrev Latest : Translation → ℕ → ℕ → Entry → Type 0
Latest t n i e = (is_name (record { number = n; index = i }) (latest_durable t.ledger e.item.key) ≡ true)
    ⊎ IsOverwritten (book t) n e.item.key t.ledger.frontier

-- the key's page there is at or behind the page
latest_name : {t : Translation} (n i : ℕ) (e : Entry) {name : Name} {f : Entry} → Valid t → IsPageAt (book t) n i e →
    latest_durable t.ledger e.item.key ≡ Some name → IsPageAt (book t) name.number name.index f →
    f.item.key ≡ e.item.key → (IsLostNumber (book t) name.number → ⊥) → name.number ≤ t.ledger.frontier →
    n ≤ name.number → Latest t n i e
latest_name {t} n i e {name} {f} v h is page key free within l = ⊎_elim same newer (at_most name.number n)
  where
    newer : n < name.number → Latest t n i e
    newer u = inr (record {
      number = name.number;
      index = name.index;
      page = f;
      is = page;
      key = key;
      newer = u;
      within = within;
      free = free;
    })

    same : name.number ≤ n → Latest t n i e
    same u =
        let at : name.number ≡ n = omega arith in
        let index = v.book_right.differ n name.index i f e (subst (λ z. IsPageAt (book t) z name.index f) at page) h
        key in
        inl (ap (is_name (record { number = n; index = i })) is ∙ subst (λ z. same_name z name ≡ true)
        (name_is name (record { number = n; index = i }) at index) (name_self name))

-- no group of this life at or under the frontier has the key
none_written : (t : Translation) (n i : ℕ) (e : Entry) {k : Key} →
    NoneOf k (take (t.ledger.frontier - t.ledger.greatest_seen) t.ledger.groups) → IsPageAt (book t) n i e →
    e.item.key ≡ k → t.ledger.greatest_seen < n → n ≤ t.ledger.frontier → ⊥
none_written t n i e none h key new l =
    let p = page_new (book t) n new h in
    none (n - t.ledger.greatest_seen - 1) i p.group e.item
    (take_get (t.ledger.frontier - t.ledger.greatest_seen) t.ledger.groups (n - t.ledger.greatest_seen - 1) p.group
    (omega arith) p.is) p.item key

latest_group : {t : Translation} (n i : ℕ) (e : Entry) → Valid t → IsPageAt (book t) n i e → n ≤ t.ledger.frontier →
    IsLastOf e.item.key t.ledger.greatest_seen (take (t.ledger.frontier - t.ledger.greatest_seen) t.ledger.groups)
    (latest_durable t.ledger e.item.key) → Latest t n i e
latest_group {t} n i e v h l r = latest_name n i e v h r.is
    (new_page (book t) r.name.number r.name.index (record { item = r.item; size = length r.group }) (let z = r.number in
    omega arith)
    (record {
      group = r.group;
      is = ap (slice_get t.ledger.groups) (let z = r.number in omega arith) ∙ there.1;
      item = r.has;
      size = refl;
    })) r.key (λ lost. let z = r.number in let up = lost.to in omega arith)
    (let z = r.number in let u = there.0 in omega arith)
    (⊎_elim (λ old. let z = r.number in omega arith) after (at_most n t.ledger.greatest_seen))
  where
    there : (r.at < t.ledger.frontier - t.ledger.greatest_seen) × (slice_get t.ledger.groups r.at ≡ Some r.group)
    there = get_take (t.ledger.frontier - t.ledger.greatest_seen) t.ledger.groups r.at r.group r.there

    after : t.ledger.greatest_seen < n → n ≤ r.name.number
    after new =
        let p = page_new (book t) n new h in
        let last = r.last (n - t.ledger.greatest_seen - 1) i p.group e.item
        (take_get (t.ledger.frontier - t.ledger.greatest_seen) t.ledger.groups
        (n - t.ledger.greatest_seen - 1) p.group (omega arith) p.is) p.item refl in
        let z = r.number in
        omega arith

-- an old number that is not lost is below those that are
under : {b : Book} (n : ℕ) → (IsLostNumber b n → ⊥) → n ≤ b.greatest_seen → n < b.first_lost
under {b = b} n free old = ⊎_elim (λ l. absurd (free (record { from = l; to = old }))) (λ l. l) (at_most b.first_lost n)

latest_first : {t : Translation} {n : ℕ} (i : ℕ) (e : Entry) (o : Option Name) {m : Mark} → Valid t →
    IsPlainMark (book t) m → m.records ≤ t.ledger.frontier → IsPageAt (book t) n i e → (IsLostNumber (book t) n → ⊥) →
    n ≤ t.ledger.greatest_seen → NoneOf e.item.key (take (t.ledger.frontier - t.ledger.greatest_seen) t.ledger.groups) →
    latest_durable t.ledger e.item.key ≡ o → FirstRight (book t) e.item.key o → Latest t n i e
latest_first {t} {n} i e None v plain marked h free old none is first =
    absurd (first n i e (is_old (book t) n i e old h) refl (under n free old))
latest_first {t} {n} i e (Some name) v plain marked h free old none is first = ⊎_elim lost last first.3
  where
    lost : IsLostNumber (book t) name.number → Latest t n i e
    lost at =
        let w = plain.repaired name.number name.index first.0 at first.1 in
        let u = w.within in
        absurd (none_written t w.number w.index w.page none w.is (w.key ∙ first.2) w.new (omega arith))

    last : (name.number < t.ledger.first_lost) × ((k j : ℕ) (f : Entry) → t.ledger.entries_before k j ≡ Some f →
        f.item.key ≡ e.item.key → k < t.ledger.first_lost → k ≤ name.number) → Latest t n i e
    last r =
        let low = v.book_right.first_lost in
        let below = r.0 in
        let above = v.frontier.above in
        latest_name n i e v h is (old_page (book t) name.number name.index (omega arith) first.1) first.2
        (λ lost. let from = lost.from in omega arith) (omega arith)
        (r.1 n i e (is_old (book t) n i e old h) refl (under n free old))

-- a page that is not lost, at or under the frontier, is the one with the content of its key there, or is overwritten
pub latest_or_overwritten : {t : Translation} {n : ℕ} (i : ℕ) (e : Entry) → Valid t → t.work.mending ≡ Mended →
    IsPageAt (book t) n i e → (IsLostNumber (book t) n → ⊥) → n ≤ t.ledger.frontier →
    (is_name (record { number = n; index = i }) (latest_durable t.ledger e.item.key) ≡ true) ⊎ IsOverwritten
    (book t) n e.item.key t.ledger.frontier
latest_or_overwritten {t} {n} i e v mended h free l =
    ⊎_elim (latest_group n i e v h l) none (latest_cases e.item.key t.ledger.greatest_seen
    (take (t.ledger.frontier - t.ledger.greatest_seen) t.ledger.groups) (t.ledger.first_page e.item.key))
  where
    marked : MendingOf t Mended
    marked = subst (MendingOf t) mended v.mending

    none : (latest_durable t.ledger e.item.key ≡ t.ledger.first_page e.item.key) × NoneOf e.item.key
        (take (t.ledger.frontier - t.ledger.greatest_seen) t.ledger.groups) → Latest t n i e
    none r = ⊎_elim
        (λ old. latest_first i e (t.ledger.first_page e.item.key) v marked.more marked.right.within h free old r.1
        r.0 (v.book_right.first_page e.item.key (v.book_right.keys n i e h)))
        (λ new. absurd (none_written t n i e r.1 h refl new l)) (at_most n t.ledger.greatest_seen)
