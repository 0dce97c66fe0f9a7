-- What is looked up of a key of the device shows the key's content now.
use Rattle.power_loss.proofs.Common.{◌≡◌, ℕ, zero, suc, ◌-◌, ◌<◌, ◌≤◌, ◌⊎◌, Bool, true, false, List, [], ◌∷◌, drop}
use Rattle.power_loss.proofs.Common.{length, take, Option, Some, None, slice_get, refl, sym, ap, ◌∙◌, subst, inl, inr}
use Rattle.power_loss.proofs.Common.{⊎_elim, arith, nat_lt, take-append-drop, Mark, Contents, Group, IsKey, Item}
use Rattle.power_loss.proofs.Common.{content, put_group, put_groups, same_key, Entry, InSlot, Ledger, Name}
use Rattle.power_loss.proofs.Common.{accepted_groups, latest, look, looked_at, looked_on, Shape, shape_of_numbers}
use Rattle.power_loss.proofs.Common.{zero_block, Mended, Translation, is_mended, Key, Place, ltb-false, false≢true}
use Rattle.power_loss.proofs.Common.{none-some, same_Some, BaseAt, BaseNone, FirstRight, IsLostNumber, IsPageAt}
use Rattle.power_loss.proofs.Common.{IsPlainMark, book, Valid, drop_all, slice_get_within}
use Rattle.power_loss.proofs.MachineWords.{State, numbers_of, plain_now, IsTied, IsShown}
use Rattle.std.specs.Prelude.{if◌then◌else◌}
use Rattle.ufs_spec.specs.Ledger.{entry_of, latest_durable}
use Rattle.ufs_spec.proofs.Equalities.{key_self, key_told}
use Rattle.ufs_laws.proofs.plain_contents.GroupsOfCommands.{many_commands, put_groups-same as put_groups_same}
use Rattle.power_loss.specs.Shown.{IsPageOf}
use Rattle.power_loss.proofs.books.PagesByName.{new_page, old_page, page_new, page_one}
use Rattle.power_loss.proofs.collected_blocks.FewestLivePages.{mended_told}
use Rattle.power_loss.proofs.books.LastOfEachKey.{IsLastOf, NoneOf, latest_cases, get_take}
use Rattle.power_loss.proofs.pending_groups.PendingByFrontier.{put_more}
use Rattle.power_loss.proofs.stops.ImageContents.{after_none}
use Rattle.power_loss.proofs.books.LayerParts.{MendingOf}
use Rattle.ufs_spec.specs.Moves.{look_now}
use Rattle.power_loss.proofs.kept_pages.LookedUpPages.{last_page}

-- Groups that are put

-- of groups in which the key does not stand it keeps its content
pub put_none : (f : Contents) (k : Key) (gs : List Group) → NoneOf k gs → put_groups f gs k ≡ f k
put_none f k [] none = refl
put_none f k (g ∷ gs) none = put_none (put_group f g) k gs (λ j i h x a b c. none (suc j) i h x a b c)
    ∙ here g (λ i x a c. none 0 i g x refl a c)
  where
    here : (g : Group) → ((i : ℕ) (x : Item) → slice_get g i ≡ Some x → x.key ≡ k → ⊥) → put_group f g k ≡ f k
    here [] none = refl
    here (y ∷ ys) none = by (same_key y.key k) refl (here ys (λ i x a c. none (suc i) x a c))
      where
        by : (b : Bool) → same_key y.key k ≡ b → put_group f ys k ≡ f k → (if b then y.body else put_group f ys k) ≡ f k
        by true e rest = absurd (none 0 y refl (key_told y.key k e))
        by false e rest = rest

-- of the last group that has it, it takes the body of its item there
pub put_at : (f : Contents) {k : Key} (gs : List Group) (j i : ℕ) (g : Group) (x : Item) → slice_get gs j ≡ Some g →
    slice_get g i ≡ Some x → x.key ≡ k → ((m : ℕ) (y : Item) → slice_get g m ≡ Some y → y.key ≡ k → y.body ≡ x.body) →
    ((l m : ℕ) (h : Group) (y : Item) → slice_get gs l ≡ Some h → slice_get h m ≡ Some y → y.key ≡ k → l ≤ j) →
    put_groups f gs k ≡ x.body
put_at f [] j i g x a b c one last = absurd (none-some g a)
put_at f {k} (h ∷ gs) (suc j) i g x a b c one last =
    put_at (put_group f h) gs j i g x a b c one (λ l m n y d e z. let u = last (suc l) m n y d e z in omega arith)
put_at f {k} (h ∷ gs) zero i g x a b c one last =
    put_none (put_group f h) k gs (λ l m n y d e z. let u = last (suc l) m n y d e z in omega arith)
    ∙ subst (λ (n : Group). put_group f n k ≡ x.body) (sym (same_Some h g a)) (here g i b one)
  where
    here : (g : Group) (i : ℕ) → slice_get g i ≡ Some x →
        ((m : ℕ) (y : Item) → slice_get g m ≡ Some y → y.key ≡ k → y.body ≡ x.body) → put_group f g k ≡ x.body
    here [] i b one = absurd (none-some x b)
    here (y ∷ ys) i b one = by (same_key y.key k) refl i b (λ n d. here ys n d (λ m z e u. one (suc m) z e u))
      where
        by : (t : Bool) → same_key y.key k ≡ t → (i : ℕ) → slice_get (y ∷ ys) i ≡ Some x →
            ((n : ℕ) → slice_get ys n ≡ Some x → put_group f ys k ≡ x.body) →
            (if t then y.body else put_group f ys k) ≡ x.body
        by true e i b rest = one 0 y refl (key_told y.key k e)
        by false e zero b rest =
            absurd (false≢true (sym e ∙ ap (λ z. same_key z k) (ap (λ (z : Item). z.key) (same_Some y x b) ∙ c)
            ∙ key_self k))
        by false e (suc n) b rest = rest n b

-- Names

-- the page of a name has the key's content, or none is needed
abbrev pub HasContent : Ledger → Key → Option Name → List ℕ → Type 0
HasContent l k None body = body ≡ zero_block
HasContent l k (Some name) body = IsPageOf l k name body

-- no group of this life has the key: what it began with is there
first_content : {t : Translation} {k : Key} {m : Mark} (o : Option Name) → Valid t → IsPlainMark (book t) m →
    NoneOf k t.ledger.groups → FirstRight (book t) k o → BaseAt (book t) k ⊎ BaseNone (book t) k →
    HasContent t.ledger k o (t.ledger.base k)
first_content None v plain none first (inl at) = absurd (first at.number at.index _ at.is refl at.below)
first_content None v plain none first (inr zeros) = zeros.zeros
first_content {t} {k} (Some name) v plain none first base =
    record { entry = first.0; is = page; key = first.2; body_is = ⊎_elim lost (last base) first.3 }
  where
    page : entry_of t.ledger name ≡ Some first.0
    page = old_page (book t) name.number name.index
        (v.book_right.old_within name.number name.index first.0 first.1) first.1

    lost : IsLostNumber (book t) name.number → first.0.item.body ≡ t.ledger.base k
    lost at =
        let w = plain.repaired name.number name.index first.0 at first.1 in
        let p = page_new (book t) w.number w.new w.is in
        absurd (none (w.number - t.ledger.greatest_seen - 1) w.index p.group w.page.item p.is p.item (w.key ∙ first.2))

    last : BaseAt (book t) k ⊎ BaseNone (book t) k → (name.number < t.ledger.first_lost)
        × ((n i : ℕ) (e : Entry) → t.ledger.entries_before n i ≡ Some e → e.item.key ≡ k → n < t.ledger.first_lost →
        n ≤ name.number) → first.0.item.body ≡ t.ledger.base k
    last (inr zeros) r = absurd (zeros.none name.number name.index first.0 first.1 first.2 r.0)
    last (inl at) r =
        let e : Entry = record { item = record { key = k; body = t.ledger.base k }; size = at.size } in
        let up = r.1 at.number at.index e at.is refl at.below in
        let down = at.last name.number name.index first.0 first.1 first.2 r.0 in
        let number : at.number ≡ name.number = omega arith in
        let there : IsPageAt (book t) name.number at.index e = subst (λ n. IsPageAt (book t) n at.index e) number
        (old_page (book t) at.number at.index (v.book_right.old_within at.number at.index e at.is) at.is) in
        let index : at.index ≡ name.index =
        v.book_right.differ name.number at.index name.index e first.0 there page (sym first.2) in
        ap (λ (x : Entry). x.item.body) (page_one (book t) name.number name.index first.0 e page
        (subst (λ i. IsPageAt (book t) name.number i e) index there))

-- the last item of the key is the page of the last name
last_content : {t : Translation} {k : Key} {o : Option Name} → Valid t →
    IsLastOf k t.ledger.greatest_seen t.ledger.groups o →
    HasContent t.ledger k o (put_groups t.ledger.base t.ledger.groups k)
last_content {t} {k} v r =
    subst (λ (x : Option Name). HasContent t.ledger k x (put_groups t.ledger.base t.ledger.groups k)) (sym r.is)
    (record {
      entry = e;
      is = page r.name.index r.item r.has;
      key = r.key;
      body_is = sym (put_at t.ledger.base t.ledger.groups r.at r.name.index r.group r.item r.there r.has r.key one
          r.last);
    })
  where
    e : Entry
    e = record { item = r.item; size = length r.group }

    at : r.name.number - t.ledger.greatest_seen - 1 ≡ r.at
    at = let z = r.number in omega arith

    page : (i : ℕ) (x : Item) → slice_get r.group i ≡ Some x →
        IsPageAt (book t) r.name.number i (record { item = x; size = length r.group })
    page i x h =
        new_page (book t) r.name.number i (record { item = x; size = length r.group }) (let z = r.number in omega arith)
        (record { group = r.group; is = ap (slice_get t.ledger.groups) at ∙ r.there; item = h; size = refl })

    one : (m : ℕ) (y : Item) → slice_get r.group m ≡ Some y → y.key ≡ k → y.body ≡ r.item.body
    one m y h same =
        let f : Entry = record { item = y; size = length r.group } in
        let index = v.book_right.differ r.name.number m r.name.index f e (page m y h) (page r.name.index r.item r.has)
        (same ∙ sym r.key) in
        ap (λ (x : Item). x.body) (same_Some y r.item (sym h ∙ ap (slice_get r.group) index ∙ r.has))

pub latest_has : {t : Translation} {k : Key} → Valid t → t.work.mending ≡ Mended → IsKey (shape_of_numbers t.numbers) k →
    HasContent t.ledger k (latest t.ledger k) (put_groups t.ledger.base t.ledger.groups k)
latest_has {t} {k} v mended is = ⊎_elim (last_content v)
    (λ (r : (latest t.ledger k ≡ t.ledger.first_page k) × NoneOf k t.ledger.groups).
    subst (λ (o : Option Name). HasContent t.ledger k o (put_groups t.ledger.base t.ledger.groups k)) (sym r.0)
    (subst (HasContent t.ledger k (t.ledger.first_page k)) (sym (put_none t.ledger.base k t.ledger.groups r.1))
    (first_content (t.ledger.first_page k) v marked.more r.1 (v.book_right.first_page k is)
    (v.book_right.base k is)))) (latest_cases k t.ledger.greatest_seen t.ledger.groups (t.ledger.first_page k))
  where
    marked : MendingOf t Mended
    marked = subst (MendingOf t) mended v.mending

-- Looks

-- what has the content holds it wherever it is looked up
pub looked_has : {t : Translation} (k : Key) (o : Option Name) (body : List ℕ) → Valid t → HasContent t.ledger k o body →
    IsShown t.ledger k (looked_at t.ledger o) body
looked_has k None body v h = h
looked_has {t} k (Some name) body v h = by (nat_lt t.ledger.frontier name.number) refl
  where
    on : (x : Option Place) → t.ledger.standing name.number name.index ≡ x →
        ((p : Place) × (t.ledger.standing name.number name.index ≡ Some p)) → IsShown t.ledger k (looked_on name x) body
    on (Some p) e there = h
    on None e there = absurd (none-some there.0 (sym e ∙ there.1))

    by : (b : Bool) → nat_lt t.ledger.frontier name.number ≡ b →
        IsShown t.ledger k (if b then InSlot name else looked_on name (t.ledger.standing name.number name.index)) body
    by true e = h
    by false e = on (t.ledger.standing name.number name.index) refl
        (v.frontier.stand name.number name.index h.entry (within e) h.is)
      where
        within : nat_lt t.ledger.frontier name.number ≡ false → name.number ≤ t.ledger.frontier
        within x = ltb-false t.ledger.frontier name.number x

-- Repairs change no content

-- all groups give the contents that those of the accepted commands give
pub accepted_alone : {t : Translation} → Valid t → put_groups t.ledger.base t.ledger.groups ≡ put_groups t.ledger.base
    (accepted_groups t.ledger)
accepted_alone {t} v = ap (put_groups base) (sym (take-append-drop repairs groups))
    ∙ (put_more base (take repairs groups) (drop repairs groups)
    ∙ ap (λ f. put_groups f (drop repairs groups)) (after_none groups repairs repairs v.history.contents (omega arith)))
  where
    base : Contents
    base = t.ledger.base

    repairs : ℕ
    repairs = t.ledger.repairs

    groups : List Group
    groups = t.ledger.groups

-- until the device is mended the page of a key at the frontier has the content of the life's start: what the key began
-- with has it, and so does its repair
pub durable_has : {t : Translation} {k : Key} → Valid t → is_mended t.work.mending ≡ false →
    IsKey (shape_of_numbers t.numbers) k → HasContent t.ledger k (latest_durable t.ledger k) (t.ledger.base k)
durable_has {t} {k} v un is = ⊎_elim repaired
    (λ (r : (latest_durable t.ledger k ≡ t.ledger.first_page k) × NoneOf k groups).
    subst (λ (o : Option Name). HasContent t.ledger k o (t.ledger.base k)) (sym r.0)
    (begun (t.ledger.first_page k) refl)) (latest_cases k t.ledger.greatest_seen groups (t.ledger.first_page k))
  where
    groups : List Group
    groups = take (t.ledger.frontier - t.ledger.greatest_seen) t.ledger.groups

    begun : (o : Option Name) → t.ledger.first_page k ≡ o → HasContent t.ledger k o (t.ledger.base k)
    begun None e = none (subst (FirstRight (book t) k) e (v.book_right.first_page k is)) (v.book_right.base k is)
      where
        none : FirstRight (book t) k None → BaseAt (book t) k ⊎ BaseNone (book t) k → t.ledger.base k ≡ zero_block
        none first (inl at) = absurd (first at.number at.index _ at.is refl at.below)
        none first (inr zeros) = zeros.zeros
    begun (Some name) e =
        let c = v.book_right.first_content k name is e in
        record {
          entry = record { item = record { key = k; body = t.ledger.base k }; size = c.0 };
          is = old_page (book t) name.number name.index
              (v.book_right.old_within name.number name.index _ c.1) c.1;
          key = refl;
          body_is = refl;
        }

    repaired : IsLastOf k t.ledger.greatest_seen groups (latest_durable t.ledger k) →
        HasContent t.ledger k (latest_durable t.ledger k) (t.ledger.base k)
    repaired l =
        let there = get_take (t.ledger.frontier - t.ledger.greatest_seen) t.ledger.groups l.at l.group l.there in
        let all = (v.history.mending un).0 in
        let inside = slice_get_within t.ledger.groups l.at l.group there.1 in
        subst (λ (x : Option Name). HasContent t.ledger k x (t.ledger.base k)) (sym l.is)
        (record {
          entry = record { item = l.item; size = length l.group };
          is = last_page (book t) k groups (latest_durable t.ledger k) l there.1;
          key = l.key;
          body_is =
              v.history.contents l.at l.name.index l.group l.item (omega (arith, all, inside)) there.1 l.has
              ∙ ap t.ledger.base l.key;
        })

-- what is looked up of a key shows the key's content now
pub look_shows : (s : State) (k : Key) → IsTied s → IsKey (shape_of_numbers (numbers_of s)) k →
    IsShown s.translation.ledger k (look_now s.translation k) (content (plain_now s) k)
look_shows s k v is = by (is_mended l.work.mending) refl
  where
    l : Translation
    l = s.translation

    same : content (plain_now s) k ≡ put_groups l.ledger.base (accepted_groups l.ledger) k
    same = many_commands s.base s.accepted v.commands k (subst (λ (z : Shape). IsKey z k) (sym v.base.1) is)
        ∙ (ap (λ (gs : List Group). put_groups (content s.base) gs k) (sym v.groups)
        ∙ put_groups_same (content s.base) l.ledger.base (accepted_groups l.ledger) k (sym (v.contents k is)))

    none : is_mended l.work.mending ≡ false → accepted_groups l.ledger ≡ []
    none un = let all = (v.valid.history.mending un).0 in
        ap (λ (n : ℕ). drop n l.ledger.groups) all ∙ drop_all (length l.ledger.groups) l.ledger.groups (omega arith)

    by : (b : Bool) → is_mended l.work.mending ≡ b →
        IsShown l.ledger k (if b then look l.ledger k else looked_at l.ledger (latest_durable l.ledger k))
        (content (plain_now s) k)
    by true e =
        subst (IsShown l.ledger k (look l.ledger k))
        (sym (same ∙ ap (λ (f : Contents). f k) (sym (accepted_alone v.valid))))
        (looked_has k (latest l.ledger k) (put_groups l.ledger.base l.ledger.groups k) v.valid
        (latest_has v.valid (mended_told l.work.mending e) is))
    by false e =
        subst (IsShown l.ledger k (looked_at l.ledger (latest_durable l.ledger k)))
        (sym (same ∙ ap (λ (gs : List Group). put_groups l.ledger.base gs k) (none e)))
        (looked_has k (latest_durable l.ledger k) (l.ledger.base k) v.valid (durable_has v.valid e is))
