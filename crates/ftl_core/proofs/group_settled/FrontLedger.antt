-- One group more is durable: what is kept of pages and places goes on to be what the ledger has.
use Rattle.ftl_core.proofs.Common.{Bool, Core, Entry, IsKey, IsPageAt, Item, Key, Ledger, LedgerKept, List, Name, None}
use Rattle.ftl_core.proofs.Common.{Numbers, Option, PagesKept, Pending, Some, Standing, Stored, Translation, Valid, []}
use Rattle.ftl_core.proofs.Common.{all_stand, ap, arith, before_accepted, book, climbed, drop, entry_of, false, filter}
use Rattle.ftl_core.proofs.Common.{fold, front_written, group_durable, if_false, if_true, if◌then◌else◌, index_in}
use Rattle.ftl_core.proofs.Common.{is_of_group, is_some, is_unwritten, latest_durable, latest_in, length, list_any, map}
use Rattle.ftl_core.proofs.Common.{name_or, names_after, page_durable, pending, refl, risen, shape_of_numbers}
use Rattle.ftl_core.proofs.Common.{slice_get, slice_get_within, stored_of, subst, suc, sym, take, true, two_ways, ℕ}
use Rattle.ftl_core.proofs.Common.{⊎_elim, ◌++◌, ◌+◌, ◌-◌, ◌<◌, ◌∙◌, ◌∷◌, ◌≡◌, ◌≤◌}
use Rattle.ufs_spec.specs.Keys as keys
use Rattle.ufs_spec.specs.Moves.{KeysDiffer}
use Rattle.power_loss.proofs.books.PagesByName.{new_page}
use Rattle.write_cache.specs.Slots.{whole_group}
use Rattle.ftl_core.proofs.group_settled.FrontPages.{AreItemPages, AreStandingPages, FrontPages, behind_front}
use Rattle.ftl_core.proofs.group_settled.FrontPages.{front_pages, front_standing, front_whole, group_stands, of_front}
use Rattle.ftl_core.proofs.group_settled.FrontPlaces.{places_same, stored_next}
use Rattle.ftl_core.proofs.group_settled.Settling.{only_places, others, whole}
use Rattle.ftl_core.proofs.look_and_accept.Numbers.{behind, pending_mended}
use Rattle.ftl_core.proofs.opened.ListParts.{drop_next, latest_more}
use Rattle.ftl_core.proofs.pins.PinsSettled.{at_frontier, moved_all, pins_all}
use Rattle.ftl_core.proofs.pages.StoredNames.{AreAlike}

-- The groups of this life

-- each page is of a key of the device
abbrev AreKeys : Numbers → Ledger → Type 0
AreKeys n l = (j i : ℕ) (g : keys.Group) (x : Item) → slice_get l.groups j ≡ Some g → slice_get g i ≡ Some x →
    IsKey (shape_of_numbers n) x.key

pub record GroupsRight (n : Numbers) (l : Ledger) : Type 0 where
  pub are_keys : AreKeys n l
  pub differ : (j : ℕ) (g : keys.Group) → slice_get l.groups j ≡ Some g → KeysDiffer g
  pub some : (j : ℕ) (g : keys.Group) → slice_get l.groups j ≡ Some g → 0 < length g

pub groups_right : (t : Translation) → Valid t → GroupsRight t.numbers t.ledger
groups_right t v = record {
  are_keys = λ j i g x at item. v.book_right.keys (suc (t.ledger.greatest_seen + j)) i (entry g x)
      (page j i g x at item);
  differ = λ j g at i m a b here there same. v.book_right.differ (suc (t.ledger.greatest_seen + j)) i m (entry g a)
      (entry g b) (page j i g a at here) (page j m g b at there) same;
  some = v.book_right.some;
}
  where
    entry : keys.Group → Item → Entry
    entry g x = record { item = x; size = length g }

    position : (a b : ℕ) → b ≡ suc (a + b) - a - 1
    position a b = omega arith

    page : (j i : ℕ) (g : keys.Group) (x : Item) → slice_get t.ledger.groups j ≡ Some g → slice_get g i ≡ Some x →
        IsPageAt (book t) (suc (t.ledger.greatest_seen + j)) i (record { item = x; size = length g })
    page j i g x at item =
        new_page (book t) (suc (t.ledger.greatest_seen + j)) i (record { item = x; size = length g }) (omega arith)
        (record {
          group = g;
          is = subst (λ (m : ℕ). slice_get t.ledger.groups m ≡ Some g) (position t.ledger.greatest_seen j) at;
          item = item;
          size = refl;
        })

-- The page of a key at the frontier

pub index_other : (k : Key) (x : Item) → keys.same_key x.key k ≡ false → index_in k (x ∷ []) ≡ None
index_other k x e = rw e refl

-- the position of the first group above the frontier among the groups of the ledger
abbrev first_above : Ledger → ℕ
first_above l = l.frontier - l.greatest_seen

pub durable_next : (l : Ledger) (h : keys.Group) (hs : List keys.Group) (k : Key) → l.greatest_seen ≤ l.frontier →
    drop (l.frontier - l.greatest_seen) l.groups ≡ h ∷ hs →
    latest_durable (at_frontier l (suc l.frontier)) k ≡ name_or (suc l.frontier) (index_in k h) (latest_durable l k)
durable_next l h hs k low e =
    let r = drop_next l.groups (first_above l) h hs e in
    let one_more : suc l.frontier - l.greatest_seen ≡ suc (first_above l) = omega arith in
    let back : l.greatest_seen + length (take (first_above l) l.groups) ≡ l.frontier = sum l.greatest_seen l.frontier
    (length (take (first_above l) l.groups)) low r.2 in
    ap (λ (m : ℕ). latest_in k l.greatest_seen (take m l.groups) (l.first_page k)) one_more
    ∙ ap (λ (gs : List keys.Group). latest_in k l.greatest_seen gs (l.first_page k)) r.1
    ∙ latest_more k l.greatest_seen (take (first_above l) l.groups) h (l.first_page k)
    ∙ ap (λ (m : ℕ). name_or (suc m) (index_in k h) (latest_durable l k)) back
  where
    sum : (a b n : ℕ) → a ≤ b → n ≡ b - a → a + n ≡ b
    sum a b n le e = omega arith

-- The first pending group

-- the first page is of it
record IsFirst (n : ℕ) (ps : List Pending) : Type 0 where
  first : Pending
  rest : List Pending
  is : ps ≡ first ∷ rest
  number : first.number ≡ n

first_page : (st : Standing) (n i : ℕ) (front more : List Pending) (g : keys.Group) → AreItemPages st n i front g →
    0 < length g → IsFirst n (front ++ more)
first_page st n i [] more [] h some = absurd (omega arith)
first_page st n i [] more (x ∷ g) h some = absurd h
first_page st n i (p ∷ ps) more [] h some = absurd h
first_page st n i (p ∷ ps) more (x ∷ g) h some =
    record { first = p; rest = ps ++ more; is = refl; number = h.0.number }

front_first : (l : Ledger) (g : keys.Group) (gs : List keys.Group) (ps : List Pending) → FrontPages l g gs ps →
    0 < length g → IsFirst (suc l.frontier) ps
front_first l g gs ps f some = subst (IsFirst (suc l.frontier)) (sym f.is)
    (first_page l.standing (suc l.frontier) 0 f.front f.rest g f.items some)

-- all its pages stand
pub record IsNextWhole (c : Core) (l : Ledger) (number : ℕ) : Type 0 where
  pub group : keys.Group
  pub groups : List keys.Group
  pub is : behind l ≡ group ∷ groups
  pub there : slice_get l.groups (l.frontier - l.greatest_seen) ≡ Some group
  pub pages : FrontPages l group groups c.pages
  pub number_is : number ≡ suc l.frontier
  pub stand : AreStandingPages l.standing (suc l.frontier) 0 pages.front group

abbrev pub BehindKept : Core → Ledger → Type 0
BehindKept c l = PagesKept l.standing (entry_of l) c.pages (names_after l.frontier (behind l))

module _ (c : Core) (l : Ledger) (h : BehindKept c l) (low : l.greatest_seen ≤ l.frontier)
    (some : (j : ℕ) (g : keys.Group) → slice_get l.groups j ≡ Some g → 0 < length g) where
  group_there : (g : keys.Group) (gs : List keys.Group) → behind l ≡ g ∷ gs →
      slice_get l.groups (l.frontier - l.greatest_seen) ≡ Some g
  group_there g gs e = (drop_next l.groups (l.frontier - l.greatest_seen) g gs e).3

  group_pages : (g : keys.Group) (gs : List keys.Group) → behind l ≡ g ∷ gs → FrontPages l g gs c.pages
  group_pages g gs e = front_pages l g gs c.pages low (group_there g gs e)
      (subst (λ (hs : List keys.Group). PagesKept l.standing (entry_of l) c.pages (names_after l.frontier hs)) e h)

  group_first : (g : keys.Group) (gs : List keys.Group) → behind l ≡ g ∷ gs → IsFirst (suc l.frontier) c.pages
  group_first g gs e = front_first l g gs c.pages (group_pages g gs e)
      (some (l.frontier - l.greatest_seen) g (group_there g gs e))

  -- where the code finds a whole group, it is the first one behind the frontier
  pub next_whole : (number : ℕ) → front_written c ≡ Some number → IsNextWhole c l number
  next_whole number e = by (behind l) refl
    where
      heads : (p q : Pending) (ps qs : List Pending) → p ∷ ps ≡ q ∷ qs → p ≡ q
      heads p q ps qs e = cc

      by : (hs : List keys.Group) → behind l ≡ hs → IsNextWhole c l number
      by [] f =
          let w = whole c.pages number e in
          absurd (subst (λ (z : List Pending × List keys.Group). PagesKept l.standing (entry_of l) z.0
          (names_after l.frontier z.1)) (λ i. (w.is i, f i)) h)
      by (g ∷ gs) f =
          let w = whole c.pages number e in
          let first = group_first g gs f in
          let same = heads w.first first.first w.rest first.rest (sym w.is ∙ first.is) in
          let number_is : number ≡ suc l.frontier =
          sym w.number_is ∙ ap (λ (p : Pending). p.number) same ∙ first.number in
          record {
            group = g;
            groups = gs;
            is = f;
            there = group_there g gs f;
            pages = group_pages g gs f;
            number_is = number_is;
            stand = front_standing l g gs c.pages (group_pages g gs f)
                (subst (λ (n : ℕ). list_any (is_unwritten n) c.pages ≡ false) number_is w.written);
          }

  -- and where it finds none, the frontier stays
  pub none_whole : front_written c ≡ None →
      climbed (λ (m i : ℕ). is_some (l.standing m i)) l.frontier (behind l) ≡ l.frontier
  none_whole e = by (behind l) refl
    where
      unwritten : (ps : List Pending) (p : Pending) (rest : List Pending) → ps ≡ p ∷ rest →
          whole_group ps (slice_get ps 0) ≡ None → list_any (is_unwritten p.number) ps ≡ true
      unwritten ps p rest is none =
          one (list_any (is_unwritten p.number) ps) p.number
          (sym (ap (λ (qs : List Pending). whole_group ps (slice_get qs 0)) is) ∙ none)
        where
          one : (b : Bool) (n : ℕ) → (if b then None else Some n) ≡ None → b ≡ true
          one true n e = refl
          one false n e = cc

      apart : true ≡ false → ⊥
      apart e = cc

      by : (hs : List keys.Group) → behind l ≡ hs →
          climbed (λ (m i : ℕ). is_some (l.standing m i)) l.frontier hs ≡ l.frontier
      by [] f = refl
      by (g ∷ gs) f =
          let first = group_first g gs f in
          ⊎_elim
          (λ stands. absurd (apart (sym (unwritten c.pages first.first first.rest first.is e)
          ∙ ap (λ (n : ℕ). list_any (is_unwritten n) c.pages) first.number
          ∙ front_whole l g gs c.pages (group_pages g gs f) stands)))
          (λ not_all. if_false (all_stand (λ (i : ℕ). is_some (l.standing (suc l.frontier) i)) (length g))
          (climbed (λ (m i : ℕ). is_some (l.standing m i)) (suc l.frontier) gs) l.frontier not_all)
          (two_ways (all_stand (λ (i : ℕ). is_some (l.standing (suc l.frontier) i)) (length g)))

-- it goes on over one that is whole
pub goes_on : (c : Core) (l : Ledger) (number : ℕ) (w : IsNextWhole c l number) →
    climbed (λ (m i : ℕ). is_some (l.standing m i)) l.frontier (behind l) ≡
    climbed (λ (m i : ℕ). is_some (l.standing m i)) (suc l.frontier) w.groups
goes_on c l number w =
    ap (climbed (λ (m i : ℕ). is_some (l.standing m i)) l.frontier) w.is
    ∙ if_true (all_stand (λ (i : ℕ). is_some (l.standing (suc l.frontier) i)) (length w.group))
    (climbed (λ (m i : ℕ). is_some (l.standing m i)) (suc l.frontier) w.groups) l.frontier
    (group_stands l.standing (suc l.frontier) w.pages.front w.group w.stand)

-- One group more

-- these pages are durable, and those are still pending
abbrev pub made : Core → List Pending → List Pending → Core
made c front rest = record c {
  places = (fold page_durable c front).places;
  live = (fold page_durable c front).live;
  pins = map (moved_all front) c.pins;
  pages = rest;
  frontier = c.frontier + 1;
}

-- that is what the code makes of it
pub made_is : (c : Core) (l : Ledger) (number : ℕ) →
    LedgerKept c.numbers c.places c.pages c.frontier c.last l → (w : IsNextWhole c l number) →
    group_durable c number ≡ made c w.pages.front w.pages.rest
made_is c l number h w =
    ap (λ (z : Core). record z { pages = others number c.pages; frontier = risen c })
    (only_places c (filter (is_of_group number) c.pages))
    ∙ (λ i. record c {
      places = (fold page_durable c (front i)).places;
      live = (fold page_durable c (front i)).live;
      pins = (pins_all (filter (is_of_group number) c.pages) c
          ∙ ap (λ (ps : List Pending). map (moved_all ps) c.pins) front) i;
      pages = rest i;
      frontier = up i;
    })
  where
    front : filter (is_of_group number) c.pages ≡ w.pages.front
    front = ap (λ (n : ℕ). filter (is_of_group n) c.pages) w.number_is
        ∙ of_front l w.group w.groups c.pages w.pages

    rest : others number c.pages ≡ w.pages.rest
    rest = ap (λ (n : ℕ). others n c.pages) w.number_is ∙ behind_front l w.group w.groups c.pages w.pages

    up : risen c ≡ c.frontier + 1
    up =
        let within = slice_get_within l.groups (l.frontier - l.greatest_seen) w.group w.there in
        let last = h.last_given in
        let same = h.frontier in
        omega (arith, within, last, same)

-- what is kept of pages and places is what the ledger has then
pub ledger_next : (c : Core) (l : Ledger) (number : ℕ) →
    LedgerKept c.numbers c.places c.pages c.frontier c.last l → before_accepted l ≤ l.frontier →
    GroupsRight c.numbers l → (w : IsNextWhole c l number) →
    LedgerKept c.numbers (made c w.pages.front w.pages.rest).places w.pages.rest (c.frontier + 1) c.last
    (at_frontier l (suc l.frontier))
ledger_next c l number h low right w = record {
  frontier = let e = h.frontier in omega arith;
  last_given = h.last_given;
  pages = subst (λ (hs : List keys.Group). PagesKept l.standing (entry_of l) w.pages.rest
      (names_after (suc l.frontier) hs)) (sym behind_next) w.pages.more;
  keys = let same = places_same w.pages.front c in let long = h.keys in omega (arith, same, long);
  places = λ k isk. subst (λ (z : Option Stored × Option Name). AreAlike l.standing z.0 z.1)
      (λ i. (
        ap (λ (z : Core). stored_of z k) (only_places c w.pages.front) i,
        sym (durable_next l w.group w.groups k top w.is) i,
      ))
      (stored_next l.standing (suc l.frontier) w.pages.front w.group c k (latest_durable l k) w.stand h.keys
      (λ j x at. right.are_keys (l.frontier - l.greatest_seen) j w.group x w.there at)
      (right.differ (l.frontier - l.greatest_seen) w.group w.there) isk (h.places k isk));
}
  where
    top : l.greatest_seen ≤ l.frontier
    top = let a = low in omega arith

    behind_next : pending (at_frontier l (suc l.frontier)) ≡ w.groups
    behind_next = pending_mended (at_frontier l (suc l.frontier)) (more (before_accepted l) l.frontier low)
        ∙ ap (λ (m : ℕ). drop m l.groups) (one_more l.greatest_seen l.frontier top)
        ∙ (drop_next l.groups (first_above l) w.group w.groups w.is).0
      where
        more : (a b : ℕ) → a ≤ b → a ≤ suc b
        more a b le = omega arith

        one_more : (a b : ℕ) → a ≤ b → suc b - a ≡ suc (b - a)
        one_more a b le = omega arith
