-- The pages of the first group that is pending: they are the first of all pages, one for each item of the group.
use Rattle.ftl_core.proofs.Common.{Bool, Entry, Group, Item, Key, Ledger, List, Name, None, Option, PageKept, PagesKept}
use Rattle.ftl_core.proofs.Common.{Pending, Place, Some, Standing, [], all_stand, and_parts, ap, append-nil, arith}
use Rattle.ftl_core.proofs.Common.{at_has, below, drop, entry_of, eq-eqb, false, false≢true, filter, filter-append}
use Rattle.ftl_core.proofs.Common.{if_false, if◌then◌else◌, is_none, is_of_group, is_some, is_unwritten, length}
use Rattle.ftl_core.proofs.Common.{length-below, length-map, list_any, list_any-append, name_at, names_after, names_of}
use Rattle.ftl_core.proofs.Common.{nat_le, not, option_and_then, option_map, or_parts, refl, same_Some, slice_get}
use Rattle.ftl_core.proofs.Common.{subst, suc, sym, take, true, zero, ℕ, ◌&&◌, ◌++◌, ◌+◌, ◌-◌, ◌<◌, ◌==◌, ◌||◌, ◌∙◌}
use Rattle.ftl_core.proofs.Common.{◌∷◌, ◌≡◌, ◌≤◌}
use Rattle.std.proofs.lemmas.List.{take-append-drop}
use Rattle.ufs_spec.specs.Ledger.{entry_in}
use Rattle.ufs_spec.proofs.Facts.{lt-leb, or_with_false}
use Rattle.ufs_spec.proofs.Lists.{none_passes}
use Rattle.power_loss.proofs.books.FrontierClimbs.{stands_each}
use Rattle.ftl_core.proofs.group_settled.Settling.{others}
use Rattle.ftl_core.proofs.pages.NamesBehind.{get_name, in_names}
use Rattle.ftl_core.proofs.pages.PagesNamed.{pages_apart, pages_get, same_count}

-- Pages of a group

-- the page of an item of the group with this number, at this index
pub record IsItemPage (st : Standing) (n i : ℕ) (p : Pending) (x : Item) : Type 0 where
  pub number : p.number ≡ n
  pub index : p.index ≡ i
  pub key : p.key ≡ x.key
  pub stands : st n i ≡ p.written

-- item by item, from an index on
abbrev pub AreItemPages : Standing → ℕ → ℕ → List Pending → List Item → Type 0
AreItemPages st n i [] [] = Unit {0}
AreItemPages st n i (p ∷ ps) (x ∷ xs) = IsItemPage st n i p x × AreItemPages st n (suc i) ps xs
AreItemPages st n i ps xs = ⊥

item_pages : (st : Standing) (n i : ℕ) (ps : List Pending) (xs : List Item) → length ps ≡ length xs →
    ((k : ℕ) (p : Pending) (x : Item) → slice_get ps k ≡ Some p → slice_get xs k ≡ Some x →
    IsItemPage st n (i + k) p x) → AreItemPages st n i ps xs
item_pages st n i [] [] e each = tt
item_pages st n i [] (x ∷ xs) e each = absurd (omega arith)
item_pages st n i (p ∷ ps) [] e each = absurd (omega arith)
item_pages st n i (p ∷ ps) (x ∷ xs) e each = (
  subst (λ (m : ℕ). IsItemPage st n m p x) (same i) (each 0 p x refl refl),
  item_pages st n (suc i) ps xs (omega arith)
      (λ k q y a b. subst (λ (m : ℕ). IsItemPage st n m q y) (next i k) (each (suc k) q y a b)),
)
  where
    same : (i : ℕ) → i + 0 ≡ i
    same i = omega arith

    next : (i k : ℕ) → i + suc k ≡ suc i + k
    next i k = omega arith

-- the page of an item that stands
pub record IsStandingPage (st : Standing) (n i : ℕ) (p : Pending) (x : Item) : Type 0 where
  pub number : p.number ≡ n
  pub index : p.index ≡ i
  pub key : p.key ≡ x.key
  pub place : Place
  pub written : p.written ≡ Some place
  pub stands : st n i ≡ Some place

abbrev pub AreStandingPages : Standing → ℕ → ℕ → List Pending → List Item → Type 0
AreStandingPages st n i [] [] = Unit {0}
AreStandingPages st n i (p ∷ ps) (x ∷ xs) = IsStandingPage st n i p x × AreStandingPages st n (suc i) ps xs
AreStandingPages st n i ps xs = ⊥

-- Whether all of them stand

standing_page : (st : Standing) (n i : ℕ) (p : Pending) (x : Item) → IsItemPage st n i p x →
    is_unwritten n p ≡ false → IsStandingPage st n i p x
standing_page st n i p x h e = by p.written refl
  where
    none : is_none p.written ≡ false
    none = ap (λ (b : Bool). b && is_none p.written) (sym (eq-eqb p.number n h.number)) ∙ e

    by : (o : Option Place) → p.written ≡ o → IsStandingPage st n i p x
    by None f = absurd (apart (sym (ap is_none f) ∙ none))
      where
        apart : true ≡ false → ⊥
        apart e = cc
    by (Some place) f = record {
      number = h.number;
      index = h.index;
      key = h.key;
      place = place;
      written = f;
      stands = h.stands ∙ f;
    }

-- where none is unwritten all stand
standing_pages : (st : Standing) (n i : ℕ) (ps : List Pending) (xs : List Item) → AreItemPages st n i ps xs →
    list_any (is_unwritten n) ps ≡ false → AreStandingPages st n i ps xs
standing_pages st n i [] [] h e = tt
standing_pages st n i [] (x ∷ xs) h e = absurd h
standing_pages st n i (p ∷ ps) [] h e = absurd h
standing_pages st n i (p ∷ ps) (x ∷ xs) h e =
    let r = or_parts (is_unwritten n p) (list_any (is_unwritten n) ps) e in
    (standing_page st n i p x h.0 r.0, standing_pages st n (suc i) ps xs h.1 r.1)

each_stands : (st : Standing) (n i : ℕ) (ps : List Pending) (xs : List Item) → AreStandingPages st n i ps xs →
    (j : ℕ) → j < length xs → is_some (st n (i + j)) ≡ true
each_stands st n i [] [] h j l = absurd (omega arith)
each_stands st n i [] (x ∷ xs) h j l = absurd h
each_stands st n i (p ∷ ps) [] h j l = absurd h
each_stands st n i (p ∷ ps) (x ∷ xs) h zero l = ap (λ (m : ℕ). is_some (st n m)) (same i) ∙ ap is_some h.0.stands
  where
    same : (i : ℕ) → i + 0 ≡ i
    same i = omega arith
each_stands st n i (p ∷ ps) (x ∷ xs) h (suc j) l =
    ap (λ (m : ℕ). is_some (st n m)) (next i j) ∙ each_stands st n (suc i) ps xs h.1 j (omega arith)
  where
    next : (i k : ℕ) → i + suc k ≡ suc i + k
    next i k = omega arith

all_stands : (stands : ℕ → Bool) (k : ℕ) → ((j : ℕ) → j < k → stands j ≡ true) → all_stand stands k ≡ true
all_stands stands zero each = refl
all_stands stands (suc k) each =
    ap (λ (b : Bool). b && all_stand stands k) (each k (omega arith))
    ∙ all_stands stands k (λ j l. each j (omega arith))

-- then the whole group stands
pub group_stands : (st : Standing) (n : ℕ) (ps : List Pending) (xs : List Item) → AreStandingPages st n 0 ps xs →
    all_stand (λ (i : ℕ). is_some (st n i)) (length xs) ≡ true
group_stands st n ps xs h =
    all_stands (λ (i : ℕ). is_some (st n i)) (length xs)
    (λ j l. ap (λ (m : ℕ). is_some (st n m)) (same j) ∙ each_stands st n 0 ps xs h j l)
  where
    same : (j : ℕ) → j ≡ 0 + j
    same j = omega arith

-- and the other way round
none_unwritten : (st : Standing) (n i : ℕ) (ps : List Pending) (xs : List Item) → AreItemPages st n i ps xs →
    ((j : ℕ) → j < length xs → is_some (st n (i + j)) ≡ true) → list_any (is_unwritten n) ps ≡ false
none_unwritten st n i [] [] h each = refl
none_unwritten st n i [] (x ∷ xs) h each = absurd h
none_unwritten st n i (p ∷ ps) [] h each = absurd h
none_unwritten st n i (p ∷ ps) (x ∷ xs) h each =
    both (is_of_group n p) (is_none p.written) (list_any (is_unwritten n) ps)
    (some p.written (ap is_some (sym h.0.stands) ∙ ap (λ (m : ℕ). is_some (st n m)) (same i) ∙ each 0 (omega arith)))
    (none_unwritten st n (suc i) ps xs h.1
    (λ j l. ap (λ (m : ℕ). is_some (st n m)) (next i j) ∙ each (suc j) (omega arith)))
  where
    same : (i : ℕ) → i ≡ i + 0
    same i = omega arith

    next : (i k : ℕ) → suc i + k ≡ i + suc k
    next i k = omega arith

    some : (o : Option Place) → is_some o ≡ true → is_none o ≡ false
    some None e = cc
    some (Some place) e = refl

    both : (a b c : Bool) → b ≡ false → c ≡ false → (a && b || c) ≡ false
    both a b true e f = cc
    both a true false e f = cc
    both true false false e f = refl
    both false false false e f = refl

-- The first group

-- its pages, and those of the groups behind it
pub record FrontPages (l : Ledger) (g : Group) (gs : List Group) (ps : List Pending) : Type 0 where
  pub front : List Pending
  pub rest : List Pending
  pub is : ps ≡ front ++ rest
  pub items : AreItemPages l.standing (suc l.frontier) 0 front g
  pub more : PagesKept l.standing (entry_of l) rest (names_after (suc l.frontier) gs)

-- what the page of the first group behind the frontier has
pub entry_next : (l : Ledger) (g : Group) (k : ℕ) → l.greatest_seen ≤ l.frontier →
    slice_get l.groups (l.frontier - l.greatest_seen) ≡ Some g →
    entry_of l (name_at (suc l.frontier) k) ≡ entry_in g k
entry_next l g k low there =
    let above = lt-leb (suc l.frontier) l.greatest_seen (omega arith) in
    if_false (nat_le (suc l.frontier) l.greatest_seen) (l.entries_before (suc l.frontier) k) _ above
    ∙ ap (option_and_then (λ (h : Group). entry_in h k))
    (if_false (nat_le (suc l.frontier) l.greatest_seen) None
    (slice_get l.groups (suc l.frontier - l.greatest_seen - 1)) above
    ∙ ap (slice_get l.groups) (position l.greatest_seen l.frontier low) ∙ there)
  where
    position : (a b : ℕ) → a ≤ b → suc b - a - 1 ≡ b - a
    position a b le = omega arith

pub front_pages : (l : Ledger) (g : Group) (gs : List Group) (ps : List Pending) → l.greatest_seen ≤ l.frontier →
    slice_get l.groups (l.frontier - l.greatest_seen) ≡ Some g →
    PagesKept l.standing (entry_of l) ps (names_after l.frontier (g ∷ gs)) → FrontPages l g gs ps
front_pages l g gs ps low there h = record {
  front = take (length names) ps;
  rest = drop (length names) ps;
  is = sym (take-append-drop (length names) ps);
  items = item_pages l.standing (suc l.frontier) 0 (take (length names) ps) g (count ∙ long)
      (λ k p x at item. subst (λ (m : ℕ). IsItemPage l.standing (suc l.frontier) m p x) (same k) (page k p x at item));
  more = both.1;
}
  where
    names : List Name
    names = names_of (suc l.frontier) g

    next : l.frontier + 1 ≡ suc l.frontier
    next = omega arith

    same : (k : ℕ) → k ≡ 0 + k
    same k = omega arith

    both : PagesKept l.standing (entry_of l) (take (length names) ps) names
        × PagesKept l.standing (entry_of l) (drop (length names) ps) (names_after (suc l.frontier) gs)
    both = pages_apart l.standing (entry_of l) ps names (names_after (suc l.frontier) gs)
        (subst (λ (m : ℕ). PagesKept l.standing (entry_of l) ps (names_of m g ++ names_after m gs)) next h)

    count : length (take (length names) ps) ≡ length names
    count = same_count l.standing (entry_of l) (take (length names) ps) names both.0

    long : length names ≡ length g
    long = length-map (below (length g)) (name_at (suc l.frontier)) ∙ length-below (length g)

    key_of : {a b : Key} {x y : List ℕ} {m n : ℕ} →
        ◌≡◌ {A = Option Entry} (Some (record { item = record { key = a; body = x }; size = m }))
        (Some (record { item = record { key = b; body = y }; size = n })) → a ≡ b
    key_of e = ap (λ (z : Entry). z.item.key) (same_Some _ _ e)

    page : (k : ℕ) (p : Pending) (x : Item) → slice_get (take (length names) ps) k ≡ Some p → slice_get g k ≡ Some x →
        IsItemPage l.standing (suc l.frontier) k p x
    page k p x at item =
        let r = pages_get l.standing (entry_of l) (take (length names) ps) names k p both.0 at in
        let n = get_name (suc l.frontier) k g r.0 r.1 in
        let kept : PageKept l.standing (entry_of l) p (name_at (suc l.frontier) k) =
        subst (PageKept l.standing (entry_of l) p) n.1 r.2 in
        record {
          number = kept.number;
          index = kept.index;
          key = key_of (sym kept.entry ∙ entry_next l g k low there
              ∙ ap (option_map (λ (y : Item). record { item = y; size = length g })) item);
          stands = kept.stands;
        }

-- Pages of this group, and of others

filter_all : (test : Pending → Bool) (ps : List Pending) →
    ((k : ℕ) (p : Pending) → slice_get ps k ≡ Some p → test p ≡ true) → filter test ps ≡ ps
filter_all test [] each = refl
filter_all test (p ∷ ps) each =
    ap (λ (b : Bool). if b then p ∷ filter test ps else filter test ps) (each 0 p refl)
    ∙ ap (λ (qs : List Pending). p ∷ qs) (filter_all test ps (λ k q at. each (suc k) q at))

filter_none : (test : Pending → Bool) (ps : List Pending) →
    ((k : ℕ) (p : Pending) → slice_get ps k ≡ Some p → test p ≡ false) → filter test ps ≡ []
filter_none test [] each = refl
filter_none test (p ∷ ps) each =
    ap (λ (b : Bool). if b then p ∷ filter test ps else filter test ps) (each 0 p refl)
    ∙ filter_none test ps (λ k q at. each (suc k) q at)

items_number : (st : Standing) (n i : ℕ) (ps : List Pending) (xs : List Item) → AreItemPages st n i ps xs →
    (k : ℕ) (p : Pending) → slice_get ps k ≡ Some p → is_of_group n p ≡ true
items_number st n i [] xs h k p at = cc
items_number st n i (q ∷ ps) [] h k p at = absurd h
items_number st n i (q ∷ ps) (x ∷ xs) h zero p at =
    ap (λ (z : Pending). z.number == n) (sym (same_Some q p at)) ∙ eq-eqb q.number n h.0.number
items_number st n i (q ∷ ps) (x ∷ xs) h (suc k) p at = items_number st n (suc i) ps xs h.1 k p at

module _ (l : Ledger) (g : Group) (gs : List Group) (ps : List Pending) (f : FrontPages l g gs ps) where
  rest_other : (k : ℕ) (p : Pending) → slice_get f.rest k ≡ Some p → is_of_group (suc l.frontier) p ≡ false
  rest_other k p at =
      let r = pages_get l.standing (entry_of l) f.rest (names_after (suc l.frontier) gs) k p f.more at in
      let above = (in_names (suc l.frontier) gs r.0 (at_has (names_after (suc l.frontier) gs) k r.0 r.1)).above in
      let number = r.2.number in
      grind (arith, above, number)

  pub of_front : filter (is_of_group (suc l.frontier)) ps ≡ f.front
  of_front = ap (filter (is_of_group (suc l.frontier))) f.is
      ∙ filter-append (is_of_group (suc l.frontier)) f.front f.rest
      ∙ (λ i. filter_all (is_of_group (suc l.frontier)) f.front
      (items_number l.standing (suc l.frontier) 0 f.front g f.items) i
      ++ filter_none (is_of_group (suc l.frontier)) f.rest rest_other i)
      ∙ append-nil f.front

  pub behind_front : others (suc l.frontier) ps ≡ f.rest
  behind_front = ap (others (suc l.frontier)) f.is
      ∙ filter-append (λ p. not (is_of_group (suc l.frontier) p)) f.front f.rest
      ∙ (λ i. filter_none (λ p. not (is_of_group (suc l.frontier) p)) f.front
      (λ k p at. ap not (items_number l.standing (suc l.frontier) 0 f.front g f.items k p at)) i
      ++ filter_all (λ p. not (is_of_group (suc l.frontier) p)) f.rest (λ k p at. ap not (rest_other k p at)) i)

  rest_written : list_any (is_unwritten (suc l.frontier)) f.rest ≡ false
  rest_written = none_passes (is_unwritten (suc l.frontier)) f.rest
      (λ k p at e. false≢true (sym (rest_other k p at)
      ∙ (and_parts (is_of_group (suc l.frontier) p) (is_none p.written) e).0))

  unwritten_front : list_any (is_unwritten (suc l.frontier)) ps ≡ list_any (is_unwritten (suc l.frontier)) f.front
  unwritten_front = ap (list_any (is_unwritten (suc l.frontier))) f.is
      ∙ list_any-append (is_unwritten (suc l.frontier)) f.front f.rest
      ∙ ap (λ (b : Bool). list_any (is_unwritten (suc l.frontier)) f.front || b) rest_written
      ∙ or_with_false (list_any (is_unwritten (suc l.frontier)) f.front)

  -- where none of its pages is unwritten, they all stand
  pub front_standing : list_any (is_unwritten (suc l.frontier)) ps ≡ false →
      AreStandingPages l.standing (suc l.frontier) 0 f.front g
  front_standing e = standing_pages l.standing (suc l.frontier) 0 f.front g f.items (sym unwritten_front ∙ e)

  -- and where they all stand, none is unwritten
  pub front_whole : all_stand (λ (i : ℕ). is_some (l.standing (suc l.frontier) i)) (length g) ≡ true →
      list_any (is_unwritten (suc l.frontier)) ps ≡ false
  front_whole e = unwritten_front ∙ none_unwritten l.standing (suc l.frontier) 0 f.front g f.items
      (λ j less. ap (λ (m : ℕ). is_some (l.standing (suc l.frontier) m)) (same j)
      ∙ stands_each (λ (i : ℕ). is_some (l.standing (suc l.frontier) i)) (length g) j e less)
    where
      same : (j : ℕ) → 0 + j ≡ j
      same j = omega arith
