-- The repair that is the last group becomes durable: the frontier climbs over it alone, and what is kept of places is
-- what the ledger has then.
use Rattle.ftl_core.proofs.Common.{All, All-head, All-tail, AreToRepair, Book, Bool, Core, Entry, InSlot, IsInNoSlot}
use Rattle.ftl_core.proofs.Common.{IsKey, IsLookOf, IsPageAt, Item, Key, Ledger, LedgerKept, List, Looked, Name, None}
use Rattle.ftl_core.proofs.Common.{OnPage, Option, Pin, PinsKept, Some, Standing, Stored, Unwritten, [], all_stand, ap}
use Rattle.ftl_core.proofs.Common.{arith, climbed, drop, entry_of, if_true, index_in, key_total, last_number}
use Rattle.ftl_core.proofs.Common.{latest_durable, length, map, name_at, name_or, names_pending, none_some, page_new}
use Rattle.ftl_core.proofs.Common.{places_noted, position_of, refl, risen, settled_pin, shape_of_numbers, slice_get}
use Rattle.ftl_core.proofs.Common.{some_is, stored_of, subst, suc, sym, true, two_ways, zero, ℕ, ⊎_elim, ◌&&◌, ◌-◌, ◌∙◌}
use Rattle.ftl_core.proofs.Common.{◌∷◌, ◌≡◌, ◌≢◌, ◌≤◌}
use Rattle.std.specs.List.{slice_index_or}
use Rattle.ufs_spec.specs.Keys as keys
use Rattle.ufs_spec.specs.Ledger.{settled_look}
use Rattle.ufs_spec.specs.Translation as layer
use Rattle.power_loss.proofs.books.LastOfEachKey.{key_told}
use Rattle.ftl_core.proofs.group_settled.FrontLedger.{durable_next, index_other}
use Rattle.ftl_core.proofs.group_settled.NotedPlaces.{places_length}
use Rattle.ftl_core.proofs.group_settled.FrontPlaces.{stored_next}
use Rattle.ftl_core.proofs.look_and_accept.Numbers.{behind}
use Rattle.ftl_core.proofs.steps_ordered.NonePending.{no_names, none_kept}
use Rattle.ftl_core.proofs.pins.PinsSettled.{at_frontier}
use Rattle.ftl_core.proofs.pages.StoredNames.{AreAlike}

-- The last group

-- behind all before it a list has its last element alone
drop_last : {A : Type 0} (xs : List A) (i : ℕ) (y : A) → slice_get xs i ≡ Some y → suc i ≡ length xs →
    drop i xs ≡ y ∷ []
drop_last [] i y h e = cc
drop_last (x ∷ []) zero y h e = ap (λ z. z ∷ []) (some_is x y h)
drop_last (x ∷ z ∷ xs) zero y h e = absurd (omega arith)
drop_last (x ∷ xs) (suc i) y h e = drop_last xs i y h (omega arith)

single : (g : keys.Group) (x : Item) → slice_get g 0 ≡ Some x → 1 ≡ length g → g ≡ x ∷ []
single [] x h e = cc
single (y ∷ []) x h e = ap (λ (z : Item). z ∷ []) (some_is y x h)
single (y ∷ z ∷ g) x h e = absurd (omega arith)

-- a page that is alone in its group, and has the number behind the frontier and the last number, is all behind the
-- frontier
pub last_alone : (b : Book) (frontier n : ℕ) (x : Item) → b.greatest_seen ≤ frontier → n ≡ suc frontier →
    n ≡ last_number b → IsPageAt b n 0 (record { item = x; size = 1 }) →
    drop (frontier - b.greatest_seen) b.groups ≡ (x ∷ []) ∷ []
last_alone b frontier n x low next last is =
    let p = page_new b n (omega arith) is in
    let at : n - b.greatest_seen - 1 ≡ frontier - b.greatest_seen = omega arith in
    drop_last b.groups (frontier - b.greatest_seen) (x ∷ [])
    (sym (ap (slice_get b.groups) at) ∙ p.is ∙ ap (λ (g : keys.Group). Some g) (single p.group x p.item p.size))
    (omega arith)

-- the frontier climbs over it
pub climbs_one : (stands : ℕ → ℕ → Bool) (frontier : ℕ) (x : Item) (gs : List keys.Group) → gs ≡ (x ∷ []) ∷ [] →
    stands (suc frontier) 0 ≡ true → climbed stands frontier gs ≡ suc frontier
climbs_one stands frontier x gs is there =
    ap (climbed stands frontier) is
    ∙ if_true (all_stand (stands (suc frontier)) (length (x ∷ []))) (climbed stands (suc frontier) []) frontier
    (ap (λ (z : Bool). z && true) there)

-- What is kept

-- what is in no slot looks the same at another frontier
settles_off : (l : Ledger) (frontier after : ℕ) (entries : Name → Option Entry) (k : Key) (x y : Looked) → y ≡ x →
    IsInNoSlot x → IsLookOf frontier entries k y →
    (settled_look l y ≡ x) × IsLookOf after entries k (settled_look l y)
settles_off l frontier after entries k x Unwritten same off there = (same, tt)
settles_off l frontier after entries k x (OnPage name place) same off there = (same, there)
settles_off l frontier after entries k x (InSlot name) same off there = absurd (subst IsInNoSlot (sym same) off)

-- where readers keep no slot, nothing is settled
pub pins_off : (l : Ledger) (frontier after : ℕ) (entries : Name → Option Entry) (ps : List Pin) (qs : List layer.Pin) →
    All (λ (p : Pin). IsInNoSlot p.looked) ps → PinsKept frontier entries ps qs →
    PinsKept after entries ps (map (settled_pin l) qs)
pins_off l frontier after entries [] [] off h = tt
pins_off l frontier after entries [] (q ∷ qs) off h = absurd h
pins_off l frontier after entries (p ∷ ps) [] off h = absurd h
pins_off l frontier after entries (p ∷ ps) (q ∷ qs) off h =
    let told = settles_off l frontier after entries p.key p.looked q.looked h.0.looked
    (All-head (λ (z : Pin). IsInNoSlot z.looked) p ps off) h.0.there in (
      record { tag = h.0.tag; index = h.0.index; looked = told.0; there = told.1; wanted = h.0.wanted },
      pins_off l frontier after entries ps qs (All-tail (λ (z : Pin). IsInNoSlot z.looked) p ps off) h.1,
    )

-- a repair has one item
one_at : (x y : Item) (i : ℕ) → slice_get (x ∷ []) i ≡ Some y → (i ≡ 0) × (x ≡ y)
one_at x y zero h = (refl, some_is x y h)
one_at x y (suc i) h = absurd (none_some y h)

-- the repaired key reads from its new page, and each other one from where it did, as behind a group of one page
stored_repaired : (c : Core) (standing : Standing) (k j : Key) (s : Stored) (x : Item) (older : Option Name) (n : ℕ) →
    x.key ≡ k → s.name ≡ name_at n 0 → standing n 0 ≡ Some s.place →
    key_total (shape_of_numbers c.numbers) ≤ length c.places → IsKey (shape_of_numbers c.numbers) k →
    IsKey (shape_of_numbers c.numbers) j → AreAlike standing (stored_of c j) older →
    AreAlike standing (stored_of (record c { places = places_noted c.places s (position_of c.numbers k) }) j)
    (name_or n (index_in j (x ∷ [])) older)
stored_repaired c standing k j s x older n item number stands long isk isj h =
    stored_next standing n
    ((record {
      key = k;
      number = s.name.number;
      index = s.name.index;
      size = 1;
      written = Some s.place;
      rest = None;
      body = x.body;
    }) ∷ []) (x ∷ [])
    c j older (
      record {
        number = ap (λ (z : Name). z.number) number;
        index = ap (λ (z : Name). z.index) number;
        key = sym item;
        place = s.place;
        written = refl;
        stands = stands;
      },
      tt,
    )
    long
    (λ i y at. subst (λ (z : Item). IsKey (shape_of_numbers c.numbers) z.key) (one_at x y i at).1
    (subst (IsKey (shape_of_numbers c.numbers)) (sym item) isk))
    (λ a b y z here there e. (one_at x y a here).0 ∙ sym (one_at x z b there).0) isj h

-- the frontier climbs over a repair, which has the last number that was given
pub ledger_repaired : (c : Core) (l : Ledger) (k : Key) (s : Stored) (x : Item) →
    LedgerKept c.numbers c.places c.pages c.frontier c.last l → l.greatest_seen ≤ l.frontier →
    l.repairs ≡ length l.groups →
    c.pages ≡ [] → behind l ≡ (x ∷ []) ∷ [] → x.key ≡ k → IsKey (shape_of_numbers c.numbers) k →
    risen c ≡ suc l.frontier → s.name ≡ name_at (suc l.frontier) 0 → l.standing (suc l.frontier) 0 ≡ Some s.place →
    LedgerKept c.numbers (places_noted c.places s (position_of c.numbers k)) c.pages (risen c) c.last
    (at_frontier l (suc l.frontier))
ledger_repaired c l k s x h low all none is item known up number stands = record {
  frontier = up;
  last_given = h.last_given;
  pages = none_kept l.standing (entry_of l) c.pages (names_pending (at_frontier l (suc l.frontier))) none
      (no_names (at_frontier l (suc l.frontier)) all);
  keys = let same = places_length c.places s (position_of c.numbers k) in let long = h.keys in
      omega (arith, same, long);
  places = λ j isj. subst (λ (o : Option Name). AreAlike l.standing
      (stored_of (record c { places = places_noted c.places s (position_of c.numbers k) }) j) o)
      (sym (durable_next l (x ∷ []) [] j low is))
      (stored_repaired c l.standing k j s x (latest_durable l j) (suc l.frontier) item number stands h.keys known isj
      (h.places j isj));
}

-- Keys that are left

pub repaired_left : (l : Ledger) (k : Key) (left : List Key) (x : Item) → l.greatest_seen ≤ l.frontier →
    behind l ≡ (x ∷ []) ∷ [] → x.key ≡ k → AreToRepair l (k ∷ left) → AreToRepair (at_frontier l (suc l.frontier)) left
repaired_left l k left x low is item h = record {
  differ = λ i j d less within. h.differ (suc i) (suc j) d (omega arith) (omega arith);
  unrepaired = λ i d within. stays (slice_index_or left i d) (h.differ 0 (suc i) d (omega arith) (omega arith))
      (h.unrepaired (suc i) d (omega arith));
}
  where
    stays : (j : Key) → k ≢ j → latest_durable l j ≡ l.first_page j →
        latest_durable (at_frontier l (suc l.frontier)) j ≡ l.first_page j
    stays j apart was =
        durable_next l (x ∷ []) [] j low is
        ∙ ap (λ (o : Option ℕ). name_or (suc l.frontier) o (latest_durable l j))
        (⊎_elim (λ e. absurd (apart (sym item ∙ key_told x.key j e))) (λ e. index_other j x e)
        (two_ways (keys.same_key x.key j)))
        ∙ was
