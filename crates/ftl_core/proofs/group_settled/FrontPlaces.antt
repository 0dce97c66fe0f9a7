-- The pages of the first group become durable one by one: what is kept of the places of addresses.
use Rattle.ftl_core.proofs.Common.{Core, IsKey, Item, Key, List, Name, None, Option, Pending, Place, Some, Standing}
use Rattle.ftl_core.proofs.Common.{Stored, [], ap, arith, false, false≢true, fold, key_total, length, name_or, noted}
use Rattle.ftl_core.proofs.Common.{option_map, page_at, page_durable, page_durable_at, position, position_of, refl}
use Rattle.ftl_core.proofs.Common.{shape_of_numbers, slice_get, stored_of, subst, suc, sym, true, two_ways, ℕ, ⊎_elim}
use Rattle.ftl_core.proofs.Common.{◌+◌, ◌∙◌, ◌∷◌, ◌≡◌, ◌≢◌, ◌≤◌}
use Rattle.ufs_spec.specs.Keys.{same_key}
use Rattle.ufs_spec.specs.Moves.{KeysDiffer}
use Rattle.ufs_spec.proofs.Lists.{position_behind, position_here}
use Rattle.power_loss.proofs.books.LastOfEachKey.{key_self, key_told}
use Rattle.ftl_core.specs.Ends.{pins_moved}
use Rattle.ftl_core.proofs.group_settled.FrontPages.{AreStandingPages}
use Rattle.ftl_core.proofs.group_settled.NotedPlaces.{places_length, stored_here, stored_other}
use Rattle.ftl_core.proofs.pages.StoredNames.{AreAlike, stored_is}

-- there is a place for each key of the device
abbrev pub HasPlaces : Core → Type 0
HasPlaces c = key_total (shape_of_numbers c.numbers) ≤ length c.places

-- All pages

-- the items are of keys of the device
abbrev pub AreKeysOf : Core → List Item → Type 0
AreKeysOf c xs = (j : ℕ) (x : Item) → slice_get xs j ≡ Some x → IsKey (shape_of_numbers c.numbers) x.key

-- what is noted of a page that is written there
abbrev stored_at : Pending → Place → Stored
stored_at p place = page_at p.number p.index place

-- once it is durable
abbrev with_durable : Core → Pending → Place → Core
with_durable c p place = pins_moved (noted c p.key (stored_at p place)) (stored_at p place)

places_left : (c : Core) (p : Pending) (place : Place) → HasPlaces c → HasPlaces (with_durable c p place)
places_left c p place long =
    let same = places_length c.places (stored_at p place) (position_of c.numbers p.key) in omega (arith, same, long)

-- of a key that no item has nothing changes
others_stay : (st : Standing) (n i : ℕ) (ps : List Pending) (xs : List Item) (c : Core) (k : Key) →
    AreStandingPages st n i ps xs → HasPlaces c → AreKeysOf c xs → IsKey (shape_of_numbers c.numbers) k →
    ((j : ℕ) (x : Item) → slice_get xs j ≡ Some x → x.key ≢ k) → stored_of (fold page_durable c ps) k ≡ stored_of c k
others_stay st n i [] [] c k h long keys isk none = refl
others_stay st n i [] (x ∷ xs) c k h long keys isk none = absurd h
others_stay st n i (p ∷ ps) [] c k h long keys isk none = absurd h
others_stay st n i (p ∷ ps) (x ∷ xs) c k h long keys isk none =
    let d = with_durable c p h.0.place in
    ap (λ (z : Core). stored_of (fold page_durable z ps) k) (ap (page_durable_at c p) h.0.written)
    ∙ others_stay st n (suc i) ps xs d k h.1 (places_left c p h.0.place long) (λ j y a. keys (suc j) y a) isk
    (λ j y a. none (suc j) y a)
    ∙ stored_other c p.key k (stored_at p h.0.place) (λ e. none 0 x refl (sym h.0.key ∙ e))
    (subst (IsKey (shape_of_numbers c.numbers)) (sym h.0.key) (keys 0 x refl)) isk

-- the name that a key has in the group, from an index on
abbrev name_from : (n i : ℕ) → Option ℕ → Option Name → Option Name
name_from n i o older = name_or n (option_map (λ j. i + j) o) older

name_shifts : (n i : ℕ) (o : Option ℕ) (older : Option Name) → name_from n (suc i) o older ≡
    name_from n i (option_map suc o) older
name_shifts n i None older = refl
name_shifts n i (Some j) older = ap (λ (m : ℕ). Some (record { number = n; index = m })) (next i j)
  where
    next : (i j : ℕ) → suc i + j ≡ i + suc j
    next i j = omega arith

name_first : (n : ℕ) (o : Option ℕ) (older : Option Name) → name_from n 0 o older ≡ name_or n o older
name_first n None older = refl
name_first n (Some j) older = ap (λ (m : ℕ). Some (record { number = n; index = m })) (none j)
  where
    none : (j : ℕ) → 0 + j ≡ j
    none j = omega arith

differ_behind : (x : Item) (xs : List Item) → KeysDiffer (x ∷ xs) → KeysDiffer xs
differ_behind x xs differ i j a b h k e = less i j (differ (suc i) (suc j) a b h k e)
  where
    less : (i j : ℕ) → suc i ≡ suc j → i ≡ j
    less i j e = omega arith

stored_from : (st : Standing) (n i : ℕ) (ps : List Pending) (xs : List Item) (c : Core) (k : Key)
    (older : Option Name) → AreStandingPages st n i ps xs → HasPlaces c → AreKeysOf c xs → KeysDiffer xs →
    IsKey (shape_of_numbers c.numbers) k → AreAlike st (stored_of c k) older →
    AreAlike st (stored_of (fold page_durable c ps) k)
    (name_from n i (position (λ (item : Item). same_key item.key k) xs) older)
stored_from st n i [] [] c k older h long keys differ isk is = is
stored_from st n i [] (x ∷ xs) c k older h long keys differ isk is = absurd h
stored_from st n i (p ∷ ps) [] c k older h long keys differ isk is = absurd h
stored_from st n i (p ∷ ps) (x ∷ xs) c k older h long keys differ isk is =
    ⊎_elim same
    (λ e. other e (stored_from st n (suc i) ps xs (with_durable c p h.0.place) k older h.1
    (places_left c p h.0.place long) (λ j y a. keys (suc j) y a) (differ_behind x xs differ) isk
    (subst (λ (o : Option Stored). AreAlike st o older)
    (sym (stored_other c p.key k (stored_at p h.0.place)
    (λ f. false≢true (sym e ∙ ap (λ (z : Key). same_key z k) (sym h.0.key ∙ f) ∙ key_self k)) key isk)) is)))
    (two_ways (same_key x.key k))
  where
    s : Stored
    s = stored_at p h.0.place

    key : IsKey (shape_of_numbers c.numbers) p.key
    key = subst (IsKey (shape_of_numbers c.numbers)) (sym h.0.key) (keys 0 x refl)

    one : page_durable c p ≡ with_durable c p h.0.place
    one = ap (page_durable_at c p) h.0.written

    apart : (j : ℕ) → 0 ≡ suc j → ⊥
    apart j e = omega arith

    same : same_key x.key k ≡ true → AreAlike st (stored_of (fold page_durable c (p ∷ ps)) k)
        (name_from n i (position (λ (item : Item). same_key item.key k) (x ∷ xs)) older)
    same e =
        let is_key : x.key ≡ k = key_told x.key k e in
        let stored : stored_of (fold page_durable c (p ∷ ps)) k ≡ Some s =
        ap (λ (z : Core). stored_of (fold page_durable z ps) k) one
        ∙ others_stay st n (suc i) ps xs (with_durable c p h.0.place) k h.1 (places_left c p h.0.place long)
        (λ j y a. keys (suc j) y a) isk
        (λ j y a f. apart j (differ 0 (suc j) x y refl a (is_key ∙ sym f)))
        ∙ ap (λ (z : Key). stored_of (noted c z s) k) (h.0.key ∙ is_key)
        ∙ stored_here c k s long isk in
        let name : name_from n i (position (λ (item : Item). same_key item.key k) (x ∷ xs)) older ≡
        Some (record { number = n; index = i + 0 }) =
        ap (λ (o : Option ℕ). name_from n i o older)
        (position_here (λ (item : Item). same_key item.key k) x xs e) in
        let named : s.name ≡ record { number = n; index = i + 0 } =
        λ j. record { number = h.0.number j; index = (h.0.index ∙ sym (last i)) j } in
        subst (λ (z : Option Stored × Option Name). AreAlike st z.0 z.1) (λ j. (sym stored j, sym name j))
        (stored_is st s (record { number = n; index = i + 0 }) named (ap (st n) (last i) ∙ h.0.stands))
      where
        last : (i : ℕ) → i + 0 ≡ i
        last i = omega arith

    other : same_key x.key k ≡ false → AreAlike st (stored_of (fold page_durable (with_durable c p h.0.place) ps) k)
        (name_from n (suc i) (position (λ (item : Item). same_key item.key k) xs) older) →
        AreAlike st (stored_of (fold page_durable c (p ∷ ps)) k)
        (name_from n i (position (λ (item : Item). same_key item.key k) (x ∷ xs)) older)
    other e r =
        let name : name_from n i (position (λ (item : Item). same_key item.key k) (x ∷ xs)) older ≡
        name_from n (suc i) (position (λ (item : Item). same_key item.key k) xs) older =
        ap (λ (o : Option ℕ). name_from n i o older) (position_behind (λ (item : Item). same_key item.key k) x xs e)
        ∙ sym (name_shifts n i (position (λ (item : Item). same_key item.key k) xs) older) in
        subst (λ (z : Option Stored × Option Name). AreAlike st z.0 z.1)
        (λ j. (sym (ap (λ (z : Core). stored_of (fold page_durable z ps) k) one) j, sym name j)) r

-- each key reads from its page in the group, where it has one, else from where it did
pub stored_next : (st : Standing) (n : ℕ) (ps : List Pending) (xs : List Item) (c : Core) (k : Key)
    (older : Option Name) → AreStandingPages st n 0 ps xs → HasPlaces c → AreKeysOf c xs → KeysDiffer xs →
    IsKey (shape_of_numbers c.numbers) k → AreAlike st (stored_of c k) older →
    AreAlike st (stored_of (fold page_durable c ps) k)
    (name_or n (position (λ (item : Item). same_key item.key k) xs) older)
stored_next st n ps xs c k older h long keys differ isk is =
    subst (AreAlike st (stored_of (fold page_durable c ps) k))
    (name_first n (position (λ (item : Item). same_key item.key k) xs) older)
    (stored_from st n 0 ps xs c k older h long keys differ isk is)

-- there are as many places as before
pub places_same : (ps : List Pending) (c : Core) → length (fold page_durable c ps).places ≡ length c.places
places_same [] c = refl
places_same (p ∷ ps) c = places_same ps (page_durable c p) ∙ one p.written
  where
    one : (o : Option Place) → length (page_durable_at c p o).places ≡ length c.places
    one None = refl
    one (Some place) = places_length c.places (stored_at p place) (position_of c.numbers p.key)
