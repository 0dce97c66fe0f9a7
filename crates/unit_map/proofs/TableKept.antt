-- The table from pages to keys after a key was noted, and what it tells of a page.
use Rattle.std.proofs.Common.{◌≡◌, ◌≢◌, ◌∙◌, ◌⊎◌, ◌||◌, ◌==◌, ℕ, ◌+◌, ◌<◌, Bool, true, false, not, if◌then◌else◌, List, All}
use Rattle.std.proofs.Common.{Option, Some, None, get_or, length, replicate, ap, arith, inl, inr, ⊎_elim, refl, subst, sym}
use Rattle.std.specs.Prelude.{is_some, option_and_then, slice_get, slice_set}
use Rattle.std.proofs.lemmas.List.{length-replicate}
use Rattle.std.proofs.lemmas.List.Elements.{All-replicate, All-set}
use Rattle.std.proofs.lemmas.Option.{get_or_from_slice_get, slice_get-get_or}
use Rattle.geometry.specs.Keys.{key_total}
use Rattle.geometry.proofs.KeyIndexes.{index_below}
use Rattle.ufs_spec.proofs.Facts.{and_from, cases_Bool, eqb-true, false≢true, none-some, or_parts, same_Some}
use Rattle.ufs_spec.proofs.Lists.{set_here, set_length, set_other}
use Rattle.ufs_spec.specs.Plain.{shape_of_numbers}
use Rattle.ufs_spec.specs.declared.configs.Numbers.{Numbers}
use Rattle.ufs_spec.specs.declared.flash.Key.{Key}
use Rattle.ufs_spec.specs.declared.flash.Place.{Place}
use Rattle.unit_map.specs.Places.{flat, name_there, position_of, stored_in}
use Rattle.unit_map.specs.Tables.{AreFound, IsTable, IsTableOf, is_other_there, is_taken, key_there, keys_noted}
use Rattle.unit_map.specs.Tables.{page_index, page_total}
use Rattle.unit_map.specs.declared.Stored.{Stored}
use Rattle.unit_map.specs.declared.key_table.KeyTable.{KeyTable}
use Rattle.unit_map.proofs.KeyPlaces.{named_there}
use Rattle.unit_map.proofs.PageIndexes.{one_page, page_within}

-- How many entries there are, and what each is

length_noted : (keys : List ℕ) (o : Option ℕ) (key : ℕ) → length (keys_noted keys o key) ≡ length keys
length_noted keys None key = refl
length_noted keys (Some page) key = set_length keys page key

known_noted : (P : ℕ → Type 0) (keys : List ℕ) (o : Option ℕ) (key : ℕ) → P key → All P keys →
    All P (keys_noted keys o key)
known_noted P keys None key here all = all
known_noted P keys (Some page) key here all = All-set P keys page key here all

-- What is found after a key was noted

-- a key whose content stands there is no other than the one that is noted, if the page is not taken
none_other : (places : List (Option Stored)) (keys : List ℕ) (p : Place) (page key noted : ℕ) (s : Stored) →
    is_other_there places p noted (get_or keys page 0) ≡ false → slice_get keys page ≡ Some key →
    flat (slice_get places key) ≡ Some s → s.place ≡ p → key ≢ noted → ⊥
none_other places keys p page key noted s free has stands here differ =
    let last = get_or_from_slice_get keys page key 0 has in
    let named = named_there places p key s stands here in
    let other : not (key == noted) ≡ true =
    ⊎_elim (λ (e : key == noted ≡ true). absurd (differ (eqb-true key noted e))) (λ (e : key == noted ≡ false). ap not e)
    (cases_Bool (key == noted)) in
    let taken : is_other_there places p noted key ≡ true =
    and_from (not (key == noted)) (is_some (name_there p (slice_get places key))) other (ap is_some named) in
    false≢true (sym free ∙ ap (is_other_there places p noted) last ∙ taken)

module _ (n : Numbers) (places : List (Option Stored)) (keys : List ℕ) where
  found_beside : (o : Option ℕ) (p : Place) (noted key page : ℕ) (s : Stored) → page_index n p ≡ o →
      is_taken places keys o p noted ≡ false → flat (slice_get places key) ≡ Some s →
      page_index n s.place ≡ Some page → key ≢ noted → slice_get keys page ≡ Some key →
      slice_get (keys_noted keys o noted) page ≡ Some key
  found_beside None p noted key page s at free stands there differ has = has
  found_beside (Some other) p noted key page s at free stands there differ has =
      set_other keys other page noted apart ∙ has
    where
      apart : page ≢ other
      apart e =
          none_other places keys p other key noted s free (ap (slice_get keys) (sym e) ∙ has) stands
          (one_page n s.place p other (there ∙ ap (λ (i : ℕ). Some i) e) at) differ

  found_here : (p : Place) (noted page : ℕ) → length keys ≡ page_total n → page_index n p ≡ Some page →
      slice_get (keys_noted keys (page_index n p) noted) page ≡ Some noted
  found_here p noted page room at =
      ap (λ (o : Option ℕ). slice_get (keys_noted keys o noted) page) at
      ∙ set_here keys page noted (rw room (page_within n p page at))

-- the places after a change are these: the content of the noted key stands there, and those of the first others where
-- they stood
pub record IsNotedIn (places after : List (Option Stored)) (count more noted : ℕ) (p : Place) : Type 0 where
  pub here : (s : Stored) → flat (slice_get after noted) ≡ Some s → s.place ≡ p
  pub others : (key : ℕ) → key ≢ noted → key < more →
      (key < count) × (flat (slice_get after key) ≡ flat (slice_get places key))

pub table_noted : (n : Numbers) (places after : List (Option Stored)) (count more noted : ℕ) (p : Place)
    (t u : KeyTable) → IsTableOf n places count t → IsNotedIn places after count more noted p →
    noted < key_total (shape_of_numbers n) → u.keys.items ≡ keys_noted t.keys.items (page_index n p) noted →
    u.shared ≡ (t.shared || is_taken places t.keys.items (page_index n p) p noted) → IsTableOf n after more u
table_noted n places after count more noted p t u table change known keys shared = record {
  room = ap length keys ∙ length_noted t.keys.items (page_index n p) noted ∙ table.room;
  known =
      subst (All (λ (key : ℕ). key < key_total (shape_of_numbers n))) (sym keys)
      (known_noted (λ (key : ℕ). key < key_total (shape_of_numbers n)) t.keys.items (page_index n p) noted known
      table.known);
  found = λ free. subst (AreFound n after more) (sym keys) (found (or_parts _ _ (sym shared ∙ free)));
}
  where
    found : (t.shared ≡ false) × (is_taken places t.keys.items (page_index n p) p noted ≡ false) →
        AreFound n after more (keys_noted t.keys.items (page_index n p) noted)
    found free key s page within stands there = ⊎_elim
        (λ (e : key ≡ noted).
        let stays = change.here s (ap (λ (k : ℕ). flat (slice_get after k)) (sym e) ∙ stands) in
        found_here n places t.keys.items p noted page table.room (ap (page_index n) (sym stays) ∙ there)
        ∙ ap (λ (k : ℕ). Some k) (sym e))
        (λ (differ : key ≢ noted).
        let kept = change.others key differ within in
        let stood = sym kept.1 ∙ stands in
        found_beside n places t.keys.items (page_index n p) p noted key page s refl free.1 stood there differ
        (table.found free.0 key s page kept.0 stood there))
        (one key)
      where
        one : (key : ℕ) → (key ≡ noted) ⊎ (key ≢ noted)
        one key = grind arith

-- what tells whether the page is taken is the key that the table has there
pub shared_told : (places : List (Option Stored)) (keys : List ℕ) (o : Option ℕ) (p : Place) (noted page last : ℕ)
    (shared other : Bool) → o ≡ Some page → page < length keys → last ≡ get_or keys page last →
    other ≡ is_other_there places p noted last → (shared || other) ≡ (shared || is_taken places keys o p noted)
shared_told places keys o p noted page last shared other at within read is =
    let has : slice_get keys page ≡ Some last = slice_get-get_or keys page last within ∙ ap Some (sym read) in
    ap (λ (b : Bool). shared || b)
    (is ∙ ap (is_other_there places p noted) (sym (get_or_from_slice_get keys page last 0 has))
    ∙ ap (λ (x : Option ℕ). is_taken places keys x p noted) (sym at))

-- a key that is noted where its content stands
pub noted_as_stands : (places : List (Option Stored)) (noted : ℕ) (stored : Stored) →
    flat (slice_get places noted) ≡ Some stored → IsNotedIn places places noted (noted + 1) noted stored.place
noted_as_stands places noted stored stands = record {
  here = λ s e. ap (λ (x : Stored). x.place) (same_Some s stored (sym e ∙ stands));
  others = λ key differ within. (earlier key differ within, refl);
}
  where
    earlier : (key : ℕ) → key ≢ noted → key < noted + 1 → key < noted
    earlier key differ within = omega arith

-- a key whose content stands there from now on
pub noted_as_set : (places : List (Option Stored)) (count noted : ℕ) (stored : Stored) → noted < length places →
    IsNotedIn places (slice_set places noted (Some stored)) count count noted stored.place
noted_as_set places count noted stored within = record {
  here = λ s e. ap (λ (x : Stored). x.place)
      (same_Some s stored (sym e ∙ ap flat (set_here places noted (Some stored) within)));
  others = λ key differ first. (first, ap flat (set_other places noted key (Some stored) differ));
}

-- The table of a map that is made

pub table_begins : (n : Numbers) (places : List (Option Stored)) (t : KeyTable) →
    0 < key_total (shape_of_numbers n) → t.keys.items ≡ replicate (page_total n) 0 → IsTableOf n places 0 t
table_begins n places t some keys = record {
  room = ap length keys ∙ length-replicate (page_total n) 0;
  known =
      subst (All (λ (key : ℕ). key < key_total (shape_of_numbers n))) (sym keys)
      (All-replicate (λ (key : ℕ). key < key_total (shape_of_numbers n)) (page_total n) 0 some);
  found = λ free key s page within. absurd (omega arith);
}

-- a key without a content is found wherever it stands
pub table_passes : (n : Numbers) (places : List (Option Stored)) (index : ℕ) (t : KeyTable) →
    IsTableOf n places index t → flat (slice_get places index) ≡ None → IsTableOf n places (index + 1) t
table_passes n places index t table none = record {
  room = table.room;
  known = table.known;
  found = λ free key s page within stands there. by free key s page stands there (last key within);
}
  where
    last : (key : ℕ) → key < index + 1 → (key ≡ index) ⊎ (key < index)
    last key l = grind arith

    by : t.shared ≡ false → (key : ℕ) (s : Stored) (page : ℕ) → flat (slice_get places key) ≡ Some s →
        page_index n s.place ≡ Some page → (key ≡ index) ⊎ (key < index) → slice_get t.keys.items page ≡ Some key
    by free key s page stands there (inl e) =
        absurd (none-some s (sym none ∙ ap (λ (k : ℕ). flat (slice_get places k)) (sym e) ∙ stands))
    by free key s page stands there (inr l) = table.found free key s page l stands there

-- What the table tells

told : (shared : Bool) (keys : List ℕ) (o : Option ℕ) (key : ℕ) →
    (if shared then None else option_and_then (slice_get keys) o) ≡ Some key →
    (shared ≡ false) × (page : ℕ) × (o ≡ Some page) × (slice_get keys page ≡ Some key)
told true keys o key e = absurd (none-some key e)
told false keys None key e = absurd (none-some key e)
told false keys (Some page) key e = (refl, page, refl, e)

-- no key's content stands on the page, if not that of the key that the table has there
pub only_there : (n : Numbers) (places : List (Option Stored)) (t : KeyTable) (p : Place) (key : ℕ) →
    IsTable n places t → key_there n t p ≡ Some key → name_there p (slice_get places key) ≡ None →
    (k : Key) (s : Stored) → stored_in n places k ≡ Some s → s.place ≡ p → ⊥
only_there n places t p key table has none k s stored here = by (position_of n k) refl
  where
    by : (q : Option ℕ) → position_of n k ≡ q → ⊥
    by None e = none-some s (sym (ap (option_and_then (λ (i : ℕ). flat (slice_get places i))) e) ∙ stored)
    by (Some i) e =
        let r = told t.shared t.keys.items (page_index n p) key has in
        let stands : flat (slice_get places i) ≡ Some s =
        sym (ap (option_and_then (λ (i : ℕ). flat (slice_get places i))) e) ∙ stored in
        let found = table.found r.0 i s r.1 (index_below (shape_of_numbers n) k i e) stands
        (ap (page_index n) here ∙ r.2) in
        let same : key ≡ i = same_Some key i (sym r.3 ∙ found) in
        none-some s.name
        (sym none ∙ ap (λ (k : ℕ). name_there p (slice_get places k)) same ∙ named_there places p i s stands here)
