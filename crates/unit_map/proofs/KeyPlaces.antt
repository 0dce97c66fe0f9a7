-- Each key of the device has its own position among all its keys.
use Rattle.std.proofs.Common.{◌≡◌, ◌≢◌, ◌∙◌, ℕ, ◌<◌, ◌≤◌, Bool, true, cond, List, Option, None, Some, ap, length, refl, sym}
use Rattle.std.specs.Prelude.{option_and_then, slice_get, slice_set}
use Rattle.std.proofs.lemmas.List.{set_past}
use Rattle.ufs_spec.specs.Keys.{IsKey}
use Rattle.ufs_spec.specs.Plain.{shape_of_numbers}
use Rattle.ufs_spec.specs.declared.configs.Numbers.{Numbers}
use Rattle.ufs_spec.specs.declared.flash.Key.{Key}
use Rattle.geometry.specs.Keys.{key_total}
use Rattle.geometry.proofs.KeyIndexes.{has_index, index_below, one_key}
use Rattle.ufs_spec.proofs.Equalities.{place_self}
use Rattle.ufs_spec.proofs.Facts.{none-some}
use Rattle.ufs_spec.proofs.Lists.{set_here, set_other}
use Rattle.ufs_spec.specs.Cells.{same_place}
use Rattle.ufs_spec.specs.declared.flash.Place.{Place}
use Rattle.unit_map.specs.Places.{flat, name_if, name_there, places_noted, position_of, stored_in}
use Rattle.unit_map.specs.declared.Stored.{Stored}

pub record HasPosition (n : Numbers) (k : Key) : Type 0 where
  pub at : ℕ
  pub is : position_of n k ≡ Some at
  pub within : at < key_total (shape_of_numbers n)

-- it has a position
pub has_position : (n : Numbers) (k : Key) → IsKey (shape_of_numbers n) k → HasPosition n k
has_position n k known =
    let r = has_index (shape_of_numbers n) k known in
    record { at = r.0; is = r.1; within = r.2 }

-- and no other key has it
pub one_position : (n : Numbers) (j k : Key) → IsKey (shape_of_numbers n) j → position_of n j ≡ position_of n k → j ≡ k
one_position n j k known same =
    let p = has_position n j known in
    one_key (shape_of_numbers n) j k p.at p.is (sym same ∙ p.is)

-- where the content of a key is, once it is noted
pub stored_here : (n : Numbers) (ps : List (Option Stored)) (s : Stored) (key : Key) (at : ℕ) →
    position_of n key ≡ Some at → at < length ps → stored_in n (slice_set ps at (Some s)) key ≡ Some s
stored_here n ps s key at there within =
    ap (option_and_then (λ (p : ℕ). flat (slice_get (slice_set ps at (Some s)) p))) there
    ∙ ap flat (set_here ps at (Some s) within)

-- of a key whose position is not there nothing is noted
pub not_noted : (n : Numbers) (ps : List (Option Stored)) (s : Stored) (key : Key) (at : ℕ) →
    position_of n key ≡ Some at → length ps ≤ at → places_noted ps s (position_of n key) ≡ ps
not_noted n ps s key at there past = ap (places_noted ps s) there ∙ set_past ps at (Some s) past

-- where the content of another key is then
pub stored_beside : (n : Numbers) (ps : List (Option Stored)) (s : Stored) (key other : Key) (at : ℕ) →
    IsKey (shape_of_numbers n) key → position_of n key ≡ Some at → other ≢ key →
    stored_in n (slice_set ps at (Some s)) other ≡ stored_in n ps other
stored_beside n ps s key other at known there differ = by (position_of n other) refl
  where
    by : (q : Option ℕ) → position_of n other ≡ q →
        option_and_then (λ (p : ℕ). flat (slice_get (slice_set ps at (Some s)) p)) q ≡ option_and_then
        (λ (p : ℕ). flat (slice_get ps p)) q
    by None e = refl
    by (Some b) e =
        ap flat (set_other ps at b (Some s)
        (λ (same : b ≡ at). differ (sym (one_position n key other known
        (there ∙ ap (λ (z : ℕ). Some z) (sym same) ∙ sym e)))))

-- the name of a content that stands there
pub named_there : (ps : List (Option Stored)) (place : Place) (i : ℕ) (s : Stored) →
    flat (slice_get ps i) ≡ Some s → s.place ≡ place → name_there place (slice_get ps i) ≡ Some s.name
named_there ps place i s there here =
    let same : same_place s.place place ≡ true = ap (same_place s.place) (sym here) ∙ place_self s.place in
    ap (name_if place) there ∙ ap (λ (b : Bool). cond b (Some s.name) None) same

-- no key's content is on a page that no position names
pub none_there : (n : Numbers) (ps : List (Option Stored)) (place : Place) →
    ((i : ℕ) → i < key_total (shape_of_numbers n) → name_there place (slice_get ps i) ≡ None) →
    (k : Key) (s : Stored) → stored_in n ps k ≡ Some s → s.place ≡ place → ⊥
none_there n ps place none k s stored here = by (position_of n k) refl
  where
    by : (q : Option ℕ) → position_of n k ≡ q → ⊥
    by None e = none-some s (sym (ap (option_and_then (λ (p : ℕ). flat (slice_get ps p))) e) ∙ stored)
    by (Some i) e =
        let there : flat (slice_get ps i) ≡ Some s =
        sym (ap (option_and_then (λ (p : ℕ). flat (slice_get ps p))) e) ∙ stored in
        none-some s.name (sym (none i (index_below (shape_of_numbers n) k i e)) ∙ named_there ps place i s there here)
