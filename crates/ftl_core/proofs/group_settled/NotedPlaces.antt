-- Where addresses read from once the place of one of them is noted.
use Rattle.ftl_core.proofs.Common.{Core, IsKey, Key, List, None, Option, Some, Stored, ap, arith, flat, key_total}
use Rattle.ftl_core.proofs.Common.{length, option_and_then, places_noted, position_of, refl, set_length}
use Rattle.ftl_core.proofs.Common.{shape_of_numbers, slice_get, stored_of, subst, sym, ℕ, ◌<◌, ◌∙◌, ◌≡◌, ◌≢◌, ◌≤◌}
use Rattle.ufs_spec.proofs.Lists.{set_here, set_other}
use Rattle.unit_map.proofs.KeyPlaces.{HasPosition, has_position, one_position}

places_here : (ps : List (Option Stored)) (s : Stored) (o : Option ℕ) (at : ℕ) → o ≡ Some at → at < length ps →
    option_and_then (λ (p : ℕ). flat (slice_get (places_noted ps s o) p)) o ≡ Some s
places_here ps s o at e l =
    subst (λ (z : Option ℕ). option_and_then (λ (p : ℕ). flat (slice_get (places_noted ps s z) p)) z ≡ Some s) (sym e)
    (ap flat (set_here ps at (Some s) l))

places_other : (ps : List (Option Stored)) (s : Stored) (o q : Option ℕ) (a b : ℕ) → o ≡ Some a → q ≡ Some b → b ≢ a →
    option_and_then (λ (p : ℕ). flat (slice_get (places_noted ps s o) p)) q ≡ option_and_then
    (λ (p : ℕ). flat (slice_get ps p)) q
places_other ps s o q a b e f apart =
    subst (λ (z : Option ℕ × Option ℕ). option_and_then
    (λ (p : ℕ). flat (slice_get (places_noted ps s z.0) p)) z.1 ≡ option_and_then
    (λ (p : ℕ). flat (slice_get ps p)) z.1)
    (λ i. (sym e i, sym f i))
    (ap flat (set_other ps a b (Some s) apart))

-- there are as many places
pub places_length : (ps : List (Option Stored)) (s : Stored) (o : Option ℕ) → length (places_noted ps s o) ≡ length ps
places_length ps s None = refl
places_length ps s (Some k) = set_length ps k (Some s)

abbrev pub noted_places : Core → Key → Stored → Core
noted_places c k s = record c { places = places_noted c.places s (position_of c.numbers k) }

-- the address reads from there
pub stored_here : (c : Core) (j : Key) (s : Stored) → key_total (shape_of_numbers c.numbers) ≤ length c.places →
    IsKey (shape_of_numbers c.numbers) j → stored_of (noted_places c j s) j ≡ Some s
stored_here c j s long isj =
    let p = has_position c.numbers j isj in
    let w = p.within in
    places_here c.places s (position_of c.numbers j) p.at p.is (omega (arith, w, long))

-- and each other one from where it did
pub stored_other : (c : Core) (j k : Key) (s : Stored) → j ≢ k → IsKey (shape_of_numbers c.numbers) j →
    IsKey (shape_of_numbers c.numbers) k → stored_of (noted_places c j s) k ≡ stored_of c k
stored_other c j k s differ isj isk =
    places_other c.places s (position_of c.numbers j) (position_of c.numbers k) pj.at pk.at pj.is pk.is
    (λ f. differ (one_position c.numbers j k isj (pj.is ∙ ap (λ (a : ℕ). Some a) (sym f) ∙ sym pk.is)))
  where
    pj : HasPosition c.numbers j
    pj = has_position c.numbers j isj

    pk : HasPosition c.numbers k
    pk = has_position c.numbers k isk
