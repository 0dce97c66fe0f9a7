-- The rests of a group that is accepted: which pages have one, and where it comes from.
use Rattle.power_loss.proofs.Common.{All, Bool, Group, Item, List, Name, None, Option, Rest, Some, Source, Translation}
use Rattle.power_loss.proofs.Common.{[], ap, below, cond-true, cons_option, false, filter_map, get_or_from_slice_get}
use Rattle.power_loss.proofs.Common.{length, look, next_number, none-some, option_and_then, option_map, refl, rests_of}
use Rattle.power_loss.proofs.Common.{same_Some, slice_get_within, source_of, subst, sym, true, ℕ, ◌∙◌, ◌∷◌, ◌≡◌}
use Rattle.power_loss.proofs.MachineWords.{IsRestOf}
use Rattle.std.proofs.Common.{Contains}
use Rattle.std.specs.Prelude.{if◌then◌else◌, slice_get}
use Rattle.ufs_spec.specs.Translation.{is_in_part, rest_at, rest_of_item}
use Rattle.power_loss.proofs.ordered_lists.ElementsAndOrders.{contained_in, in_below, in_contained, in_mapped}
use Rattle.power_loss.proofs.ordered_lists.ElementsAndOrders.{mapped_in}

-- Which they are

-- the rest that comes of a source
rest_is : {name : Name} (o : Option Source) {rest : Rest} →
    option_map (λ (source : Source). record { name = name; source = source }) o ≡ Some rest →
    (name ≡ rest.name) × (o ≡ Some rest.source)
rest_is None {rest} e = absurd (none-some rest e)
rest_is {name} (Some source) {rest} e = let same : record { name = name; source = source } ≡ rest =
    same_Some (record { name = name; source = source }) rest e in
    (ap (λ (r : Rest). r.name) same, ap (λ (r : Rest). Some r.source) same)

rest_told : {t : Translation} {g : Group} (i : ℕ) {rest : Rest} (o : Option Item) → slice_get g i ≡ o →
    option_and_then (rest_of_item t (record { number = next_number t.ledger; index = i })) o ≡ Some rest →
    IsRestOf t g rest
rest_told i {rest} None at e = absurd (none-some rest e)
rest_told {t} {g} i {rest} (Some item) at e = by (is_in_part item.key) refl e
  where
    by : (b : Bool) → is_in_part item.key ≡ b → (if b then option_map (λ (source : Source). record {
      name = record { number = next_number t.ledger; index = i };
      source = source;
    }) (source_of t.work.rests (look t.ledger item.key)) else None) ≡ Some rest → IsRestOf t g rest
    by true part h =
        let told = rest_is (source_of t.work.rests (look t.ledger item.key)) h in
        record { index = i; item = item; at = at; in_part = part; name = sym told.0; source = told.1 }
    by false part h = absurd (none-some rest h)

pub rests_told : (t : Translation) (g : Group) (rest : Rest) → Contains (rests_of t g) rest → IsRestOf t g rest
rests_told t g rest h =
    let r = mapped_in (rest_at t g) (below (length g)) (contained_in (rests_of t g) h) in
    rest_told r.0 (slice_get g r.0) refl r.2

-- None

none_at : (t : Translation) (g : Group) → All (λ (item : Item). is_in_part item.key ≡ false) g → (i : ℕ) →
    rest_at t g i ≡ None
none_at t g whole i = by (slice_get g i) refl
  where
    by : (o : Option Item) → slice_get g i ≡ o →
        option_and_then (rest_of_item t (record { number = next_number t.ledger; index = i })) o ≡ None
    by None e = refl
    by (Some item) e =
        let at = subst (λ (x : Item). is_in_part x.key ≡ false) (get_or_from_slice_get g i item item e)
        (whole i item (slice_get_within g i item e)) in
        ap (λ (b : Bool). if b then
        option_map (λ (source : Source). record {
          name = record { number = next_number t.ledger; index = i };
          source = source;
        }) (source_of t.work.rests (look t.ledger item.key)) else None) at

none_of : (t : Translation) (g : Group) → ((i : ℕ) → rest_at t g i ≡ None) → (is : List ℕ) →
    filter_map (rest_at t g) is ≡ []
none_of t g none [] = refl
none_of t g none (i ∷ is) = ap (λ (o : Option Rest). cons_option o (filter_map (rest_at t g) is)) (none i)
    ∙ none_of t g none is

pub whole_has_none : (t : Translation) (g : Group) → All (λ (item : Item). is_in_part item.key ≡ false) g →
    rests_of t g ≡ []
whole_has_none t g whole = none_of t g (none_at t g whole) (below (length g))

-- All of them

pub rest_found : (t : Translation) (g : Group) (i : ℕ) (item : Item) (source : Source) → slice_get g i ≡ Some item →
    is_in_part item.key ≡ true → source_of t.work.rests (look t.ledger item.key) ≡ Some source →
    Contains (rests_of t g) (record { name = record { number = next_number t.ledger; index = i }; source = source })
rest_found t g i item source at part e = in_contained (rests_of t g)
    (in_mapped (rest_at t g) i (below (length g)) (in_below (length g) i (slice_get_within g i item at))
    (ap (option_and_then (rest_of_item t name)) at
    ∙ (cond-true (is_in_part item.key)
    (option_map (λ (s : Source). record { name = name; source = s }) (source_of t.work.rests (look t.ledger item.key)))
    None part ∙ ap (option_map (λ (s : Source). record { name = name; source = s })) e)))
  where
    name : Name
    name = record { number = next_number t.ledger; index = i }
