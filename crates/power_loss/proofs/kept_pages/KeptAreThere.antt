-- What tasks keep, and what rests are read from, is there and is not erased.
use Rattle.power_loss.proofs.Common.{All, ◌≡◌, ◌≢◌, ℕ, ◌<◌, false, Some, sym, ap, ◌∙◌, subst, list_any, All-contains}
use Rattle.power_loss.proofs.Common.{key_of, Erasing, Spot, same_spot, spot_of, Entry, InSlot, Looked, Name, OnPage}
use Rattle.power_loss.proofs.Common.{FromPage, MayTake, Pin, Rest, Translation, looks_into, reads_from, Place, Valid}
use Rattle.power_loss.proofs.Common.{true≢false, or_parts}
use Rattle.std.proofs.Common.{Contains}
use Rattle.ufs_spec.specs.Ledger.{entry_of}
use Rattle.ufs_spec.proofs.Equalities.{spot_self}
use Rattle.power_loss.proofs.jobs_owed.ProgramsAndErases.{erase_owed}
use Rattle.power_loss.proofs.kept_pages.PagesStay.{none_in}
use Rattle.power_loss.proofs.books.LayerParts.{PageOf, LookedOf, SourceOf}

looked : (t : Translation) (pin : Pin) (x : Looked) → Valid t → Contains t.pins pin → pin.looked ≡ x → LookedOf t x
looked t pin x v h e = subst (LookedOf t) e
    (All-contains (λ (y : Pin). LookedOf t y.looked) t.pins pin v.pins.each h)

pub page_kept : (t : Translation) (pin : Pin) (name : Name) (place : Place) → Valid t → Contains t.pins pin →
    pin.looked ≡ OnPage name place → PageOf t name place
page_kept t pin name place v h e = looked t pin (OnPage name place) v h e

pub slot_kept : (t : Translation) (pin : Pin) (name : Name) → Valid t → Contains t.pins pin →
    pin.looked ≡ InSlot name → (t.ledger.frontier < name.number) × ((e : Entry) × (entry_of t.ledger name ≡ Some e))
slot_kept t pin name v h e = looked t pin (InSlot name) v h e

-- the page has what is known of its name
pub page_known : (t : Translation) (name : Name) (place : Place) → Valid t → (g : PageOf t name place) →
    entry_of t.ledger name ≡ Some (record { item = record { key = key_of g.tag; body = g.body }; size = g.tag.size })
page_known t name place v g = subst
    (λ (n : Name). entry_of t.ledger n
    ≡ Some (record { item = record { key = key_of g.tag; body = g.body }; size = g.tag.size }))
    g.is (v.pages.known place g.tag g.body g.there)

pub rest_page : (t : Translation) (rest : Rest) (place : Place) → Valid t → Contains t.work.rests rest →
    rest.source ≡ FromPage place → (name : Name) × PageOf t name place
rest_page t rest place v h e = subst (SourceOf t) e
    (All-contains (λ (x : Rest). SourceOf t x.source) t.work.rests rest v.rests.each h)

-- What is kept is not erased

apart : (s : Spot) (place : Place) → same_spot (spot_of place) s ≡ false → spot_of place ≢ s
apart s place h e = true≢false (sym (spot_self (spot_of place)) ∙ (ap (same_spot (spot_of place)) e ∙ h))

module _ (t : Translation) (die : ℕ) (s : Spot) where
  unkept : MayTake t die (Some (Erasing s)) → All (λ (x : Pin). looks_into s x.looked ≡ false) t.pins × All
      (λ (x : Rest). reads_from s x.source ≡ false) t.work.rests
  unkept may =
      let both = or_parts _ (list_any (λ (x : Rest). reads_from s x.source) t.work.rests)
      (erase_owed t die s may).unkept in (
        none_in (λ (x : Pin). looks_into s x.looked) t.pins both.0,
        none_in (λ (x : Rest). reads_from s x.source) t.work.rests both.1,
      )

  pub pin_not_erased : (pin : Pin) (name : Name) (place : Place) → Valid t → MayTake t die (Some (Erasing s)) →
      Contains t.pins pin → pin.looked ≡ OnPage name place → spot_of place ≢ s
  pin_not_erased pin name place v may h e =
      apart s place (ap (looks_into s) (sym e)
      ∙ All-contains (λ (x : Pin). looks_into s x.looked ≡ false) t.pins pin (unkept may).0 h)

  pub rest_not_erased : (rest : Rest) (place : Place) → Valid t → MayTake t die (Some (Erasing s)) →
      Contains t.work.rests rest → rest.source ≡ FromPage place → spot_of place ≢ s
  rest_not_erased rest place v may h e =
      apart s place (ap (reads_from s) (sym e)
      ∙ All-contains (λ (x : Rest). reads_from s x.source ≡ false) t.work.rests rest (unkept may).1 h)
