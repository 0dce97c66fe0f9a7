-- What readers keep is what tasks keep, pin by pin.
use Rattle.ftl_core.proofs.Common.{Core, Describes, Entry, InSlot, List, Looked, Name, OnPage, Option, Pin, PinKept}
use Rattle.ftl_core.proofs.Common.{PinsKept, Some, Spot, Translation, Unwritten, [], ap, entry_of, keeps_page, list_any}
use Rattle.ftl_core.proofs.Common.{none_some, refl, slice_get, some_is, subst, suc, sym, zero, ℕ, ◌++◌, ◌||◌, ◌∙◌, ◌∷◌}
use Rattle.ftl_core.proofs.Common.{◌≡◌}
use Rattle.std.specs.Prelude.{map}
use Rattle.ufs_spec.specs.Translation as layer
use Rattle.ftl_core.specs.Moves.{has_pin, keeps}
use Rattle.ftl_core.proofs.rests_owed.RestsNamed.{rests_read}

-- the pins of a list stand for those of another, each for its own; what is shown of each holds of all
pub pins_mapped : (frontier after : ℕ) (entries now : Name → Option Entry) (f : Pin → Pin) (g : layer.Pin → layer.Pin)
    (ps : List Pin) (qs : List layer.Pin) →
    ((p : Pin) (q : layer.Pin) → PinKept frontier entries p q → PinKept after now (f p) (g q)) →
    PinsKept frontier entries ps qs → PinsKept after now (map f ps) (map g qs)
pins_mapped frontier after entries now f g [] [] each h = tt
pins_mapped frontier after entries now f g [] (q ∷ qs) each h = absurd h
pins_mapped frontier after entries now f g (p ∷ ps) [] each h = absurd h
pins_mapped frontier after entries now f g (p ∷ ps) (q ∷ qs) each h =
    (each p q h.0, pins_mapped frontier after entries now f g ps qs each h.1)

-- the pin that stands for the one at a position
pub pins_at : (frontier : ℕ) (entries : Name → Option Entry) (ps : List Pin) (qs : List layer.Pin) (k : ℕ) (p : Pin) →
    PinsKept frontier entries ps qs → slice_get ps k ≡ Some p →
    (q : layer.Pin) × (slice_get qs k ≡ Some q) × PinKept frontier entries p q
pins_at frontier entries [] qs k p kept h = absurd (none_some p h)
pins_at frontier entries (x ∷ xs) [] k p kept h = absurd kept
pins_at frontier entries (x ∷ xs) (y ∷ ys) zero p kept h =
    (y, refl, subst (λ z. PinKept frontier entries z y) (some_is x p h) kept.0)
pins_at frontier entries (x ∷ xs) (y ∷ ys) (suc k) p kept h = pins_at frontier entries xs ys k p kept.1 h

-- one pin more
pub pins_more : (frontier : ℕ) (entries : Name → Option Entry) (ps : List Pin) (qs : List layer.Pin) (p : Pin)
    (q : layer.Pin) →
    PinsKept frontier entries ps qs → PinKept frontier entries p q →
    PinsKept frontier entries (ps ++ p ∷ []) (qs ++ q ∷ [])
pins_more frontier entries [] [] p q r s = (s, tt)
pins_more frontier entries [] (y ∷ qs) p q r s = absurd r
pins_more frontier entries (x ∷ ps) [] p q r s = absurd r
pins_more frontier entries (x ∷ ps) (y ∷ qs) p q r s = (r.0, pins_more frontier entries ps qs p q r.1 s)

-- What was looked up

keeps_looked : (s : Spot) (kept : Looked) → keeps_page s.die s.block kept ≡ layer.looks_into s kept
keeps_looked s Unwritten = refl
keeps_looked s (InSlot name) = refl
keeps_looked s (OnPage name place) = refl

looks_alike : (s : Spot) (kept look : Looked) → look ≡ kept → keeps_page s.die s.block kept ≡ layer.looks_into s look
looks_alike s kept look is = keeps_looked s kept ∙ ap (layer.looks_into s) (sym is)

-- a reader keeps a page of the block where a task does
pinned_alike : (frontier : ℕ) (entries : Name → Option Entry) (s : Spot) (ps : List Pin) (qs : List layer.Pin) →
    PinsKept frontier entries ps qs →
    list_any (keeps s.die s.block) ps ≡ list_any (λ (pin : layer.Pin). layer.looks_into s pin.looked) qs
pinned_alike frontier entries s [] [] k = refl
pinned_alike frontier entries s [] (q ∷ qs) k = absurd k
pinned_alike frontier entries s (p ∷ ps) [] k = absurd k
pinned_alike frontier entries s (p ∷ ps) (q ∷ qs) k =
    λ i. looks_alike s p.looked q.looked k.0.looked i || pinned_alike frontier entries s ps qs k.1 i

-- a block has a pin where it has one in the layer
pub pinned_as : (c : Core) (t : Translation) (s : Spot) → Describes c t →
    has_pin c s.die s.block ≡ layer.is_pinned t s
pinned_as c t s h = λ i. pinned_alike t.ledger.frontier (entry_of t.ledger) s c.pins t.pins h.kept.pins i
    || rests_read c t h s i
