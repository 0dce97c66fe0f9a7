-- Who kept a slot keeps its page once the slot's group is durable.
use Rattle.power_loss.proofs.Common.{◌≡◌, ℕ, ◌<◌, ◌≤◌, if◌then◌else◌, Bool, true, false, List, Option, Some, None}
use Rattle.power_loss.proofs.Common.{slice_get, refl, sym, ap, ◌∙◌, subst, option_map, ltb-true, cond-false, GroupPage}
use Rattle.power_loss.proofs.Common.{Programming, InSlot, Ledger, Looked, Name, OnPage, Unwritten, looked_on}
use Rattle.power_loss.proofs.Common.{page_stands, settled_look, EndJob, WentWell, end_flight, moved, settled_pin, Pin}
use Rattle.power_loss.proofs.Common.{Translation, name_of, Place, Tag}
use Rattle.std.proofs.Common.{le-ltb, nat_lt}
use Rattle.std.proofs.lemmas.Option.{slice_get-map}
use Rattle.power_loss.proofs.ordered_lists.ElementsAndOrders.{mapped_at}

slot_is : {a b : Name} → InSlot a ≡ InSlot b → a ≡ b
slot_is e = cc

no_slot : (name : Name) (o : Option Place) (other : Name) → looked_on name o ≡ InSlot other → ⊥
no_slot name None other h = cc
no_slot name (Some p) other h = cc

slot_if : (b : Bool) (l : Ledger) (n name : Name) → nat_lt l.frontier n.number ≡ b →
    (if b then InSlot n else looked_on n (l.standing n.number n.index)) ≡ InSlot name → l.frontier < name.number
slot_if true l n name e h = subst (λ (z : Name). l.frontier < z.number) (slot_is h) (ltb-true l.frontier n.number e)
slot_if false l n name e h = absurd (no_slot n (l.standing n.number n.index) name h)

slot_left : (l : Ledger) (looked : Looked) (name : Name) → settled_look l looked ≡ InSlot name →
    l.frontier < name.number
slot_left l Unwritten name h = absurd (no_slot name None name h)
slot_left l (OnPage n p) name h = absurd (no_slot n (Some p) name h)
slot_left l (InSlot n) name h = slot_if (nat_lt l.frontier n.number) l n name refl h

module _ (t : Translation) (die : ℕ) (p : Place) (tag : Tag) (body : List ℕ)
    (job : t.disk.flights die ≡ Some (Programming p (GroupPage tag body))) where
  ends : moved t (EndJob die WentWell) ≡ end_flight t die (Some (Programming p (GroupPage tag body))) WentWell
  ends = ap (λ f. end_flight t die f WentWell) job

  pub slot : (j : ℕ) (pin : Pin) (name : Name) → slice_get (moved t (EndJob die WentWell)).pins j ≡ Some pin →
      pin.looked ≡ InSlot name → (moved t (EndJob die WentWell)).ledger.frontier < name.number
  slot j pin name at h =
      let l = page_stands t.ledger (name_of tag) p in
      let old = mapped_at (settled_pin l) t.pins j pin (ap (λ (u : Translation). slice_get u.pins j) (sym ends) ∙ at) in
      subst (λ (u : Translation). u.ledger.frontier < name.number) (sym ends)
      (slot_left l old.0.looked name (ap (λ (z : Pin). z.looked) old.2 ∙ h))

  pub page : (q : Place) (j : ℕ) (pin : Pin) (name : Name) → slice_get t.pins j ≡ Some pin → pin.looked ≡ InSlot name →
      name.number ≤ (moved t (EndJob die WentWell)).ledger.frontier →
      (moved t (EndJob die WentWell)).ledger.standing name.number name.index ≡ Some q →
      slice_get (moved t (EndJob die WentWell)).pins j ≡ Some (record pin { looked = OnPage name q })
  page q j pin name at h low stands =
      let l = page_stands t.ledger (name_of tag) p in
      let under = subst (λ (u : Translation). name.number ≤ u.ledger.frontier) ends low in
      let there = ap (λ (u : Translation). u.ledger.standing name.number name.index) (sym ends) ∙ stands in
      let now : settled_look l pin.looked ≡ OnPage name q =
      ap (settled_look l) h ∙ cond-false (nat_lt l.frontier name.number) (InSlot name)
      (looked_on name (l.standing name.number name.index)) (le-ltb l.frontier name.number under)
      ∙ ap (looked_on name) there in
      ap (λ (u : Translation). slice_get u.pins j) ends ∙ slice_get-map (settled_pin l) t.pins j
      ∙ ap (option_map (settled_pin l)) at ∙ ap (λ z. Some (record pin { looked = z })) now
