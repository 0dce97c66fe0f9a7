-- A list without repetition is no longer than a list that has all its elements; so lost keys are no more than the keys
-- that are known to have them all.
use Rattle.power_loss.proofs.Common.{◌≡◌, ◌≢◌, ℕ, suc, ◌<◌, ◌≤◌, ◌⊎◌, List, [], ◌∷◌, length, Some, refl, sym, ap, ◌∙◌}
use Rattle.power_loss.proofs.Common.{subst, inl, inr, ⊎_elim, arith, slice_get, Contains, Cells, GroupPage, key_of}
use Rattle.power_loss.proofs.Common.{AreLost, IsBefore, Key, Place, Tag}
use Rattle.power_loss.proofs.ordered_lists.ElementsAndOrders.{IsIn, IsOrdered, at_has, contained_in, has_at}
use Rattle.power_loss.proofs.ordered_lists.ElementsAndOrders.{in_contained}

-- Keys in order

after_none : {a b : Key} → IsBefore a b → IsBefore b a → ⊥
after_none (inl h) (inl l) = omega arith
after_none (inl h) (inr (inl l)) = let e = l.0 in omega arith
after_none (inl h) (inr (inr l)) = let e = l.0 in omega arith
after_none (inr (inl h)) (inl l) = let e = h.0 in omega arith
after_none (inr (inl h)) (inr (inl l)) = let x = h.1 in let y = l.1 in omega arith
after_none (inr (inl h)) (inr (inr l)) = let x = h.1 in let y = l.1 in omega arith
after_none (inr (inr h)) (inl l) = let e = h.0 in omega arith
after_none (inr (inr h)) (inr (inl l)) = let x = h.1 in let y = l.1 in omega arith
after_none (inr (inr h)) (inr (inr l)) = let x = h.2 in let y = l.2 in omega arith

before_itself : {a : Key} {b : Key} → a ≡ b → IsBefore a b → ⊥
before_itself {a} e h = after_none (subst (IsBefore a) (sym e) h) (subst (IsBefore a) (sym e) h)

-- Lists

-- a list without one element of it
without : {A : Type 0} (x : A) (ys : List A) → IsIn x ys →
    (zs : List A) × (length ys ≡ suc (length zs)) × ((z : A) → IsIn z ys → (x ≡ z) ⊎ IsIn z zs)
without x [] h = absurd h
without x (y ∷ ys) (inl e) = (ys, refl, λ z h. ⊎_elim (λ f. inl (sym e ∙ f)) (λ f. inr f) h)
without x (y ∷ ys) (inr h) =
    let r = without x ys h in (
      y ∷ r.0,
      ap suc r.1,
      λ z k. ⊎_elim (λ e. inr (inl e)) (λ g. ⊎_elim (λ e. inl e) (λ w. inr (inr w)) (r.2 z g)) k,
    )

no_longer : {A : Type 0} (xs ys : List A) → IsOrdered (λ x y. x ≢ y) xs → ((x : A) → IsIn x xs → IsIn x ys) →
    length xs ≤ length ys
no_longer [] ys differ all = omega arith
no_longer (x ∷ xs) ys differ all =
    let r = without x ys (all x (inl refl)) in
    let e = r.1 in
    let l = no_longer xs r.0 differ.1
    (λ y i. ⊎_elim (λ e. absurd (differ.0 y i e)) (λ g. g) (r.2 y (all y (inr i)))) in
    omega arith

-- a list is ordered if each element is in order with each that stands later
ordered_by_place : {A : Type 0} (R : A → A → Type 0) (xs : List A) →
    ((i j : ℕ) (a b : A) → slice_get xs i ≡ Some a → slice_get xs j ≡ Some b → i < j → R a b) → IsOrdered R xs
ordered_by_place R [] h = tt
ordered_by_place R (x ∷ xs) h = (
  λ y i. (let r = has_at xs y i in h 0 (suc r.0) x y refl r.1 (omega arith)),
  ordered_by_place R xs (λ i j a b e f l. h (suc i) (suc j) a b e f (omega arith)),
)

-- Lost keys

-- lost keys that are all among others are no more than those
pub lost_no_more : {c : Cells} {low top : ℕ} {lost : List Key} (keys : List Key) → AreLost c low top lost →
    ((p : Place) (tag : Tag) (body : List ℕ) → c p ≡ GroupPage tag body → low ≤ tag.number → tag.number ≤ top →
    Contains keys (key_of tag)) → length lost ≤ length keys
lost_no_more {lost = lost} keys are all =
    no_longer lost keys
    (ordered_by_place (λ a b. a ≢ b) lost (λ i j a b e f l same. before_itself same (are.ordered i j a b e f l)))
    (λ k h.
    let at = has_at lost k h in
    let r = are.lost at.0 k at.1 in
    contained_in keys (subst (Contains keys) r.4 (all r.0 r.1 r.2 r.3 r.5 r.6)))

-- they are so many, however they are listed
pub as_many : {c : Cells} {low top : ℕ} {keys others : List Key} → AreLost c low top keys → AreLost c low top others →
    length keys ≤ length others
as_many {others = others} x y = lost_no_more others x
    (λ p tag body h from to. (let r = y.all (key_of tag) (p, tag, body, h, refl, from, to) in
    in_contained others (at_has others r.0 (key_of tag) r.1)))
