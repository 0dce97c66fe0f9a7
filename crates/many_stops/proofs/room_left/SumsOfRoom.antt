-- Sums over lists without repetition: what they lose or gain where one element changes.
use Rattle.many_stops.proofs.Common.{IsIn, IsSpot, List, Numbers, Spot, [], ap, arith, below, inl, inr, refl}
use Rattle.many_stops.proofs.Common.{spot_cases, spots, subst, suc, sum_by-cons, sum_no_less, sym, zero, ℕ, ⊎_elim, ◌+◌}
use Rattle.many_stops.proofs.Common.{◌<◌, ◌∙◌, ◌∷◌, ◌≡◌, ◌≢◌, ◌≤◌, ◌⊎◌}
use Rattle.std.specs.Prelude.{sum_by}
use Rattle.ufs_spec.specs.Translation.{spots_of}
use Rattle.power_loss.specs.Collection.{IsBefore}
use Rattle.power_loss.proofs.ordered_lists.ElementsAndOrders.{IsOrdered, below_in, map_in, ordered_append}
use Rattle.power_loss.proofs.ordered_lists.ElementsAndOrders.{ordered_map, spots_ordered}

-- Lists without repetition

abbrev pub AreApart : {A : Type 0} → List A → Type 0
AreApart {A} xs = IsOrdered (λ (x y : A). x ≢ y) xs

abbrev pub IsTold : {A : Type 0} → A → Type 0
IsTold {A} s = (x : A) → (x ≡ s) ⊎ (x ≢ s)

pub below_apart : (n : ℕ) → AreApart (below n)
below_apart zero = tt
below_apart (suc n) = ordered_append (λ i j. i ≢ j) (below n) (n ∷ []) (below_apart n) (λ y i. absurd i, tt)
    (λ x y i j e. let l = below_in n x i in ⊎_elim (λ (k : n ≡ y). omega (arith, l, e, k)) (λ k. absurd k) j)

pub die_apart : (n : Numbers) (die : ℕ) → AreApart (spots_of n die)
die_apart n die = ordered_map (λ i j. i ≢ j) (λ x y. x ≢ y) (λ block. record { die = die; block = block })
    (below n.blocks) (λ x y other e. other (ap (λ (s : Spot). s.block) e)) (below_apart n.blocks)

weaker : {A : Type 0} (R S : A → A → Type 0) (xs : List A) → ((x y : A) → R x y → S x y) → IsOrdered R xs →
    IsOrdered S xs
weaker R S [] h o = tt
weaker R S (x ∷ xs) h o = (λ y i. h x y (o.0 y i), weaker R S xs h o.1)

before_apart : (a b : Spot) → IsBefore a b → a ≢ b
before_apart a b (inl l) e = let d = ap (λ (s : Spot). s.die) e in omega (arith, l, d)
before_apart a b (inr (d, l)) e = let k = ap (λ (s : Spot). s.block) e in omega (arith, l, k)

pub spots_apart : (n : Numbers) → AreApart (spots n)
spots_apart n = weaker IsBefore (λ x y. x ≢ y) (spots n) before_apart (spots_ordered n)

pub spot_told : (s : Spot) → IsTold s
spot_told s x = ⊎_elim (λ k. inl k.1) (λ k. inr k.1) (spot_cases x s)

pub number_told : (n : ℕ) → IsTold n
number_told n x = grind arith

-- the blocks of a die are of that die
pub die_of : (n : Numbers) (die : ℕ) (s : Spot) → IsIn s (spots_of n die) → s.die ≡ die
die_of n die s h =
    let r = map_in (λ block. record { die = die; block = block }) s (below n.blocks) h in
    sym (ap (λ (x : Spot). x.die) r.2)

pub spot_of_die : (n : Numbers) (die : ℕ) (s : Spot) → die < n.dies → IsIn s (spots_of n die) → IsSpot n s
spot_of_die n die s l h =
    let r = map_in (λ block. record { die = die; block = block }) s (below n.blocks) h in
    subst (IsSpot n) r.2 (record { die = l; block = below_in n.blocks r.0 r.1 })

-- Sums

-- where one element has so much less at the most, and no other less, the sum has
pub sum_less : {A : Type 0} (m : ℕ) (f g : A → ℕ) (s : A) (xs : List A) → IsTold s → AreApart xs →
    ((x : A) → IsIn x xs → x ≢ s → f x ≤ g x) → f s ≤ m + g s → sum_by f xs ≤ m + sum_by g xs
sum_less m f g s [] told apart others one = omega arith
sum_less m f g s (x ∷ xs) told apart others one =
    let a = sum_by-cons f x xs in
    let b = sum_by-cons g x xs in
    ⊎_elim
    (λ (k : x ≡ s).
    let l : f x ≤ m + g x = subst (λ z. f z ≤ m + g z) (sym k) one in
    let r = sum_no_less f g xs (λ y i. others y (inr i) (λ e. apart.0 y i (k ∙ sym e))) in
    omega (arith, a, b, l, r))
    (λ (k : x ≢ s).
    let l = others x (inl refl) k in
    let r = sum_less m f g s xs told apart.1 (λ y i. others y (inr i)) one in
    omega (arith, a, b, l, r)) (told x)

-- where one element has so much more, and no other less, the sum has
pub sum_more : {A : Type 0} (m : ℕ) (f g : A → ℕ) (s : A) (xs : List A) → IsIn s xs →
    ((x : A) → IsIn x xs → f x ≤ g x) → m + f s ≤ g s → m + sum_by f xs ≤ sum_by g xs
sum_more m f g s [] h others one = absurd h
sum_more m f g s (x ∷ xs) (inl e) others one =
    let a = sum_by-cons f x xs in
    let b = sum_by-cons g x xs in
    let l : m + f x ≤ g x = subst (λ z. m + f z ≤ g z) (sym e) one in
    let r = sum_no_less f g xs (λ y i. others y (inr i)) in
    omega (arith, a, b, l, r)
sum_more m f g s (x ∷ xs) (inr h) others one =
    let a = sum_by-cons f x xs in
    let b = sum_by-cons g x xs in
    let l = others x (inl refl) in
    let r = sum_more m f g s xs h (λ y i. others y (inr i)) one in
    omega (arith, a, b, l, r)

-- a sum is no less than one of its elements
pub sum_holds : {A : Type 0} (f : A → ℕ) (s : A) (xs : List A) → IsIn s xs → f s ≤ sum_by f xs
sum_holds f s [] h = absurd h
sum_holds f s (x ∷ xs) (inl e) =
    let a = sum_by-cons f x xs in
    let l : f s ≤ f x = subst (λ z. f s ≤ f z) (sym e) (omega arith) in
    omega (arith, a, l)
sum_holds f s (x ∷ xs) (inr h) =
    let a = sum_by-cons f x xs in
    let r = sum_holds f s xs h in
    omega (arith, a, r)
