-- A function with one value put in: what it yields where that value was put, and that it is unchanged elsewhere.
use Rattle.std.proofs.Common.{◌≡◌, ◌≢◌, ◌⊎◌, ℕ, ◌==◌, Bool, true, false, if◌then◌else◌, sym, ap, ◌∙◌, inl, inr, ⊎_elim}
use Rattle.ufs_spec.specs.Cells.{same_place}
use Rattle.ufs_spec.specs.Disk.{Spot, at_die, at_place, at_spot, same_spot}
use Rattle.ufs_spec.specs.Ledger.{at_name, same_name}
use Rattle.ufs_spec.specs.declared.flash.Place.{Place}
use Rattle.ufs_spec.specs.declared.layer.Name.{Name}
use Rattle.ufs_spec.proofs.Facts.{cond-false, cond-true, eqb-self, eqb-true}
use Rattle.ufs_spec.proofs.Equalities.{name_cases, name_is, place_cases, spot_cases, told_cases}

-- For any test that tells equality
module _ {K A : Type 0} (same : K → K → Bool)
    (cases : (a b : K) → ((same a b ≡ true) × (a ≡ b)) ⊎ ((same a b ≡ false) × (a ≢ b))) where
  put_cases : (f : K → A) (k : K) (x : A) (j : K) →
      ((j ≡ k) × ((if same j k then x else f j) ≡ x)) ⊎ ((j ≢ k) × ((if same j k then x else f j) ≡ f j))
  put_cases f k x j =
      ⊎_elim
      (λ h. inl (h.1, cond-true (same j k) x (f j) h.0))
      (λ h. inr (h.1, cond-false (same j k) x (f j) h.0))
      (cases j k)

  put_is : (f : K → A) (k : K) (x : A) (j : K) (y : A) → (if same j k then x else f j) ≡ y →
      ((j ≡ k) × (x ≡ y)) ⊎ ((j ≢ k) × (f j ≡ y))
  put_is f k x j y h = ⊎_elim (λ r. inl (r.0, sym r.1 ∙ h)) (λ r. inr (r.0, sym r.1 ∙ h)) (put_cases f k x j)

-- By spot

pub at_spot_cases : {A : Type 0} (f : Spot → A) (s : Spot) (x : A) (t : Spot) →
    ((t ≡ s) × (at_spot f s x t ≡ x)) ⊎ ((t ≢ s) × (at_spot f s x t ≡ f t))
at_spot_cases = put_cases same_spot spot_cases

pub at_spot_is : {A : Type 0} (f : Spot → A) (s : Spot) (x : A) (t : Spot) (y : A) →
    at_spot f s x t ≡ y → ((t ≡ s) × (x ≡ y)) ⊎ ((t ≢ s) × (f t ≡ y))
at_spot_is = put_is same_spot spot_cases

-- By place

pub at_place_cases : {A : Type 0} (f : Place → A) (p : Place) (x : A) (q : Place) →
    ((q ≡ p) × (at_place f p x q ≡ x)) ⊎ ((q ≢ p) × (at_place f p x q ≡ f q))
at_place_cases = put_cases same_place place_cases

pub at_place_is : {A : Type 0} (f : Place → A) (p : Place) (x : A) (q : Place) (y : A) →
    at_place f p x q ≡ y → ((q ≡ p) × (x ≡ y)) ⊎ ((q ≢ p) × (f q ≡ y))
at_place_is = put_is same_place place_cases

-- By die

number_cases : (a b : ℕ) → (((a == b) ≡ true) × (a ≡ b)) ⊎ (((a == b) ≡ false) × (a ≢ b))
number_cases = told_cases (λ a b. a == b) eqb-true eqb-self

pub at_die_cases : {A : Type 0} (f : ℕ → A) (d : ℕ) (x : A) (e : ℕ) →
    ((e ≡ d) × (at_die f d x e ≡ x)) ⊎ ((e ≢ d) × (at_die f d x e ≡ f e))
at_die_cases = put_cases (λ a b. a == b) number_cases

pub at_die_is : {A : Type 0} (f : ℕ → A) (d : ℕ) (x : A) (e : ℕ) (y : A) →
    at_die f d x e ≡ y → ((e ≡ d) × (x ≡ y)) ⊎ ((e ≢ d) × (f e ≡ y))
at_die_is = put_is (λ a b. a == b) number_cases

-- By name

pub at_name_cases : {A : Type 0} (f : ℕ → ℕ → A) (name : Name) (x : A) (n i : ℕ) →
    ((n ≡ name.number) × (i ≡ name.index) × (at_name f name x n i ≡ x))
    ⊎ ((((n ≡ name.number) × (i ≡ name.index)) → ⊥) × (at_name f name x n i ≡ f n i))
at_name_cases f name x n i =
    ⊎_elim
    (λ h. inl (ap (λ (z : Name). z.number) h.0, ap (λ (z : Name). z.index) h.0, h.1))
    (λ h. inr
    (λ (e : (n ≡ name.number) × (i ≡ name.index)). h.0 (name_is (record { number = n; index = i }) name e.0 e.1), h.1))
    (put_cases same_name name_cases (λ (z : Name). f z.number z.index) name x (record { number = n; index = i }))
