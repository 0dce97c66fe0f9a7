-- More numbers than places: two of them stand at one place.
use Rattle.recovery.proofs.Common.{arith, cases_eq, inl, inr, refl, subst, suc, zero, ℕ, ⊎_elim, ◌<◌, ◌≡◌, ◌≢◌, ◌⊎◌}

-- the places without the one where the last number stands: who stood at the last place stands there
abbrev Moved : (ℕ → ℕ → Type 0) → ℕ → ℕ → ℕ → ℕ → Type 0
Moved Stands place last k i = (Stands k i × (i ≢ place)) ⊎ ((i ≡ place) × Stands k last)

module _ (n : ℕ) (Stands : ℕ → ℕ → Type 0) (each : (k : ℕ) → k < suc (suc n) → (i : ℕ) × (i < suc n) × Stands k i)
    (alone : (k j i : ℕ) → Stands k i → Stands j i → k ≡ j) (place : ℕ) (within : place < suc n)
    (there : Stands (suc n) place) where
  moved : (k : ℕ) → k < suc n → (i : ℕ) × (i < n) × Moved Stands place n k i
  moved k less =
      let at = each k (omega arith) in
      let fits : at.0 < suc n = at.1 in
      ⊎_elim (λ (is : at.0 ≡ place).
      let same : k ≡ suc n = alone k (suc n) place (subst (λ (x : ℕ). Stands k x) is at.2) there in
      absurd (omega arith))
      (λ (other : at.0 ≢ place).
      ⊎_elim (λ (last : at.0 ≡ n). (place, omega arith, inr (refl, subst (λ (x : ℕ). Stands k x) last at.2)))
      (λ (before : at.0 ≢ n). (at.0, omega arith, inl (at.2, other)))
      (cases_eq at.0 n))
      (cases_eq at.0 place)

  apart : (k j i : ℕ) → Moved Stands place n k i → Moved Stands place n j i → k ≡ j
  apart k j i a b =
      ⊎_elim (λ (l : Stands k i × (i ≢ place)).
      ⊎_elim (λ (r : Stands j i × (i ≢ place)). alone k j i l.0 r.0)
      (λ (r : (i ≡ place) × Stands j n). absurd (l.1 r.0)) b)
      (λ (l : (i ≡ place) × Stands k n).
      ⊎_elim (λ (r : Stands j i × (i ≢ place)). absurd (r.1 l.0))
      (λ (r : (i ≡ place) × Stands j n). alone k j n l.1 r.1) b) a

-- no place stands ready for each of the numbers, one number more than places, each alone at its place
pub too_many : (places : ℕ) (Stands : ℕ → ℕ → Type 0) →
    ((k : ℕ) → k < suc places → (i : ℕ) × (i < places) × Stands k i) →
    ((k j i : ℕ) → Stands k i → Stands j i → k ≡ j) → ⊥
too_many zero Stands each alone =
    let first = each zero (omega arith) in
    let less : first.0 < 0 = first.1 in
    absurd (omega arith)
too_many (suc n) Stands each alone =
    let here = each (suc n) (omega arith) in
    too_many n (Moved Stands here.0 n) (moved n Stands each alone here.0 here.1 here.2)
    (apart n Stands each alone here.0 here.1 here.2)
