-- Blocks that are looked at one after the other: each up to an index passes a test, or one of them does not.
use Rattle.device.proofs.Common.{Bool, ap, arith, below, false, inl, inr, refl, suc, sym, true, zero, ℕ, ⊎_elim, ◌&&◌}
use Rattle.device.proofs.Common.{◌+◌, ◌<◌, ◌∙◌, ◌∷◌, ◌≡◌, ◌≢◌, ◌≤◌, []}
use Rattle.std.specs.List.{list_all}
use Rattle.std.proofs.Math.Nat.{eq-or-lt_of_le}
use Rattle.std.proofs.lemmas.List.Folds.{list_all-append}
use Rattle.ufs_spec.proofs.Facts.{cases_eq}

pub each_more : (p : ℕ → Bool) (n : ℕ) → ((k : ℕ) → k < n → p k ≡ true) → p n ≡ true → (k : ℕ) → k < n + 1 →
    p k ≡ true
each_more p n before here k low =
    let most : k ≤ n = omega arith in
    elim (eq-or-lt_of_le most) [
      | inl is ↦ ap p is ∙ here
      | inr less ↦ before k less
    ]

pub all_pass : (p : ℕ → Bool) (n : ℕ) → ((k : ℕ) → k < n → p k ≡ true) → list_all p (below n) ≡ true
all_pass p zero each = refl
all_pass p (suc n) each =
    list_all-append p (below n) (n ∷ [])
    ∙ ap (λ (x : Bool). x && (p n && true)) (all_pass p n (λ k low. each k (omega arith)))
    ∙ ap (λ (x : Bool). x && true) (each n (omega arith))

pub one_fails : (p : ℕ → Bool) (n k : ℕ) → k < n → p k ≡ false → list_all p (below n) ≡ false
one_fails p zero k low e = absurd (omega arith)
one_fails p (suc n) k low e =
    list_all-append p (below n) (n ∷ [])
    ∙ ⊎_elim (λ (same : k ≡ n). last (list_all p (below n)) (p n) (ap p (sym same) ∙ e))
    (λ (other : k ≢ n). ap (λ (x : Bool). x && (p n && true)) (one_fails p n k (omega arith) e)) (cases_eq k n)
  where
    last : (a b : Bool) → b ≡ false → (a && (b && true)) ≡ false
    last true b h = ap (λ (x : Bool). x && true) h
    last false b h = refl
