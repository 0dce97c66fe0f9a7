-- Of the open tasks one changes, and all others stay: it alone passes a test, and it alone is another task then.
use Rattle.device.proofs.Common.{Bool, List, OpenTask, Some, TaskKept, TasksKept, [], ap, arith, cond, false, filter}
use Rattle.device.proofs.Common.{map, none-some, refl, same_Some, slice_get, slice_set, subst, suc, sym, true, zero, ℕ}
use Rattle.device.proofs.Common.{◌∙◌, ◌∷◌, ◌≡◌}
use Rattle.ufs_spec.specs.Exchanges as exchange

-- of all tasks only the one at this position passes
pub only_one : (p : exchange.Task → Bool) (us : List exchange.Task) (k : ℕ) (b : exchange.Task) →
    slice_get us k ≡ Some b → p b ≡ true →
    ((j : ℕ) (x : exchange.Task) → slice_get us j ≡ Some x → (j ≡ k → ⊥) → p x ≡ false) →
    filter p us ≡ b ∷ []
only_one p [] k b at is others = absurd (none-some b at)
only_one p (y ∷ us) zero b at is others =
    ap (λ (c : Bool). cond c (y ∷ filter p us) (filter p us)) (ap p (same_Some y b at) ∙ is)
    ∙ (λ i. same_Some y b at i ∷ none us (λ j x there. others (suc j) x there (λ e. no_zero j e)) i)
  where
    no_zero : (j : ℕ) → suc j ≡ 0 → ⊥
    no_zero j e = omega arith

    none : (xs : List exchange.Task) → ((j : ℕ) (x : exchange.Task) → slice_get xs j ≡ Some x → p x ≡ false) →
        filter p xs ≡ []
    none [] h = refl
    none (x ∷ xs) h =
        ap (λ (c : Bool). cond c (x ∷ filter p xs) (filter p xs)) (h zero x refl)
        ∙ none xs (λ j z there. h (suc j) z there)
only_one p (y ∷ us) (suc k) b at is others =
    ap (λ (c : Bool). cond c (y ∷ filter p us) (filter p us)) (others zero y refl (λ e. no_suc k e))
    ∙ only_one p us k b at is (λ j x there differ. others (suc j) x there (λ e. differ (less j k e)))
  where
    no_suc : (k : ℕ) → 0 ≡ suc k → ⊥
    no_suc k e = omega arith

    less : (j k : ℕ) → suc j ≡ suc k → j ≡ k
    less j k e = omega arith

-- the task at a position changes on both sides, and all others stay
pub changed_at : (before k : ℕ) (ts : List OpenTask) (us : List exchange.Task) (a : OpenTask) (b : exchange.Task)
    (g : exchange.Task → exchange.Task) → TasksKept before ts us → slice_get us k ≡ Some b →
    TaskKept before a (g b) →
    ((j : ℕ) (x : exchange.Task) → slice_get us j ≡ Some x → (j ≡ k → ⊥) → g x ≡ x) →
    TasksKept before (slice_set ts k a) (map g us)
changed_at before k [] [] a b g h at new others = tt
changed_at before zero (x ∷ ts) (y ∷ us) a b g h at new others = (
  subst (λ z. TaskKept before a (g z)) (sym (same_Some y b at)) new,
  subst (TasksKept before ts) (sym (all us (λ j z there. others (suc j) z there (λ e. no_zero j e)))) h.1,
)
  where
    no_zero : (j : ℕ) → suc j ≡ 0 → ⊥
    no_zero j e = omega arith

    all : (xs : List exchange.Task) → ((j : ℕ) (z : exchange.Task) → slice_get xs j ≡ Some z → g z ≡ z) → map g xs ≡ xs
    all [] stay = refl
    all (z ∷ xs) stay = λ i. stay zero z refl i ∷ all xs (λ j w there. stay (suc j) w there) i
changed_at before (suc k) (x ∷ ts) (y ∷ us) a b g h at new others = (
  subst (TaskKept before x) (sym (others zero y refl (λ e. no_suc k e))) h.0,
  changed_at before k ts us a b g h.1 at new (λ j z there differ. others (suc j) z there (λ e. differ (less j k e))),
)
  where
    no_suc : (k : ℕ) → 0 ≡ suc k → ⊥
    no_suc k e = omega arith

    less : (j k : ℕ) → suc j ≡ suc k → j ≡ k
    less j k e = omega arith
changed_at before k ts us a b g h at new others = absurd h
