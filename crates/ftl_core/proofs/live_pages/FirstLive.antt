-- The pages where the contents of the first keys stand, one key after another.
use Rattle.ftl_core.proofs.Common.{List, Lives, Option, Stored, [], ap, arith, flat, fold, refl, suc, sym, take}
use Rattle.ftl_core.proofs.Common.{with_stored, zero, ℕ, ◌+◌, ◌∙◌, ◌∷◌, ◌≡◌}
use Rattle.std.proofs.Common.{slice_get}

fold_next : (l : Lives) (ps : List (Option Stored)) (i : ℕ) →
    fold with_stored l (take (suc i) ps) ≡ with_stored (fold with_stored l (take i ps)) (flat (slice_get ps i))
fold_next l [] zero = refl
fold_next l [] (suc i) = refl
fold_next l (p ∷ ps) zero = refl
fold_next l (p ∷ ps) (suc i) = fold_next (with_stored l p) ps i

-- the content of the next key is there too
pub next_stored : (first : Lives) (ps : List (Option Stored)) (i : ℕ) (l : Lives) (o : Option Stored) (next : Lives) →
    l ≡ fold with_stored first (take i ps) → o ≡ flat (slice_get ps i) → next ≡ with_stored l o →
    next ≡ fold with_stored first (take (i + 1) ps)
next_stored first ps i l o next before found after =
    let more : suc i ≡ i + 1 = omega arith in
    after
    ∙ (λ k. with_stored (before k) (found k))
    ∙ sym (fold_next first ps i)
    ∙ ap (λ (n : ℕ). fold with_stored first (take n ps)) more
