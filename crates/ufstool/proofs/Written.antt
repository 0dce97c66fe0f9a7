-- Lines that are written one after another.
use Rattle.std.proofs.Common.{◌≡◌, ℕ, List, ◌++◌, subst}
use Rattle.std.proofs.KnownBytes.{Appends-kept, Appends-trans}
use Rattle.std.specs.Prelude.{Option}
use Rattle.std.specs.Io.KnownBytes.{Appends, Keeps}

-- two parts are written, and stay
pub both_written : (a b c d : Option (List ℕ)) (xs ys first second : List ℕ) → Appends a b xs → Appends b c ys
    → Keeps c d → xs ≡ first → ys ≡ second → Appends a d (first ++ second)
both_written a b c d xs ys first second one two kept is also =
    subst (Appends a d) (λ i. is i ++ also i) (Appends-kept a c d _ (Appends-trans a b c xs ys one two) kept)

-- two parts are written, of which the first is this one
pub then_written : (a b c : Option (List ℕ)) (xs first ys : List ℕ) → Appends a b xs → Appends b c ys → xs ≡ first
    → Appends a c (first ++ ys)
then_written a b c xs first ys one two is =
    subst (Appends a c) (λ i. is i ++ ys) (Appends-trans a b c xs ys one two)
