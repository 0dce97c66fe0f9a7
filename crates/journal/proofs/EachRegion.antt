-- What holds of each region that was found, one after another.
use Rattle.std.proofs.Common.{◌≡◌, ◌∙◌, ℕ, ◌+◌, ◌<◌, ◌≤◌, List, [], None, Some, arith, length, subst, sym, ⊎_elim}
use Rattle.std.proofs.lemmas.Bool.{cases_lt}
use Rattle.std.proofs.lemmas.Option.{slice_get_within}
use Rattle.std.specs.Prelude.{slice_get}
use Rattle.ufs_spec.proofs.Facts.{same_Some}
use Rattle.journal.specs.declared.found.FoundRegion.{FoundRegion}

-- what stands where no region was found
abbrev pub no_found : FoundRegion
no_found = record { key = None; counter = 0; area = record { ref_ptr = (0, 0); now = [] } }

-- it holds of each, by its number
abbrev pub Each : (ℕ → FoundRegion → Type 0) → List FoundRegion → Type 0
Each P found = (number : ℕ) (r : FoundRegion) → slice_get found number ≡ Some r → P number r

-- it holds of those with the numbers below one
abbrev pub EachBelow : (ℕ → FoundRegion → Type 0) → List FoundRegion → ℕ → Type 0
EachBelow P found count = (number : ℕ) (r : FoundRegion) → number < count → slice_get found number ≡ Some r → P number r

pub one_more : (P : ℕ → FoundRegion → Type 0) (found : List FoundRegion) (count : ℕ) (r : FoundRegion) →
    slice_get found count ≡ Some r → P count r → EachBelow P found count → EachBelow P found (count + 1)
one_more P found count r there holds before number other below at = ⊎_elim
    (λ (less : number < count). before number other less at)
    (λ (past : count ≤ number).
    let same : count ≡ number = omega (arith, past, below) in
    subst (λ (k : ℕ). slice_get found k ≡ Some other → P k other) same
    (λ here. subst (P count) (same_Some r other (sym there ∙ here)) holds) at)
    (cases_lt number count)

pub of_all : (P : ℕ → FoundRegion → Type 0) (found : List FoundRegion) (count : ℕ) → length found ≤ count →
    EachBelow P found count → Each P found
of_all P found count all below number r at =
    let inside = slice_get_within found number r at in
    below number r (omega (arith, inside, all)) at
