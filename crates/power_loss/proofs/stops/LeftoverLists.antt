-- Lists of leftovers: what they contain, and that no die has two.
use Rattle.power_loss.proofs.Common.{◌≡◌, ◌≢◌, ◌⊎◌, ◌<◌, zero, suc, List, [], ◌∷◌, refl, sym, ap, ◌∙◌, inl, inr, ⊎_elim}
use Rattle.power_loss.proofs.Common.{arith, cases_order, Contains, slice_index_or}
use Rattle.power_loss.proofs.MachineWords.{die_of, Leftover}
use Rattle.std.proofs.lemmas.List.{get_or_default}
use Rattle.std.specs.Prelude.{AllPairs}

-- What is contained

pub none_contained : {l : Leftover} → Contains {X = Leftover} [] l → ⊥
none_contained h = let low = h.1 in omega arith

pub first_contained : {l : Leftover} (ls : List Leftover) → Contains (l ∷ ls) l
first_contained ls = (0, omega arith, refl)

pub later_contained : {l : Leftover} (ls : List Leftover) {m : Leftover} → Contains ls m → Contains (l ∷ ls) m
later_contained ls h = (suc h.0, (let low = h.1 in omega arith), h.2)

pub contained_cases : {l : Leftover} (ls : List Leftover) {m : Leftover} → Contains (l ∷ ls) m → (m ≡ l) ⊎ Contains ls m
contained_cases ls (zero, h, e) = inl (sym e)
contained_cases ls (suc i, h, e) = inr (i, (omega arith), e)

pub only_contained : {l m : Leftover} → Contains (l ∷ []) m → m ≡ l
only_contained {m} h = ⊎_elim (λ e. e) (λ k. absurd (none_contained k)) (contained_cases [] h)

-- No die twice

abbrev pub Apart : List Leftover → Type 0
Apart lefts = AllPairs (λ l m. die_of l ≢ die_of m) lefts

pub none_apart : Apart []
none_apart i j d low within = absurd (omega arith)

pub one_apart : (l : Leftover) → Apart (l ∷ [])
one_apart l i j d low within = absurd (omega arith)

-- of two that stand one behind the other the dies differ
apart : (lefts : List Leftover) (l m : Leftover) → Apart lefts → (a : Contains lefts l) (b : Contains lefts m) →
    a.0 < b.0 → die_of l ≡ die_of m → ⊥
apart lefts l m pairs a b low e =
    pairs a.0 b.0 l low b.1 (ap die_of a.2 ∙ e ∙ sym (ap die_of (get_or_default lefts b.0 l m b.1 ∙ b.2)))

pub one_leftover : (lefts : List Leftover) (l m : Leftover) → Apart lefts → Contains lefts l → Contains lefts m →
    die_of l ≡ die_of m → l ≡ m
one_leftover lefts l m pairs a b e = ⊎_elim
    (λ at. sym a.2 ∙ get_or_default lefts a.0 l m a.1 ∙ ap (λ i. slice_index_or lefts i m) at ∙ b.2)
    (⊎_elim (λ low. absurd (apart lefts l m pairs a b low e)) (λ high. absurd (apart lefts m l pairs b a high (sym e))))
    (cases_order a.0 b.0)
