-- The claims as they turn: the first goes to the back, or is gone if it is of the reader.
use Rattle.write_cache.proofs.Common.{Bool, Claimed, List, Pending, [], ap, append-nil, append_assoc, arith, claims_but}
use Rattle.write_cache.proofs.Common.{claims_of, cond, drop, empty_claim, false, filter-append, get_or, is_claim_of}
use Rattle.write_cache.proofs.Common.{length, map, map-append, nat_le, not, refl, suc, sym, take, take_more, true}
use Rattle.write_cache.proofs.Common.{without_claims, without_claims_behind, ℕ, ◌&&◌, ◌++◌, ◌+◌, ◌<◌, ◌∙◌, ◌∷◌, ◌≡◌}
use Rattle.std.proofs.Common.{drop-cons}
use Rattle.std.proofs.lemmas.Bool.Decides.{nat_tests}
use Rattle.write_cache.specs.Slots.{turned_but}

-- those that stay, with this one behind them
one_more : (goes : Claimed → Bool) (claim : Claimed) (behind front : List Claimed) →
    turned_but goes (claim ∷ behind ++ claims_but goes front) ≡ behind ++ claims_but goes (front ++ claim ∷ [])
one_more goes claim behind front =
    by (goes claim) refl
    ∙ ap (λ (xs : List Claimed). behind ++ xs) (sym (filter-append (λ x. not (goes x)) front (claim ∷ [])))
  where
    by : (b : Bool) → goes claim ≡ b →
        cond b (behind ++ claims_but goes front) ((behind ++ claims_but goes front) ++ claim ∷ [])
        ≡ behind ++ (claims_but goes front ++ cond (not b) (claim ∷ []) [])
    by true e = ap (λ (xs : List Claimed). behind ++ xs) (sym (append-nil (claims_but goes front)))
    by false e = append_assoc behind (claims_but goes front) (claim ∷ [])

-- one claim further
pub turned_more : (goes : Claimed → Bool) (i : ℕ) (claims turning : List Claimed) → i < length claims →
    turning ≡ drop i claims ++ claims_but goes (take i claims) →
    turned_but goes turning ≡ drop (i + 1) claims ++ claims_but goes (take (i + 1) claims)
turned_more goes i claims turning less is =
    ap (turned_but goes) is
    ∙ ap (λ (xs : List Claimed). turned_but goes (xs ++ claims_but goes (take i claims))) (drop-cons claims i d less)
    ∙ one_more goes (get_or claims i d) (drop (suc i) claims) (take i claims)
    ∙ ap (λ (n : ℕ). drop n claims ++ claims_but goes (take i claims ++ get_or claims i d ∷ [])) (one i)
    ∙ ap (λ (xs : List Claimed). drop (i + 1) claims ++ claims_but goes xs) (sym (take_more claims i d less))
  where
    d : Claimed
    d = empty_claim 0 0

    one : (i : ℕ) → suc i ≡ i + 1
    one i = omega arith

-- the first of those that turn is the next
pub first_next : (reader i : ℕ) (claims turning : List Claimed) → i < length claims →
    turning ≡ drop i claims ++ without_claims (take i claims) reader →
    take 1 turning ≡ get_or claims i (empty_claim 0 0) ∷ []
first_next reader i claims turning less is =
    ap (λ (xs : List Claimed). take 1 xs) is
    ∙ ap (λ (xs : List Claimed). take 1 (xs ++ without_claims (take i claims) reader))
    (drop-cons claims i (empty_claim 0 0) less)

-- what the reader claimed, one claim further
pub moved_more : (reader i : ℕ) (f : Claimed → Pending) (claims turning : List Claimed) (pages : List Pending) →
    i < length claims → turning ≡ drop i claims ++ without_claims (take i claims) reader →
    (pages ++ map f (claims_of (take i claims) reader)) ++ map f (claims_of (take 1 turning) reader)
    ≡ pages ++ map f (claims_of (take (i + 1) claims) reader)
moved_more reader i f claims turning pages less is =
    append_assoc pages (map f (claims_of (take i claims) reader)) (map f (claims_of (take 1 turning) reader))
    ∙ ap (λ (xs : List Pending). pages ++ xs)
    (sym (map-append f (claims_of (take i claims) reader) (claims_of (take 1 turning) reader))
    ∙ ap (λ (xs : List Claimed). map f xs)
    (ap (λ (xs : List Claimed). claims_of (take i claims) reader ++ claims_of xs reader)
    (first_next reader i claims turning less is)
    ∙ sym (filter-append (is_claim_of reader) (take i claims) (get_or claims i (empty_claim 0 0) ∷ []))
    ∙ ap (λ (xs : List Claimed). claims_of xs reader) (sym (take_more claims i (empty_claim 0 0) less))))

-- behind the first none are all that the reader claimed
pub all_behind : (claims : List Claimed) (reader : ℕ) →
    without_claims_behind claims reader 0 ≡ without_claims claims reader
all_behind claims reader = λ i. claims_but (λ claim. by (is_claim_of reader claim) claim.index i) claims
  where
    any : (n : ℕ) → nat_le 0 n ≡ true
    any n = grind (arith, nat_tests)

    by : (b : Bool) (n : ℕ) → (b && nat_le 0 n) ≡ b
    by true n = any n
    by false n = refl
