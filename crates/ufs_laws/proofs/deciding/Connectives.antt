-- Facts that can be decided.
use Rattle.ufs_laws.proofs.Common.{All, AreBytes, Bool, IsBlock, List, None, Option, Some, [], arith, dec_lt, false}
use Rattle.ufs_laws.proofs.Common.{inl, inr, length, map_dec, refl, subst, suc, true, zero, ℕ, ℕ_discrete, ⊎_elim, ◌<◌}
use Rattle.ufs_laws.proofs.Common.{◌∷◌, ◌≡◌, ◌⊎◌}
use Rattle.std.specs.Bool.{Decides}
use Rattle.std.specs.Str.{bytes_eq}
use Rattle.std.proofs.lemmas.List.Elements.{All-cons, All-head, All-tail}
use Rattle.std.proofs.lemmas.Slice.Eq.{bytes_eq-Decides}

-- Connectives

decided : {P : Type 0} (r : Bool) → Decides r P → Dec P
decided true h = yes (h.0 refl)
decided false h = no (λ p. let e : false ≡ true = h.1 p in cc)

pub dec_and : {P Q : Type 0} → Dec P → Dec Q → Dec (P × Q)
dec_and (yes p) (yes q) = yes (p, q)
dec_and (yes p) (no n) = no (λ h. n h.1)
dec_and (no n) d = no (λ h. n h.0)

pub dec_three : {P Q R : Type 0} → Dec P → Dec Q → Dec R → Dec (P × Q × R)
dec_three p q r =
    map_dec (λ h. (h.0, h.1.0, h.1.1)) (λ h. (h.0, (h.1, h.2))) (dec_and p (dec_and q r))

pub dec_four : {P Q R S : Type 0} → Dec P → Dec Q → Dec R → Dec S → Dec (P × Q × R × S)
dec_four p q r s =
    map_dec (λ h. (h.0, h.1.0, h.1.1, h.1.2)) (λ h. (h.0, (h.1, h.2, h.3))) (dec_and p (dec_three q r s))

pub dec_five : {P Q R S T : Type 0} → Dec P → Dec Q → Dec R → Dec S → Dec T → Dec (P × Q × R × S × T)
dec_five p q r s t =
    map_dec (λ h. (h.0, h.1.0, h.1.1, h.1.2, h.1.3)) (λ h. (h.0, (h.1, h.2, h.3, h.4))) (dec_and p (dec_four q r s t))

pub dec_six : {P Q R S T U : Type 0} → Dec P → Dec Q → Dec R → Dec S → Dec T → Dec U → Dec (P × Q × R × S × T × U)
dec_six p q r s t u =
    map_dec (λ h. (h.0, h.1.0, h.1.1, h.1.2, h.1.3, h.1.4)) (λ h. (h.0, (h.1, h.2, h.3, h.4, h.5)))
    (dec_and p (dec_five q r s t u))

pub dec_seven : {P Q R S T U V : Type 0} → Dec P → Dec Q → Dec R → Dec S → Dec T → Dec U → Dec V →
    Dec (P × Q × R × S × T × U × V)
dec_seven p q r s t u v =
    map_dec (λ h. (h.0, h.1.0, h.1.1, h.1.2, h.1.3, h.1.4, h.1.5)) (λ h. (h.0, (h.1, h.2, h.3, h.4, h.5, h.6)))
    (dec_and p (dec_six q r s t u v))

pub dec_or : {P Q : Type 0} → Dec P → Dec Q → Dec (P ⊎ Q)
dec_or (yes p) d = yes (inl p)
dec_or (no n) (yes q) = yes (inr q)
dec_or (no n) (no m) = no (⊎_elim n m)

pub dec_implies : {P Q : Type 0} → Dec P → Dec Q → Dec (P → Q)
dec_implies (yes p) (yes q) = yes (λ _. q)
dec_implies (yes p) (no n) = no (λ h. n (h p))
dec_implies (no n) d = yes (λ p. absurd (n p))

-- whether what an option holds, if it holds something, has a property
pub dec_some : {X : Type 0} (P : X → Type 0) → ((x : X) → Dec (P x)) → (o : Option X) → Dec ((x : X) → o ≡ Some x → P x)
dec_some P each None = yes (λ x e. cc)
dec_some {X} P each (Some y) = from (each y)
  where
    from : Dec (P y) → Dec ((x : X) → Some y ≡ Some x → P x)
    from (yes h) = yes (λ x e. let same : y ≡ x = cc in subst P same h)
    from (no n) = no (λ h. n (h y refl))

-- whether all elements of a list have a property
pub dec_all : {X : Type 0} (P : X → Type 0) → ((x : X) → Dec (P x)) → (xs : List X) → Dec (All P xs)
dec_all P each [] = yes (λ k d lt. absurd (omega arith))
dec_all P each (x ∷ xs) =
    map_dec (λ h. All-cons P x xs h.0 h.1) (λ h. (All-head P x xs h, All-tail P x xs h))
    (dec_and (each x) (dec_all P each xs))

-- Bytes

pub same_bytes : (xs ys : List ℕ) → Dec (xs ≡ ys)
same_bytes xs ys = decided (bytes_eq xs ys) (bytes_eq-Decides xs ys)

bytes_first : (x : ℕ) (xs : List ℕ) → (x < 256) × AreBytes xs → AreBytes (x ∷ xs)
bytes_first x xs h zero = h.0
bytes_first x xs h (suc place) = h.1 place

pub are_bytes : (xs : List ℕ) → Dec (AreBytes xs)
are_bytes [] = yes (λ place. omega arith)
are_bytes (x ∷ xs) =
    map_dec (bytes_first x xs) (λ h. (h 0, λ place. h (suc place))) (dec_and (dec_lt x 256) (are_bytes xs))

-- whether a list is 4096 bytes
pub is_block : (xs : List ℕ) → Dec (IsBlock xs)
is_block xs = dec_and (ℕ_discrete (length xs) 4096) (are_bytes xs)
