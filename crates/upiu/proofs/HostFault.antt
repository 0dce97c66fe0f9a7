-- What is wrong with the bytes of a host, from what is wrong with bytes of any kind.
use Rattle.std.proofs.Common.{◌≡◌, ◌∙◌, ◌==◌, ℕ, Bool, true, false, not, cond, List, [], ◌∷◌, Option}
use Rattle.std.proofs.Common.{Some, None, refl, sym, ap, subst, inl, inr}
use Rattle.std.proofs.lemmas.Bool.{cond-false, cond-true, eqb-true, false≢true, not-false, or_cases}
use Rattle.ufs_spec.specs.Messages.{code_of, has_digest, has_extra_header, has_other_code, has_wrong_length}
use Rattle.ufs_spec.specs.Messages.{host_codes, host_fault_of, is_among, is_short, known_codes, read_fault_of}
use Rattle.ufs_spec.specs.declared.faults.HostFault.{HostFault}
use Rattle.ufs_spec.specs.declared.faults.HostFault.TheVariants.{Short, Length, Digest, Ehs, Code}

-- a property of each of some numbers
abbrev pub EachOf : (ℕ → Type 0) → List ℕ → Type 0
EachOf P [] = Unit {0}
EachOf P (x ∷ xs) = P x × EachOf P xs

-- is one of any number among them
pub of_each : (P : ℕ → Type 0) (xs : List ℕ) (n : ℕ) → EachOf P xs → is_among xs n ≡ true → P n
of_each P [] n each among = absurd (false≢true among)
of_each P (x ∷ xs) n (here, others) among =
    elim (or_cases (n == x) (is_among xs n) among)
    [ inl same ↦ subst P (sym (eqb-true n x same)) here | inr other ↦ of_each P xs n others other ]

-- a kind that a host sends is a kind
pub known_of_host : (n : ℕ) → is_among host_codes n ≡ true → is_among known_codes n ≡ true
known_of_host n among =
    of_each (λ (k : ℕ). is_among known_codes k ≡ true) host_codes n
    (refl, (refl, (refl, (refl, (refl, (refl, tt)))))) among

turned : (a b : Bool) → (a ≡ true → b ≡ true) → not b ≡ true → not a ≡ true
turned true true h e = e
turned true false h e = absurd (false≢true (h refl))
turned false b h e = refl

-- the first of five findings
abbrev told : Bool → Bool → Bool → Bool → Bool → Option HostFault
told short long digest extra other =
    cond short (Some Short)
    (cond long (Some Length) (cond digest (Some Digest) (cond extra (Some Ehs) (cond other (Some Code) None))))

same_told : (a b c d e f : Bool) (fault : HostFault) → (e ≡ true → f ≡ true) → told a b c d e ≡ Some fault
    → told a b c d f ≡ Some fault
same_told true b c d e f fault h t = t
same_told false true c d e f fault h t = t
same_told false false true d e f fault h t = t
same_told false false false true e f fault h t = t
same_told false false false false true f fault h t = cond-true _ _ _ (h refl) ∙ t
same_told false false false false false f fault h t = let no : ⊥ = cc in absurd no

-- where nothing is found, a sixth finding alone is told
then_told : (a b c d e f : Bool) → told a b c d e ≡ None →
    (told a b c d f ≡ cond f (Some Code) None) × (e ≡ false)
then_told true b c d e f t = let no : ⊥ = cc in absurd no
then_told false true c d e f t = let no : ⊥ = cc in absurd no
then_told false false true d e f t = let no : ⊥ = cc in absurd no
then_told false false false true e f t = let no : ⊥ = cc in absurd no
then_told false false false false true f t = let no : ⊥ = cc in absurd no
then_told false false false false false f t = (refl, refl)

host_then : (bytes : List ℕ) → read_fault_of bytes ≡ None →
    host_fault_of bytes ≡ cond (has_other_code host_codes bytes) (Some Code) None
host_then bytes h =
    (then_told (is_short bytes) (has_wrong_length bytes) (has_digest bytes) (has_extra_header bytes)
    (has_other_code known_codes bytes) (has_other_code host_codes bytes) h).0

-- bytes that have no fault and are of a kind that a host sends
pub host_none : (bytes : List ℕ) → read_fault_of bytes ≡ None → is_among host_codes (code_of bytes) ≡ true →
    host_fault_of bytes ≡ None
host_none bytes h among = host_then bytes h ∙ cond-false _ _ _ (ap not among)

-- bytes that have no fault, but are of a kind that a device sends
pub host_other : (bytes : List ℕ) → read_fault_of bytes ≡ None → is_among host_codes (code_of bytes) ≡ false →
    host_fault_of bytes ≡ Some Code
host_other bytes h other = host_then bytes h ∙ cond-true _ _ _ (ap not other)

-- a host's bytes without a fault have none for any reader, and are of a kind that a host sends
pub host_read : (bytes : List ℕ) → host_fault_of bytes ≡ None →
    (read_fault_of bytes ≡ None) × (is_among host_codes (code_of bytes) ≡ true)
host_read bytes h =
    let found = then_told (is_short bytes) (has_wrong_length bytes) (has_digest bytes) (has_extra_header bytes)
    (has_other_code host_codes bytes) (has_other_code known_codes bytes) h in
    let of_host : is_among host_codes (code_of bytes) ≡ true = not-false _ found.1 in
    (found.0 ∙ cond-false _ _ _ (ap not (known_of_host (code_of bytes) of_host)), of_host)
