-- What is read of known bytes, part by part.
use Rattle.std.proofs.Common.{◌≡◌, ◌∙◌, ◌+◌, ◌-◌, ◌<◌, ◌≤◌, ℕ, List, [], ◌∷◌, ◌++◌, arith, length, subst, sym, take}
use Rattle.std.proofs.Common.{length-append, length-take}
use Rattle.std.proofs.KnownBytes.{Consumes-trans}
pub use Rattle.std.proofs.KnownBytes.{Keeps-trans as kept_more}
use Rattle.std.proofs.lemmas.List.{take_more_set}
use Rattle.std.specs.Prelude.{None, Option, Some, slice_set}
use Rattle.std.specs.Io.KnownBytes.{Consumes, Keeps}

-- what is consumed of what was kept
pub kept_consumes : (a b c : Option (List ℕ)) (bs : List ℕ) → Keeps a b → Consumes b c bs → Consumes a c bs
kept_consumes None b c bs kept read = tt
kept_consumes (Some x) None c bs kept read = absurd kept
kept_consumes (Some x) (Some y) None bs kept read = absurd read
kept_consumes (Some x) (Some y) (Some z) bs kept read = sym kept ∙ read

-- a byte is put behind the ones that were read
pub byte_more : (a b c : Option (List ℕ)) (head : List ℕ) (place byte : ℕ) → place < length head
    → Consumes a b (take place head) → Consumes b c (byte ∷ []) → Consumes a c (take (place + 1) (slice_set head place byte))
byte_more a b c head place byte there one two =
    subst (Consumes a c) (sym (take_more_set head place byte there)) (Consumes-trans a b c _ _ one two)

-- a piece more of those that are passed over
pub piece_more : (a b c : Option (List ℕ)) (bytes piece : List ℕ) (count left found : ℕ) → Consumes a b bytes
    → length bytes ≡ count - left → left ≤ count → Consumes b c (take found piece) → found ≤ length piece → found ≤ left
    → ((more : List ℕ) × Consumes a c more × (length more ≡ count - (left - found))) × (left - found ≤ count)
piece_more a b c bytes piece count left found one long most two fits few = (
  (
    bytes ++ take found piece,
    Consumes-trans a b c _ _ one two,
    omega (arith, length-append bytes (take found piece), length-take found piece, long),
  ),
  omega arith,
)
