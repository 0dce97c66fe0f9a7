-- Which texts spell bytes.
use Rattle.std.proofs.Common.{◌≡◌, ℕ, ◌%◌, ◌<◌, true, false, List, [], ◌∷◌, length, Some, None, Result, Ok, Err, ap}
use Rattle.std.proofs.Common.{sym, ◌∙◌, refl, arith}
use Rattle.std.proofs.lemmas.Bool.{false≢true}
use Rattle.std.proofs.lemmas.Bool.Decides.{nat_tests}
use Rattle.std.proofs.lemmas.List.Sums.{AllPass-from_list_all, list_all-from_AllPass}
use Rattle.std.specs.List.{list_all}
use Rattle.std.specs.Result.{result_ok}
use Rattle.hex.specs.Hex.{decode_of, is_hex_digit}
use Rattle.hex.specs.declared.error.FromHexError.{FromHexError}
use Rattle.hex.proofs.HexLemmas.{decode_of-ok, decode_of-digits}
use Rattle.ufsim.specs.Spelling.{spelled_bytes, spells}

spells-parts : (s : List ℕ) → spells s ≡ true
    → (0 < length s) × (length s % 2 ≡ 0) × (list_all is_hex_digit s ≡ true)
spells-parts s h = (grind (arith, nat_tests), grind (arith, nat_tests), grind (arith, nat_tests))

spells-whole : (s : List ℕ) → 0 < length s → length s % 2 ≡ 0 → list_all is_hex_digit s ≡ true → spells s ≡ true
spells-whole s h e d = grind (arith, nat_tests)

-- a text that decodes, and is not empty, spells
spelled-decoded : (s bytes : List ℕ) → 0 < length s → decode_of s ≡ Ok bytes → spelled_bytes s ≡ Some bytes
spelled-decoded [] bytes h e = absurd (omega arith)
spelled-decoded (d ∷ ds) bytes h e = ap result_ok e

-- what a result of decoding gives, where a text that decodes spells
none_of : (s : List ℕ) (r : Result (List ℕ) FromHexError) → decode_of s ≡ r → 0 < length s
    → spells s ≡ false → result_ok r ≡ None
none_of s (Ok bytes) e n h =
    let ok = decode_of-ok s bytes e in
    absurd (false≢true (sym h ∙ spells-whole s n ok.0 (list_all-from_AllPass is_hex_digit s ok.1)))
none_of s (Err fault) e n h = refl

-- a text that does not spell has no bytes
pub spelled_bytes-none : (s : List ℕ) → spells s ≡ false → spelled_bytes s ≡ None
spelled_bytes-none [] h = refl
spelled_bytes-none (d ∷ ds) h = none_of (d ∷ ds) (decode_of (d ∷ ds)) refl (omega arith) h

-- a text that spells decodes to its bytes
pub spelled_bytes-some : (s : List ℕ) → spells s ≡ true
    → (bytes : List ℕ) × (decode_of s ≡ Ok bytes) × (spelled_bytes s ≡ Some bytes)
spelled_bytes-some s h =
    let p = spells-parts s h in
    let found = decode_of-digits s p.1 (AllPass-from_list_all is_hex_digit s p.2) in
    (found.0, found.1, spelled-decoded s found.0 p.0 found.1)
