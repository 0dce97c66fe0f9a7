-- Bytes as a script spells them (this profile).
use Rattle.std.specs.Prelude.{ℕ, ◌%◌, ◌==◌, ◌&&◌, nat_lt, Bool, List, [], ◌∷◌, Option, None, length}
use Rattle.std.specs.List.{list_all}
use Rattle.std.specs.Result.{result_ok}
use Rattle.hex.specs.Hex.{decode_of, is_hex_digit}

-- the bytes that a script's HEX spells: two hexadecimal digits a byte, and one byte at least
abbrev pub spelled_bytes : List ℕ → Option (List ℕ)
spelled_bytes [] = None
spelled_bytes (digit ∷ digits) = result_ok (decode_of (digit ∷ digits))

-- whether a text spells bytes
abbrev pub spells : List ℕ → Bool
spells text = nat_lt 0 (length text) && length text % 2 == 0 && list_all is_hex_digit text
