-- Claims in rows of one reader each, and what is left of the rows when claims go.
use Rattle.std.specs.Prelude.{◌≡◌, ℕ, ◌==◌, Bool, if◌then◌else◌, List, [], ◌∷◌, ◌++◌, length, map}
use Rattle.write_cache.specs.declared.slots.Claimed.{Claimed}
use Rattle.write_cache.specs.Slots.{claims_but}

-- how many claims there may be, and the claims in the order in which their slots were claimed
pub record ClaimQueue : Type 0 where
  pub room : ℕ
  pub items : List Claimed

-- all claims are of this reader
abbrev pub AreOf : ℕ → List Claimed → Type 0
AreOf reader [] = Unit {0}
AreOf reader (claim ∷ claims) = (claim.reader ≡ reader) × AreOf reader claims

-- no row has a claim
abbrev pub AreBare : List (List Claimed) → Type 0
AreBare [] = Unit {0}
AreBare (row ∷ rows) = (row ≡ []) × AreBare rows

-- the claims of the rows, one row after another
abbrev pub all_claims : List (List Claimed) → List Claimed
all_claims [] = []
all_claims (row ∷ rows) = row ++ all_claims rows

-- the row, if it has a claim
abbrev pub kept_row : List Claimed → List (List Claimed)
kept_row row = if length row == 0 then [] else row ∷ []

-- the rows that have a claim
abbrev pub used_rows : List (List Claimed) → List (List Claimed)
used_rows [] = []
used_rows (row ∷ rows) = kept_row row ++ used_rows rows

-- the rows that have a claim, once these claims are gone
abbrev pub kept_rows : (Claimed → Bool) → List (List Claimed) → List (List Claimed)
kept_rows goes rows = used_rows (map (claims_but goes) rows)
