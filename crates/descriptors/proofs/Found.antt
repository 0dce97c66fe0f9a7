-- What is found of the rows.
use Rattle.std.proofs.Common.{Bool, List, None, Some, ap, cond, false, find, length, position, refl, sym, true, ℕ}
use Rattle.std.proofs.Common.{◌∙◌, ◌≡◌}
use Rattle.std.specs.List.{position_or_len}
use Rattle.std.specs.Prelude.{nat_lt, slice_get}
use Rattle.std.proofs.lemmas.Bool.{ltb-false}
use Rattle.std.proofs.lemmas.List.Folds.{find_at}
use Rattle.std.proofs.lemmas.Option.{slice_get_past}
use Rattle.ufs_spec.proofs.Facts.{none-some, same_Some}

-- what stands at the first place that passes is the first that passes
pub found_there : {X : Type 0} (p : X → Bool) (xs : List X) (i : ℕ) → position p xs ≡ Some i →
    slice_get xs i ≡ find p xs
found_there {X} p xs i e = by (nat_lt (position_or_len p xs) (length xs)) e
  where
    by : (b : Bool) → cond b (Some (position_or_len p xs)) None ≡ Some i → slice_get xs i ≡ find p xs
    by true k = ap (slice_get xs) (sym (same_Some (position_or_len p xs) i k)) ∙ sym (find_at p xs)
    by false k = absurd (none-some i k)

pub none_there : {X : Type 0} (p : X → Bool) (xs : List X) → position p xs ≡ None → None ≡ find p xs
none_there {X} p xs e = by (nat_lt (position_or_len p xs) (length xs)) refl e
  where
    by : (b : Bool) → nat_lt (position_or_len p xs) (length xs) ≡ b →
        cond b (Some (position_or_len p xs)) None ≡ None → None ≡ find p xs
    by true f k = absurd (none-some (position_or_len p xs) (sym k))
    by false f k =
        sym (find_at p xs ∙ slice_get_past xs (position_or_len p xs) (ltb-false (position_or_len p xs) (length xs) f))
