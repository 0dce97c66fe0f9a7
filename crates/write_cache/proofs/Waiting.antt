-- Whether a page waits for its rest.
use Rattle.write_cache.proofs.Common.{Bool, List, Pending, Some, [], cond, false, is_some, list_any, position_from}
use Rattle.write_cache.proofs.Common.{refl, true, waits, ℕ, ◌+◌, ◌||◌, ◌∷◌, ◌≡◌}

-- some page waits where one is the first that does
pub some_waits : (n : ℕ) (ps : List Pending) → is_some (position_from waits n ps) ≡ list_any waits ps
some_waits n [] = refl
some_waits n (p ∷ ps) = by (waits p) (some_waits (n + 1) ps)
  where
    by : (b : Bool) → is_some (position_from waits (n + 1) ps) ≡ list_any waits ps →
        is_some (cond b (Some n) (position_from waits (n + 1) ps)) ≡ (b || list_any waits ps)
    by true h = refl
    by false h = h
