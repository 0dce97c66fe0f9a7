-- What the list of bad blocks says of each block.
use Rattle.recovery.proofs.Common.{Bool, List, Numbers, Some, Spot, ap, map, option_map, slice_get-map, spots, ℕ, ◌∙◌}
use Rattle.recovery.proofs.Common.{◌≡◌}
use Rattle.std.proofs.Common.{slice_get}

-- whether it is bad
pub bad_at : (n : Numbers) (is_bad : Spot → Bool) (bads : List Bool) (i : ℕ) (s : Spot) →
    bads ≡ map is_bad (spots n) → slice_get (spots n) i ≡ Some s → slice_get bads i ≡ Some (is_bad s)
bad_at n is_bad bads i s is at =
    ap (λ (xs : List Bool). slice_get xs i) is
    ∙ (slice_get-map is_bad (spots n) i ∙ ap (option_map is_bad) at)
