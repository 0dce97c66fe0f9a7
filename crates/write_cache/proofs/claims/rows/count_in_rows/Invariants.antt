use Rattle.write_cache.proofs.Common.{all_claims, claims_of, length, take, ◌≡◌}
use Rattle.write_cache.proofs.claims.rows.count_in_rows.Given as goal

abbrev pub invariant-loop-at : goal.invariant-loop-at
invariant-loop-at l = l.count ≡ length (claims_of (all_claims (take l.at l.rows.items)) l.reader)
