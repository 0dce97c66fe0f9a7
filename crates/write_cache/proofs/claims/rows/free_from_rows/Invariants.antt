use Rattle.write_cache.proofs.Common.{all_claims, claims_but, deque_capacity, drop, is_claim_behind, length, map, take}
use Rattle.write_cache.proofs.Common.{vec_capacity, ◌++◌, ◌+◌, ◌≡◌}
use Rattle.write_cache.proofs.claims.rows.free_from_rows.Given as goal

abbrev pub invariant-loop-at : goal.invariant-loop-at
invariant-loop-at l = record {
  left : l.rows.items
      ≡ map (claims_but (is_claim_behind l.reader l.count)) (take l.at l.initial.rows.items)
      ++ drop l.at l.initial.rows.items;
  long : length l.rows.items ≡ length l.initial.rows.items;
  row_room : deque_capacity l.rows ≡ deque_capacity l.initial.rows;
  room : vec_capacity l.free ≡ vec_capacity l.initial.free;
  as_many : length l.free.items + length (all_claims l.rows.items)
      ≡ length l.initial.free.items + length (all_claims l.initial.rows.items);
}
