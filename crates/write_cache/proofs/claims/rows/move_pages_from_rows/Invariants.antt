use Rattle.write_cache.proofs.Common.{all_claims, claims_but, claims_of, deque_capacity, drop, filter_map, is_claim_of}
use Rattle.write_cache.proofs.Common.{length, map, page_moved, take, vec_capacity, ◌++◌, ◌+◌, ◌≡◌, ◌≤◌}
use Rattle.write_cache.proofs.claims.rows.move_pages_from_rows.Given as goal

abbrev pub invariant-loop-at : goal.invariant-loop-at
invariant-loop-at l = record {
  left : l.rows.items
      ≡ map (claims_but (is_claim_of l.reader)) (take l.at l.initial.rows.items) ++ drop l.at l.initial.rows.items;
  long : length l.rows.items ≡ length l.initial.rows.items;
  row_room : deque_capacity l.rows ≡ deque_capacity l.initial.rows;
  moved : l.pending.items
      ≡ l.initial.pending.items
      ++ filter_map (page_moved l.number l.pages)
      (claims_of (all_claims (take l.at l.initial.rows.items)) l.reader);
  page_room : l.pending.room ≡ l.initial.pending.room;
  not_newer : l.pending.newest ≤ l.number;
  free_stays : vec_capacity l.free ≡ vec_capacity l.initial.free;
  as_many : length l.free.items + length l.pending.items + length (all_claims l.rows.items)
      ≡ length l.initial.free.items + length l.initial.pending.items + length (all_claims l.initial.rows.items);
  pages_fit : length l.pending.items + length (all_claims l.rows.items)
      ≤ length l.initial.pending.items + length (all_claims l.initial.rows.items);
  free_fit : length l.free.items + length (all_claims l.rows.items)
      ≤ length l.initial.free.items + length (all_claims l.initial.rows.items);
}
