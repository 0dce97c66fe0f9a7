use Rattle.write_cache.proofs.Common.{all_claims, claims_but, claims_of, deque_capacity, drop, is_claim_of, length, map}
use Rattle.write_cache.proofs.Common.{page_claimed, take, ◌++◌, ◌+◌, ◌≡◌, ◌≤◌}
use Rattle.write_cache.proofs.claims.rows.move_from_rows.Given as goal

abbrev pub invariant-loop-at : goal.invariant-loop-at
invariant-loop-at l = record {
  left : l.rows.items
      ≡ map (claims_but (is_claim_of l.reader)) (take l.at l.initial.rows.items) ++ drop l.at l.initial.rows.items;
  long : length l.rows.items ≡ length l.initial.rows.items;
  row_room : deque_capacity l.rows ≡ deque_capacity l.initial.rows;
  moved : l.pages.items
      ≡ l.initial.pages.items
      ++ map (page_claimed l.group.key l.group.number l.group.size)
      (claims_of (all_claims (take l.at l.initial.rows.items)) l.reader);
  page_room : l.pages.room ≡ l.initial.pages.room;
  not_newer : l.pages.newest ≤ l.group.number;
  as_many : length l.pages.items + length (all_claims l.rows.items)
      ≡ length l.initial.pages.items + length (all_claims l.initial.rows.items);
}
