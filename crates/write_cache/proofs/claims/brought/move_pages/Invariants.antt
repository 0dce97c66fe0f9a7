use Rattle.write_cache.proofs.Common.{claims_of, deque_capacity, drop, filter_map, length, page_moved, take}
use Rattle.write_cache.proofs.Common.{vec_capacity, without_claims, ◌++◌, ◌+◌, ◌≡◌, ◌≤◌}
use Rattle.write_cache.proofs.claims.brought.move_pages.Given as goal

abbrev pub invariant-loop : goal.invariant-loop
invariant-loop l = record {
  turning : l.claims.items
      ≡ drop l.counter l.initial.claims.items ++ without_claims (take l.counter l.initial.claims.items) l.reader;
  claim_room : deque_capacity l.claims ≡ deque_capacity l.initial.claims;
  moved : l.pending.items
      ≡ l.initial.pending.items
      ++ filter_map (page_moved l.number l.pages) (claims_of (take l.counter l.initial.claims.items) l.reader);
  page_room : l.pending.room ≡ l.initial.pending.room;
  not_newer : l.pending.newest ≤ l.number;
  free_stays : vec_capacity l.free ≡ vec_capacity l.initial.free;
  as_many : length l.free.items + length l.pending.items + length l.claims.items
      ≡ length l.initial.free.items + length l.initial.pending.items + length l.initial.claims.items;
  pages_fit : length l.pending.items + length l.claims.items
      ≤ length l.initial.pending.items + length l.initial.claims.items;
  free_fit : length l.free.items + length l.claims.items
      ≤ length l.initial.free.items + length l.initial.claims.items;
}
