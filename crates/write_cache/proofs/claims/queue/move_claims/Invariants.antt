use Rattle.write_cache.proofs.Common.{claims_of, deque_capacity, drop, length, map, page_claimed, take, without_claims}
use Rattle.write_cache.proofs.Common.{◌++◌, ◌+◌, ◌≡◌, ◌≤◌}
use Rattle.write_cache.proofs.claims.queue.move_claims.Given as goal

abbrev pub invariant-loop : goal.invariant-loop
invariant-loop l = record {
  turning : l.claims.items
      ≡ drop l.counter l.initial.claims.items ++ without_claims (take l.counter l.initial.claims.items) l.reader;
  claim_room : deque_capacity l.claims ≡ deque_capacity l.initial.claims;
  moved : l.pages.items
      ≡ l.initial.pages.items
      ++ map (page_claimed l.group.key l.group.number l.group.size)
      (claims_of (take l.counter l.initial.claims.items) l.reader);
  page_room : l.pages.room ≡ l.initial.pages.room;
  not_newer : l.pages.newest ≤ l.group.number;
  as_many : length l.pages.items + length l.claims.items
      ≡ length l.initial.pages.items + length l.initial.claims.items;
}
