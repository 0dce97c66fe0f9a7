use Rattle.write_cache.proofs.Common.{deque_capacity, drop, length, take, vec_capacity, without_claims_behind, ◌++◌}
use Rattle.write_cache.proofs.Common.{◌+◌, ◌≡◌}
use Rattle.write_cache.proofs.claims.queue.free_claims.Given as goal

abbrev pub invariant-loop : goal.invariant-loop
invariant-loop l = record {
  turning : l.claims.items
      ≡ drop l.counter l.initial.claims.items ++ without_claims_behind (take l.counter l.initial.claims.items) l.reader
      l.count;
  claim_room : deque_capacity l.claims ≡ deque_capacity l.initial.claims;
  room : vec_capacity l.free ≡ vec_capacity l.initial.free;
  as_many : length l.free.items + length l.claims.items
      ≡ length l.initial.free.items + length l.initial.claims.items;
}
