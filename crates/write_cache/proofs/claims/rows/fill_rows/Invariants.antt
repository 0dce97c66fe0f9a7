use Rattle.write_cache.proofs.Common.{claim_filled, deque_capacity, drop, length, map, take, ◌++◌, ◌≡◌}
use Rattle.write_cache.proofs.claims.rows.fill_rows.Given as goal

abbrev pub invariant-loop-at : goal.invariant-loop-at
invariant-loop-at l = record {
  made : l.rows.items
      ≡ map (map (claim_filled l.reader l.index l.block)) (take l.at l.initial.rows.items)
      ++ drop l.at l.initial.rows.items;
  long : length l.rows.items ≡ length l.initial.rows.items;
  room : deque_capacity l.rows ≡ deque_capacity l.initial.rows;
}
