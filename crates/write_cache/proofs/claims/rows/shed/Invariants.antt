use Rattle.write_cache.proofs.Common.{AreBare, deque_capacity, drop, length, take, vec_capacity, ◌++◌, ◌+◌, ◌≡◌}
use Rattle.write_cache.specs.ClaimRows.{used_rows}
use Rattle.write_cache.proofs.claims.rows.shed.Given as goal

abbrev pub invariant-loop : goal.invariant-loop
invariant-loop l = record {
  left : l.rows.items ≡ used_rows (take l.counter l.initial.rows.items) ++ drop l.counter l.initial.rows.items;
  next : l.at ≡ length (used_rows (take l.counter l.initial.rows.items));
  bare : AreBare l.spare.items;
  as_many : length l.rows.items + length l.spare.items
      ≡ length l.initial.rows.items + length l.initial.spare.items;
  room : deque_capacity l.rows ≡ deque_capacity l.initial.rows;
  spare_room : vec_capacity l.spare ≡ vec_capacity l.initial.spare;
}
