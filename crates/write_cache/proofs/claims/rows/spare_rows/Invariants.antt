use Rattle.write_cache.proofs.Common.{AreBare, length, vec_capacity, ◌≡◌, ◌≤◌}
use Rattle.write_cache.proofs.claims.rows.spare_rows.Given as goal

abbrev pub invariant-loop : goal.invariant-loop
invariant-loop l = record {
  bare : AreBare l.spare.items;
  long : length l.spare.items ≡ l.counter;
  room : 32 ≤ vec_capacity l.spare;
}
