use Rattle.write_cache.proofs.Common.{length, vec_capacity, ◌≡◌, ◌≤◌}
use Rattle.write_cache.proofs.cache.bodies.Given as goal

abbrev pub invariant-loop : goal.invariant-loop
invariant-loop l = record {
  long : length l.free.items ≡ l.counter;
  room : l.slots ≤ vec_capacity l.free;
}
