use Rattle.readers.proofs.Common.{length, ◌≡◌}
use Rattle.std.proofs.Common.{vec_capacity}
use Rattle.readers.proofs.rows.spare_rows.Given as goal

abbrev pub invariant-loop : goal.invariant-loop
invariant-loop l = (length l.rows.items ≡ l.counter) × (vec_capacity l.rows ≡ 32)
