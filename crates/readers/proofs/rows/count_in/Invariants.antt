use Rattle.readers.proofs.Common.{drop, length, pins_in, ◌+◌, ◌≡◌, ◌≤◌}
use Rattle.std.proofs.Common.{◌*◌}
use Rattle.readers.proofs.rows.count_in.Given as goal

abbrev pub invariant-loop-row : goal.invariant-loop-row
invariant-loop-row l = record {
  so_far : l.count + length (pins_in (drop l.row-index l.rows)) ≡ length (pins_in l.rows);
  few : l.count ≤ 128 * l.row-index;
}
