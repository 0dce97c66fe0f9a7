use Rattle.readers.proofs.Common.{drop, filter, fold, is_of_reader, length, let_go, not, pins_in, take, ◌++◌, ◌+◌, ◌-◌}
use Rattle.readers.proofs.Common.{◌≡◌, ◌≤◌}
use Rattle.std.proofs.Common.{vec_capacity}
use Rattle.readers.specs.Rows.{AreFilled}
use Rattle.readers.proofs.rows.drop_all_in.Given as goal

abbrev pub invariant-loop-at : goal.invariant-loop-at
invariant-loop-at l = record {
  within : l.at ≤ length l.rows.items;
  left : pins_in (take l.at l.rows.items)
      ++ filter (λ p. not (is_of_reader l.reader p)) (pins_in (drop l.at l.rows.items))
      ≡ filter (λ p. not (is_of_reader l.reader p)) (pins_in l.initial.rows.items);
  blocks : fold (let_go (is_of_reader l.reader)) l.live (pins_in (drop l.at l.rows.items))
      ≡ fold (let_go (is_of_reader l.reader)) l.initial.live (pins_in l.initial.rows.items);
  filled : AreFilled (take l.at l.rows.items);
  as_many : length l.rows.items + length l.spare.items
      ≡ length l.initial.rows.items + length l.initial.spare.items;
  rows_room : vec_capacity l.rows ≡ vec_capacity l.initial.rows;
  spare_room : vec_capacity l.spare ≡ vec_capacity l.initial.spare;
}

abbrev pub decreases-loop-at : goal.decreases-loop-at
decreases-loop-at l = length l.rows.items - l.at
