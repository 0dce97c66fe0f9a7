use Rattle.readers.proofs.Common.{drop, fold, map, moved_pin, pin_moves, pins_in, take, ◌++◌, ◌≡◌}
use Rattle.readers.proofs.rows.move_in.Given as goal

abbrev pub invariant-loop-row : goal.invariant-loop-row
invariant-loop-row l = record {
  moved : pins_in (take l.row-index l.rows) ++ map (moved_pin l.stored) (pins_in (drop l.row-index l.rows))
      ≡ map (moved_pin l.stored) (pins_in l.initial.rows);
  blocks : fold (pin_moves l.stored) l.live (pins_in (drop l.row-index l.rows))
      ≡ fold (pin_moves l.stored) l.initial.live (pins_in l.initial.rows);
}
