use Rattle.readers.proofs.Common.{drop, filter, fold, is_pin_of, let_go, not, pins_in, take, ◌++◌, ◌≡◌}
use Rattle.readers.proofs.rows.drop_one_in.Given as goal

abbrev pub invariant-loop-row : goal.invariant-loop-row
invariant-loop-row l = record {
  left : pins_in (take l.row-index l.rows)
      ++ filter (λ p. not (is_pin_of l.reader l.index p)) (pins_in (drop l.row-index l.rows))
      ≡ filter (λ p. not (is_pin_of l.reader l.index p)) (pins_in l.initial.rows);
  blocks : fold (let_go (is_pin_of l.reader l.index)) l.live (pins_in (drop l.row-index l.rows))
      ≡ fold (let_go (is_pin_of l.reader l.index)) l.initial.live (pins_in l.initial.rows);
}
