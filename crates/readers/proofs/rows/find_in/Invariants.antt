use Rattle.readers.proofs.Common.{drop, find, is_pin_of, pins_in, ◌≡◌}
use Rattle.readers.proofs.rows.find_in.Given as goal

abbrev pub invariant-loop-row : goal.invariant-loop-row
invariant-loop-row l =
    find (is_pin_of l.reader l.index) (pins_in (drop l.row-index l.rows))
    ≡ find (is_pin_of l.reader l.index) (pins_in l.rows)
