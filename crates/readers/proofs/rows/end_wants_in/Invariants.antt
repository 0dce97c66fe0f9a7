use Rattle.readers.proofs.Common.{drop, map, pins_in, take, wanted_no_more, ◌++◌, ◌≡◌}
use Rattle.readers.proofs.rows.end_wants_in.Given as goal

abbrev pub invariant-loop-row : goal.invariant-loop-row
invariant-loop-row l =
    pins_in (take l.row-index l.rows) ++ map (wanted_no_more l.reader l.index) (pins_in (drop l.row-index l.rows))
    ≡ map (wanted_no_more l.reader l.index) (pins_in l.initial.rows)
