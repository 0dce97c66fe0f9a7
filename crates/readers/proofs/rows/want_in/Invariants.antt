use Rattle.readers.proofs.Common.{drop, map, pins_in, take, wanted_now, ◌++◌, ◌≡◌}
use Rattle.readers.proofs.rows.want_in.Given as goal

abbrev pub invariant-loop-row : goal.invariant-loop-row
invariant-loop-row l =
    pins_in (take l.row-index l.rows) ++ map (wanted_now l.reader l.index) (pins_in (drop l.row-index l.rows))
    ≡ map (wanted_now l.reader l.index) (pins_in l.initial.rows)
