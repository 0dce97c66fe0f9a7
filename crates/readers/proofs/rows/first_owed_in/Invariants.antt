use Rattle.readers.proofs.Common.{drop, find, is_owed_by, pins_in, ◌≡◌}
use Rattle.readers.proofs.rows.first_owed_in.Given as goal

abbrev pub invariant-loop-row : goal.invariant-loop-row
invariant-loop-row l =
    find (is_owed_by l.blocks.rows l.die) (pins_in (drop l.row-index l.rows))
    ≡ find (is_owed_by l.blocks.rows l.die) (pins_in l.rows)
