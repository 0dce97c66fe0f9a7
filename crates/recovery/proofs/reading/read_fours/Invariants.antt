use Rattle.recovery.proofs.Common.{Cells, IsTableTo, ShowsDie, ◌*◌, ◌≡◌, ◌≤◌}
use Rattle.recovery.proofs.reading.read_fours.Given as goal

abbrev pub invariant-loop-four : goal.invariant-loop-four
invariant-loop-four g l = record {
  same : g.D.Die.state l.die ≡ g.D.Die.state l.fn.die;
  counted : g.D.Die.failed l.fn.die ≤ g.D.Die.failed l.die;
  read : (c : Cells) → ShowsDie l.spot.0 (g.D.Die.state l.fn.die) c
      → IsTableTo l.numbers l.spot.0 l.spot.1 0 c l.fn.table
      → IsTableTo l.numbers l.spot.0 l.spot.1 (l.four * 4) c l.table;
}
