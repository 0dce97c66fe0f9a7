use Rattle.recovery.proofs.Common.{AreWithin, Cells, IsTableTo, ShowsDie, ◌*◌, ◌/◌, ◌≡◌, ◌≤◌}
use Rattle.recovery.proofs.reading.read_rest.Given as goal

abbrev pub invariant-loop-index : goal.invariant-loop-index
invariant-loop-index g l = record {
  same : g.D.Die.state l.die ≡ g.D.Die.state l.fn.die;
  counted : g.D.Die.failed l.fn.die ≤ g.D.Die.failed l.die;
  read : (c : Cells) → AreWithin l.numbers c → ShowsDie l.spot.0 (g.D.Die.state l.fn.die) c
      → IsTableTo l.numbers l.spot.0 l.spot.1 (l.numbers.pages / 4 * 4) c l.fn.table
      → IsTableTo l.numbers l.spot.0 l.spot.1 l.index c l.table;
}
