use Rattle.recovery.proofs.Common.{AreWithin, Cells, IsTableTo, ShowsDie, ◌≡◌, ◌≤◌}
use Rattle.recovery.proofs.tables.Whole.{only}
use Rattle.recovery.proofs.reading.read_die.Given as goal

abbrev pub invariant-loop-block : goal.invariant-loop-block
invariant-loop-block g l = record {
  same : g.D.Die.state l.die ≡ g.D.Die.state l.fn.die;
  counted : g.D.Die.failed l.fn.die ≤ g.D.Die.failed l.die;
  read : (c : Cells) → AreWithin l.numbers c → ShowsDie l.number (g.D.Die.state l.fn.die) c
      → IsTableTo l.numbers l.number l.block 0 (only l.number c) l.table;
}
