use Rattle.recovery.proofs.Common.{AreWithin, Cells, IsTableOf, NoLower, ShowsDies, map, ◌≡◌}
use Rattle.recovery.proofs.reading.read_dies.Given as goal

abbrev pub invariant-loop-index : goal.invariant-loop-index
invariant-loop-index g l = record {
  same : map g.D.Die.state l.dies ≡ map g.D.Die.state l.fn.dies;
  counted : NoLower (map g.D.Die.failed l.fn.dies) (map g.D.Die.failed l.dies);
  read : (c : Cells) → AreWithin l.numbers c → ShowsDies l.range.0 (map g.D.Die.state l.fn.dies) c
      → IsTableOf l.numbers l.range.0 l.index c l.table;
}
