use Rattle.recovery.proofs.Common.{bad_in, flat_map, ◌≡◌}
use Rattle.std.specs.Prelude.{take}
use Rattle.recovery.proofs.blocks.bad_rows.Given as goal

abbrev pub invariant-loop-die : goal.invariant-loop-die
invariant-loop-die g l = l.all.items ≡ flat_map (bad_in g.D.Die.state l.blocks) (take l.die-index l.dies)
