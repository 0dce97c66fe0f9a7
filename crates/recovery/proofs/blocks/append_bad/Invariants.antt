use Rattle.recovery.proofs.Common.{bad_in, ◌++◌, ◌≡◌}
use Rattle.recovery.proofs.blocks.append_bad.Given as goal

abbrev pub invariant-loop-block : goal.invariant-loop-block
invariant-loop-block g l = l.all.items ≡ l.fn.all.items ++ bad_in g.D.Die.state l.block l.die
