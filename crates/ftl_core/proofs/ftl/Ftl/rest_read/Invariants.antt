use Rattle.ftl_core.proofs.Common.{None, find, length, owes_rest, take, ◌≡◌}
use Rattle.std.proofs.Common.{◌-◌}
use Rattle.ftl_core.proofs.ftl.Ftl.rest_read.Given as goal

abbrev pub invariant-loop-at : goal.invariant-loop-at
invariant-loop-at l = find (owes_rest l.self.rows l.die) (take l.from l.self.pages) ≡ None

abbrev pub decreases-loop-at : goal.decreases-loop-at
decreases-loop-at l = length l.self.pages - l.from
