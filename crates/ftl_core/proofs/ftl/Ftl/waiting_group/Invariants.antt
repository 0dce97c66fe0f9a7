use Rattle.ftl_core.proofs.Common.{None, find, length, page_waits, take, ◌≡◌}
use Rattle.std.proofs.Common.{◌-◌}
use Rattle.ftl_core.proofs.ftl.Ftl.waiting_group.Given as goal

abbrev pub invariant-loop-at : goal.invariant-loop-at
invariant-loop-at l = find (page_waits l.self.rows) (take l.from l.self.pages) ≡ None

abbrev pub decreases-loop-at : goal.decreases-loop-at
decreases-loop-at l = length l.self.pages - l.from
