use Rattle.ftl_core.proofs.Common.{length, settled, ◌≡◌}
use Rattle.ftl_core.proofs.ftl.Ftl.settle.Given as goal

abbrev pub decreases-loop-group : goal.decreases-loop-group
decreases-loop-group l = length l.self.pages

abbrev pub invariant-loop-group : goal.invariant-loop-group
invariant-loop-group l = settled l.self ≡ settled l.initial.self
