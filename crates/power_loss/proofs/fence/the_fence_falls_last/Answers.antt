use Rattle.power_loss.proofs.ordered_steps.FenceFallsLast.{durable, ends, given, not_before, ordered}
use Rattle.power_loss.proofs.fence.the_fence_falls_last.Goals as goal

pub returns-clause-given : goal.returns-clause-given
returns-clause-given c = given

pub returns-clause-not_before : goal.returns-clause-not_before
returns-clause-not_before c = not_before

pub returns-clause-durable : goal.returns-clause-durable
returns-clause-durable c = durable

pub returns-clause-ordered : goal.returns-clause-ordered
returns-clause-ordered c = ordered

pub returns-clause-ends : goal.returns-clause-ends
returns-clause-ends c = ends
