use Rattle.ufs_handle.specs.Steps.{Walks, round_steps}
use Rattle.ufs_handle.proofs.held.Held.settle_once.Given as goal

abbrev pub invariant-loop-index : goal.invariant-loop-index
invariant-loop-index l = Walks (round_steps l.index) l.fn.self l.self
