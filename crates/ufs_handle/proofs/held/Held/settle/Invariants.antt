use Rattle.ufs_handle.specs.Steps.{Walks, settle_steps}
use Rattle.ufs_handle.proofs.held.Held.settle.Given as goal

abbrev pub invariant-loop : goal.invariant-loop
invariant-loop l = Walks (settle_steps l.dies l.counter) l.fn.self l.self
