use Rattle.ufs_handle.proofs.Walked.{one_more_round}
use Rattle.ufs_handle.proofs.held.Held.settle.Goals as goal

pub loop-preserved : goal.loop-preserved
loop-preserved c =
    one_more_round c.dies_named-dies.result c.loop.counter c.args.self.now c.loop.self c.settle_once.new.self
    c.loop.invariant c.settle_once.ensures
