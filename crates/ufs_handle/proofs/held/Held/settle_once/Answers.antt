use Rattle.ufs_handle.proofs.Walked.{one_more_die, turned}
use Rattle.ufs_handle.proofs.held.Held.settle_once.Goals as goal

pub loop-index-init : goal.loop-index-init
loop-index-init c = turned c.args.self.now c.turn.new.self c.turn.result c.turn.ensures

pub loop-index-preserved : goal.loop-index-preserved
loop-index-preserved c =
    one_more_die c.loop-index.index c.args.self.now c.loop-index.self c.take.new.self c.work.new.self c.loop-index.shown
    c.take.new.shown c.take.result c.work.result c.loop-index.invariant c.take.ensures c.work.ensures
