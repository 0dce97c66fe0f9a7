use Rattle.device.proofs.Common.{DieState, List, WorldState, ap, dies_left_by, ◌∙◌}
use Rattle.device.proofs.dies_of_world.StoppedWorld.{left_more}
use Rattle.device.proofs.world.World.leave_all.Goals as goal

pub loop-left-preserved : goal.loop-left-preserved
loop-left-preserved c =
    c.leave.ensures
    ∙ ap (λ (w : WorldState). record w { dies = dies_left_by w.dies c.left-item.result }) c.loop-left.invariant
    ∙ ap (λ (ds : List DieState). record c.args.self.now { dies = ds })
    (left_more c.args.self.now.dies c.args.lefts.now c.loop-left.left-index c.left-item.result c.loop-left-test.true
    c.left-item.is)
