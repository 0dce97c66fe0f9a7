use Rattle.device.proofs.Common.{IsOfDie}
use Rattle.device.proofs.dies_of_world.LeftoversApart.{next_of_all, one_more_has}
use Rattle.device.proofs.world.World.are_left.Goals as goal

pub returns-then-not-is_left_of-clause-not_all : goal.returns-then-not-is_left_of-clause-not_all
returns-then-not-is_left_of-clause-not_all c =
    λ _ all.
    c.is_left_of.ensures.not_of c.if-not-is_left_of.true
    (next_of_all (IsOfDie c.args.self.now) c.args.lefts.now c.loop-left.left-index c.left-item.result
    c.die_of.result c.loop-left-test.true c.left-item.is c.die_of.ensures all)

pub loop-left-preserved : goal.loop-left-preserved
loop-left-preserved c =
    one_more_has (IsOfDie c.args.self.now) c.args.lefts.now c.loop-left.left-index c.left-item.result
    c.die_of.result c.loop-left-test.true c.left-item.is c.die_of.ensures
    (c.is_left_of.ensures.of c.if-not-is_left_of.false) c.loop-left.invariant
