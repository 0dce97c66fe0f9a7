use Rattle.device.proofs.Common.{IsOfDie, MayDieLeave}
use Rattle.device.proofs.dies_of_world.LeftoversApart.{next_of_all, one_more_has}
use Rattle.device.proofs.world.World.may_all_be_left.Goals as goal

pub returns-then-not-may_die_leave-clause-not_all : goal.returns-then-not-may_die_leave-clause-not_all
returns-then-not-may_die_leave-clause-not_all c =
    λ _ all.
    c.may_die_leave.ensures.unlawful c.if-not-may_die_leave.true
    (next_of_all (MayDieLeave c.args.self.now) c.args.lefts.now c.loop-left.left-index c.left-item.result
    c.die_of.result c.loop-left-test.true c.left-item.is c.die_of.ensures all)

pub loop-left-preserved : goal.loop-left-preserved
loop-left-preserved c =
    one_more_has (MayDieLeave c.args.self.now) c.args.lefts.now c.loop-left.left-index c.left-item.result
    c.die_of.result c.loop-left-test.true c.left-item.is c.die_of.ensures
    (c.may_die_leave.ensures.lawful c.if-not-may_die_leave.false) c.loop-left.invariant

pub may_die_leave-requires : goal.may_die_leave-requires
may_die_leave-requires c =
    next_of_all (IsOfDie c.args.self.now) c.args.lefts.now c.loop-left.left-index c.left-item.result c.die_of.result
    c.loop-left-test.true c.left-item.is c.die_of.ensures c.requires
