use Rattle.ftl_core.proofs.Common.{arith, is_of_reader}
use Rattle.std.proofs.lemmas.Grind.{common_steps}
use Rattle.ftl_core.proofs.live_pages.PinRooms.{roomy_left}
use Rattle.ftl_core.proofs.small_calls.PinCalls.{acknowledged_lets_go, unpins_told}
use Rattle.ftl_core.proofs.stopped.EachStop.{stops_right}
use Rattle.ftl_core.proofs.ftl.Ftl.unpin.Goals as goal

pub returns-clause-described : goal.returns-clause-described
returns-clause-described c = unpins_told c.args.self.now _ c.args.reader (grind (arith, common_steps))

pub returns-clause-stop : goal.returns-clause-stop
returns-clause-stop c = λ t h. stops_right _ _ (returns-clause-described c t h)

pub returns-clause-described_told : goal.returns-clause-described_told
returns-clause-described_told c = acknowledged_lets_go c.args.self.now _ c.args.reader (grind (arith, common_steps))

pub invariant_of-self : goal.invariant_of-self
invariant_of-self c =
    roomy_left (is_of_reader c.args.reader) c.self.inside c.drop_all.new.live c.drop_all.new.self c.self.invariant
    c.drop_all.ensures.blocks c.drop_all.ensures.left
