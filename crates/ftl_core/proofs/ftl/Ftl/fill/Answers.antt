use Rattle.ftl_core.proofs.small_calls.ClaimedBlocks.{slot_filled}
use Rattle.ftl_core.proofs.small_calls.Claims.{fills_told}
use Rattle.ftl_core.proofs.stopped.EachStop.{stops_right}
use Rattle.ftl_core.proofs.ftl.Ftl.fill.Goals as goal

pub returns-clause-described : goal.returns-clause-described
returns-clause-described c =
    fills_told c.args.self.now c.fill_slot.new.self c.args.reader c.args.index c.args.body.now c.fill_slot.ensures

pub returns-clause-stop : goal.returns-clause-stop
returns-clause-stop c = λ t h. stops_right _ _ (returns-clause-described c t h)

pub returns-clause-claims : goal.returns-clause-claims
returns-clause-claims c =
    slot_filled c.args.self.now c.fill_slot.new.self c.args.reader c.args.index c.args.body.now c.fill_slot.ensures
