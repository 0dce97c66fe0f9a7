use Rattle.ftl_core.proofs.Common.{◌∙◌}
use Rattle.ftl_core.proofs.small_calls.Claims.{reserves_told, room_right}
use Rattle.ftl_core.proofs.small_calls.ClaimedBlocks.{slots_claimed}
use Rattle.ftl_core.proofs.stopped.EachStop.{stops_right}
use Rattle.ftl_core.proofs.ftl.Ftl.reserve.Goals as goal

pub returns-clause-described_found : goal.returns-clause-described_found
returns-clause-described_found c =
    λ t h. c.claim_slots.ensures.found ∙ room_right c.args.self.now t c.args.blocks h

pub returns-clause-described : goal.returns-clause-described
returns-clause-described c =
    reserves_told c.args.self.now c.claim_slots.new.self c.args.reader c.args.blocks c.claim_slots.result
    c.claim_slots.ensures.found c.claim_slots.ensures.after

pub returns-clause-stop : goal.returns-clause-stop
returns-clause-stop c = λ t h. stops_right _ _ (returns-clause-described c t h)

pub returns-clause-claims : goal.returns-clause-claims
returns-clause-claims c =
    slots_claimed c.args.self.now c.claim_slots.new.self c.args.reader c.args.blocks c.claim_slots.result
    c.claim_slots.ensures.after
