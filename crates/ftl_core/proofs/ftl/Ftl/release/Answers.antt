use Rattle.ftl_core.proofs.Common.{Core, ap}
use Rattle.ftl_core.proofs.small_calls.Claims.{releases_told}
use Rattle.ftl_core.proofs.small_calls.ClaimedBlocks.{as_many_released, slots_released}
use Rattle.ftl_core.proofs.stopped.EachStop.{stops_right}
use Rattle.ftl_core.proofs.ftl.Ftl.release.Goals as goal

pub returns-clause-described : goal.returns-clause-described
returns-clause-described c =
    releases_told c.args.self.now c.release_slots.new.self c.args.reader c.release_slots.ensures

pub returns-clause-stop : goal.returns-clause-stop
returns-clause-stop c = λ t h. stops_right _ _ (returns-clause-described c t h)

pub returns-clause-described_blocks : goal.returns-clause-described_blocks
returns-clause-described_blocks c = λ t blocks h claimed.
    as_many_released c.args.self.now c.release_slots.new.self c.args.reader t blocks claimed
    (returns-clause-described c t h)

pub returns-clause-claims : goal.returns-clause-claims
returns-clause-claims c =
    slots_released c.args.self.now c.release_slots.new.self c.args.reader
    (ap (λ (z : Core). z.claims) c.release_slots.ensures)
