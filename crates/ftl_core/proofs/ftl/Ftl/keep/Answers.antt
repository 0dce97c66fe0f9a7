use Rattle.ftl_core.proofs.Common.{false, ◌∙◌}
use Rattle.ftl_core.proofs.look_and_accept.KeptBlocks.{claims_stay, keeps_told, pins_differ, room_told}
use Rattle.ftl_core.proofs.stopped.EachStop.{stops_right}
use Rattle.ftl_core.proofs.ftl.Ftl.keep.Goals as goal

pub returns-clause-described_found : goal.returns-clause-described_found
returns-clause-described_found c =
    λ t h. c.keep_all.ensures.found ∙ room_told c.args.self.now t c.args.blocks h

pub returns-clause-described_differ : goal.returns-clause-described_differ
returns-clause-described_differ c = λ t h. pins_differ c.args.self.now t h

pub returns-clause-described : goal.returns-clause-described
returns-clause-described c =
    λ t h kind.
    keeps_told c.args.self.now c.keep_all.new.self c.args.reader c.args.key false c.args.blocks c.keep_all.result
    c.keep_all.ensures.after c.has_numbers_in_range.ensures t h

pub returns-clause-stop : goal.returns-clause-stop
returns-clause-stop c = λ t h kind keys none. stops_right _ _ (returns-clause-described c t h kind keys none)

pub returns-clause-claims : goal.returns-clause-claims
returns-clause-claims c =
    claims_stay c.args.self.now c.keep_all.new.self c.args.reader c.args.key false c.args.blocks c.keep_all.result
    c.keep_all.ensures.after
