use Rattle.ftl_core.proofs.Common.{Core, ap, rules, ◌∙◌}
use Rattle.ftl_core.proofs.look_and_accept.GroupsAccepted.{accepts_told}
use Rattle.ftl_core.proofs.look_and_accept.Numbers.{numbers_right}
use Rattle.ftl_core.proofs.small_calls.ClaimedBlocks.{slots_released}
use Rattle.ftl_core.proofs.stopped.EachStop.{stops_right}
use Rattle.ftl_core.proofs.ftl.Ftl.accept.Goals as goal

pub returns-clause-described : goal.returns-clause-described
returns-clause-described c =
    accepts_told c.args.self.now c.append.new.self c.args.key c.args.reader (search rules) c.append.ensures.after

pub returns-clause-described_number : goal.returns-clause-described_number
returns-clause-described_number c = λ t h. c.append.ensures.number ∙ numbers_right c.args.self.now t h

pub returns-clause-stop : goal.returns-clause-stop
returns-clause-stop c =
    λ t bodies h kind unit claimed may.
    stops_right _ _ (returns-clause-described c t bodies h kind unit claimed may)

pub returns-clause-claims : goal.returns-clause-claims
returns-clause-claims c =
    slots_released c.args.self.now c.append.new.self c.args.reader (ap (λ (z : Core). z.claims) c.append.ensures.after)
