use Rattle.std.proofs.Common.{map}
use Rattle.ufs_spec.specs.Frames.{frame_in}
use Rattle.rpmb.specs.Outcomes.{outcome_of}
use Rattle.rpmb.proofs.Formed.{formed_as, malformed_as}
use Rattle.rpmb.proofs.machine.Rpmb.outcome.Goals as goal

pub returns-in-None-clause-outcome : goal.returns-in-None-clause-outcome
returns-in-None-clause-outcome c = λ number region kept.
    malformed_as number region c.args.self.now.registers c.args.locked (map frame_in c.args.frames.now)
    c.in-None.ensures

pub returns-in-Some-clause-outcome : goal.returns-in-Some-clause-outcome
returns-in-Some-clause-outcome c = λ number region kept.
    formed_as number region c.args.self.now.registers c.args.locked c.in-Some.request (map frame_in c.args.frames.now)
    (λ fs. outcome_of number fs c.outcome_formed.result) c.in-Some.ensures
    (λ f fs same is. c.outcome_formed.ensures.outcome number region f fs kept same is)
