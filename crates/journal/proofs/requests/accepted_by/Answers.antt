use Rattle.std.proofs.Common.{ap, map}
use Rattle.ufs_spec.specs.Frames.{frame_in}
use Rattle.rpmb.specs.Outcomes.{outcome_of}
use Rattle.rpmb.specs.declared.outcomes.Accepted.TheVariants.{Nothing}
use Rattle.rpmb.specs.declared.outcomes.Outcome.{Outcome}
use Rattle.journal.specs.Requests.{accepted_in}
use Rattle.journal.proofs.AcceptedFrames.{accepted_told}
use Rattle.journal.proofs.requests.accepted_by.Goals as goal

pub returns-in-Refused-clause-command : goal.returns-in-Refused-clause-command
returns-in-Refused-clause-command c = λ number.
    let frames = map frame_in c.args.frames.now in
    accepted_told number c.args.region.now c.args.is_locked frames c.in-Some.request c.outcome.result Nothing
    c.in-Some.ensures c.outcome.ensures.outcome
    (ap (λ (o : Outcome). accepted_in (outcome_of number frames o)) c.in-Refused.is)

pub returns-in-Results-clause-command : goal.returns-in-Results-clause-command
returns-in-Results-clause-command c = λ number.
    let frames = map frame_in c.args.frames.now in
    accepted_told number c.args.region.now c.args.is_locked frames c.in-Some.request c.outcome.result c.in-Results.accepted
    c.in-Some.ensures c.outcome.ensures.outcome
    (ap (λ (o : Outcome). accepted_in (outcome_of number frames o)) c.in-Results.is)
