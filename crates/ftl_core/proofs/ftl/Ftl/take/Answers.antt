use Rattle.ftl_core.proofs.Common.{IsTaken, Job, Option, StopsRightGiven, job_taken, rules, subst, ◌∙◌, ◌≡◌}
use Rattle.ftl_core.proofs.ftl.Ftl.take.Goals as goal

pub returns-in_err-flight-clause-described : goal.returns-in_err-flight-clause-described
returns-in_err-flight-clause-described c =
    λ t h.
    let told : job_taken c.args.self.now c.args.die ≡ c.from_residual.result = search rules in
    subst (λ (j : Option Job). IsTaken t c.args.die j c.next_flight.new.self) told (c.next_flight.ensures.described t h)

pub returns-in_err-flight-clause-stop : goal.returns-in_err-flight-clause-stop
returns-in_err-flight-clause-stop c =
    λ t h.
    let told : job_taken c.args.self.now c.args.die ≡ c.from_residual.result = search rules in
    subst (λ (j : Option Job). StopsRightGiven t c.args.die j c.next_flight.new.self) told (c.next_flight.ensures.stop t h)

pub returns-clause-erase : goal.returns-clause-erase
returns-clause-erase c =
    λ t at block h is.
    let told : job_taken c.args.self.now c.args.die ≡ c.sealed.result = search rules in
    c.next_flight.ensures.erase t at block h (told ∙ is)
