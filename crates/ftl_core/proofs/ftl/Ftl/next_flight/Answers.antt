use Rattle.ftl_core.proofs.Common.{Core, ap, job_of, job_taken, refl, rules, ◌∙◌}
use Rattle.ftl_core.proofs.job_taken.JobStays.{job_stays}
use Rattle.ftl_core.proofs.job_taken.Takings.{takes_right}
use Rattle.ftl_core.proofs.stopped.EachStop.{takes_erase, takes_stop}
use Rattle.ftl_core.proofs.ftl.Ftl.next_flight.Goals as goal

pub returns-then-is_some-clause-described : goal.returns-then-is_some-clause-described
returns-then-is_some-clause-described c =
    takes_right c.args.self.now c.args.self.now c.args.die (job_taken c.args.self.now c.args.die) refl (search rules)
    c.has_few_units.ensures

pub returns-in_err-flight-clause-described : goal.returns-in_err-flight-clause-described
returns-in_err-flight-clause-described c =
    takes_right c.args.self.now c.args.self.now c.args.die (job_taken c.args.self.now c.args.die) refl (search rules)
    c.has_few_units.ensures

pub returns-then-is_none-clause-described : goal.returns-then-is_none-clause-described
returns-then-is_none-clause-described c =
    takes_right c.args.self.now c.args.self.now c.args.die (job_taken c.args.self.now c.args.die) refl (search rules)
    c.has_few_units.ensures

pub returns-clause-described : goal.returns-clause-described
returns-clause-described c =
    takes_right c.args.self.now c.begin.new.self c.args.die (job_taken c.args.self.now c.args.die) refl (search rules)
    c.has_few_units.ensures

pub returns-then-is_some-clause-stop : goal.returns-then-is_some-clause-stop
returns-then-is_some-clause-stop c =
    takes_stop c.args.self.now c.args.self.now c.args.die _ (returns-then-is_some-clause-described c)

pub returns-then-is_some-clause-erase : goal.returns-then-is_some-clause-erase
returns-then-is_some-clause-erase c =
    takes_erase c.args.self.now c.args.self.now c.args.die _ (returns-then-is_some-clause-described c)

pub returns-in_err-flight-clause-stop : goal.returns-in_err-flight-clause-stop
returns-in_err-flight-clause-stop c =
    takes_stop c.args.self.now c.args.self.now c.args.die _ (returns-in_err-flight-clause-described c)

pub returns-in_err-flight-clause-erase : goal.returns-in_err-flight-clause-erase
returns-in_err-flight-clause-erase c =
    takes_erase c.args.self.now c.args.self.now c.args.die _ (returns-in_err-flight-clause-described c)

pub returns-then-is_none-clause-stop : goal.returns-then-is_none-clause-stop
returns-then-is_none-clause-stop c =
    takes_stop c.args.self.now c.args.self.now c.args.die _ (returns-then-is_none-clause-described c)

pub returns-then-is_none-clause-erase : goal.returns-then-is_none-clause-erase
returns-then-is_none-clause-erase c =
    takes_erase c.args.self.now c.args.self.now c.args.die _ (returns-then-is_none-clause-described c)

pub returns-clause-stop : goal.returns-clause-stop
returns-clause-stop c =
    takes_stop c.args.self.now c.begin.new.self c.args.die _ (returns-clause-described c)

pub returns-clause-erase : goal.returns-clause-erase
returns-clause-erase c =
    takes_erase c.args.self.now c.begin.new.self c.args.die _ (returns-clause-described c)

pub returns-in_err-row-clause-stop : goal.returns-in_err-row-clause-stop
returns-in_err-row-clause-stop c =
    takes_stop c.args.self.now c.args.self.now c.args.die _
    (takes_right c.args.self.now c.args.self.now c.args.die (job_taken c.args.self.now c.args.die) refl (search rules) c.has_few_units.ensures)

pub returns-clause-job : goal.returns-clause-job
returns-clause-job c =
    ap (λ (x : Core). job_of x c.args.die c.in_ok-flight.flight) c.begin.ensures
    ∙ job_stays c.args.self.now c.args.die c.in_ok-row.row c.in_ok-flight.flight ∙ (search rules)
