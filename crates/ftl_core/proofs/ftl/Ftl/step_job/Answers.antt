use Rattle.ftl_core.proofs.Common.{Some, ap, rules, step_job, ◌∙◌, ◌≡◌}
use Rattle.ftl_core.specs.declared.books.Step.TheVariants as step
use Rattle.ftl_core.proofs.ftl.Ftl.step_job.Goals as goal

pub returns-in-Some-Repair : goal.returns-in-Some-Repair
returns-in-Some-Repair c =
    let r = c.in-Some-Repair in
    let is : Some (step.Repair r.number r.key r.field-0-2 r.field-0-3) ≡ c.args.self.now.step = search rules in
    c.repair_job.ensures ∙ ap (step_job c.args.self.now c.args.place) is
