use Rattle.ftl_core.proofs.Common.{Core, Option, Some, Step, ap, rules, subst}
use Rattle.ftl_core.specs.Gives.{IsContentRead}
use Rattle.ftl_core.proofs.ftl.Ftl.take_content.Goals as goal

pub returns-in-Some : goal.returns-in-Some
returns-in-Some c = (
  Some c.in-Some.body.now,
  subst (λ (s : Option Step). IsContentRead s c.args.outcome.now (Some c.in-Some.body.now))
      (ap (λ (d : Core). d.step) c.self.view_is) c.in-Some.ensures,
  search rules,
)
