use Rattle.ftl_core.proofs.Common.{None, Some, rules, ◌∙◌}
use Rattle.ftl_core.proofs.pins.OwedPins.{owed_found}
use Rattle.ftl_core.proofs.ftl.Ftl.owed_read.Goals as goal

pub returns-in-Some : goal.returns-in-Some
returns-in-Some c =
    c.read_of.ensures ∙ owed_found c.args.self.now c.args.die (Some c.in-Some.pin) (search rules)

pub returns-in-None : goal.returns-in-None
returns-in-None c = c.own_read.ensures ∙ owed_found c.args.self.now c.args.die None (search rules)
