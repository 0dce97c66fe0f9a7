use Rattle.power_loss.proofs.die_pages.BlankOutsideDies.{fit_inside, new_blank, new_die_is, new_fit, new_opens}
use Rattle.power_loss.proofs.runs.new_dies_fit.Goals as goal

pub returns-clause-new_die : goal.returns-clause-new_die
returns-clause-new_die c = new_die_is

pub returns-clause-fit : goal.returns-clause-fit
returns-clause-fit c = new_fit

pub returns-clause-blank : goal.returns-clause-blank
returns-clause-blank c = new_blank

pub returns-clause-opens : goal.returns-clause-opens
returns-clause-opens c = new_opens

pub returns-clause-inside : goal.returns-clause-inside
returns-clause-inside c = fit_inside
