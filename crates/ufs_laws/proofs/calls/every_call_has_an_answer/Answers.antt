use Rattle.ufs_laws.proofs.Common.{ending_fits, is_step_due, refl}
use Rattle.ufs_laws.proofs.lives.EventsLead.{leads_somewhere}
use Rattle.ufs_laws.proofs.jobs.OneJob.{given}
use Rattle.ufs_laws.proofs.answers.RightAnswers.{answered, heard, reply_due}
use Rattle.ufs_laws.proofs.calls.every_call_has_an_answer.Goals as goal

pub returns-clause-each : goal.returns-clause-each
returns-clause-each c = answered

pub returns-clause-host : goal.returns-clause-host
returns-clause-host c = heard

pub returns-clause-give : goal.returns-clause-give
returns-clause-give c = λ s die. given s.translation die

pub returns-clause-finish : goal.returns-clause-finish
returns-clause-finish c = λ s die ending left. (ending_fits (s.translation.disk.flights die) ending, refl)

pub returns-clause-step : goal.returns-clause-step
returns-clause-step c = λ s. (is_step_due s.translation, refl)

pub returns-clause-ask : goal.returns-clause-ask
returns-clause-ask c = reply_due

pub returns-clause-event : goal.returns-clause-event
returns-clause-event c = leads_somewhere
