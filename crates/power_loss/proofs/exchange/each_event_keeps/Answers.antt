use Rattle.power_loss.proofs.lives.EachEventKeeps.{many_events, one_event}
use Rattle.power_loss.proofs.exchange.each_event_keeps.Goals as goal

-- src/exchange.rt:24:1
pub returns-clause-one : goal.returns-clause-one
returns-clause-one c = one_event

pub returns-clause-many : goal.returns-clause-many
returns-clause-many c = many_events
