use Rattle.ufs_laws.proofs.exchanges.TakenCommandsKnown.{begins_known, call_known, open_known, passes}
use Rattle.ufs_laws.proofs.exchanges.SpokenCalls.{life_keeps}
use Rattle.ufs_laws.specs.Exchange.{AllKnown}
use Rattle.ufs_laws.proofs.exchange.a_command_is_never_unknown_once_taken.Goals as goal

pub returns-clause-passes : goal.returns-clause-passes
returns-clause-passes c = passes

pub returns-clause-begins : goal.returns-clause-begins
returns-clause-begins c = begins_known

pub returns-clause-open : goal.returns-clause-open
returns-clause-open c = open_known

pub returns-clause-call : goal.returns-clause-call
returns-clause-call c = call_known

pub returns-clause-life : goal.returns-clause-life
returns-clause-life c = life_keeps AllKnown call_known
