use Rattle.ufs_laws.proofs.exchanges.BytesHeard.{one_spelled}
use Rattle.ufs_laws.proofs.exchanges.HeardOnce.{no_fault, one_fault}
use Rattle.ufs_laws.proofs.calls.messages_are_heard_once.Goals as goal

pub returns-clause-one_fault : goal.returns-clause-one_fault
returns-clause-one_fault c = one_fault

pub returns-clause-not_both : goal.returns-clause-not_both
returns-clause-not_both c = no_fault

pub returns-clause-one_message : goal.returns-clause-one_message
returns-clause-one_message c = one_spelled
