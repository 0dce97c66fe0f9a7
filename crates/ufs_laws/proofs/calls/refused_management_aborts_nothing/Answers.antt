use Rattle.ufs_laws.proofs.exchanges.TaskManagement.{answered_complete, no_unit_answered, not_carried_out}
use Rattle.ufs_laws.proofs.exchanges.TaskManagement.{only_answered}
use Rattle.ufs_laws.proofs.calls.refused_management_aborts_nothing.Goals as goal

pub returns-clause-nothing : goal.returns-clause-nothing
returns-clause-nothing c = not_carried_out

pub returns-clause-heard : goal.returns-clause-heard
returns-clause-heard c = only_answered

pub returns-clause-no_unit : goal.returns-clause-no_unit
returns-clause-no_unit c = no_unit_answered

pub returns-clause-aborts : goal.returns-clause-aborts
returns-clause-aborts c = answered_complete
