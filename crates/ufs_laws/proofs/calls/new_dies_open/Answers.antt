use Rattle.ufs_laws.proofs.new_dies.FirstErase.{first_job}
use Rattle.ufs_laws.proofs.new_dies.FirstLife.{base_is_zero, no_job, no_reply, opens_new, step_due, unmended}
use Rattle.ufs_laws.proofs.calls.new_dies_open.Goals as goal

pub returns-clause-open : goal.returns-clause-open
returns-clause-open c = opens_new

pub returns-clause-zero : goal.returns-clause-zero
returns-clause-zero c = base_is_zero

pub returns-clause-unmended : goal.returns-clause-unmended
returns-clause-unmended c = unmended

pub returns-clause-step_due : goal.returns-clause-step_due
returns-clause-step_due c = step_due

pub returns-clause-no_job : goal.returns-clause-no_job
returns-clause-no_job c = no_job

pub returns-clause-no_reply : goal.returns-clause-no_reply
returns-clause-no_reply c = no_reply

pub returns-clause-first_job : goal.returns-clause-first_job
returns-clause-first_job c = first_job
