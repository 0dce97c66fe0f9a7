use Rattle.ufs_laws.proofs.exchanges.ManagedTasks.{is_carried_out, no_other, one_aborted, set_aborted, set_cleared}
use Rattle.ufs_laws.proofs.exchanges.ManagedTasks.{unit_reset}
use Rattle.ufs_laws.proofs.management.each_function_aborts_its_tasks.Goals as goal

pub returns-clause-abort_task : goal.returns-clause-abort_task
returns-clause-abort_task c = one_aborted

pub returns-clause-abort_task_set : goal.returns-clause-abort_task_set
returns-clause-abort_task_set c = set_aborted

pub returns-clause-clear_task_set : goal.returns-clause-clear_task_set
returns-clause-clear_task_set c = set_cleared

pub returns-clause-unit_reset : goal.returns-clause-unit_reset
returns-clause-unit_reset c = unit_reset

pub returns-clause-no_other : goal.returns-clause-no_other
returns-clause-no_other c = no_other

pub returns-clause-carried_out : goal.returns-clause-carried_out
returns-clause-carried_out c = is_carried_out
