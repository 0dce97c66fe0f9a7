use Rattle.ufs_laws.proofs.exchanges.ManagedTasks.{no_function, no_set_told, no_task_told, set_told, task_told}
use Rattle.ufs_laws.proofs.management.a_query_of_tasks_tells_which_are_open.Goals as goal

pub returns-clause-task : goal.returns-clause-task
returns-clause-task c = task_told

pub returns-clause-no_task : goal.returns-clause-no_task
returns-clause-no_task c = no_task_told

pub returns-clause-task_set : goal.returns-clause-task_set
returns-clause-task_set c = set_told

pub returns-clause-no_task_set : goal.returns-clause-no_task_set
returns-clause-no_task_set c = no_set_told

pub returns-clause-no_function : goal.returns-clause-no_function
returns-clause-no_function c = no_function
