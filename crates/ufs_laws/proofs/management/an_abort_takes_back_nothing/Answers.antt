use Rattle.ufs_laws.proofs.exchanges.ManagedTasks.{same_commands, same_contents, same_groups, same_rests}
use Rattle.ufs_laws.proofs.management.an_abort_takes_back_nothing.Goals as goal

pub returns-clause-commands : goal.returns-clause-commands
returns-clause-commands c = same_commands

pub returns-clause-contents : goal.returns-clause-contents
returns-clause-contents c = same_contents

pub returns-clause-groups : goal.returns-clause-groups
returns-clause-groups c = same_groups

pub returns-clause-rests : goal.returns-clause-rests
returns-clause-rests c = same_rests
