use Rattle.ufs_laws.proofs.frame_laws.FailedRequests as failing
use Rattle.ufs_laws.proofs.requests.a_failed_request_changes_nothing.Goals as goal

pub returns-clause-commands : goal.returns-clause-commands
returns-clause-commands c = failing.commands

pub returns-clause-groups : goal.returns-clause-groups
returns-clause-groups c = failing.groups

pub returns-clause-contents : goal.returns-clause-contents
returns-clause-contents c = failing.contents
