use Rattle.ufs_laws.proofs.exchanges.TaskManagement.{heard_kind, read_kind}
use Rattle.ufs_laws.proofs.calls.heard_kinds_are_a_hosts.Goals as goal

pub returns-clause-heard : goal.returns-clause-heard
returns-clause-heard c = heard_kind

pub returns-clause-read : goal.returns-clause-read
returns-clause-read c = read_kind
