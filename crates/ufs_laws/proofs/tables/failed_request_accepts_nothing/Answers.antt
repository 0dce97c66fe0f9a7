use Rattle.ufs_laws.proofs.exchanges.RpmbResults.{accepted_result}
use Rattle.ufs_laws.proofs.tables.failed_request_accepts_nothing.Goals as goal

pub returns : goal.returns
returns c = accepted_result
