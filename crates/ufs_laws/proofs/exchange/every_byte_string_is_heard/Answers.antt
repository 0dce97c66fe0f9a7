use Rattle.ufs_laws.proofs.exchanges.BytesHeard.{is_heard, one_heard}
use Rattle.ufs_laws.proofs.exchange.every_byte_string_is_heard.Goals as goal

pub returns-clause-heard : goal.returns-clause-heard
returns-clause-heard c = is_heard

pub returns-clause-once : goal.returns-clause-once
returns-clause-once c = one_heard
