use Rattle.ufs_laws.proofs.exchanges.ReadSendsBlocks.{begins, contents, goes_on, joined, owed, sends, stays}
use Rattle.ufs_laws.proofs.Common.{refl}
use Rattle.ufs_laws.proofs.exchange.a_read_sends_its_blocks.Goals as goal

pub returns-clause-begins : goal.returns-clause-begins
returns-clause-begins c = begins

pub returns-clause-contents : goal.returns-clause-contents
returns-clause-contents c = contents

pub returns-clause-sends : goal.returns-clause-sends
returns-clause-sends c = sends

pub returns-clause-owed : goal.returns-clause-owed
returns-clause-owed c = owed

pub returns-clause-message : goal.returns-clause-message
returns-clause-message c = λ task sent body. refl

pub returns-clause-goes_on : goal.returns-clause-goes_on
returns-clause-goes_on c = goes_on

pub returns-clause-stays : goal.returns-clause-stays
returns-clause-stays c = stays

pub returns-clause-joined : goal.returns-clause-joined
returns-clause-joined c = joined
