use Rattle.ufs_laws.proofs.exchanges.DataInOrder.{accepted, all_bytes, gathered, offsets, taken, within}
use Rattle.ufs_laws.proofs.Common.{refl}
use Rattle.ufs_laws.proofs.exchange.data_are_asked_for_in_order.Goals as goal

pub returns-clause-asks : goal.returns-clause-asks
returns-clause-asks c = λ s task purpose gathered. refl

pub returns-clause-asks_once : goal.returns-clause-asks_once
returns-clause-asks_once c = λ s task purpose gathered. refl

pub returns-clause-was_asked : goal.returns-clause-was_asked
returns-clause-was_asked c = λ task purpose gathered. refl

pub returns-clause-taken : goal.returns-clause-taken
returns-clause-taken c = taken

pub returns-clause-gathered : goal.returns-clause-gathered
returns-clause-gathered c = gathered

pub returns-clause-accepted : goal.returns-clause-accepted
returns-clause-accepted c = accepted

pub returns-clause-all_bytes : goal.returns-clause-all_bytes
returns-clause-all_bytes c = all_bytes

pub returns-clause-within : goal.returns-clause-within
returns-clause-within c = within

pub returns-clause-offsets : goal.returns-clause-offsets
returns-clause-offsets c = offsets
