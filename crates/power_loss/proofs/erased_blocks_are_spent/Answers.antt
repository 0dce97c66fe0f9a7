use Rattle.power_loss.proofs.spent.ErasedIsSpent.{erased_are_spent, erased_by_some_mark}
use Rattle.power_loss.proofs.erased_blocks_are_spent.Goals as goal

pub returns-clause-spent : goal.returns-clause-spent
returns-clause-spent c = λ t die s v may. (erased_are_spent t die s v may).0

pub returns-clause-by_some_mark : goal.returns-clause-by_some_mark
returns-clause-by_some_mark c = erased_by_some_mark

pub returns-clause-unpinned : goal.returns-clause-unpinned
returns-clause-unpinned c = λ t die s v may. (erased_are_spent t die s v may).1
