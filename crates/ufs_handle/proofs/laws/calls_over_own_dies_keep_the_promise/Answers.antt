use Rattle.ufs_handle.proofs.OwnCallLists.{are_an_own_run}
use Rattle.ufs_handle.proofs.OwnDies.{own_call}
use Rattle.ufs_handle.proofs.laws.calls_over_own_dies_keep_the_promise.Goals as goal

pub returns-clause-called : goal.returns-clause-called
returns-clause-called c = own_call

pub returns-clause-promised : goal.returns-clause-promised
returns-clause-promised c = are_an_own_run
