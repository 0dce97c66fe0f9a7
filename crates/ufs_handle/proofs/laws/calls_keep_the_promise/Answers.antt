use Rattle.ufs_laws.proofs.array_cells.StandsForSomething.{new_sound}
use Rattle.ufs_handle.proofs.CallLists.{are_a_run}
use Rattle.ufs_handle.proofs.NewDies.{all_blank}
use Rattle.ufs_handle.proofs.laws.calls_keep_the_promise.Goals as goal

pub returns-clause-promised : goal.returns-clause-promised
returns-clause-promised c = are_a_run

pub returns-clause-over_new_dies : goal.returns-clause-over_new_dies
returns-clause-over_new_dies c =
    λ heap n calls first after opened made.
    are_a_run heap n _ calls first after (new_sound _ (all_blank n.dies n.blocks n.pages)) opened made
