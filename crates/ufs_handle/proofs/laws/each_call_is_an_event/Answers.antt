use Rattle.ufs_handle.proofs.CallLists.{one_event, opened_stands}
use Rattle.ufs_handle.proofs.laws.each_call_is_an_event.Goals as goal

pub returns-clause-opened : goal.returns-clause-opened
returns-clause-opened c = opened_stands

pub returns-clause-called : goal.returns-clause-called
returns-clause-called c = one_event
