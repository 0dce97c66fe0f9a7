use Rattle.ufs_laws.proofs.frame_laws.LockAndRegisters as locking
use Rattle.ufs_laws.proofs.frame_laws.RegistersFilled as filling
use Rattle.ufs_laws.proofs.requests.a_register_is_filled_once.Goals as goal

pub returns-clause-order : goal.returns-clause-order
returns-clause-order c = locking.order

pub returns-clause-not_before : goal.returns-clause-not_before
returns-clause-not_before c = filling.not_before

pub returns-clause-due : goal.returns-clause-due
returns-clause-due c = filling.due

pub returns-clause-never_again : goal.returns-clause-never_again
returns-clause-never_again c = filling.never_again

pub returns-clause-handed_out : goal.returns-clause-handed_out
returns-clause-handed_out c = filling.handed_out

pub returns-clause-lock : goal.returns-clause-lock
returns-clause-lock c = filling.lock

pub returns-clause-key_or_write : goal.returns-clause-key_or_write
returns-clause-key_or_write c = filling.key_or_write

pub returns-clause-counter_or_data : goal.returns-clause-counter_or_data
returns-clause-counter_or_data c = filling.counter_or_data

pub returns-clause-result : goal.returns-clause-result
returns-clause-result c = filling.result

pub returns-clause-other_regions : goal.returns-clause-other_regions
returns-clause-other_regions c = filling.other_regions
