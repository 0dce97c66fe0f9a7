use Rattle.ufs_laws.proofs.refusals.AttentionLines.{attention, contingent, head_of_queue, not_taken_so, ordered, plainly_taken, priority, taken_in_profile_1, unit_first}
use Rattle.ufs_laws.proofs.attentions.attentions_and_attributes_are_told_first.Goals as goal

pub returns-clause-attention : goal.returns-clause-attention
returns-clause-attention c = attention

pub returns-clause-head_of_queue : goal.returns-clause-head_of_queue
returns-clause-head_of_queue c = λ s tag rest row. head_of_queue s tag row rest

pub returns-clause-ordered : goal.returns-clause-ordered
returns-clause-ordered c = λ s tag rest row. ordered s tag row rest

pub returns-clause-contingent : goal.returns-clause-contingent
returns-clause-contingent c = λ s tag rest row. contingent s tag row rest

pub returns-clause-no_unit : goal.returns-clause-no_unit
returns-clause-no_unit c = λ s tag rest row. unit_first s tag row rest

pub returns-clause-priority : goal.returns-clause-priority
returns-clause-priority c = priority

pub returns-clause-profile_0 : goal.returns-clause-profile_0
returns-clause-profile_0 c = not_taken_so

pub returns-clause-plain : goal.returns-clause-plain
returns-clause-plain c = plainly_taken

pub returns-clause-profile_1 : goal.returns-clause-profile_1
returns-clause-profile_1 c = taken_in_profile_1
