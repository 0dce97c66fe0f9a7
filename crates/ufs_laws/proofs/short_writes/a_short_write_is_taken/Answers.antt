use Rattle.ufs_laws.proofs.refusals.WholeWrites.{all_come}
use Rattle.ufs_laws.proofs.refusals.ProfileLines.{short_crowded, short_direction, short_list, short_older, short_past, short_taken}
use Rattle.ufs_laws.proofs.short_writes.a_short_write_is_taken.Goals as goal

pub returns-clause-older : goal.returns-clause-older
returns-clause-older c = short_older

pub returns-clause-taken : goal.returns-clause-taken
returns-clause-taken c = λ s tag forced row clear e k room. short_taken s tag row clear forced e k room

pub returns-clause-crowded : goal.returns-clause-crowded
returns-clause-crowded c = λ s tag forced row clear e k none. short_crowded s tag row clear forced e k none

pub returns-clause-direction : goal.returns-clause-direction
returns-clause-direction c = λ s tag forced row clear. short_direction s tag row clear forced

pub returns-clause-range : goal.returns-clause-range
returns-clause-range c = λ s tag forced row clear. short_past s tag row clear forced

pub returns-clause-list : goal.returns-clause-list
returns-clause-list c = λ s tag row clear. short_list s tag row clear

pub returns-clause-older_is_whole : goal.returns-clause-older_is_whole
returns-clause-older_is_whole c = all_come
