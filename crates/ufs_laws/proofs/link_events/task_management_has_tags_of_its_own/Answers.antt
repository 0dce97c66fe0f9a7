use Rattle.ufs_laws.proofs.Common.{false, refl, true}
use Rattle.ufs_laws.proofs.exchanges.OwnTags.{meets, meets_others, numbers_apart, numbers_same, one_set, opened, opens, tasks_stay}
use Rattle.ufs_laws.proofs.link_events.task_management_has_tags_of_its_own.Goals as goal

pub returns-clause-apart : goal.returns-clause-apart
returns-clause-apart c = λ s lun tag function meant. opens s true tag

pub returns-clause-others_apart : goal.returns-clause-others_apart
returns-clause-others_apart c = λ s tag. opens s false tag

pub returns-clause-twice : goal.returns-clause-twice
returns-clause-twice c = λ s lun tag function meant. meets s true tag

pub returns-clause-others_twice : goal.returns-clause-others_twice
returns-clause-others_twice c = λ s tag. meets s false tag

pub returns-clause-profile_0 : goal.returns-clause-profile_0
returns-clause-profile_0 c = one_set

pub returns-clause-profile_0_meets : goal.returns-clause-profile_0_meets
returns-clause-profile_0_meets c = meets_others

pub returns-clause-numbers : goal.returns-clause-numbers
returns-clause-numbers c = numbers_apart

pub returns-clause-same_number : goal.returns-clause-same_number
returns-clause-same_number c = numbers_same

pub returns-clause-opened : goal.returns-clause-opened
returns-clause-opened c = opened

pub returns-clause-answer : goal.returns-clause-answer
returns-clause-answer c = λ lun tag code. refl

pub returns-clause-other_answer : goal.returns-clause-other_answer
returns-clause-other_answer c = λ tag. refl

pub returns-clause-answered : goal.returns-clause-answered
returns-clause-answered c = tasks_stay
