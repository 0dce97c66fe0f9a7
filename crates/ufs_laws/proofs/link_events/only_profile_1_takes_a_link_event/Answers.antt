use Rattle.ufs_laws.proofs.Common.{refl, false≢true}
use Rattle.ufs_laws.proofs.exchanges.LinkEvents.{never_taken, takes, tells_code, tells_reserved, told_as_before}
use Rattle.ufs_laws.proofs.link_events.only_profile_1_takes_a_link_event.Goals as goal

pub returns-clause-spelled : goal.returns-clause-spelled
returns-clause-spelled c = λ kind. refl

pub returns-clause-hardware : goal.returns-clause-hardware
returns-clause-hardware c = refl

pub returns-clause-link : goal.returns-clause-link
returns-clause-link c = refl

pub returns-clause-none : goal.returns-clause-none
returns-clause-none c = false≢true

pub returns-clause-third : goal.returns-clause-third
returns-clause-third c = false≢true

pub returns-clause-taken : goal.returns-clause-taken
returns-clause-taken c = takes

pub returns-clause-reserved : goal.returns-clause-reserved
returns-clause-reserved c = tells_reserved

pub returns-clause-profile_0 : goal.returns-clause-profile_0
returns-clause-profile_0 c = tells_code

pub returns-clause-never : goal.returns-clause-never
returns-clause-never c = never_taken

pub returns-clause-as_before : goal.returns-clause-as_before
returns-clause-as_before c = λ s bytes h fault result zero is told. told_as_before s bytes fault zero told h result is
