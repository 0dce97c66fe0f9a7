use Rattle.ufs_laws.proofs.Common.{refl}
use Rattle.ufs_laws.proofs.exchanges.LinkEvents.{same_groups, same_work}
use Rattle.ufs_laws.proofs.link_events.a_link_event_takes_back_nothing.Goals as goal

pub returns-clause-commands : goal.returns-clause-commands
returns-clause-commands c = λ s kind. refl

pub returns-clause-contents : goal.returns-clause-contents
returns-clause-contents c = λ s kind. refl

pub returns-clause-groups : goal.returns-clause-groups
returns-clause-groups c = same_groups

pub returns-clause-rests : goal.returns-clause-rests
returns-clause-rests c = same_work

pub returns-clause-pages : goal.returns-clause-pages
returns-clause-pages c = λ s kind. refl
