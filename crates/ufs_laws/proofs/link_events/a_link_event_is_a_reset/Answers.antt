use Rattle.ufs_laws.proofs.Common.{refl}
use Rattle.ufs_laws.proofs.exchanges.LinkEvents.{after_hardware, after_link, all_have}
use Rattle.ufs_laws.proofs.link_events.a_link_event_is_a_reset.Goals as goal

pub returns-clause-attention : goal.returns-clause-attention
returns-clause-attention c = all_have

pub returns-clause-initializing : goal.returns-clause-initializing
returns-clause-initializing c = λ s kind. refl

pub returns-clause-hardware : goal.returns-clause-hardware
returns-clause-hardware c = after_hardware

pub returns-clause-link : goal.returns-clause-link
returns-clause-link c = after_link
