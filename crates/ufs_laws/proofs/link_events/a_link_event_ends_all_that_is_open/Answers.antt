use Rattle.ufs_laws.proofs.Common.{refl}
use Rattle.ufs_laws.proofs.exchanges.LinkEvents.{after_is, no_claims, no_pins, nothing_due}
use Rattle.ufs_laws.proofs.link_events.a_link_event_ends_all_that_is_open.Goals as goal

pub returns-clause-after : goal.returns-clause-after
returns-clause-after c = after_is

pub returns-clause-tasks : goal.returns-clause-tasks
returns-clause-tasks c = λ s kind. refl

pub returns-clause-shorts : goal.returns-clause-shorts
returns-clause-shorts c = λ s kind. refl

pub returns-clause-no_reply : goal.returns-clause-no_reply
returns-clause-no_reply c = nothing_due

pub returns-clause-claims : goal.returns-clause-claims
returns-clause-claims c = no_claims

pub returns-clause-pins : goal.returns-clause-pins
returns-clause-pins c = no_pins

pub returns-clause-registers : goal.returns-clause-registers
returns-clause-registers c = λ s kind region. refl

pub returns-clause-free : goal.returns-clause-free
returns-clause-free c = λ s kind number. refl
