use Rattle.ufs_laws.proofs.Common.{refl}
use Rattle.ufs_laws.proofs.exchanges.AbortedTasks.{claims, gone, no_reply, no_tag, pins, stays_gone, task_reply_tag}
use Rattle.ufs_laws.proofs.exchange.nothing_of_an_aborted_tag_follows.Goals as goal

pub returns-clause-gone : goal.returns-clause-gone
returns-clause-gone c = gone

pub returns-clause-others : goal.returns-clause-others
returns-clause-others c = λ s is. refl

pub returns-clause-shorts : goal.returns-clause-shorts
returns-clause-shorts c = λ s is. refl

pub returns-clause-accepted : goal.returns-clause-accepted
returns-clause-accepted c = λ s is. refl

pub returns-clause-claims : goal.returns-clause-claims
returns-clause-claims c = claims

pub returns-clause-pins : goal.returns-clause-pins
returns-clause-pins c = pins

pub returns-clause-tag : goal.returns-clause-tag
returns-clause-tag c = no_tag

pub returns-clause-call : goal.returns-clause-call
returns-clause-call c = stays_gone

pub returns-clause-no_reply : goal.returns-clause-no_reply
returns-clause-no_reply c = no_reply

pub returns-clause-reply_has_its_tag : goal.returns-clause-reply_has_its_tag
returns-clause-reply_has_its_tag c = task_reply_tag
