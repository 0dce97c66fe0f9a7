use Rattle.power_loss.proofs.collected_blocks.FewestLivePages.{begins, due_is, due_only}
use Rattle.power_loss.proofs.collection.collection_is_due_when_it_should.Goals as goal

pub returns-clause-due : goal.returns-clause-due
returns-clause-due c = due_is

pub returns-clause-only : goal.returns-clause-only
returns-clause-only c = due_only

pub returns-clause-begins : goal.returns-clause-begins
returns-clause-begins c = begins
