use Rattle.power_loss.proofs.collected_blocks.FewestLivePages.{locks, locks_only}
use Rattle.power_loss.proofs.collection.too_many_bad_blocks_lock.Goals as goal

pub returns-clause-locks : goal.returns-clause-locks
returns-clause-locks c = locks

pub returns-clause-only : goal.returns-clause-only
returns-clause-only c = locks_only
