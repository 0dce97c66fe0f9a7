use Rattle.power_loss.proofs.jobs_owed.RoomLeft.{none_erased, none_filled}
use Rattle.power_loss.proofs.owed_jobs.one_block_after_another.Goals as goal

pub returns-clause-filled : goal.returns-clause-filled
returns-clause-filled c = none_filled

pub returns-clause-erased : goal.returns-clause-erased
returns-clause-erased c = none_erased
