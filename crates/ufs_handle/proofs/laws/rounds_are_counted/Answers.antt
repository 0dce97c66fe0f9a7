use Rattle.ufs_handle.proofs.Walked.{count_rounds}
use Rattle.ufs_handle.proofs.laws.rounds_are_counted.Goals as goal

pub returns : goal.returns
returns c = count_rounds
