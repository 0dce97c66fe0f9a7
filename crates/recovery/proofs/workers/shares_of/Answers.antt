use Rattle.recovery.proofs.Common.{arith}
use Rattle.recovery.proofs.Sharing.{even_shares}
use Rattle.recovery.proofs.workers.shares_of.Goals as goal

pub returns-clause-shared : goal.returns-clause-shared
returns-clause-shared c = even_shares c.args.dies c.max-workers.result (omega (arith, c.max-workers.ensures))
