use Rattle.recovery.proofs.Common.{◌*◌, ◌+◌}
use Rattle.recovery.proofs.workers.+shares.Given as goal

abbrev pub decreases-read_by : goal.decreases-read_by
decreases-read_by g l = 4 * l.shares.workers

abbrev pub decreases-read_both : goal.decreases-read_both
decreases-read_both g l = 4 * l.cut.others.workers + 3

abbrev pub decreases-read_both-rest : goal.decreases-read_both-rest
decreases-read_both-rest g l = 4 * l.cut.others.workers + 2

abbrev pub decreases-read_rest : goal.decreases-read_rest
decreases-read_rest g l = 4 * l.cut.others.workers + 1
