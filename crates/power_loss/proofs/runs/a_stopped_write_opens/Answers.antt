use Rattle.ufs_laws.proofs.new_dies.NewDeviceExists.{new_opens}
use Rattle.power_loss.proofs.worked.StoppedWrite.{some_torn, stopped_new, stopped_old, stopped_torn}
use Rattle.power_loss.proofs.runs.a_stopped_write_opens.Goals as goal

pub returns-clause-old : goal.returns-clause-old
returns-clause-old c = λ body write block lefts long w b e.
    let s = new_opens in stopped_old body long write block w b s.0 s.1 e

pub returns-clause-new : goal.returns-clause-new
returns-clause-new c = λ body write block lefts long w b e.
    let s = new_opens in stopped_new body long write block w b s.0 s.1 e

pub returns-clause-torn : goal.returns-clause-torn
returns-clause-torn c = λ body write block lefts torn long w b wrong e.
    let s = new_opens in stopped_torn body long write block w b s.0 s.1 torn lefts e wrong

pub returns-clause-torn_page : goal.returns-clause-torn_page
returns-clause-torn_page c = some_torn
