use Rattle.ufs_laws.proofs.new_dies.NewDeviceExists.{new_opens}
use Rattle.power_loss.proofs.worked.TornTwice.{torn_twice}
use Rattle.power_loss.proofs.runs.two_dies_torn_at_once_open.Goals as goal

pub returns : goal.returns
returns c = λ body write block lefts torn pages long w b wrong many all e.
    let s = new_opens in torn_twice body long write block w b s.0 s.1 torn pages wrong many all lefts e
