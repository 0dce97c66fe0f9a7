use Rattle.ufs_laws.proofs.new_dies.NewDeviceExists.{new_opens}
use Rattle.power_loss.proofs.worked.FailedWrite.{moved_write}
use Rattle.power_loss.proofs.runs.a_failed_page_goes_elsewhere.Goals as goal

pub returns : goal.returns
returns c = λ body write block f long w b may.
    let s = new_opens in moved_write body long write block w b s.0 s.1 f may
