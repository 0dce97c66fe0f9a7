use Rattle.ufs_laws.proofs.new_dies.NewDeviceExists.{new_opens}
use Rattle.power_loss.proofs.worked.FailedWrite.{failed_write}
use Rattle.power_loss.proofs.runs.a_failed_write_is_answered.Goals as goal

pub returns : goal.returns
returns c = λ body write block f last long w b may left.
    let s = new_opens in failed_write body long write block w b s.0 s.1 f may last left
