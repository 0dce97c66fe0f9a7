use Rattle.libufs.proofs.TakenNumbers.{numbered}
use Rattle.libufs.proofs.ufs_take.Goals as goal

pub returns : goal.returns
returns c =
    numbered c.args.die c.flag_number.result c.args.job.now c.take_job.new.shown c.args.device.now.value
    c.take_job.new.self.value c.take_job.result c.flag_number.ensures c.take_job.ensures
