use Rattle.ufsim.proofs.Judging.{untold}
use Rattle.ufsim.proofs.check.Life.is_good.Goals as goal

pub returns-in-None : goal.returns-in-None
returns-in-None c = untold c.args.self.now c.args.found.now c.in-None.is
