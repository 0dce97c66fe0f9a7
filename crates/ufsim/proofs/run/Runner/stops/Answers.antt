use Rattle.std.proofs.Common.{[], refl}
use Rattle.ufsim.proofs.run.Runner.stops.Goals as goal

pub returns-in-None : goal.returns-in-None
returns-in-None c = record { counted = ([], 0, tt, refl, refl) }
