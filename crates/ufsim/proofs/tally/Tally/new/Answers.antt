use Rattle.std.proofs.Common.{[], refl}
use Rattle.ufsim.proofs.tally.Tally.new.Goals as goal

pub invariant_of-result : goal.invariant_of-result
invariant_of-result c = ([], 0, tt, refl, refl)
