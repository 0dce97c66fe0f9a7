use Rattle.power_loss.proofs.openings.OpenedIsValid.{opening_valid}
use Rattle.power_loss.proofs.opening_is_valid.Goals as goal

-- src/lib.rt:22:1
pub returns : goal.returns
returns c = opening_valid
