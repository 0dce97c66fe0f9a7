use Rattle.power_loss.proofs.moves.MovesKeepValid.{all_keep}
use Rattle.power_loss.proofs.each_move_keeps.Goals as goal

-- src/lib.rt:26:1
pub returns : goal.returns
returns c = all_keep
