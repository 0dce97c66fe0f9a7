use Rattle.power_loss.proofs.moves.MovesKeepValid.{all_keep}
use Rattle.power_loss.proofs.lives.LostKeys.{life_turns, turns_at_opening}
use Rattle.power_loss.proofs.mending_steps.TurnsLeft.{all_counted, move_keeps_turns, turn_takes}
use Rattle.power_loss.proofs.mending.mending_ends_soon.Goals as goal

-- src/mending.rt:17:1
pub returns-clause-at_the_opening : goal.returns-clause-at_the_opening
returns-clause-at_the_opening c = turns_at_opening

-- src/mending.rt:17:1
pub returns-clause-turn : goal.returns-clause-turn
returns-clause-turn c = λ t v unmended due. turn_takes t unmended due

-- src/mending.rt:17:1
pub returns-clause-each_move : goal.returns-clause-each_move
returns-clause-each_move c = λ t move v may. move_keeps_turns move v

-- src/mending.rt:17:1
pub returns-clause-moves : goal.returns-clause-moves
returns-clause-moves c = all_counted all_keep

-- src/mending.rt:17:1
pub returns-clause-life : goal.returns-clause-life
returns-clause-life c = life_turns all_keep
