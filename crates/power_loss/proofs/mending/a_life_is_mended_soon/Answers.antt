use Rattle.power_loss.proofs.mending_steps.TurnsOfALife.{true_turns_of_life, true_turns_of_new_dies}
use Rattle.power_loss.proofs.mending.a_life_is_mended_soon.Goals as goal

-- src/mending.rt:41:1
pub returns-clause-life : goal.returns-clause-life
returns-clause-life c = true_turns_of_life

-- src/mending.rt:41:1
pub returns-clause-new_dies : goal.returns-clause-new_dies
returns-clause-new_dies c = true_turns_of_new_dies
