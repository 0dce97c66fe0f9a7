use Rattle.power_loss.proofs.Common.{arith}
use Rattle.power_loss.proofs.mending_steps.TurnsOfALife.{none_lost}
use Rattle.power_loss.proofs.repaired_keys.NoMoreKeys.{as_many}
use Rattle.power_loss.proofs.repaired_keys.RepairsStayFew.{move_few, opening_few}
use Rattle.power_loss.proofs.repaired_keys.StopsLeaveFew.{life_leaves_few, stop_few}
use Rattle.power_loss.proofs.few_repairs.a_stop_leaves_few_repairs.Goals as goal

pub returns-clause-new_dies : goal.returns-clause-new_dies
returns-clause-new_dies c = λ n cells m none kept top lost is_kept greatest are.
    let l = as_many are (none_lost none) in omega arith

pub returns-clause-opened : goal.returns-clause-opened
returns-clause-opened c = opening_few

pub returns-clause-each_move : goal.returns-clause-each_move
returns-clause-each_move c = λ t move v may f. move_few move v f

pub returns-clause-stop : goal.returns-clause-stop
returns-clause-stop c = λ t left m v f crash newest. stop_few t left m v f crash newest

pub returns-clause-life : goal.returns-clause-life
returns-clause-life c = life_leaves_few
