use Rattle.power_loss.proofs.openings.FreeInOrder.{are_found, found_free, found_one}
use Rattle.power_loss.proofs.free_blocks.found_free_is_one.Goals as goal

pub returns-clause-some : goal.returns-clause-some
returns-clause-some c = λ n cells m bad within. (found_free n cells within m bad, are_found n cells within m bad)

pub returns-clause-one : goal.returns-clause-one
returns-clause-one c = λ n cells m bad a b s within x y. found_one n cells within m bad a b s x y
