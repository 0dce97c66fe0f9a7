use Rattle.power_loss.proofs.openings.FreeAlone.{blocks_one}
use Rattle.power_loss.proofs.openings.FreeInOrder.{are_found, found_free}
use Rattle.power_loss.proofs.openings.FreeTogether.{first_blocks}
use Rattle.power_loss.proofs.free_blocks.first_blocks_are_one.Goals as goal

pub returns-clause-found : goal.returns-clause-found
returns-clause-found c = λ n cells m bad free within sound x. first_blocks n cells within m sound bad free x

pub returns-clause-some : goal.returns-clause-some
returns-clause-some c = λ n cells m bad within sound.
    (found_free n cells within m bad, are_found n cells within m bad)

pub returns-clause-one : goal.returns-clause-one
returns-clause-one c = λ n cells m bad a b s within x y. blocks_one n cells within m bad a b x y s
