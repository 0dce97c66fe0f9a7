use Rattle.power_loss.proofs.laid_rests.AllMoves.{laid_move, laid_opened}
use Rattle.power_loss.proofs.laid_rests.LaidContents.{laid_next, laid_page, laid_slot}
use Rattle.power_loss.proofs.rests.rests_are_laid_over_one_page.Goals as goal

pub returns-clause-opened : goal.returns-clause-opened
returns-clause-opened c = laid_opened

pub returns-clause-moved : goal.returns-clause-moved
returns-clause-moved c = laid_move

pub returns-clause-tied : goal.returns-clause-tied
returns-clause-tied c = λ s v. v.laid

pub returns-clause-page : goal.returns-clause-page
returns-clause-page c = laid_page

pub returns-clause-slot : goal.returns-clause-slot
returns-clause-slot c = laid_slot

pub returns-clause-next : goal.returns-clause-next
returns-clause-next c = laid_next
