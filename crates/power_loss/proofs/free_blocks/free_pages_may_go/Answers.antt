use Rattle.power_loss.proofs.spent.ErasedIsSpent.{free_are_spent}
use Rattle.power_loss.proofs.spent.FreeIsSpare.{free_is_spare}
use Rattle.power_loss.proofs.free_blocks.free_pages_may_go.Goals as goal

pub returns-clause-may_go : goal.returns-clause-may_go
returns-clause-may_go c = λ t s v free. free_are_spent t s v free

pub returns-clause-kept : goal.returns-clause-kept
returns-clause-kept c = λ t p v free some. free_is_spare t p v free some
