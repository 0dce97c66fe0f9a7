use Rattle.power_loss.proofs.lives.ChainedLives.{chained}
use Rattle.power_loss.proofs.exchange.lives_are_chained.Goals as goal

pub returns : goal.returns
returns c = chained
