use Rattle.power_loss.proofs.openings.OpenedStates.{opened_state}
use Rattle.power_loss.proofs.exchange.opened_state_is_valid.Goals as goal

pub returns : goal.returns
returns c = opened_state
