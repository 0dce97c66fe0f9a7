use Rattle.power_loss.proofs.calls.CallsKeepTied.{call_keeps}
use Rattle.power_loss.proofs.exchange.each_call_keeps.Goals as goal

pub returns : goal.returns
returns c = call_keeps
