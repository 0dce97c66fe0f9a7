use Rattle.ftl_core.proofs.small_calls.PinCalls.{acknowledges_right}
use Rattle.ftl_core.proofs.ftl.Ftl.frontier.Goals as goal

pub returns-clause-told : goal.returns-clause-told
returns-clause-told c = λ t count h allowed. acknowledges_right c.args.self.now t count h allowed
