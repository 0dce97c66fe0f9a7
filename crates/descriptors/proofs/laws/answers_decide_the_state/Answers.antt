use Rattle.descriptors.proofs.Decided.{decided}
use Rattle.descriptors.proofs.laws.answers_decide_the_state.Goals as goal

pub returns : goal.returns
returns c = decided
