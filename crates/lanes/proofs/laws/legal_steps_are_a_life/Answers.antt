use Rattle.lanes.proofs.Promises.{life_of}
use Rattle.lanes.proofs.laws.legal_steps_are_a_life.Goals as goal

pub returns : goal.returns
returns c = life_of
