use Rattle.lanes.proofs.Promises.{list_keeps}
use Rattle.lanes.proofs.laws.what_was_seen_keeps_the_promise.Goals as goal

pub returns : goal.returns
returns g c = λ opening list is legal. list_keeps g.D.Die.state opening is list legal
