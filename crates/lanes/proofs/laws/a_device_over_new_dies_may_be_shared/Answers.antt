use Rattle.lanes.proofs.Opened.{new_dies_opened}
use Rattle.lanes.proofs.laws.a_device_over_new_dies_may_be_shared.Goals as goal

pub returns : goal.returns
returns g c = new_dies_opened g.D.Die.state
