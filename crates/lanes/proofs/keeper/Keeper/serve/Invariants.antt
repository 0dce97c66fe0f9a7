use Rattle.lanes.proofs.Common.{◌≡◌}
use Rattle.lanes.specs.Serving.{HasTurned}
use Rattle.lanes.proofs.keeper.Keeper.serve.Given as goal

abbrev pub invariant-loop : goal.invariant-loop
invariant-loop g l = (l.self.table ≡ l.fn.self.table) × HasTurned g.D.Die.state l.fn.self.view l.self.view
