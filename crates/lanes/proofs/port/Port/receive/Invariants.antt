use Rattle.lanes.proofs.Common.{◌≡◌}
use Rattle.lanes.specs.Waiting.{AskedInVain}
use Rattle.lanes.proofs.port.Port.receive.Given as goal

abbrev pub invariant-loop : goal.invariant-loop
invariant-loop g l =
    (l.self.table ≡ l.fn.self.table) × (l.into ≡ l.fn.into)
    × AskedInVain g.D.Die.state l.fn.self.view l.self.view
