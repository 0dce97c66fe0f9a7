use Rattle.lanes.proofs.Common.{◌≡◌}
use Rattle.lanes.proofs.port.Port.send.Given as goal

abbrev pub invariant-loop : goal.invariant-loop
invariant-loop g l = (l.self ≡ l.fn.self) × (l.bytes ≡ l.fn.bytes)
