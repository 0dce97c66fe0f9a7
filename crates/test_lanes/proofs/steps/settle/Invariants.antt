use Rattle.std.proofs.Common.{◌≡◌, None}
use Rattle.test_lanes.proofs.steps.settle.Given as goal

abbrev pub invariant-loop : goal.invariant-loop
invariant-loop g l =
    (l.crew.first.ended ≡ None) × (l.crew.second.ended ≡ None) × (l.crew.port ≡ l.fn.crew.port)
