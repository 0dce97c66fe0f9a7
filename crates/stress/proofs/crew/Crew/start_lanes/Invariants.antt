use Rattle.std.proofs.Common.{◌≡◌, All, None, length}
use Rattle.stress.proofs.crew.Crew.start_lanes.Given as goal

abbrev pub invariant-loop-lane : goal.invariant-loop-lane
invariant-loop-lane g l = All (λ x. x.ended ≡ None) l.lanes.items

abbrev pub decreases-loop-lane : goal.decreases-loop-lane
decreases-loop-lane g l = length l.lanes.items
