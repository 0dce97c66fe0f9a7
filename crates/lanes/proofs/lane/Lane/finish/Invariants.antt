use Rattle.lanes.proofs.Common.{Some, ◌≡◌}
use Rattle.lanes.proofs.lane.Lane.finish.Given as goal

-- every attempt up to now was in vain
abbrev pub invariant-loop : goal.invariant-loop
invariant-loop g l =
    (l.self.ended ≡ Some l.outcome) × (l.self.table ≡ l.fn.self.table) × (l.self.view ≡ l.fn.self.view)
    × (l.self.number ≡ l.fn.self.number)
