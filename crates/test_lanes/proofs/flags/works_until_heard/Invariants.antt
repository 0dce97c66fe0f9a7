use Rattle.std.proofs.Common.{◌≡◌, None}
use Rattle.test_lanes.proofs.flags.works_until_heard.Given as goal

abbrev pub invariant-loop : goal.invariant-loop
invariant-loop g l = l.lane.ended ≡ None
