use Rattle.std.proofs.Common.{◌≤◌, length}
use Rattle.stress.proofs.crew.Crew.start_hosts.Given as goal

abbrev pub invariant-loop-port : goal.invariant-loop-port
invariant-loop-port g l = length l.ports.items ≤ 255

abbrev pub decreases-loop-port : goal.decreases-loop-port
decreases-loop-port g l = length l.ports.items
