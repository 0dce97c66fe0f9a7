use Rattle.device.proofs.Common.{Describes, State, length, means, ◌≡◌}
use Rattle.device.proofs.managed.AllAborted.{IsOnTheWay}
use Rattle.device.proofs.device.Device.abort_all.Given as goal

abbrev pub invariant-loop-index : goal.invariant-loop-index
invariant-loop-index l =
    (l.self ≡ record l.fn.self { ftl = l.self.ftl; rpmb = l.self.rpmb; tasks = l.self.tasks })
    × ((s : State) → Describes l.fn.self s → IsOnTheWay l.self s (means l.meant))

abbrev pub decreases-loop-index : goal.decreases-loop-index
decreases-loop-index l = length l.self.tasks
