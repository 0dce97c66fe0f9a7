use Rattle.device.proofs.Common.{dies_left, take, ◌≡◌}
use Rattle.device.proofs.world.World.leave_all.Given as goal

abbrev pub invariant-loop-left : goal.invariant-loop-left
invariant-loop-left l = l.self ≡ record l.fn.self { dies = dies_left l.fn.self.dies (take l.left-index l.lefts) }
