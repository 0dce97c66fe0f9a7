use Rattle.std.proofs.Common.{◌≡◌, map, take}
use Rattle.rpmb.specs.Kept.{idle_machine}
use Rattle.rpmb.proofs.machines.Machines.new.Given as goal

abbrev pub invariant-loop-state : goal.invariant-loop-state
invariant-loop-state l = l.all.items ≡ map idle_machine (take l.state-index l.states)
