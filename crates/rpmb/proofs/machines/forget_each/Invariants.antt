use Rattle.std.proofs.Common.{◌≡◌, ◌++◌, map, take, drop}
use Rattle.rpmb.specs.Kept.{forgotten}
use Rattle.rpmb.proofs.machines.forget_each.Given as goal

abbrev pub invariant-loop-machine : goal.invariant-loop-machine
invariant-loop-machine l =
    l.machines ≡ map forgotten (take l.machine-index l.initial.machines) ++ drop l.machine-index l.initial.machines
