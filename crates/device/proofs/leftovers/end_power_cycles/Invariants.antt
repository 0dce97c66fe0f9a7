use Rattle.device.proofs.Common.{map, power_cycle_ended, take, ◌++◌, ◌≡◌}
use Rattle.std.specs.Prelude.{drop}
use Rattle.device.proofs.leftovers.end_power_cycles.Given as goal

abbrev pub invariant-loop-die : goal.invariant-loop-die
invariant-loop-die l = l.dies ≡ map power_cycle_ended (take l.die-index l.fn.dies) ++ drop l.die-index l.fn.dies
