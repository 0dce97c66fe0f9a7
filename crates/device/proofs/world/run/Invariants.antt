use Rattle.device.specs.Worlds.{IsPlayed}
use Rattle.device.proofs.world.run.Given as goal

abbrev pub invariant-loop-index : goal.invariant-loop-index
invariant-loop-index l = IsPlayed l.fn.config l.fn.dies.items l.events l.index l.trace.items l.world
