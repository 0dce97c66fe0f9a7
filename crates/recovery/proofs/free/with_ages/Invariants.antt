use Rattle.recovery.specs.Frees.{AreAged}
use Rattle.recovery.proofs.free.with_ages.Given as goal

abbrev pub invariant-loop-block : goal.invariant-loop-block
invariant-loop-block l = AreAged l.latests l.block l.all.items
