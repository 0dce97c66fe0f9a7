use Rattle.ufsim.specs.Trials.{IsMore}
use Rattle.ufsim.proofs.check.Life.stop_once.Given as goal

abbrev pub invariant-loop-content : goal.invariant-loop-content
invariant-loop-content l = IsMore l.content-index l.initial.tally l.tally
