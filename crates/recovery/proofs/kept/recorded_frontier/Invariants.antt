use Rattle.recovery.proofs.greatest_numbers.Frontiers.{IsFrontier}
use Rattle.recovery.proofs.kept.recorded_frontier.Given as goal

abbrev pub invariant-loop-page : goal.invariant-loop-page
invariant-loop-page l = IsFrontier l.pages l.fn.fence l.fn.marks l.page-index l.greatest
