use Rattle.recovery.proofs.greatest_numbers.Tops.{IsTopAmong}
use Rattle.recovery.proofs.kept.greatest_seen.Given as goal

abbrev pub invariant-loop-page : goal.invariant-loop-page
invariant-loop-page l = IsTopAmong l.pages l.fn.fence l.fn.marks l.page-index l.greatest
