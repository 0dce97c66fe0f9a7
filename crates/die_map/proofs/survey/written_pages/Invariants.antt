use Rattle.std.proofs.Common.{◌≡◌}
use Rattle.die_map.specs.States.{written_below}
use Rattle.die_map.proofs.survey.written_pages.Given as goal

abbrev pub invariant-loop-page : goal.invariant-loop-page
invariant-loop-page l = l.written ≡ written_below l.die l.block l.page
