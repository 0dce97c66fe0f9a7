use Rattle.ftl_core.proofs.Common.{◌≡◌}
use Rattle.ftl_core.specs.Moves.{kept_all}
use Rattle.ftl_core.proofs.ftl.Ftl.pin_all.Given as goal

abbrev pub invariant-loop-index : goal.invariant-loop-index
invariant-loop-index l = l.self ≡ kept_all l.initial.self l.reader l.key l.all l.index
