use Rattle.ftl_core.proofs.Common.{◌≡◌}
use Rattle.ftl_core.specs.Ends.{pages_landed}
use Rattle.ftl_core.proofs.ftl.Ftl.pages_durable.Given as goal

abbrev pub invariant-loop : goal.invariant-loop
invariant-loop l = l.self ≡ pages_landed l.initial.self l.counter
