use Rattle.ftl_core.proofs.Common.{drop, fold, rest_pinned, ◌≡◌}
use Rattle.ftl_core.proofs.ftl.pin_counts.pin_rests.Given as goal

abbrev pub invariant-loop-at : goal.invariant-loop-at
invariant-loop-at l =
    fold rest_pinned l.live (drop l.at l.cache.pages) ≡ fold rest_pinned l.initial.live (drop l.before l.cache.pages)
