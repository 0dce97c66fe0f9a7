use Rattle.ftl_core.proofs.Common.{drop, fold, length, rest_unpinned, ◌≡◌}
use Rattle.std.proofs.Common.{◌-◌}
use Rattle.ftl_core.proofs.ftl.pin_counts.unpin_rests.Given as goal

abbrev pub invariant-loop-at : goal.invariant-loop-at
invariant-loop-at l =
    fold (rest_unpinned l.name) l.live (drop l.from l.cache.pages)
    ≡ fold (rest_unpinned l.name) l.initial.live l.cache.pages

abbrev pub decreases-loop-at : goal.decreases-loop-at
decreases-loop-at l = length l.cache.pages - l.from
