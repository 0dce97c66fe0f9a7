use Rattle.write_cache.proofs.Common.{drop, is_named, position_from, take, ◌+◌, ◌≡◌}
use Rattle.write_cache.proofs.pages.place_among.Given as goal

abbrev pub invariant-loop-passed : goal.invariant-loop-passed
invariant-loop-passed l =
    position_from (is_named l.group.number l.index) l.first (take l.group.pages (drop l.first l.pages.items))
    ≡ position_from (is_named l.group.number l.index) (l.first + l.passed)
    (drop l.passed (take l.group.pages (drop l.first l.pages.items)))
