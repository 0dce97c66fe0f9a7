use Rattle.std.proofs.Common.{◌≡◌, ◌++◌, map, take, drop}
use Rattle.task_set.specs.Shorts.{short_locked}
use Rattle.task_set.proofs.set.lock_shorts.Given as goal

abbrev pub invariant-loop-short : goal.invariant-loop-short
invariant-loop-short l =
    l.shorts ≡ map (short_locked l.frontier) (take l.short-index l.initial.shorts) ++ drop l.short-index l.initial.shorts
