use Rattle.device.proofs.Common.{IsOfDie, Leftover, die_of, slice_index_or, ℕ, ◌<◌}
use Rattle.device.proofs.world.World.are_left.Given as goal

abbrev pub invariant-loop-left : goal.invariant-loop-left
invariant-loop-left l = (k : ℕ) (d : Leftover) → k < l.left-index →
    IsOfDie l.self (die_of (slice_index_or l.lefts k d)) (slice_index_or l.lefts k d)
