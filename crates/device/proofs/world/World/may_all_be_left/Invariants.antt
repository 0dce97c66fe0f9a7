use Rattle.device.proofs.Common.{Leftover, MayDieLeave, die_of, slice_index_or, ℕ, ◌<◌}
use Rattle.device.proofs.world.World.may_all_be_left.Given as goal

abbrev pub invariant-loop-left : goal.invariant-loop-left
invariant-loop-left l = (k : ℕ) (d : Leftover) → k < l.left-index →
    MayDieLeave l.self (die_of (slice_index_or l.lefts k d)) (slice_index_or l.lefts k d)
