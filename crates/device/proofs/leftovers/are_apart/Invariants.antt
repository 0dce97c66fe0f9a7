use Rattle.device.proofs.Common.{Leftover, die_of, slice_index_or, ℕ, ◌<◌, ◌≢◌}
use Rattle.device.proofs.leftovers.are_apart.Given as goal

abbrev pub invariant-loop-index : goal.invariant-loop-index
invariant-loop-index l = (i j : ℕ) (d : Leftover) → i < j → j < l.index →
    die_of (slice_index_or l.leftovers i d) ≢ die_of (slice_index_or l.leftovers j d)
