use Rattle.recovery.proofs.Common.{DieState, IsOfSize, slice_index_or, ℕ, ◌<◌}
use Rattle.std.specs.Prelude.{map}
use Rattle.recovery.proofs.sizes.are_of_size.Given as goal

abbrev pub invariant-loop-die : goal.invariant-loop-die
invariant-loop-die g l = (k : ℕ) (d : DieState) → k < l.die-index →
    IsOfSize l.blocks l.pages (slice_index_or (map g.D.Die.state l.dies) k d)
