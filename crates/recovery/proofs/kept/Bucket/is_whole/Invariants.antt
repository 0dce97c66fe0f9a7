use Rattle.recovery.proofs.Common.{HasIndex, ℕ, ◌<◌}
use Rattle.recovery.proofs.kept.Bucket.is_whole.Given as goal

abbrev pub invariant-loop-index : goal.invariant-loop-index
invariant-loop-index l = (x : ℕ) → x < l.index → HasIndex l.seen l.at x
