use Rattle.recovery.proofs.Common.{Bucket, HasIndex, Some, slice_get, ℕ, ◌<◌, ◌≡◌}
use Rattle.recovery.specs.Buckets.{IsWholeBucket}
use Rattle.recovery.proofs.kept.Groups.whole_count.Given as goal

abbrev pub invariant-loop-count : goal.invariant-loop-count
invariant-loop-count l =
    (k : ℕ) (b : Bucket) → k < l.count → slice_get l.self.buckets.items k ≡ Some b →
    IsWholeBucket b (HasIndex l.self.seen k)
