use Rattle.recovery.proofs.Common.{AreTags, Bucket, HasIndex, IsBucket, Some, length, slice_get, suc, ℕ, ◌+◌, ◌≡◌}
use Rattle.recovery.specs.Buckets.{HasRoom}
use Rattle.recovery.proofs.kept.groups_behind.Given as goal

abbrev pub invariant-loop-page : goal.invariant-loop-page
invariant-loop-page l = record {
  count : length l.groups.buckets.items ≡ l.count;
  room : HasRoom l.groups;
  each : AreTags l.pages → (k : ℕ) (b : Bucket) → slice_get l.groups.buckets.items k ≡ Some b →
      IsBucket l.pages l.page-index (suc (l.fn.from + k)) b (HasIndex l.groups.seen k);
}
