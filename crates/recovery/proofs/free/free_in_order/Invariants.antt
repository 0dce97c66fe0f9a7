use Rattle.recovery.proofs.Common.{Aged, AreByAge, AreRising, FoundPage, IsDecided, List, Some, block_of, length}
use Rattle.recovery.proofs.Common.{slice_get, true, ℕ, ◌<◌, ◌≡◌}
use Rattle.recovery.proofs.free.free_in_order.Given as goal

abbrev pub invariant-loop-aged : goal.invariant-loop-aged
invariant-loop-aged l = record {
  long : length l.free.items ≡ length l.held;
  gone : (k : ℕ) → slice_get l.free.items k ≡ Some true →
      (j : ℕ) × (b : Aged) × (j < l.aged-index) × (slice_get l.order j ≡ Some b) × (b.block ≡ k);
  decided : (latests : List ℕ) → AreByAge latests l.order → AreRising (block_of l.blocks) l.pages →
      AreRising (λ (e : FoundPage). e.tag.number) l.named →
      (j : ℕ) (b : Aged) → j < l.aged-index → slice_get l.order j ≡ Some b →
      IsDecided l.blocks latests l.held l.pages l.needed l.named l.free.items b.block;
}
