use Rattle.recovery.proofs.Common.{FoundPage, Some, slice_get, ℕ, ◌<◌, ◌≡◌, ◌≤◌}
use Rattle.recovery.specs.Frees.{IsKeptCopy}
use Rattle.recovery.proofs.free.has_other.Given as goal

abbrev pub invariant-loop-index : goal.invariant-loop-index
invariant-loop-index l =
    (i : ℕ) (q : FoundPage) → l.initial.index ≤ i → i < l.index → slice_get l.named i ≡ Some q →
    IsKeptCopy l.blocks l.free q l.page → ⊥
