use Rattle.recovery.proofs.Common.{AreRising, FoundPage, HasOther, Some, slice_get, true, ℕ, ◌<◌, ◌≡◌, ◌≤◌}
use Rattle.recovery.proofs.free.all_go.Given as goal

abbrev pub invariant-loop-index : goal.invariant-loop-index
invariant-loop-index l =
    AreRising (λ (e : FoundPage). e.tag.number) l.named →
    (i : ℕ) (e : FoundPage) → l.initial.index ≤ i → i < l.index → slice_get l.pages i ≡ Some e →
    slice_get l.needed i ≡ Some true → HasOther l.blocks l.named l.free e
