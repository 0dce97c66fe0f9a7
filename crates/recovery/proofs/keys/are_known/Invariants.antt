use Rattle.recovery.proofs.Common.{FoundPage, IsKey, Some, key_of, shape_of_numbers, slice_get, ℕ, ◌<◌, ◌≡◌}
use Rattle.recovery.proofs.keys.are_known.Given as goal

abbrev pub invariant-loop-page : goal.invariant-loop-page
invariant-loop-page l = (i : ℕ) (e : FoundPage) → i < l.page-index → slice_get l.pages i ≡ Some e →
    IsKey (shape_of_numbers l.numbers) (key_of e.tag)
