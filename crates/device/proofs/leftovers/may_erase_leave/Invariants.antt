use Rattle.device.proofs.Common.{MayBeLeft, blank_page, length, page_at, slice_index_or, ℕ, ◌<◌}
use Rattle.device.proofs.leftovers.may_erase_leave.Given as goal

abbrev pub invariant-loop-index : goal.invariant-loop-index
invariant-loop-index l = (i : ℕ) → i < l.index → i < length l.pages →
    MayBeLeft (page_at l.die l.block i) blank_page (slice_index_or l.pages i blank_page)
