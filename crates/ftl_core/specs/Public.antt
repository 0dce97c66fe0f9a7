-- All words of this crate by which a crate above may speak of the layer: the value that is kept and what it describes,
-- what the calls tell, and which blocks lie in the slots that readers have claimed. How it is kept is no part of it.
use Rattle.std.specs.Prelude.{◌≡◌, ℕ, ◌==◌, if◌then◌else◌, List, slice_set}
use Rattle.ftl_core.specs.Moves.{claims_for}
pub use Rattle.ftl_core.specs.Moves.{has_number, opened}
use Rattle.ftl_core.specs.Tells.{claims_of_blocks}
pub use Rattle.ftl_core.specs.Core.{Core}
pub use Rattle.ftl_core.specs.Describes.{Describes, IsTaken, IsTold, given}
pub use Rattle.ftl_core.specs.Ended.{EndedNow, ended_now}
pub use Rattle.ftl_core.specs.Tells.{IsAwaited, IsGroupBrought, IsItemBrought, IsReadOf, PinsDiffer}
pub use Rattle.ftl_core.specs.Tells.{group_of_blocks, is_page_wanted, items_behind}
pub use Rattle.ftl_core.specs.Tells.{keeps_area_of, keeps_for, keeps_of, key_behind, looked_of}

-- the reader has claimed a slot for each of these blocks, in which the block lies, in the order of their indexes
abbrev pub AreClaimedBy : Core → ℕ → List (List ℕ) → Type 0
AreClaimedBy c reader blocks = claims_for c reader ≡ claims_of_blocks reader blocks

-- by reader, the blocks in the slots that it has claimed: zeros where a block did not come yet
abbrev pub Claims : Type 0
Claims = ℕ → List (List ℕ)

-- each reader has claimed slots for these blocks of its
abbrev pub AreClaimed : Core → Claims → Type 0
AreClaimed c claims = (reader : ℕ) → AreClaimedBy c reader (claims reader)

-- the reader has claimed slots for these blocks, and every other what it had claimed
abbrev pub with_claimed : Claims → ℕ → List (List ℕ) → Claims
with_claimed claims reader blocks other = if other == reader then blocks else claims other

-- the block lies in the slot of its index, if the reader has claimed one
abbrev pub with_block : Claims → ℕ → ℕ → List ℕ → Claims
with_block claims reader index block = with_claimed claims reader (slice_set (claims reader) index block)
