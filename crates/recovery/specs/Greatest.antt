-- The greatest numbers that the pages of a list say.
use Rattle.std.specs.Prelude.{◌≡◌, ℕ, ◌≤◌, List, Option, Some, None, slice_get}
use Rattle.ufs_spec.specs.declared.flash.Fence.{Fence}
use Rattle.recovery.specs.declared.pages.FoundPage.{FoundPage}

-- the last number of the fence; 0 without a fence
abbrev pub fence_end : Option Fence → ℕ
fence_end None = 0
fence_end (Some f) = f.last

-- no page of the list says a greater number
abbrev pub NumbersWithin : List FoundPage → ℕ → Type 0
NumbersWithin pages limit = (i : ℕ) (e : FoundPage) → slice_get pages i ≡ Some e → e.tag.number ≤ limit

-- no page of the list records a greater frontier
abbrev pub FrontiersWithin : List FoundPage → ℕ → Type 0
FrontiersWithin pages limit = (i : ℕ) (e : FoundPage) → slice_get pages i ≡ Some e → e.tag.frontier ≤ limit
