-- What a page and a block of the dies are drawn as (this profile).
use Rattle.std.specs.Prelude.{ℕ, zero, suc, ◌+◌, ◌==◌, ◌&&◌, nat_lt, not, Bool, true, false, if◌then◌else◌, List}
use Rattle.std.specs.Prelude.{Option, Some, None, length, count_by, map}
use Rattle.std.specs.List.{list_all}
use Rattle.ufs_spec.specs.Cells.{Cell, GroupPage, MarkPage, Nothing, same_place}
use Rattle.ufs_spec.specs.Dies.{DieState, is_bad_block, pages_of, page_at, ready_page}
use Rattle.ufs_spec.specs.Keys.{below}
use Rattle.ufs_spec.specs.declared.flash.Page.{Page}
use Rattle.ufs_spec.specs.declared.flash.Place.{Place}
use Rattle.die_map.specs.Surveys.{address_of, written_at}
use Rattle.die_map.specs.declared.survey.BlockState.{BlockState}
use Rattle.die_map.specs.declared.survey.BlockState.TheVariants as block
use Rattle.die_map.specs.declared.survey.PageState.{PageState}
use Rattle.die_map.specs.declared.survey.PageState.TheVariants as page
use Rattle.die_map.specs.declared.survey.FoundMark.{FoundMark}
use Rattle.die_map.specs.declared.survey.Survey.{Survey}
use Rattle.die_map.specs.declared.survey.Written.{Written}

-- ## Pages

-- all bytes are FFh
abbrev pub are_erased : List ℕ → Bool
are_erased bytes = list_all (λ byte. byte == 0xFF) bytes

-- the page is as an erase leaves it: all its bytes are FFh, also the spare ones
abbrev pub is_free : Page → Bool
is_free p = are_erased p.spare && are_erased p.body

-- the mark that was found is at this place
abbrev pub is_mark_at : Option FoundMark → Place → Bool
is_mark_at None p = false
is_mark_at (Some f) p = same_place f.place p

-- the page that was found is at this place
abbrev pub is_page_at : Option Written → Place → Bool
is_page_at None p = false
is_page_at (Some w) p = same_place w.place p

-- what a page is that is not free: the mark that the survey found and the pages that it found are the newest mark and
-- live, and each other mark and page of a group is an older mark and dead
abbrev pub cell_state_of : Survey → Place → Cell → PageState
cell_state_of s p Nothing = page.Torn
cell_state_of s p (MarkPage m) = if is_mark_at s.mark p then page.Mark m.number else page.OldMark m.number
cell_state_of s p (GroupPage tag body) =
    if is_page_at (written_at s.newest (address_of tag)) p then page.Live tag else page.Dead tag

-- what a page is, and which cell it is
abbrev pub page_state_of : Survey → Place → Page → Cell → PageState
page_state_of s place p c = if is_free p then page.Free else cell_state_of s place c

-- ## Blocks

-- how many of the first pages of a block there are up to the last one that is not free
abbrev pub written_below : DieState → ℕ → ℕ → ℕ
written_below d b zero = 0
written_below d b (suc k) = if is_free (page_at d b k) then written_below d b k else k + 1

-- how many pages of the block there are up to the last one that is not free
abbrev pub written_in : DieState → ℕ → ℕ
written_in d b = written_below d b (length (pages_of d b))

-- the die would take this page next, if it would take one at all
abbrev pub is_next : Option ℕ → ℕ → Bool
is_next None k = false
is_next (Some next) k = next == k

-- the page may be programmed next
abbrev pub may_be_next : DieState → ℕ → ℕ → Bool
may_be_next d b k =
    nat_lt b (length d.blocks) && nat_lt k (length (pages_of d b)) && not (is_bad_block d b)
    && is_next (ready_page d b) k

-- a block that is not bad is filling if the page after the last written one may be programmed. Else it is free if no
-- page is written, and closed if one is
abbrev pub block_state_of : DieState → ℕ → BlockState
block_state_of d b =
    if is_bad_block d b then block.Bad
    else if may_be_next d b (written_in d b) then block.Filling
    else if written_in d b == 0 then block.Free
    else block.Closed

-- drawn as free: no page of the block is written, and none may be before its next erase
abbrev pub is_free_block : BlockState → Bool
is_free_block block.Free = true
is_free_block _ = false

-- drawn as filling: the page behind the last written one may be programmed
abbrev pub is_filling_block : BlockState → Bool
is_filling_block block.Filling = true
is_filling_block _ = false

-- drawn as closed: pages of the block are written, and no other may be
abbrev pub is_closed_block : BlockState → Bool
is_closed_block block.Closed = true
is_closed_block _ = false

-- drawn as bad: the die says so, whatever its pages are
abbrev pub is_bad_state : BlockState → Bool
is_bad_state block.Bad = true
is_bad_state _ = false

-- what each of the first blocks is, in order
abbrev pub states_below : DieState → ℕ → List BlockState
states_below d k = map (block_state_of d) (below k)

-- what each block of the die is, in order
abbrev pub states_of : DieState → List BlockState
states_of d = states_below d (length d.blocks)

-- how many of them are so
abbrev pub counted : (BlockState → Bool) → DieState → ℕ
counted test d = count_by test (states_of d)
