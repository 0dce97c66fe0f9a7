-- Flash dies, each seen by itself: what a die holds, what it may be asked to do, and what each ending of a
-- job makes of it (this profile).
use Rattle.std.specs.Prelude.{◌≡◌, ℕ, ◌+◌, ◌<◌, ◌≤◌, Bool, true, false, List, [], Option, Some, None, length, replicate}
use Rattle.std.specs.Prelude.{slice_index_or, slice_set}
use Rattle.std.specs.List.{All}
use Rattle.ufs_spec.specs.Pages.{MayBeLeft}
use Rattle.ufs_spec.specs.declared.flash.Page.{Page}
use Rattle.ufs_spec.specs.declared.flash.Job.{Job}
use Rattle.ufs_spec.specs.declared.flash.Job.TheVariants as job
use Rattle.ufs_spec.specs.declared.flash.Outcome.{Outcome}
use Rattle.ufs_spec.specs.declared.flash.Outcome.TheVariants as outcome

-- what a die holds, block by block: its pages; the next page that may be programmed, or none before an erase that
-- finished in this power cycle; and whether the block is bad
pub record DieState : Type 0 where
  pub blocks : List (List Page)
  pub ready : List (Option ℕ)
  pub bad : List Bool

-- a page after an erase: all its bytes are FFh
unfoldable pub blank_page : Page
blank_page = record { body = replicate 4096 255; spare = replicate 96 255 }

-- What stands where

-- the pages of a block; none outside the die
abbrev pub pages_of : DieState → ℕ → List Page
pages_of state block = slice_index_or state.blocks block []

-- the page there; a blank one outside the die
abbrev pub page_at : DieState → ℕ → ℕ → Page
page_at state block page = slice_index_or (pages_of state block) page blank_page

-- the page of the block that may be programmed next, since a block is programmed in the order of
-- its pages; none before an erase
abbrev pub ready_page : DieState → ℕ → Option ℕ
ready_page state block = slice_index_or state.ready block None

-- whether the block is bad; outside the die none is
abbrev pub is_bad_block : DieState → ℕ → Bool
is_bad_block state block = slice_index_or state.bad block false

-- the die has so many blocks, each of so many pages
abbrev pub IsOfSize : ℕ → ℕ → DieState → Type 0
IsOfSize blocks pages state =
    (length state.blocks ≡ blocks)
    × All (λ block. length block ≡ pages) state.blocks
    × (length state.ready ≡ blocks)
    × (length state.bad ≡ blocks)

-- What may be asked

-- the page lies on the die
abbrev pub LiesOnDie : DieState → ℕ → ℕ → Type 0
LiesOnDie state block page = (block < length state.blocks) × (page < length (pages_of state block))

-- the page may be programmed: its block is not bad, and it is the block's next page since
-- an erase in this power cycle
abbrev pub CanProgram : DieState → ℕ → ℕ → Type 0
CanProgram state block page =
    LiesOnDie state block page × (is_bad_block state block ≡ false) × (ready_page state block ≡ Some page)

-- the block may be erased: it is there and not bad
abbrev pub CanErase : DieState → ℕ → Type 0
CanErase state block = (block < length state.blocks) × (is_bad_block state block ≡ false)

-- the job may be asked of the die, whichever die it names; the pages of a bad block may still be read
abbrev pub CanDo : DieState → Job → Type 0
CanDo state (job.Read place) = LiesOnDie state place.block place.page
CanDo state (job.Program place page) = CanProgram state place.block place.page
CanDo state (job.Erase die block) = CanErase state block

-- What becomes of a die

-- the block has these pages; all else stays
abbrev pub with_block : DieState → ℕ → List Page → DieState
with_block state block pages = record state { blocks = slice_set state.blocks block pages }

-- the page has this content; all else stays
abbrev pub with_page : DieState → ℕ → ℕ → Page → DieState
with_page state block page content = with_block state block (slice_set (pages_of state block) page content)

-- the block is bad, and none of its pages may be programmed; all else stays
abbrev pub with_bad : DieState → ℕ → DieState
with_bad state block =
    record state { ready = slice_set state.ready block None; bad = slice_set state.bad block true }

-- after a finished program the page has its content, and the page after it may be programmed next
abbrev pub die_programmed : DieState → ℕ → ℕ → Page → DieState
die_programmed state block page content =
    record (with_page state block page content) { ready = slice_set state.ready block (Some (page + 1)) }

-- after a finished erase the block's pages are blank, and its first page may be programmed next
abbrev pub die_erased : DieState → ℕ → DieState
die_erased state block =
    record (with_block state block (replicate (length (pages_of state block)) blank_page)) {
      ready = slice_set state.ready block (Some 0);
    }

-- a failed program touches only its page, which then holds what may be left of it; the block is bad
abbrev pub IsFailedProgram : DieState → ℕ → ℕ → Page → DieState → Type 0
IsFailedProgram before block page intended after =
    (left : Page)
    × MayBeLeft (page_at before block page) intended left
    × (after ≡ with_bad (with_page before block page left) block)

-- a failed erase touches only the pages of its block, each of which then holds what may be left
-- of it; the block is bad
abbrev pub IsFailedErase : DieState → ℕ → DieState → Type 0
IsFailedErase before block after =
    (left : List Page)
    × (length left ≡ length (pages_of before block))
    × ((page : ℕ) → page < length left →
    MayBeLeft (page_at before block page) blank_page (slice_index_or left page blank_page))
    × (after ≡ with_bad (with_block before block left) block)

-- the die after a finished job; a read changes nothing
abbrev pub after_job : DieState → Job → DieState
after_job state (job.Read place) = state
after_job state (job.Program place page) = die_programmed state place.block place.page page
after_job state (job.Erase die block) = die_erased state block

-- how a finished job is told: a read gives the page that is there
abbrev pub outcome_of : DieState → Job → Outcome
outcome_of state (job.Read place) = outcome.Read (page_at state place.block place.page)
outcome_of state (job.Program place page) = outcome.Done
outcome_of state (job.Erase die block) = outcome.Done

-- how a job ended and what became of the die, while its count of failures went from the first number to
-- the second. The count rises if the job failed; it may rise if the job ended well, since a die may count
-- what it tried again by itself
abbrev pub Did : ℕ → ℕ → DieState → Job → Outcome → DieState → Type 0
Did failed now before (job.Read place) (outcome.Read page) after =
    (page ≡ page_at before place.block place.page) × (after ≡ before) × (failed ≤ now)
Did failed now before (job.Read place) outcome.ReadFailed after = (after ≡ before) × (failed < now)
Did failed now before (job.Program place page) outcome.Done after =
    (after ≡ die_programmed before place.block place.page page) × (failed ≤ now)
Did failed now before (job.Program place page) outcome.Failed after =
    IsFailedProgram before place.block place.page page after × (failed < now)
Did failed now before (job.Erase die block) outcome.Done after = (after ≡ die_erased before block) × (failed ≤ now)
Did failed now before (job.Erase die block) outcome.Failed after = IsFailedErase before block after × (failed < now)
Did failed now before _ _ after = ⊥

-- the end of a power cycle, as at a stop: no page may be programmed before an erase; all else stays
abbrev pub power_cycle_ended : DieState → DieState
power_cycle_ended state = record state { ready = replicate (length state.ready) None }

-- a new die: so many blocks of so many blank pages, none of which may be programmed before
-- an erase, and no bad block
abbrev pub new_die : ℕ → ℕ → DieState
new_die blocks pages = record {
  blocks = replicate blocks (replicate pages blank_page);
  ready = replicate blocks None;
  bad = replicate blocks false;
}

-- the die is a new one of this size
abbrev pub IsNewDie : ℕ → ℕ → DieState → Type 0
IsNewDie blocks pages state = state ≡ new_die blocks pages
