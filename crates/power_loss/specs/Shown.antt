-- What is looked up shows a content; what is kept for a READ shows the blocks that it sends, and what is kept for a
-- request for RPMB data the pages that it reads.
use Rattle.std.specs.Prelude.{◌≡◌, ℕ, List, Some, slice_get}
use Rattle.std.specs.List.{All}
use Rattle.ufs_spec.specs.Exchanges.{Answering, Awaiting, Comparing, Deed, Gathering, ReadBlock, ReadingArea, Sending}
use Rattle.ufs_spec.specs.Exchanges.{SendingBytes, Task, task_of}
use Rattle.ufs_spec.specs.Ledger.{Entry, Ledger, entry_of}
use Rattle.ufs_spec.specs.Plain.{zero_block}
use Rattle.ufs_spec.specs.Refusals.{State}
use Rattle.ufs_spec.specs.Translation.{Pin}
use Rattle.ufs_spec.specs.declared.flash.Key.{Key}
use Rattle.ufs_spec.specs.declared.layer.Looked.{Looked}
use Rattle.ufs_spec.specs.declared.layer.Looked.TheVariants.{InSlot, OnPage, Unwritten}
use Rattle.ufs_spec.specs.declared.layer.Name.{Name}

-- the page of the name is of the key and has this content
pub record IsPageOf (l : Ledger) (k : Key) (name : Name) (body : List ℕ) : Type 0 where
  pub entry : Entry
  pub is : entry_of l name ≡ Some entry
  pub key : entry.item.key ≡ k
  pub body_is : entry.item.body ≡ body

-- what was looked up of the key shows this content: zeros if nothing was ever written, else that of the page of its
-- name
abbrev pub IsShown : Ledger → Key → Looked → List ℕ → Type 0
IsShown l k Unwritten body = body ≡ zero_block
IsShown l k (InSlot name) body = IsPageOf l k name body
IsShown l k (OnPage name place) body = IsPageOf l k name body

-- what was looked up shows the block at an index
abbrev pub ShowsAt : Ledger → Looked → ℕ → List ReadBlock → Type 0
ShowsAt l looked index blocks =
    (block : ReadBlock) → slice_get blocks index ≡ Some block → (k : Key) × IsShown l k looked block.body

-- what is kept for one block of a task that sends or compares blocks shows the block, and what is kept for one page of
-- a task that reads the RPMB area shows the page. For a task that gathers data nothing is kept
abbrev pub ShowsBlock : Ledger → Looked → ℕ → Deed → Type 0
ShowsBlock l looked index (Sending blocks sent) = ShowsAt l looked index blocks
ShowsBlock l looked index (ReadingArea pages) = ShowsAt l looked index pages
ShowsBlock l looked index (Comparing blocks compared asked) = ShowsAt l looked index blocks
ShowsBlock l looked index (Gathering purpose gathered asked) = ⊥
ShowsBlock l looked index (SendingBytes bytes) = Unit {0}
ShowsBlock l looked index (Awaiting commands) = Unit {0}
ShowsBlock l looked index (Answering status carried) = Unit {0}

-- it is kept for an open task, and shows the block that the task sends, or the page that it reads
pub record ShowsRight (l : Ledger) (tasks : List Task) (pin : Pin) : Type 0 where
  pub task : Task
  pub there : task_of pin.tag tasks ≡ Some task
  pub shows : ShowsBlock l pin.looked pin.index task.deed

-- each pin is kept for an open task, and shows the block that the task sends, or the page that it reads
abbrev pub ShowsReads : State → Type 0
ShowsReads s = All (ShowsRight s.translation.ledger s.tasks) s.translation.pins
