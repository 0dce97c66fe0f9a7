-- A task that is aborted among threads, and the replies behind it.
use Rattle.std.specs.Prelude.{◌≡◌, ◌==◌, ◌∷◌, [], ℕ, List, Ok, Some, if◌then◌else◌, slice_index, true}
use Rattle.ufs_spec.specs.Dies.{DieState}
use Rattle.ufs_spec.specs.Exchanges.{Task, no_number, number_of, task_of}
use Rattle.ufs_spec.specs.Machine.{is_aborted, service}
use Rattle.ufs_spec.specs.Messages.{Spells, is_among}
use Rattle.ufs_spec.specs.Refusals.{State}
use Rattle.ufs_spec.specs.declared.messages.Message.TheVariants.{TaskRequest}
use Rattle.lanes.specs.declared.view.Entry.{Entry}
use Rattle.lanes.specs.declared.view.Made.{Made}
use Rattle.lanes.specs.declared.view.Made.TheVariants as made
use Rattle.lanes.specs.declared.view.Opening.{Opening}
use Rattle.lanes.specs.Legal.{Legal}
use Rattle.lanes.specs.Rule.{IsStart}

-- the device takes a request of task management that means the open task of this tag, and aborts it (JESD220, 10.7.6)
pub record Aborts (s : State) (tag : ℕ) (step : Made) : Type 0 where
  pub task : Task
  pub is_open : task_of tag s.tasks ≡ Some task
  -- the request: its LUN, its own tag, its function and the tag that it means
  pub lun : ℕ
  pub own : ℕ
  pub function : ℕ
  pub meant : ℕ
  pub bytes : List ℕ
  pub spelled : Spells (TaskRequest lun own function meant) bytes
  pub taken : step ≡ made.Host bytes (Ok tt)
  -- it is answered 00h, complete, and the task is one that it aborts
  pub complete : service s lun function meant ≡ 0x00
  pub means_it : is_aborted lun function meant task ≡ true

-- wherever the steps lead that were made before, this one aborts the open task of this tag
abbrev pub AbortsBehind : {D : Type 0} → (D → DieState) → Opening D → List Entry → ℕ → Made → Type 0
AbortsBehind state opening before tag step =
    (start s : State) → IsStart state opening start → Legal start before s → Aborts s tag step

-- the number of the exchange to which a message belongs, read off its bytes: its tag, and 256 more if it is of task
-- management; a LINK EVENT belongs to none
abbrev pub number_read : List ℕ → ℕ
number_read bytes =
    if is_among (0x04 ∷ 0x24 ∷ []) (slice_index bytes 0) then number_of true (slice_index bytes 3)
    else if slice_index bytes 0 == 0x1F then no_number
    else slice_index bytes 3

-- the device takes a message of this number
abbrev pub IsTakenOf : ℕ → Made → Type 0
IsTakenOf number (made.Host bytes (Ok done)) = number_read bytes ≡ number
IsTakenOf number step = ⊥

-- the device hands out a reply of this number
abbrev pub IsReplyOf : ℕ → Made → Type 0
IsReplyOf number (made.Reply (Some bytes)) = number_read bytes ≡ number
IsReplyOf number step = ⊥
