-- Worked lives of a new device that is told to write one block with FUA, in which jobs fail: the program of the block's
-- page, and on each other die the erase of a block for it. That are as many as the device has spare blocks. The page
-- is programmed once more, which ends well or fails too.
use Rattle.std.specs.Prelude.{◌≡◌, ℕ, true, false, List, [], ◌∷◌, ◌++◌, length, Some, None}
use Rattle.std.specs.Global.{Vec}
use Rattle.ufs_laws.specs.GapRows.{write_page}
use Rattle.ufs_laws.specs.Runs.{Gets, IsNew, begins, good, good_message, place_of, row, told, write_events}
use Rattle.ufs_laws.specs.Runs.{write_outputs}
use Rattle.ufs_spec.specs.Cdbs.{fixed_sense}
use Rattle.ufs_spec.specs.Commands.{Write}
use Rattle.ufs_spec.specs.Dies.{blank_page}
use Rattle.ufs_spec.specs.Disk.{Erasing, Flight, Programming, at_place, spot_of}
use Rattle.ufs_spec.specs.Exchanges.{sense}
use Rattle.ufs_spec.specs.Lives.{Leads, Life, bad_in, held}
use Rattle.ufs_spec.specs.Machine.{Reply, OfReply}
use Rattle.ufs_spec.specs.Pages.{MayBeLeft}
use Rattle.ufs_spec.specs.Refusals.{State, locked}
use Rattle.ufs_spec.specs.Translation.{count_blocks, is_bad}
use Rattle.ufs_spec.specs.declared.events.Event.{Event}
use Rattle.ufs_spec.specs.declared.events.Event.TheVariants as event
use Rattle.ufs_spec.specs.declared.events.Leftover.TheVariants as leftover
use Rattle.ufs_spec.specs.declared.events.Output.{Output}
use Rattle.ufs_spec.specs.declared.events.Output.TheVariants as output
use Rattle.ufs_spec.specs.declared.flash.Page.{Page}
use Rattle.ufs_spec.specs.declared.flash.Place.{Place}
use Rattle.ufs_spec.specs.declared.messages.Message.TheVariants as message
use Rattle.ufs_spec.specs.declared.messages.Message.{Message}
use Rattle.power_loss.specs.StoppedWrites.{AreTorn, written_page}

-- As many jobs fail as there are spare blocks

-- what the four jobs leave: the program of the block's page, and on dies 1, 2 and 3 the erase of the first block
pub record Failures : Type 0 where
  pub page : Page
  pub one : Vec Page
  pub two : Vec Page
  pub three : Vec Page

-- an erase may leave these pages of a block that was blank
pub record MayBeLeftBlock (pages : Vec Page) : Type 0 where
  pub all_there : length pages.items ≡ row.pages
  pub torn : AreTorn pages.items

-- each of the four jobs may leave what it leaves
pub record MayBeLeftSo (body : List ℕ) (f : Failures) : Type 0 where
  pub page : MayBeLeft blank_page (written_page body) f.page
  pub one : MayBeLeftBlock f.one
  pub two : MayBeLeftBlock f.two
  pub three : MayBeLeftBlock f.three

-- the erase of this block of a die
abbrev pub erase_of : ℕ → ℕ → Flight
erase_of die block = Erasing (record { die = die; block = block })

-- the program fails; then each other die is given the erase of its first block, which fails too
abbrev pub failing_events : Failures → List Event
failing_events f =
    event.Fail 0 (Some (leftover.Page (place_of 1) f.page))
    ∷ event.Take 1 ∷ event.Fail 1 (Some (leftover.Block 1 0 f.one))
    ∷ event.Take 2 ∷ event.Fail 2 (Some (leftover.Block 2 0 f.two))
    ∷ event.Take 3 ∷ event.Fail 3 (Some (leftover.Block 3 0 f.three))
    ∷ []

-- what they show
abbrev pub failing_outputs : List Output
failing_outputs =
    output.Ended
    ∷ begins (erase_of 1 0) ∷ output.Ended
    ∷ begins (erase_of 2 0) ∷ output.Ended
    ∷ begins (erase_of 3 0) ∷ output.Ended
    ∷ []

-- The page is programmed once more

-- the first page of the second block of die 0
abbrev pub other_place : Place
other_place = record { die = 0; block = 1; page = 0 }

-- the block's page is programmed there, as it was before
abbrev pub program_again : List ℕ → Flight
program_again body = Programming other_place (write_page 1 0xFF 0 body)

-- no reply is due; that block is erased, and the page is programmed into it
abbrev pub again_events : List Event
again_events = event.Reply ∷ event.Take 0 ∷ event.Finish 0 ∷ event.Take 0 ∷ []

-- what they show
abbrev pub again_outputs : List ℕ → List Output
again_outputs body =
    output.Reply None ∷ begins (erase_of 0 1) ∷ output.Ended ∷ begins (program_again body) ∷ []

-- the four jobs fail: the device is not locked, nothing is answered, and the page is on its way into another block
pub record IsSparedWrite (body : List ℕ) (write block : Vec ℕ) (f : Failures) : Type 0 where
  -- the life of a new device up to the last of the four failures
  pub start : State
  pub is_new : IsNew start
  pub spared : State
  pub fails : Life start (write_events write block ++ failing_events f) (write_outputs body ++ failing_outputs) spared
  -- as many blocks are bad as there are spare ones
  pub bad_blocks : count_blocks spared.translation is_bad ≡ row.spare
  pub is_open : locked spared ≡ false
  pub answered : Gets spared Reply (OfReply None)
  -- the page is programmed once more
  pub before : State
  pub goes_on : Life spared again_events (again_outputs body) before
  pub flies : before.translation.disk.flights 0 ≡ Some (program_again body)
  -- its command stays accepted, and is not acknowledged yet
  pub accepted : before.accepted ≡ Write 0 0xFF (body ∷ []) ∷ []
  pub none_held : held before ≡ 0

-- That ends well

-- the WRITE is answered GOOD, and its command is held
pub record IsMovedWrite (body : List ℕ) (write block : Vec ℕ) (f : Failures) : Type 0 where
  pub spared : IsSparedWrite body write block f
  pub durable : State
  pub ends : Leads spared.before (event.Finish 0) output.Ended durable
  pub array : durable.array ≡ at_place spared.before.array other_place (written_page body)
  -- the WRITE is answered GOOD, and by nothing else
  pub answered : Gets durable Reply (good 7)
  pub now : State
  pub told_so : Leads durable event.Reply (told (good_message 7)) now
  -- its command is held; no task is open, and the device is not locked
  pub accepted : now.accepted ≡ Write 0 0xFF (body ∷ []) ∷ []
  pub is_held : held now ≡ 1
  pub none_open : now.tasks ≡ []
  pub is_open : locked now ≡ false

-- Or it fails too

-- CHECK CONDITION with MEDIUM ERROR, write error (3/0C), and no residual
abbrev pub write_failed : Message
write_failed = message.Response 0x00 0 7 0x01 0x02 0 (Some (0 ∷ 0x12 ∷ fixed_sense (sense 0x03 0x0C)))

-- that program fails as well and leaves this page: the WRITE is answered with a write error
pub record IsFailedWrite (body : List ℕ) (write block : Vec ℕ) (f : Failures) (last : Page) : Type 0 where
  pub spared : IsSparedWrite body write block f
  -- more blocks are bad than there are spare ones, and the device is locked
  pub failed : State
  pub fails : Leads spared.before (event.Fail 0 (Some (leftover.Page other_place last))) output.Ended failed
  pub array : failed.array ≡ at_place spared.before.array other_place last
  pub bad : bad_in failed (spot_of other_place) ≡ true
  pub is_locked : locked failed ≡ true
  -- the WRITE is answered with a write error, and by nothing else
  pub answered : Gets failed Reply (OfReply (Some write_failed))
  pub now : State
  pub told_so : Leads failed event.Reply (told write_failed) now
  -- its command stays accepted and is not acknowledged; no task is open
  pub accepted : now.accepted ≡ Write 0 0xFF (body ∷ []) ∷ []
  pub none_held : held now ≡ 0
  pub none_open : now.tasks ≡ []
  pub still_locked : locked now ≡ true
