-- Worked lives of a new device that is told to write one block with FUA: it is stopped while the block's page is
-- programmed, or while another die erases a block too.
use Rattle.std.specs.Prelude.{◌≡◌, ◌⊎◌, ℕ, Bool, List, [], ◌∷◌, ◌++◌, take, Some}
use Rattle.std.specs.Global.{Vec}
use Rattle.std.specs.List.{All}
use Rattle.ufs_laws.specs.GapRows.{write_page}
use Rattle.ufs_laws.specs.Runs.{IsNew, begins, data_program, pending_events, pending_outputs, row}
use Rattle.ufs_laws.specs.Runs.{write_events, write_outputs}
use Rattle.ufs_spec.specs.Cells.{Array}
use Rattle.ufs_spec.specs.Commands.{Write}
use Rattle.ufs_spec.specs.Dies.{blank_page}
use Rattle.ufs_spec.specs.Disk.{Erasing, Flight, Spot, page_of}
use Rattle.ufs_spec.specs.Lives.{IsOpened, Life, Runs, Stops, bad_in, held}
use Rattle.ufs_spec.specs.Pages.{IsCheckRight}
use Rattle.ufs_spec.specs.Plain.{after, block_at, zero, zero_block}
use Rattle.ufs_spec.specs.Refusals.{State}
use Rattle.ufs_spec.specs.declared.events.Event.TheVariants as event
use Rattle.ufs_spec.specs.declared.events.Leftover.{Leftover}
use Rattle.ufs_spec.specs.declared.events.Output.TheVariants as output
use Rattle.ufs_spec.specs.declared.flash.Page.{Page}

-- the page of the block
abbrev pub written_page : List ℕ → Page
written_page body = page_of (write_page 1 0xFF 0 body)

-- with these leftovers the stop leaves that array, and the next life has the first k accepted commands, so that
-- it finds this block
pub record IsStoppedWrite (body : List ℕ) (write block : Vec ℕ) (lefts : Vec Leftover) (left : Array → Array) (k : ℕ)
    (found : List ℕ) : Type 0 where
  -- the life of a new device up to the stop
  pub start : State
  pub is_new : IsNew start
  pub now : State
  pub life : Life start (write_events write block) (write_outputs body) now
  pub flies : now.translation.disk.flights 0 ≡ Some (data_program body)
  -- one command is accepted and none is acknowledged as durable
  pub base : now.base ≡ zero row
  pub accepted : now.accepted ≡ Write 0 0xFF (body ∷ []) ∷ []
  pub none_held : held now ≡ 0
  -- the stop, and the device that opens after it
  pub stops : Stops now lefts.items (left now.array)
  pub next : State
  pub opened : IsOpened row (left now.array) (bad_in now) next
  pub runs : Runs row start (write_events write block ++ event.Stop lefts ∷ [])
      (write_outputs body ++ output.Stopped ∷ []) next
  -- each device that opens over what the stop left has the same base
  pub prefix : (other : State) (bad : Spot → Bool) → IsOpened row (left now.array) bad other →
      other.base ≡ after now.base (take k now.accepted)
  pub block_found : block_at 0 0xFF next.base ≡ found

-- the erase of a block of another die, which waits for the same page
abbrev pub other_erase : Flight
other_erase = Erasing (record { die = 1; block = 0 })

-- each of the pages is blank or torn
abbrev pub AreTorn : List Page → Type 0
AreTorn pages = All (λ page. (page ≡ blank_page) ⊎ (IsCheckRight page → ⊥)) pages

-- two dies are busy at the stop: one programs the block's page and the other erases a block
pub record IsTornTwice (body : List ℕ) (write block : Vec ℕ) (lefts : Vec Leftover) : Type 0 where
  pub start : State
  pub is_new : IsNew start
  pub now : State
  pub life : Life start (pending_events write block ++ event.Take 1 ∷ event.Take 0 ∷ [])
      (pending_outputs ++ begins other_erase ∷ begins (data_program body) ∷ []) now
  pub programs : now.translation.disk.flights 0 ≡ Some (data_program body)
  pub erases : now.translation.disk.flights 1 ≡ Some other_erase
  pub base : now.base ≡ zero row
  pub accepted : now.accepted ≡ Write 0 0xFF (body ∷ []) ∷ []
  pub none_held : held now ≡ 0
  -- the stop, and the device that opens after it: none of the accepted commands is kept
  pub left : Array
  pub stops : Stops now lefts.items left
  pub next : State
  pub opened : IsOpened row left (bad_in now) next
  pub runs : Runs row start ((pending_events write block ++ event.Take 1 ∷ event.Take 0 ∷ []) ++ event.Stop lefts ∷ [])
      ((pending_outputs ++ begins other_erase ∷ begins (data_program body) ∷ []) ++ output.Stopped ∷ []) next
  pub prefix : (other : State) (bad : Spot → Bool) → IsOpened row left bad other →
      other.base ≡ after now.base (take 0 now.accepted)
  pub block_found : block_at 0 0xFF next.base ≡ zero_block
