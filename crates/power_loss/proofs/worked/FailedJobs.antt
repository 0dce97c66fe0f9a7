-- In the worked life in which jobs fail: an erase that a die is given and that fails, and a program that fails.
use Rattle.power_loss.proofs.Common.{◌≡◌, ℕ, true, List, [], ◌∷◌, Some, refl, sym, ◌∙◌, subst, Vec, Array, Cell, Cells}
use Rattle.power_loss.proofs.Common.{Disk, Programming, WentWrong, at_place, page_of, MayBeLeft, Page, Place}
use Rattle.power_loss.proofs.MachineWords.{row, Done, Leads, Life, OfDone, OfTake, Take, observe, State, numbers_of}
use Rattle.power_loss.proofs.MachineWords.{Leftover, ValidState}
use Rattle.ufs_laws.proofs.new_dies.NewDeviceState.{Open}
use Rattle.ufs_laws.proofs.worked_run.RunStates.{writing}
use Rattle.ufs_laws.specs.Runs.{begins}
use Rattle.power_loss.specs.FailedWrites.{MayBeLeftBlock, erase_of}
use Rattle.power_loss.proofs.jobs.LawfulFailures.{Failure, erase_failure, failure_leads, program_failure}
use Rattle.power_loss.proofs.lives.EachEventKeeps.{many_events, one_event}
use Rattle.power_loss.proofs.die_pages.LeftoversLeaveOneArray.{one_left}
use Rattle.power_loss.proofs.stops.LeftoverLists.{one_apart}
use Rattle.power_loss.proofs.worked.FailingJobs.{EraseFails, failed_on, erasing_on, first_block, waiting}
use Rattle.power_loss.proofs.worked.LeftOfJobs.{block_lawful, page_lawful}
use Rattle.power_loss.proofs.worked.StoppedWrite.{one_page_left}
use Rattle.ufs_spec.specs.declared.events.Event.TheVariants as event
use Rattle.ufs_spec.specs.declared.events.Leftover.TheVariants as leftover
use Rattle.ufs_spec.specs.declared.events.Output.TheVariants as output

-- A die erases its first block, and that fails

-- the die is given the erase; it fails and leaves these pages
pub record Fallen (o : Open) (body : List ℕ) (die : ℕ) (array : Array) (d : Disk) (pages : Vec Page) : Type 0 where
  pub cells : Cells
  pub left : Array
  pub life : Life (waiting o body array d)
      (event.Take die ∷ event.Fail die (Some (leftover.Block die 0 pages)) ∷ [])
      (begins (erase_of die 0) ∷ output.Ended ∷ []) (waiting o body left (failed_on die d cells))
  pub valid : ValidState (waiting o body left (failed_on die d cells))

module _ (o : Open) (body : List ℕ) where
  pages_there : (array : Array) (d : Disk) → (numbers_of (waiting o body array d)).pages ≡ row.pages
  unfolding waiting writing
  pages_there array d = refl

  module _ (die : ℕ) (array : Array) (d : Disk) (pages : Vec Page) (h : EraseFails o body die d)
      (may : MayBeLeftBlock pages) (valid : ValidState (waiting o body array d)) where
    abbrev busy : State
    busy = waiting o body array (erasing_on die d)

    abbrev the_block : Leftover
    the_block = leftover.Block die 0 pages

    given : Leads (waiting o body array d) (event.Take die) (begins (erase_of die 0)) busy
    given = record {
      call = Take die;
      answer = OfTake (Some (erase_of die 0));
      is_call = refl;
      is_shown = refl;
      right = (h.gets array).right;
      next = sym (h.goes array);
    }

    failure : Failure busy die (erase_of die 0) the_block
    failure = erase_failure die (first_block die) the_block
        (one_event (waiting o body array d) busy (event.Take die) (begins (erase_of die 0)) valid given)
        (h.flies array) (refl, may.all_there ∙ sym (pages_there array (erasing_on die d)))
        (block_lawful busy die 0 pages (h.flies array) may.torn)

    fails : Leads busy (event.Fail die (Some the_block)) output.Ended
        (waiting o body failure.1 (failed_on die d failure.0))
    fails = subst (Leads busy (event.Fail die (Some the_block)) output.Ended) (h.fails array failure.1 failure.0)
        (failure_leads die {flight = erase_of die 0} {l = Some the_block} (WentWrong failure.0) failure.1
        (h.flies array) refl failure.2)

    pub falls : Fallen o body die array d pages
    falls =
        let lives : Life (waiting o body array d) (event.Take die ∷ event.Fail die (Some the_block) ∷ [])
        (begins (erase_of die 0) ∷ output.Ended ∷ []) (waiting o body failure.1 (failed_on die d failure.0)) =
        (busy, given, (waiting o body failure.1 (failed_on die d failure.0), fails, refl)) in
        record {
          cells = failure.0;
          left = failure.1;
          life = lives;
          valid = many_events (waiting o body array d) (waiting o body failure.1 (failed_on die d failure.0))
              (event.Take die ∷ event.Fail die (Some the_block) ∷ [])
              (begins (erase_of die 0) ∷ output.Ended ∷ []) valid lives;
        }

-- A program fails

module _ (x : State) (p : Place) (cell : Cell) (page : Page) (valid : ValidState x)
    (flies : x.translation.disk.flights p.die ≡ Some (Programming p cell))
    (may : MayBeLeft (x.array p) (page_of cell) page) where
  pub program_fails : Failure x p.die (Programming p cell) (leftover.Page p page)
  program_fails =
      program_failure p.die p cell (leftover.Page p page) valid flies refl (page_lawful x p cell page flies may)

  pub leads_so : Leads x (event.Fail p.die (Some (leftover.Page p page))) output.Ended
      (observe x (Done p.die (WentWrong program_fails.0) program_fails.1) (OfDone true))
  leads_so = failure_leads p.die {flight = Programming p cell} {l = Some (leftover.Page p page)}
      (WentWrong program_fails.0) program_fails.1 flies refl program_fails.2

  pub left_so : program_fails.1 ≡ at_place x.array p page
  left_so = one_left x.array (leftover.Page p page ∷ []) (one_apart (leftover.Page p page)) program_fails.1
      (at_place x.array p page) program_fails.2.1 (one_page_left x p cell page flies may)
