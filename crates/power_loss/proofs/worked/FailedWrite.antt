-- A write of one block whose program fails, and beside it as many jobs as there are spare blocks.
use Rattle.power_loss.proofs.Common.{◌≡◌, ◌++◌, ℕ, List, [], ◌∷◌, length, Some, refl, sym, ◌∙◌, subst, Vec, Cell, Disk}
use Rattle.power_loss.proofs.Common.{MayBeLeft, Page, page_of}
use Rattle.power_loss.proofs.MachineWords.{write_page, IsNew, data_program, place_of, state_15, the_data, the_write}
use Rattle.power_loss.proofs.MachineWords.{write_events, write_outputs, IsHeard, Leads, Life, State, ValidState, Event}
use Rattle.power_loss.proofs.MachineWords.{Output, blank_page}
use Rattle.ufs_laws.proofs.lives.LivesJoined.{join}
use Rattle.ufs_laws.proofs.new_dies.NewDeviceState.{Open, open_in}
use Rattle.ufs_laws.proofs.worked_run.RunEvents.{is_15}
use Rattle.ufs_laws.proofs.worked_run.RunLife.{write_life}
use Rattle.ufs_laws.proofs.worked_run.RunStates.{erased_array, marked_array, writing, writing_disk}
use Rattle.ufs_laws.specs.Runs.{begins}
use Rattle.power_loss.specs.FailedWrites.{Failures, IsFailedWrite, IsMovedWrite, MayBeLeftSo, erase_of, failing_events}
use Rattle.power_loss.specs.FailedWrites.{failing_outputs}
use Rattle.power_loss.specs.StoppedWrites.{written_page}
use Rattle.power_loss.proofs.jobs.LawfulFailures.{Failure}
use Rattle.power_loss.proofs.lives.EachEventKeeps.{one_event}
use Rattle.power_loss.proofs.worked.FailingJobs.{begins_so, erase_1, erase_2, erase_3, failed_on, page_failed}
use Rattle.power_loss.proofs.worked.FailingJobs.{page_fails, waiting}
use Rattle.power_loss.proofs.worked.FailedJobs.{Fallen, falls, leads_so, program_fails}
use Rattle.power_loss.proofs.worked.MovedPage as moved
use Rattle.power_loss.proofs.worked.StoppedLives.{valid_after}
use Rattle.ufs_spec.specs.declared.events.Event.TheVariants as event
use Rattle.ufs_spec.specs.declared.events.Leftover.TheVariants as leftover
use Rattle.ufs_spec.specs.declared.events.Output.TheVariants as output

module _ (body : List ℕ) (long : length body ≡ 4096) (write block : Vec ℕ) (w : IsHeard write.items the_write)
    (b : IsHeard block.items (the_data body)) (s : State) (n : IsNew s) (f : Failures) (may : MayBeLeftSo body f) where
  o : Open
  o = marked_array (erased_array (open_in s))

  -- up to the program

  abbrev programs : State
  programs = waiting o body o.array (writing_disk body)

  is : state_15 s body ≡ programs
  unfolding o
  is = is_15 s n body long ∙ begins_so o body

  lived : Life s (write_events write block) (write_outputs body) programs
  lived = subst (Life s (write_events write block) (write_outputs body)) is (write_life s n body long write block w b)

  valid : ValidState programs
  valid = valid_after s n programs (write_events write block) (write_outputs body) lived

  flies : programs.translation.disk.flights 0 ≡ Some (data_program body)
  unfolding waiting writing
  flies = refl

  blank_now : programs.array (place_of 1) ≡ blank_page
  unfolding waiting writing o marked_array erased_array
  blank_now = refl

  -- the program fails

  abbrev intended : Cell
  intended = write_page 1 0xFF 0 body

  page_may : MayBeLeft (programs.array (place_of 1)) (page_of intended) f.page
  page_may = subst (λ old. MayBeLeft old (page_of intended) f.page) (sym blank_now) may.page

  failure : Failure programs 0 (data_program body) (leftover.Page (place_of 1) f.page)
  failure = program_fails programs (place_of 1) intended f.page valid flies page_may

  abbrev behind_failure : State
  behind_failure = waiting o body failure.1 (page_failed body failure.0)

  leads : Leads programs (event.Fail 0 (Some (leftover.Page (place_of 1) f.page))) output.Ended behind_failure
  unfolding failure
  leads = subst (Leads programs (event.Fail 0 (Some (leftover.Page (place_of 1) f.page))) output.Ended)
      (page_fails o body o.array failure.1 failure.0)
      (leads_so programs (place_of 1) intended f.page valid flies page_may)

  -- and three erases

  first : Fallen o body 1 failure.1 (page_failed body failure.0) f.one
  first = falls o body 1 failure.1 (page_failed body failure.0) f.one (erase_1 o body failure.0) may.one
      (one_event programs behind_failure (event.Fail 0 (Some (leftover.Page (place_of 1) f.page))) output.Ended valid
      leads)

  abbrev two_bad : Disk
  two_bad = failed_on 1 (page_failed body failure.0) first.cells

  second : Fallen o body 2 first.left two_bad f.two
  second = falls o body 2 first.left two_bad f.two (erase_2 o body failure.0 first.cells) may.two first.valid

  abbrev three_bad : Disk
  three_bad = failed_on 2 two_bad second.cells

  third : Fallen o body 3 second.left three_bad f.three
  third = falls o body 3 second.left three_bad f.three (erase_3 o body failure.0 first.cells second.cells)
      may.three second.valid

  abbrev four_bad : Disk
  four_bad = failed_on 3 three_bad third.cells

  abbrev spared : State
  spared = waiting o body third.left four_bad

  -- the three erases, one after another

  abbrev falls_on : ℕ → Vec Page → List Event
  falls_on die pages = event.Take die ∷ event.Fail die (Some (leftover.Block die 0 pages)) ∷ []

  abbrev shown_on : ℕ → List Output
  shown_on die = begins (erase_of die 0) ∷ output.Ended ∷ []

  last_two : Life (waiting o body first.left two_bad) (falls_on 2 f.two ++ falls_on 3 f.three)
      (shown_on 2 ++ shown_on 3) spared
  last_two = join (waiting o body first.left two_bad) (falls_on 2 f.two) (falls_on 3 f.three) (shown_on 2) (shown_on 3)
      (waiting o body second.left three_bad) spared second.life third.life

  erases : Life behind_failure (falls_on 1 f.one ++ falls_on 2 f.two ++ falls_on 3 f.three)
      (shown_on 1 ++ shown_on 2 ++ shown_on 3) spared
  erases = join behind_failure (falls_on 1 f.one) (falls_on 2 f.two ++ falls_on 3 f.three) (shown_on 1)
      (shown_on 2 ++ shown_on 3) (waiting o body first.left two_bad) spared first.life last_two

  fails : Life s (write_events write block ++ failing_events f) (write_outputs body ++ failing_outputs) spared
  fails = join s (write_events write block) (failing_events f) (write_outputs body) failing_outputs programs spared
      lived (behind_failure, leads, erases)

  pub moved_write : IsMovedWrite body write block f
  moved_write = moved.moved_write o body failure.0 first.cells second.cells third.cells third.left write block f s n
      fails

  pub failed_write : (last : Page) → MayBeLeft blank_page (written_page body) last →
      IsFailedWrite body write block f last
  failed_write = moved.failed_write o body failure.0 first.cells second.cells third.cells third.left write block f s n
      fails
