-- A worked life in which as many blocks are bad as there are spare ones: the block's page is programmed elsewhere, and
-- the write is answered GOOD; or that fails too, and it is answered with a write error.
use Rattle.power_loss.proofs.Common.{◌≡◌, ◌++◌, ℕ, true, false, List, [], ◌∷◌, Some, None, if◌then◌else◌, refl, sym, ap}
use Rattle.power_loss.proofs.Common.{◌∙◌, subst, Vec, Array, Cell, Cells, Disk, MayBeLeft, Page, WentWell, WentWrong}
use Rattle.power_loss.proofs.Common.{at_place, erased, job_begun, spot_of}
use Rattle.power_loss.proofs.MachineWords.{write_page, Answering, Done, Gets, IsNew, Leads, Life, OfDone, OfReply}
use Rattle.power_loss.proofs.MachineWords.{OfTake, Reply, State, Take, ValidState, Write, bad_in, blank_page, held, in_block}
use Rattle.power_loss.proofs.MachineWords.{locked, observe, row, write_error, write_events, write_outputs}
use Rattle.ufs_laws.proofs.answers.OnlyAnswers.{flight_gets, reply_gets, waiting_gets}
use Rattle.ufs_laws.proofs.lives.LivesJoined.{join}
use Rattle.ufs_laws.proofs.new_dies.NewDeviceState.{Open}
use Rattle.ufs_laws.proofs.worked_run.RunStates.{awaiting, write_task, writing}
use Rattle.ufs_laws.specs.Runs.{begins, good, good_message, told}
use Rattle.ufs_spec.specs.Lives.{IsFinish}
use Rattle.ufs_spec.specs.Moves.{ending_fits}
use Rattle.ufs_spec.specs.Translation.{count_blocks, is_bad}
use Rattle.power_loss.specs.FailedWrites.{Failures, IsFailedWrite, IsMovedWrite, IsSparedWrite, again_events}
use Rattle.power_loss.specs.FailedWrites.{again_outputs, erase_of, failing_events, failing_outputs, other_place}
use Rattle.power_loss.specs.FailedWrites.{program_again, write_failed}
use Rattle.power_loss.specs.StoppedWrites.{written_page}
use Rattle.power_loss.proofs.worked.FailedJobs.{leads_so, left_so, program_fails}
use Rattle.power_loss.proofs.jobs.LawfulFailures.{Failure}
use Rattle.power_loss.proofs.worked.FailingJobs.{failed_on, page_failed, waiting}
use Rattle.power_loss.proofs.worked.StoppedLives.{valid_after}
use Rattle.ufs_spec.specs.declared.events.Event.TheVariants as event
use Rattle.ufs_spec.specs.declared.events.Leftover.TheVariants as leftover
use Rattle.ufs_spec.specs.declared.events.Output.TheVariants as output

-- dies of which four blocks are bad
abbrev pub four_bad : List ℕ → (c c1 c2 c3 : Cells) → Disk
four_bad body c c1 c2 c3 = failed_on 3 (failed_on 2 (failed_on 1 (page_failed body c) c1) c2) c3

module _ (o : Open) (body : List ℕ) (c c1 c2 c3 : Cells) (array : Array) where
  -- What is computed

  abbrev pub spared : State
  spared = waiting o body array (four_bad body c c1 c2 c3)

  count_bad : count_blocks spared.translation is_bad ≡ row.spare
  unfolding waiting writing
  count_bad = refl

  not_locked : locked spared ≡ false
  unfolding waiting writing
  not_locked = refl

  none_due : Gets spared Reply (OfReply None)
  unfolding waiting writing
  none_due = waiting_gets spared awaiting refl refl refl

  none_told : observe spared Reply (OfReply None) ≡ spared
  unfolding waiting writing
  none_told = refl

  -- the second block of die 0 is erased for the page

  abbrev erasing_again : Disk
  erasing_again = job_begun (four_bad body c c1 c2 c3) 0 (erase_of 0 1)

  abbrev erased_again : Disk
  erased_again = erased erasing_again (spot_of other_place)

  -- what is erased is blank
  abbrev blank_there : Array
  blank_there = λ p. if in_block row (spot_of other_place) p then blank_page else array p

  abbrev erasing : State
  erasing = waiting o body array erasing_again

  abbrev blank : State
  blank = waiting o body blank_there erased_again

  erase_given : Gets spared (Take 0) (OfTake (Some (erase_of 0 1)))
  unfolding waiting writing
  erase_given = flight_gets spared 0 (erase_of 0 1) (refl, (refl, refl)) refl refl

  erase_begins : observe spared (Take 0) (OfTake (Some (erase_of 0 1))) ≡ erasing
  unfolding waiting writing
  erase_begins = refl

  erase_flies : erasing.translation.disk.flights 0 ≡ Some (erase_of 0 1)
  unfolding waiting writing
  erase_flies = refl

  erase_ends : observe erasing (Done 0 WentWell erasing.array) (OfDone true) ≡ blank
  unfolding waiting writing
  erase_ends = refl

  -- and the page is programmed into it

  abbrev pub before : State
  before = waiting o body blank_there (job_begun erased_again 0 (program_again body))

  program_given : Gets blank (Take 0) (OfTake (Some (program_again body)))
  unfolding waiting writing
  program_given = flight_gets blank 0 (program_again body) (refl, (refl, refl)) refl refl

  program_begins : observe blank (Take 0) (OfTake (Some (program_again body))) ≡ before
  unfolding waiting writing
  program_begins = refl

  program_flies : before.translation.disk.flights 0 ≡ Some (program_again body)
  unfolding waiting writing
  program_flies = refl

  blank_before : before.array other_place ≡ blank_page
  unfolding waiting writing
  blank_before = refl

  still_accepted : before.accepted ≡ Write 0 0xFF (body ∷ []) ∷ []
  unfolding waiting writing
  still_accepted = refl

  none_held : held before ≡ 0
  unfolding waiting writing
  none_held = refl

  -- that ends well

  moved : State
  moved = observe before (Done 0 WentWell before.array) (OfDone true)

  moved_told : State
  moved_told = observe moved Reply (good 7)

  moved_array : moved.array ≡ at_place before.array other_place (written_page body)
  unfolding moved waiting writing
  moved_array = refl

  moved_answers : Gets moved Reply (good 7)
  unfolding moved waiting writing
  moved_answers = reply_gets moved awaiting (good_message 7) refl refl refl

  moved_accepted : moved_told.accepted ≡ Write 0 0xFF (body ∷ []) ∷ []
  unfolding moved_told moved waiting writing
  moved_accepted = refl

  moved_held : held moved_told ≡ 1
  unfolding moved_told moved waiting writing
  moved_held = refl

  moved_tasks : moved_told.tasks ≡ []
  unfolding moved_told moved waiting writing
  moved_tasks = refl

  moved_open : locked moved_told ≡ false
  unfolding moved_told moved waiting writing
  moved_open = refl

  -- or it fails too

  module _ (cells : Cells) (left : Array) where
    failed : State
    failed = observe before (Done 0 (WentWrong cells) left) (OfDone true)

    failed_told : State
    failed_told = observe failed Reply (OfReply (Some write_failed))

    failed_array : failed.array ≡ left
    unfolding failed waiting writing
    failed_array = refl

    failed_bad : bad_in failed (spot_of other_place) ≡ true
    unfolding failed waiting writing
    failed_bad = refl

    failed_locked : locked failed ≡ true
    unfolding failed waiting writing
    failed_locked = refl

    failed_answers : Gets failed Reply (OfReply (Some write_failed))
    unfolding failed waiting writing
    failed_answers = reply_gets failed (write_task (Answering write_error 4096)) write_failed refl refl refl

    failed_accepted : failed_told.accepted ≡ Write 0 0xFF (body ∷ []) ∷ []
    unfolding failed_told failed waiting writing
    failed_accepted = refl

    failed_unheld : held failed_told ≡ 0
    unfolding failed_told failed waiting writing
    failed_unheld = refl

    failed_tasks : failed_told.tasks ≡ []
    unfolding failed_told failed waiting writing
    failed_tasks = refl

    still_locked : locked failed_told ≡ true
    unfolding failed_told failed waiting writing
    still_locked = refl

  -- The life goes on

  none_leads : Leads spared event.Reply (output.Reply None) spared
  none_leads = record {
    call = Reply;
    answer = OfReply None;
    is_call = refl;
    is_shown = refl;
    right = none_due.right;
    next = sym none_told;
  }

  erase_leads : Leads spared (event.Take 0) (begins (erase_of 0 1)) erasing
  erase_leads = record {
    call = Take 0;
    answer = OfTake (Some (erase_of 0 1));
    is_call = refl;
    is_shown = refl;
    right = erase_given.right;
    next = sym erase_begins;
  }

  blank_leads : Leads erasing (event.Finish 0) output.Ended blank
  blank_leads = record {
    call = Done 0 WentWell erasing.array;
    answer = OfDone true;
    is_call = subst (λ f. IsFinish erasing 0 f (Done 0 WentWell erasing.array)) (sym erase_flies) refl;
    is_shown = refl;
    right = sym (ap (λ f. ending_fits f WentWell) erase_flies);
    next = sym erase_ends;
  }

  program_leads : Leads blank (event.Take 0) (begins (program_again body)) before
  program_leads = record {
    call = Take 0;
    answer = OfTake (Some (program_again body));
    is_call = refl;
    is_shown = refl;
    right = program_given.right;
    next = sym program_begins;
  }

  goes_on : Life spared again_events (again_outputs body) before
  goes_on = (spared, none_leads, (erasing, erase_leads, (blank, blank_leads, (before, program_leads, refl))))

  moved_leads : Leads before (event.Finish 0) output.Ended moved
  unfolding moved
  moved_leads = record {
    call = Done 0 WentWell before.array;
    answer = OfDone true;
    is_call = subst (λ f. IsFinish before 0 f (Done 0 WentWell before.array)) (sym program_flies) refl;
    is_shown = refl;
    right = sym (ap (λ f. ending_fits f WentWell) program_flies);
    next = refl;
  }

  moved_replies : Leads moved event.Reply (told (good_message 7)) moved_told
  unfolding moved_told
  moved_replies = record {
    call = Reply;
    answer = good 7;
    is_call = refl;
    is_shown = refl;
    right = moved_answers.right;
    next = refl;
  }

  -- All of it, behind a life in which four jobs fail
  module _ (write block : Vec ℕ) (f : Failures) (s : State) (n : IsNew s) (fails : Life s
      (write_events write block ++ failing_events f) (write_outputs body ++ failing_outputs) spared) where
    spared_write : IsSparedWrite body write block f
    spared_write = record {
      start = s;
      is_new = n;
      spared = spared;
      fails = fails;
      bad_blocks = count_bad;
      is_open = not_locked;
      answered = none_due;
      before = before;
      goes_on = goes_on;
      flies = program_flies;
      accepted = still_accepted;
      none_held = none_held;
    }

    pub moved_write : IsMovedWrite body write block f
    unfolding spared_write
    moved_write = record {
      spared = spared_write;
      durable = moved;
      ends = moved_leads;
      array = moved_array;
      answered = moved_answers;
      now = moved_told;
      told_so = moved_replies;
      accepted = moved_accepted;
      is_held = moved_held;
      none_open = moved_tasks;
      is_open = moved_open;
    }

    valid : ValidState before
    valid = valid_after s n before ((write_events write block ++ failing_events f) ++ again_events)
        ((write_outputs body ++ failing_outputs) ++ again_outputs body)
        (join s (write_events write block ++ failing_events f) again_events (write_outputs body ++ failing_outputs)
        (again_outputs body) spared before fails goes_on)

    module _ (last : Page) (may : MayBeLeft blank_page (written_page body) last) where
      may_now : MayBeLeft (before.array other_place) (written_page body) last
      may_now = subst (λ old. MayBeLeft old (written_page body) last) (sym blank_before) may

      abbrev intended : Cell
      intended = write_page 1 0xFF 0 body

      failure : Failure before 0 (program_again body) (leftover.Page other_place last)
      failure = program_fails before other_place intended last valid program_flies may_now

      fails_so : Leads before (event.Fail 0 (Some (leftover.Page other_place last))) output.Ended
          (failed failure.0 failure.1)
      unfolding failure failed
      fails_so = leads_so before other_place intended last valid program_flies may_now

      left_is : failure.1 ≡ at_place before.array other_place last
      unfolding failure
      left_is = left_so before other_place intended last valid program_flies may_now

      error_told : Leads (failed failure.0 failure.1) event.Reply (told write_failed)
          (failed_told failure.0 failure.1)
      unfolding failed_told
      error_told = record {
        call = Reply;
        answer = OfReply (Some write_failed);
        is_call = refl;
        is_shown = refl;
        right = (failed_answers failure.0 failure.1).right;
        next = refl;
      }

      pub failed_write : IsFailedWrite body write block f last
      unfolding spared_write
      failed_write = record {
        spared = spared_write;
        failed = failed failure.0 failure.1;
        fails = fails_so;
        array = failed_array failure.0 failure.1 ∙ left_is;
        bad = failed_bad failure.0 failure.1;
        is_locked = failed_locked failure.0 failure.1;
        answered = failed_answers failure.0 failure.1;
        now = failed_told failure.0 failure.1;
        told_so = error_told;
        accepted = failed_accepted failure.0 failure.1;
        none_held = failed_unheld failure.0 failure.1;
        none_open = failed_tasks failure.0 failure.1;
        still_locked = still_locked failure.0 failure.1;
      }
