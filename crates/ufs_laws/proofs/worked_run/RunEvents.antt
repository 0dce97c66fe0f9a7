-- The run of a new device, event by event: each answer is right and no other one is, and the state behind it is known.
use Rattle.ufs_laws.proofs.Common.{Answer, Answering, Awaiting, Call, Done, Flight, ForTask, ForWrite, Gets, Good, Host}
use Rattle.ufs_laws.proofs.Common.{IsNew, List, MarkPage, None, OfDone, OfReply, OfTake, OfTurn, Ok, Reply, Some, State}
use Rattle.ufs_laws.proofs.Common.{Take, Turn, Unread, WasRead, [], accepts, ap, arith, data_program, data_read}
use Rattle.ufs_laws.proofs.Common.{ending_fits, erased, false, fills, first_mark, heard, held, inl, inr, is_asked_of}
use Rattle.ufs_laws.proofs.Common.{length, lock_applied, mended, observe, programmed, refl, result_of, row, set_deed}
use Rattle.ufs_laws.proofs.Common.{shape_of, shape_of_numbers, subst, sym, take_all, the_data, the_read, the_write}
use Rattle.ufs_laws.proofs.Common.{true, want_at, ℕ, ◌∙◌, ◌∷◌, ◌≡◌}
use Rattle.ufs_laws.proofs.lives.EventsLead.{well_fits}
use Rattle.ufs_laws.proofs.new_dies.NewDeviceState.{Open, new_state, open_in, state_is}
use Rattle.ufs_laws.proofs.answers.OnlyAnswers.{finish_gets, flight_gets, host_gets, none_gets, nothing_gets, read_gets}
use Rattle.ufs_laws.proofs.answers.OnlyAnswers.{reply_gets, step_gets, waiting_gets}
use Rattle.ufs_laws.proofs.worked_run.RunStates.{answered, asked, awaiting, behind_write, block_written, erased_array}
use Rattle.ufs_laws.proofs.worked_run.RunStates.{erased_first, erasing, erasing_disk, first_spot, gathered_all}
use Rattle.ufs_laws.proofs.worked_run.RunStates.{gathering, gathering_data, gathering_state, in_flight, marked}
use Rattle.ufs_laws.proofs.worked_run.RunStates.{marked_array, marked_with, marking, marking_disk, none_again, ordered}
use Rattle.ufs_laws.proofs.worked_run.RunStates.{pending, pending_with, programming, read_task, reading, reading_block}
use Rattle.ufs_laws.proofs.worked_run.RunStates.{reading_disk, reading_with, sending_block, sent, told, was_read}
use Rattle.ufs_laws.proofs.worked_run.RunStates.{write_task, writing, writing_disk, written, written_array}
use Rattle.ufs_laws.proofs.worked_run.RunStates.{written_ledger}
use Rattle.ufs_laws.specs.GapRows.{write_page}
use Rattle.ufs_laws.specs.Runs.{data_in, erase, good, mark_program, place_of, ready, state_1, state_10, state_11}
use Rattle.ufs_laws.specs.Runs.{state_12, state_13, state_14, state_15, state_16, state_17, state_18, state_19, state_2}
use Rattle.ufs_laws.specs.Runs.{state_20, state_21, state_22, state_23, state_24, state_3, state_4, state_5, state_6}
use Rattle.ufs_laws.specs.Runs.{state_7, state_8, state_9}
use Rattle.ufs_spec.specs.Cdbs.{cdb_bytes}
use Rattle.ufs_spec.specs.Commands as command
use Rattle.ufs_spec.specs.Disk.{ended}
use Rattle.ufs_spec.specs.Exchanges.{data_message}
use Rattle.ufs_spec.specs.Lives.{ended_well}
use Rattle.ufs_spec.specs.Machine.{asked_fault}
use Rattle.ufs_spec.specs.declared.messages.Message.TheVariants as message
use Rattle.ufs_spec.specs.declared.scsi.Cdb.TheVariants as cdb

-- the call gets this answer and no other, and leads to the state t, which is the known state u
pub record Happens (s : State) (call : Call) (answer : Answer) (t u : State) : Type 0 where
  pub right : Gets s call answer
  pub next : t ≡ observe s call answer
  pub is : t ≡ u

-- what happens in a known state happens in the same state
happens : {s x t u : State} {call : Call} {answer : Answer} → s ≡ x → Gets x call answer → t ≡ observe s call answer →
    observe x call answer ≡ u → Happens s call answer t u
happens {call = call} {answer = answer} same gets next goes = record {
  right = subst (λ y. Gets y call answer) (sym same) gets;
  next = next;
  is = next ∙ ap (λ y. observe y call answer) same ∙ goes;
}

-- the job of die 0 ends well
abbrev pub end_of : Flight → State → Call
end_of flight s = Done 0 (ended_well flight) s.array

pub record Ends (s : State) (flight : Flight) (t u : State) : Type 0 where
  pub flies : s.translation.disk.flights 0 ≡ Some flight
  pub goes : Happens s (end_of flight s) (OfDone true) t u

ends : {s x t u : State} {flight : Flight} → s ≡ x → x.translation.disk.flights 0 ≡ Some flight →
    t ≡ observe s (end_of flight s) (OfDone true) →
    observe x (end_of flight x) (OfDone true) ≡ u → Ends s flight t u
ends {x = x} {flight = flight} same flies next goes = record {
  flies = ap (λ (y : State). y.translation.disk.flights 0) same ∙ flies;
  goes = record {
    right = subst (λ y. Gets y (end_of flight y) (OfDone true)) (sym same)
        (finish_gets x 0 (ended_well flight) x.array true
        (sym (ap (λ o. ending_fits o (ended_well flight)) flies ∙ well_fits flight)));
    next = next;
    is = next ∙ ap (λ y. observe y (end_of flight y) (OfDone true)) same ∙ goes;
  };
}

module _ (s : State) (n : IsNew s) where
  abbrev begun : Open
  begun = open_in s

  abbrev behind_erase : Open
  behind_erase = erased_array begun

  abbrev behind_mark : Open
  behind_mark = marked_array behind_erase

  -- The first mark

  pub event_1 : Happens s Turn (OfTurn true) (state_1 s) (ordered begun)
  unfolding state_1 ordered
  event_1 = happens (state_is s n) (step_gets (new_state begun) true refl) refl refl

  pub event_2 : Happens (state_1 s) Turn (OfTurn false) (state_2 s) (ordered begun)
  unfolding state_2 ordered
  event_2 = happens event_1.is (step_gets (ordered begun) false refl) refl refl

  pub event_3 : Happens (state_2 s) (Take 0) (OfTake (Some erase)) (state_3 s) (erasing begun)
  unfolding state_3 ordered erasing
  event_3 = happens event_2.is (flight_gets (ordered begun) 0 erase (refl, (refl, refl)) refl refl) refl refl

  pub event_4 : Happens (state_3 s) (Take 0) (OfTake None) (state_4 s) (erasing begun)
  unfolding state_4 erasing
  event_4 = happens event_3.is (none_gets (erasing begun) 0 (inl refl)) refl refl

  pub event_5 : Ends (state_4 s) erase (state_5 s) (erased_first behind_erase)
  unfolding state_5 erasing erased_first erased_array
  event_5 =
      ends event_4.is refl refl
      (ap (λ f. marking behind_erase (record (erased erasing_disk first_spot) { flights = f })) (none_again erase))

  pub event_6 : Happens (state_5 s) (Take 0) (OfTake (Some mark_program)) (state_6 s) (programming behind_erase)
  unfolding state_6 erased_first programming
  event_6 =
      happens event_5.goes.is (flight_gets (erased_first behind_erase) 0 mark_program (refl, (refl, refl)) refl refl)
      refl refl

  pub event_7 : Ends (state_6 s) mark_program (state_7 s) (marked behind_mark)
  unfolding state_7 programming marked marked_array
  event_7 =
      ends event_6.is refl refl
      (ap (λ f. marked_with behind_mark
      (record (programmed 64 marking_disk (place_of 0) (MarkPage (first_mark row))) { flights = f }))
      (none_again mark_program))

  pub is_mended : mended (state_7 s) ≡ true
  unfolding marked
  is_mended = ap mended event_7.goes.is

  pub idle_7 :
      Happens (state_7 s) (Take 0) (OfTake None) (observe (state_7 s) (Take 0) (OfTake None)) (marked behind_mark)
  unfolding marked
  idle_7 = happens event_7.goes.is (none_gets (marked behind_mark) 0 (inr (refl, refl))) refl refl

  pub event_8 : Happens (state_7 s) Turn (OfTurn false) (state_8 s) (marked behind_mark)
  unfolding state_8 marked
  event_8 = happens event_7.goes.is (step_gets (marked behind_mark) false refl) refl refl

  -- A block is written

  pub event_9 : Happens (state_8 s) (Host the_write) heard (state_9 s) (gathering behind_mark)
  unfolding state_9 marked gathering
  event_9 =
      happens event_8.is
      (host_gets (marked behind_mark) (message.Command 0x20 0 7 4096 (cdb_bytes (cdb.Write 0xFF 1 true)))
      (Some (cdb.Write 0xFF 1 true)) (Ok tt) refl)
      refl refl

  pub event_10 : Happens (state_9 s) Reply ready (state_10 s) (asked behind_mark)
  unfolding state_10 gathering asked
  event_10 =
      happens event_9.is
      (reply_gets (gathering behind_mark) (write_task (gathering_data false)) (message.ReadyToTransfer 0 7 0 4096) refl
      refl refl) refl refl

  pub event_11 : Happens (state_10 s) Reply (OfReply None) (state_11 s) (asked behind_mark)
  unfolding state_11 asked
  event_11 =
      happens event_10.is (waiting_gets (asked behind_mark) (write_task (gathering_data true)) refl refl refl) refl refl

  kept_shape : shape_of behind_mark.base ≡ shape_of_numbers row
  unfolding erased_array marked_array
  kept_shape = n.opened.stands.2.shape

  module _ (body : List ℕ) (long : length body ≡ 4096) where
    abbrev behind_data : Open
    behind_data = written_array behind_mark body

    written_shape : shape_of behind_data.base ≡ shape_of_numbers row
    unfolding written_array
    written_shape = kept_shape

    -- the data are all that were asked for, and the write of one block is accepted
    data_accepted : observe (asked behind_mark) (Host (the_data body)) heard ≡ pending behind_mark body
    unfolding asked pending
    data_accepted =
        let g = gathering_state behind_mark true in
        ap (λ (t : State). lock_applied (fills t))
        (gathered_all g (write_task (gathering_data true)) (ForWrite 0 0xFF 1 true) body (omega arith))
        ∙ (ap (λ b. lock_applied (fills (set_deed (accepts g (command.Write 0 0xFF (b ∷ [])) 1) 7 (Awaiting 1))))
        (take_all 4096 body (omega arith))
        ∙ ap (pending_with behind_mark body) (block_written behind_mark.base body kept_shape))

    pub event_12 : Happens (state_11 s) (Host (the_data body)) heard (state_12 s body) (pending behind_mark body)
    unfolding state_12 asked
    event_12 =
        happens event_11.is
        (host_gets (asked behind_mark) (message.DataOut 0 7 0 (record { items = body })) None (Ok tt)
        (ap (λ k. result_of (asked_fault (is_asked_of (Some (write_task (gathering_data true))) 0 0 k))) (sym long)))
        refl data_accepted

    pub event_13 : Happens (state_12 s body) Reply (OfReply None) (state_13 s body) (pending behind_mark body)
    unfolding state_13 pending
    event_13 = happens event_12.is (waiting_gets (pending behind_mark body) awaiting refl refl refl) refl refl

    pub event_14 :
        Happens (state_13 s body) (Take 0) (OfTake (Some (data_program body))) (state_14 s body)
        (writing behind_mark body)
    unfolding state_14 pending writing
    event_14 =
        happens event_13.is
        (flight_gets (pending behind_mark body) 0 (data_program body) (refl, (refl, refl)) refl refl) refl refl

    pub event_15 : Happens (state_14 s body) Reply (OfReply None) (state_15 s body) (writing behind_mark body)
    unfolding state_15 writing
    event_15 = happens event_14.is (waiting_gets (writing behind_mark body) awaiting refl refl refl) refl refl

    pub event_16 : Ends (state_15 s body) (data_program body) (state_16 s body) (written behind_data body)
    unfolding state_16 writing written written_array
    event_16 =
        ends event_15.is refl refl
        (ap (λ f. behind_write behind_data body
        (record (programmed 64 (writing_disk body) (place_of 1) (write_page 1 0xFF 0 body)) { flights = f })
        (written_ledger behind_data body 0) [] (awaiting ∷ []))
        (none_again (data_program body)))

    pub event_17 : Happens (state_16 s body) Reply (good 7) (state_17 s body) (told behind_data body)
    unfolding state_17 written told
    event_17 =
        happens event_16.goes.is
        (reply_gets (written behind_data body) awaiting (message.Response 0 0 7 0 0 0 None) refl refl refl) refl refl

    pub is_held : held (state_17 s body) ≡ 1
    unfolding told
    is_held = ap held event_17.is

    pub none_open : (state_17 s body).tasks ≡ []
    unfolding told
    none_open = ap (λ (t : State). t.tasks) event_17.is

    pub idle_17 :
        Happens (state_17 s body) (Take 0) (OfTake None) (observe (state_17 s body) (Take 0) (OfTake None))
        (told behind_data body)
    unfolding told
    idle_17 = happens event_17.is (none_gets (told behind_data body) 0 (inr (refl, refl))) refl refl

    -- It is read

    pub event_18 : Happens (state_17 s body) (Host the_read) heard (state_18 s body) (reading behind_data body)
    unfolding state_18 told reading
    event_18 =
        happens event_17.is
        (host_gets (told behind_data body) (message.Command 0x40 0 8 4096 (cdb_bytes (cdb.Read 0xFF 1)))
        (Some (cdb.Read 0xFF 1)) (Ok tt) refl)
        refl (ap (reading_block behind_data body) (block_written behind_data.base body written_shape))

    pub event_19 : Happens (state_18 s body) Reply (OfReply None) (state_19 s body) (reading behind_data body)
    unfolding state_19 reading
    event_19 =
        happens event_18.is
        (waiting_gets (reading behind_data body) (read_task (sending_block body Unread)) refl refl refl) refl refl

    pub event_20 :
        Happens (state_19 s body) (Take 0) (OfTake (Some data_read)) (state_20 s body) (in_flight behind_data body)
    unfolding state_20 reading in_flight
    event_20 =
        happens event_19.is (read_gets (reading behind_data body) 0 (want_at (ForTask 8 0) (place_of 1)) refl refl) refl
        refl

    pub event_21 : Ends (state_20 s body) data_read (state_21 s body) (was_read behind_data body)
    unfolding state_21 in_flight was_read
    event_21 =
        ends event_20.is refl refl
        (ap (λ f. reading_with behind_data body (record (ended (reading_disk body) 0) { flights = f }) false
        (sending_block body WasRead))
        (none_again data_read))

    pub idle_21 :
        Happens (state_21 s body) (Take 0) (OfTake None) (observe (state_21 s body) (Take 0) (OfTake None))
        (was_read behind_data body)
    unfolding was_read
    idle_21 = happens event_21.goes.is (none_gets (was_read behind_data body) 0 (inr (refl, refl))) refl refl

    pub event_22 : Happens (state_21 s body) Reply (data_in body) (state_22 s body) (sent behind_data body)
    unfolding state_22 was_read sent
    event_22 =
        happens event_21.goes.is
        (reply_gets (was_read behind_data body) (read_task (sending_block body WasRead))
        (message.DataIn 0 8 0 (record { items = body })) refl refl
        (ap (λ b. Some (data_message (read_task (sending_block body WasRead)) 0 b)) (take_all 4096 body (omega arith))))
        refl refl

    pub event_23 : Happens (state_22 s body) Reply (good 8) (state_23 s body) (answered behind_data body)
    unfolding state_23 sent answered
    event_23 =
        happens event_22.is (reply_gets (sent behind_data body) (read_task (Answering Good 4096))
        (message.Response 0 0 8 0 0 0 None) refl refl refl)
        refl refl

    pub event_24 : Happens (state_23 s body) Reply (OfReply None) (state_24 s body) (answered behind_data body)
    unfolding state_24 answered
    event_24 = happens event_23.is (nothing_gets (answered behind_data body) refl refl) refl refl

    -- What is known where the block waits, and where its program is in flight

    pub is_13 : state_13 s body ≡ pending behind_mark body
    is_13 = event_13.is

    pub is_15 : state_15 s body ≡ writing behind_mark body
    is_15 = event_15.is

    pub flies_15 : (state_15 s body).translation.disk.flights 0 ≡ Some (data_program body)
    flies_15 = event_16.flies
