-- The run of a new device is a life: each event is a call, and each output shows its answer.
use Rattle.ufs_laws.proofs.Common.{Answer, Call, Event, Flight, IsCall, IsFinish, IsHeard, IsNew, Leads, Life, List}
use Rattle.ufs_laws.proofs.Common.{None, Ok, Output, State, [], data_program, data_read, length, refl, subst, sym}
use Rattle.ufs_laws.proofs.Common.{the_data, the_read, the_write, ℕ, ◌∷◌, ◌≡◌}
use Rattle.std.specs.Global.{Vec}
use Rattle.ufs_laws.proofs.lives.LivesJoined.{join}
use Rattle.ufs_laws.proofs.worked_run.RunEvents.{Happens, end_of, event_1, event_2, event_3, event_4, event_5, event_6}
use Rattle.ufs_laws.proofs.worked_run.RunEvents.{event_7, event_8, event_9, event_10, event_11, event_12, event_13}
use Rattle.ufs_laws.proofs.worked_run.RunEvents.{event_14, event_15, event_16, event_17, event_18, event_19, event_20}
use Rattle.ufs_laws.proofs.worked_run.RunEvents.{event_21, event_22, event_23, event_24, Ends}
use Rattle.ufs_laws.specs.Runs.{begins, data_message, good_message, pending_events, pending_outputs, run_events}
use Rattle.ufs_laws.specs.Runs.{run_outputs, state_1, state_10, state_11, state_12, state_13, state_14, state_15}
use Rattle.ufs_laws.specs.Runs.{state_16, state_17, state_18, state_19, state_2, state_20, state_21, state_22, state_23}
use Rattle.ufs_laws.specs.Runs.{state_24, state_3, state_4, state_5, state_6, state_7, state_8, state_9, told}
use Rattle.ufs_laws.specs.Runs.{write_events, write_outputs}
use Rattle.ufs_spec.specs.Lives.{IsShown}
use Rattle.ufs_spec.specs.declared.events.Event.TheVariants as event
use Rattle.ufs_spec.specs.declared.events.Output.TheVariants as output

-- an event leads on by its call and the answer to it
leads : {s t u : State} {e : Event} {o : Output} {call : Call} {answer : Answer} → Happens s call answer t u →
    IsCall s e call → IsShown answer o →
    Leads s e o t
leads {call = call} {answer = answer} h is shown =
    record { call = call; answer = answer; is_call = is; is_shown = shown; right = h.right.right; next = h.next }

-- a finished job of die 0
finishes : {s t u : State} {flight : Flight} → Ends s flight t u → Leads s (event.Finish 0) output.Ended t
finishes {s} {flight = flight} h =
    leads h.goes (subst (λ f. IsFinish s 0 f (end_of flight s)) (sym h.flies) refl) refl

module _ (s : State) (n : IsNew s) (body : List ℕ) (long : length body ≡ 4096) where
  -- up to the block that waits
  pub pending_life : (write block : Vec ℕ) → IsHeard write.items the_write → IsHeard block.items (the_data body) →
      Life s (pending_events write block) pending_outputs (state_13 s body)
  pending_life write block w b = (
    state_1 s,
    leads (event_1 s n) refl refl,
    (
      state_2 s,
      leads (event_2 s n) refl refl,
      (
        state_3 s,
        leads (event_3 s n) refl refl,
        (
          state_4 s,
          leads (event_4 s n) refl refl,
          (
            state_5 s,
            finishes (event_5 s n),
            (
              state_6 s,
              leads (event_6 s n) refl refl,
              (
                state_7 s,
                finishes (event_7 s n),
                (
                  state_8 s,
                  leads (event_8 s n) refl refl,
                  (
                    state_9 s,
                    leads (event_9 s n) (the_write, w, refl) refl,
                    (
                      state_10 s,
                      leads (event_10 s n) refl refl,
                      (
                        state_11 s,
                        leads (event_11 s n) refl refl,
                        (
                          state_12 s body,
                          leads (event_12 s n body long) (the_data body, b, refl) refl,
                          (
                            state_13 s body,
                            leads (event_13 s n body long) refl refl,
                            refl,
                          ),
                        ),
                      ),
                    ),
                  ),
                ),
              ),
            ),
          ),
        ),
      ),
    ),
  )

  -- up to the block's program
  pub write_life : (write block : Vec ℕ) → IsHeard write.items the_write → IsHeard block.items (the_data body) →
      Life s (write_events write block) (write_outputs body) (state_15 s body)
  write_life write block w b =
      join s (pending_events write block) (event.Take 0 ∷ event.Reply ∷ []) pending_outputs
      (begins (data_program body) ∷ output.Reply None ∷ []) (state_13 s body) (state_15 s body)
      (pending_life write block w b) (
        state_14 s body,
        leads (event_14 s n body long) refl refl,
        (state_15 s body, leads (event_15 s n body long) refl refl, refl),
      )

  -- and to its end
  pub life : (write block read : Vec ℕ) → IsHeard write.items the_write → IsHeard block.items (the_data body) →
      IsHeard read.items the_read → Life s (run_events write block read) (run_outputs body) (state_24 s body)
  life write block read w b r =
      join s (write_events write block)
      (event.Finish 0 ∷ event.Reply ∷ event.Host read ∷ event.Reply ∷ event.Take 0 ∷ event.Finish
      0 ∷ event.Reply ∷ event.Reply ∷ event.Reply ∷ [])
      (write_outputs body)
      (output.Ended ∷ told (good_message 7) ∷ output.Host (Ok tt) ∷ output.Reply None ∷ begins data_read ∷ output.Ended
      ∷ told (data_message body) ∷ told (good_message 8) ∷ output.Reply None ∷ [])
      (state_15 s body) (state_24 s body) (write_life write block w b) (
        state_16 s body,
        finishes (event_16 s n body long),
        (
          state_17 s body,
          leads (event_17 s n body long) refl refl,
          (
            state_18 s body,
            leads (event_18 s n body long) (the_read, r, refl) refl,
            (
              state_19 s body,
              leads (event_19 s n body long) refl refl,
              (
                state_20 s body,
                leads (event_20 s n body long) refl refl,
                (
                  state_21 s body,
                  finishes (event_21 s n body long),
                  (
                    state_22 s body,
                    leads (event_22 s n body long) refl refl,
                    (
                      state_23 s body,
                      leads (event_23 s n body long) refl refl,
                      (
                        state_24 s body,
                        leads (event_24 s n body long) refl refl,
                        refl,
                      ),
                    ),
                  ),
                ),
              ),
            ),
          ),
        ),
      )
