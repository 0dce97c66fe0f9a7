-- Each event that is a call leads somewhere.
use Rattle.ufs_laws.proofs.Common.{Allowed, Answer, Array, Call, Done, Due, Ending, Event, Flight, Host, IsCall}
use Rattle.ufs_laws.proofs.Common.{IsFinish, Leads, MayTake, Message, None, OfDone, OfHost, OfReply, OfTake, OfTurn}
use Rattle.ufs_laws.proofs.Common.{Option, Output, ReadWrong, Reading, Reply, Some, State, Take, Turn, WentWrong}
use Rattle.ufs_laws.proofs.Common.{ending_fits, is_step_due, job_of, observe, refl, spelling, subst, sym, true, ℕ}
use Rattle.ufs_laws.proofs.Common.{⊎_elim, ◌≡◌, ◌⊎◌}
use Rattle.ufs_laws.proofs.jobs.OneJob.{given}
use Rattle.ufs_laws.proofs.answers.RightAnswers.{heard, reply_due}
use Rattle.ufs_spec.specs.Lives.{IsFailure, IsShown, ended_well}
use Rattle.ufs_spec.specs.declared.events.Event.TheVariants as event
use Rattle.ufs_spec.specs.declared.events.Leftover.{Leftover}
use Rattle.ufs_spec.specs.declared.events.Output.TheVariants as output

abbrev Somewhere : State → Event → Type 0
Somewhere s e = (o : Output) × (t : State) × Leads s e o t

leads : (s : State) (e : Event) (o : Output) (call : Call) (answer : Answer) → IsCall s e call → IsShown answer o →
    Allowed s call answer → Somewhere s e
leads s e o call answer is_call is_shown right = (
  o,
  observe s call answer,
  record
      { call = call; answer = answer; is_call = is_call; is_shown = is_shown; right = right; next = refl },
)

-- a die

take_leads : (s : State) (die : ℕ) →
    ((flight : Flight) × MayTake s.translation die (Some flight)) ⊎ MayTake s.translation die None →
    Somewhere s (event.Take die)
take_leads s die =
    ⊎_elim
    {C = Somewhere s (event.Take die)}
    (λ job. leads s (event.Take die) (output.Take (Some (job_of job.0))) (Take die) (OfTake (Some job.0)) refl refl
    job.1)
    (λ none. leads s (event.Take die) (output.Take None) (Take die) (OfTake None) refl refl none)

pub well_fits : (flight : Flight) → ending_fits (Some flight) (ended_well flight) ≡ true
well_fits (Reading reader place) = refl
well_fits flight = refl

-- an end that fits the job is known
known : (s : State) (e : Event) (die : ℕ) (ending : Ending) (left : Array) → IsCall s e (Done die ending left)
    → ending_fits (s.translation.disk.flights die) ending ≡ true → Somewhere s e
known s e die ending left is_call fit =
    leads s e output.Ended (Done die ending left) (OfDone true) is_call refl (sym fit)

finish_fits : (s : State) (die : ℕ) (o : Option Flight) (call : Call) → IsFinish s die o call
    → (ending : Ending) × (call ≡ Done die ending s.array) × (ending_fits o ending ≡ true)
finish_fits s die None call h = absurd h
finish_fits s die (Some flight) call h = (ended_well flight, h, well_fits flight)

failure_fits : (s : State) (die : ℕ) (o : Option Flight) (l : Option Leftover) (ending : Ending) (left : Array) →
    IsFailure s die o l ending left → ending_fits o ending ≡ true
failure_fits s die (Some (Reading reader place)) None ReadWrong left h = refl
failure_fits s die (Some (Reading reader place)) (Some l) (WentWrong cells) left h = absurd h.0
failure_fits s die (Some flight) (Some l) (WentWrong cells) left h = refl
failure_fits s die o l ending left h = absurd h

-- a host

reply_leads : (s : State) → ((m : Message) × Due s m) ⊎ ((m : Message) → Due s m → ⊥) → Somewhere s event.Reply
reply_leads s =
    ⊎_elim
    {C = Somewhere s event.Reply}
    (λ due. leads s event.Reply (output.Reply (Some (record { items = spelling due.0 }))) Reply (OfReply (Some due.0))
    refl refl due.1)
    (λ none. leads s event.Reply (output.Reply None) Reply (OfReply None) refl refl none)

pub leads_somewhere : (s : State) (e : Event) (call : Call) → IsCall s e call →
    (o : Output) × (t : State) × Leads s e o t
leads_somewhere s (event.Host bytes) call h =
    let answer = heard s h.0 in
    leads s (event.Host bytes) (output.Host answer.0) (Host h.0) (OfHost answer.0) (h.0, h.1, refl) refl answer.1
leads_somewhere s event.Reply call h = reply_leads s (reply_due s)
leads_somewhere s (event.Take die) call h = take_leads s die (given s.translation die)
leads_somewhere s (event.Finish die) call h =
    let f = finish_fits s die (s.translation.disk.flights die) call h in
    known s (event.Finish die) die f.0 s.array (subst (IsFinish s die (s.translation.disk.flights die)) f.1 h) f.2
leads_somewhere s (event.Fail die l) call h =
    known s (event.Fail die l) die h.0 h.1 (h.0, h.1, h.2, refl)
    (failure_fits s die (s.translation.disk.flights die) l h.0 h.1 h.2)
leads_somewhere s event.Turn call h =
    leads s event.Turn (output.Turn (is_step_due s.translation)) Turn (OfTurn (is_step_due s.translation)) refl refl
    refl
leads_somewhere s (event.Stop lefts) call h = absurd h
