-- What an event shows leads to a state that the world then fits.
use Rattle.device.proofs.Common.{Array, Bool, Call, CanDo, DeviceCore, Done, Ending, Event, FitState, Fits, Flight}
use Rattle.device.proofs.Common.{Heard, Host, HostFault, IsAnswered, IsEndingOf, IsHeard, IsHeardAs, Job, List}
use Rattle.device.proofs.Common.{MayLeave, Message, None, OfDone, OfHost, OfReply, OfTake, OfTurn, Ok, Option, Outcome}
use Rattle.device.proofs.Common.{Output, Reply, Result, Some, State, Take, Turn, Went, WorldState, after_job, ap}
use Rattle.device.proofs.Common.{die_at, ended_well, inl, job_at, job_of, none_some, observe, option_map, outcome_of}
use Rattle.device.proofs.Common.{refl, slice_set, some_is, spelling, subst, sym, true, ℕ, ◌∙◌, ◌≡◌}
use Rattle.ufs_spec.specs.Lives.{IsCall, IsFinish, IsShown, Leads}
use Rattle.ufs_spec.specs.Machine.{Answer}
use Rattle.device.specs.Describes.{IsGiven, IsReplied}
use Rattle.device.specs.Worlds.{jobs_given}
use Rattle.device.proofs.dies_of_world.DiesFit.{asks_fit, can_finish, finish_ending, finish_fits, gives_fit, hears_fit}
use Rattle.device.proofs.dies_of_world.DiesFit.{steps_fit}
use Rattle.ufs_spec.specs.declared.events.Event.TheVariants as event
use Rattle.ufs_spec.specs.declared.events.Output.TheVariants as output
use Rattle.power_loss.proofs.calls.CallsLeaveTheDevice.{call_kept}
use Rattle.power_loss.proofs.lives.EachEventKeeps.{one_event, well_leaves as leaves_well}

-- A right answer leads on, and the world fits there if its device is described and its dies fit

pub went_on : (w after : WorldState) (s : State) (e : Event) (o : Output) (call : Call) (answer : Answer) → Fits w s →
    after.config ≡ w.config → IsCall s e call → IsShown answer o → IsAnswered s call answer after.core →
    FitState after.dies after.jobs (observe s call answer) → Went s e after (Ok o)
went_on w after s e o call answer fit same is_call is_shown h dies_fit =
    let leads : Leads s e o (observe s call answer) =
    record {
      call = call;
      answer = answer;
      is_call = is_call;
      is_shown = is_shown;
      right = h.right;
      next = refl;
    } in (
      observe s call answer,
      inl leads,
      record {
        config = same ∙ (fit.config ∙ sym (call_kept s call answer).0);
        describes = h.describes;
        valid = one_event s (observe s call answer) e o fit.valid leads;
        dies_fit = dies_fit;
      },
    )

-- Messages, steps and replies

pub heard_went : (w : WorldState) (after : DeviceCore) (s : State) (e : Event) (bytes : List ℕ)
    (result : Result Unit HostFault) →
    ((heard : Heard) → IsHeard bytes heard → IsCall s e (Host heard)) → Fits w s → IsHeardAs s bytes result after →
    Went s e (record w { core = after }) (Ok (output.Host result))
heard_went w after s e bytes result call fit h =
    went_on w (record w { core = after }) s e (output.Host result) (Host h.heard) (OfHost result) fit refl
    (call h.heard h.is_heard) refl h.answered (hears_fit w.dies w.jobs s fit.dies_fit h.heard result)

pub stepped_went : (w : WorldState) (after : DeviceCore) (s : State) (due : Bool) → Fits w s →
    IsAnswered s Turn (OfTurn due) after →
    Went s event.Turn (record w { core = after }) (Ok (output.Turn due))
stepped_went w after s due fit h =
    went_on w (record w { core = after }) s event.Turn (output.Turn due) Turn (OfTurn due) fit refl refl refl h
    (steps_fit w.dies w.jobs s fit.dies_fit due)

pub silent_went : (w : WorldState) (after : DeviceCore) (s : State) → Fits w s →
    IsAnswered s Reply (OfReply None) after →
    Went s event.Reply (record w { core = after }) (Ok (output.Reply None))
silent_went w after s fit h =
    went_on w (record w { core = after }) s event.Reply (output.Reply None) Reply (OfReply None) fit refl refl refl h
    (asks_fit w.dies w.jobs s fit.dies_fit None)

pub replied_went : (w : WorldState) (after : DeviceCore) (s : State) (bytes : List ℕ) (o : Output) →
    ((m : Message) → bytes ≡ spelling m → IsShown (OfReply (Some m)) o) →
    Fits w s → IsReplied s bytes after → Went s event.Reply (record w { core = after }) (Ok o)
replied_went w after s bytes o shows fit h =
    went_on w (record w { core = after }) s event.Reply o Reply (OfReply (Some h.reply)) fit refl refl
    (shows h.reply h.shown) h.answered (asks_fit w.dies w.jobs s fit.dies_fit (Some h.reply))

-- Jobs

pub given_went : (w : WorldState) (after : DeviceCore) (s : State) (die : ℕ) (told : Option Job) → Fits w s →
    IsGiven s die told after →
    Went s (event.Take die) (record w { core = after; jobs = jobs_given w.jobs die told }) (Ok (output.Take told))
given_went w after s die told fit h =
    went_on w (record w { core = after; jobs = jobs_given w.jobs die told }) s (event.Take die) (output.Take told)
    (Take die) (OfTake h.flight) fit refl refl h.shown h.answered
    (subst (λ (j : Option Job). FitState w.dies (jobs_given w.jobs die j) (observe s (Take die) (OfTake h.flight)))
    (sym h.shown) (gives_fit w.dies w.jobs s fit.dies_fit die h.flight h.answered.right))

-- the job that a die has is that of its flight
pub flight_of : (j : Job) (o : Option Flight) → option_map job_of o ≡ Some j → (flight : Flight) × (o ≡ Some flight)
    × (job_of flight ≡ j)
flight_of j None e = absurd (none_some j e)
flight_of j (Some flight) e = (flight, refl, some_is (job_of flight) j e)

pub has_flight : (w : WorldState) (s : State) (die : ℕ) (j : Job) → Fits w s → job_at w.jobs die ≡ Some j →
    (flight : Flight) × (s.translation.disk.flights die ≡ Some flight) × (job_of flight ≡ j)
has_flight w s die j fit is = flight_of j (s.translation.disk.flights die) (sym (fit.dies_fit.jobs_are die) ∙ is)

pub finish_can : (w : WorldState) (s : State) (die : ℕ) (j : Job) → Fits w s → job_at w.jobs die ≡ Some j →
    CanDo (die_at w.dies die) j
finish_can w s die j fit is =
    let f = has_flight w s die j fit is in
    subst (CanDo (die_at w.dies die)) f.2
    (can_finish w.dies w.jobs s fit.dies_fit fit.describes.tied die f.0 f.1)

finish_call : (s : State) (die : ℕ) (flight : Flight) → s.translation.disk.flights die ≡ Some flight →
    IsCall s (event.Finish die) (Done die (ended_well flight) s.array)
finish_call s die flight flies = subst (λ (f : Option Flight). IsFinish s die f (Done die (ended_well flight) s.array))
    (sym flies) refl

pub finish_went : (w : WorldState) (after : DeviceCore) (s : State) (die : ℕ) (j : Job) (o : Outcome) → Fits w s →
    job_at w.jobs die ≡ Some j → o ≡ outcome_of (die_at w.dies die) j →
    ((ending : Ending) (left : Array) → IsEndingOf s.translation.disk.cells (s.translation.disk.flights die) o ending →
    MayLeave s die ending left →
    IsAnswered s (Done die ending left) (OfDone true) after) →
    Went s (event.Finish die) (record w {
      core = after;
      jobs = slice_set w.jobs die None;
      dies = slice_set w.dies die (after_job (die_at w.dies die) j);
    }) (Ok output.Ended)
finish_went w after s die j o fit is out answered =
    let f = has_flight w s die j fit is in
    let ending = finish_ending w.dies w.jobs s fit.dies_fit fit.describes.tied die f.0 f.1 in
    let same : outcome_of (die_at w.dies die) (job_of f.0) ≡ o = ap (outcome_of (die_at w.dies die)) f.2 ∙ sym out in
    let call = Done die (ended_well f.0) s.array in
    let after_it : WorldState = record w {
      core = after;
      jobs = slice_set w.jobs die None;
      dies = slice_set w.dies die (after_job (die_at w.dies die) j);
    } in
    went_on w after_it s (event.Finish die) output.Ended call (OfDone true) fit refl (finish_call s die f.0 f.1) refl
    (answered (ended_well f.0) s.array
    (subst (λ (x : Outcome). IsEndingOf s.translation.disk.cells (s.translation.disk.flights die) x (ended_well f.0))
    same ending) (leaves_well s die f.0 s.array))
    (subst
    (λ (x : Job). FitState (slice_set w.dies die (after_job (die_at w.dies die) x)) (slice_set w.jobs die None)
    (observe s call (OfDone true)))
    f.2
    (finish_fits w.dies w.jobs s fit.dies_fit fit.describes.tied die f.0
    f.1))
