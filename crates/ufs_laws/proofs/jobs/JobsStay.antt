-- Every job in flight lies on its die, from the beginning of a life to its end.
use Rattle.ufs_laws.proofs.Common.{Allowed, Answer, Array, Bool, Call, Done, Erasing, Event, Flight, Heard, Host}
use Rattle.ufs_laws.proofs.Common.{HostFault, IsOpened, Life, List, MayTake, Message, None, Numbers, OfDone, OfHost}
use Rattle.ufs_laws.proofs.Common.{OfReply, OfTake, OfTurn, Option, Output, Programming, Reading, Reply, Result, Some}
use Rattle.ufs_laws.proofs.Common.{Spot, State, Take, Turn, [], ap, at_die, cond, die_of_flight, false, job_of}
use Rattle.ufs_laws.proofs.Common.{none-some, observe, option_map, refl, subst, sym, true, ℕ, ⊎_elim, ◌==◌, ◌∙◌, ◌∷◌}
use Rattle.ufs_laws.proofs.Common.{◌≡◌, ◌≢◌}
use Rattle.std.proofs.lemmas.Bool.Decides.{eqb_tells}
use Rattle.ufs_laws.proofs.jobs.JobsInFlight.{at_other, jobs_left, over}
use Rattle.ufs_laws.proofs.walk.SmallChanges.{first, job_over, observed}
use Rattle.ufs_laws.proofs.jobs.JobsOnTheirDies.{job_here}
use Rattle.ufs_laws.proofs.jobs.SameJobs.{Does, small_same, step_same}
use Rattle.ufs_laws.specs.Flights.{JobsLieOnTheirDies}
use Rattle.ufs_spec.specs.declared.flash.Job.{Job}
use Rattle.ufs_spec.specs.declared.flash.Job.TheVariants as job

abbrev Stay : (ℕ → Option Flight) → Type 0
Stay flights = (die : ℕ) (flight : Flight) → flights die ≡ Some flight → die_of_flight flight ≡ die

-- one job more, that lies on its die, or one fewer
stay_at : (flights : ℕ → Option Flight) (die : ℕ) (o : Option Flight) → Stay flights →
    ((flight : Flight) → o ≡ Some flight → die_of_flight flight ≡ die)
    → Stay (at_die flights die o)
stay_at flights die o h one d flight e = ⊎_elim here other (eqb_tells d die)
  where
    here : (d == die ≡ true) × (d ≡ die) → die_of_flight flight ≡ d
    here (test, same) =
        one flight (sym (ap (λ (b : Bool). cond {A = Option Flight} b o (flights d)) test) ∙ e) ∙ sym same

    other : (d == die ≡ false) × (d ≢ die) → die_of_flight flight ≡ d
    other (test, differ) = h d flight (sym (at_other flights die o d differ) ∙ e)

same_stay : (f g : ℕ → Option Flight) → g ≡ f → Stay f → Stay g
same_stay f g e h = subst Stay (sym e) h

-- what a die does says where it lies
die_of_job : Job → ℕ
die_of_job (job.Read place) = place.die
die_of_job (job.Program place page) = place.die
die_of_job (job.Erase die block) = die

lies_where : (flight : Flight) → die_of_flight flight ≡ die_of_job (job_of flight)
unfolding die_of_job
lies_where (Reading reader place) = refl
lies_where (Programming place cell) = refl
lies_where (Erasing spot) = refl

job_stays : (die : ℕ) (o : Option Flight) (flight : Flight) → ((f : Flight) → o ≡ Some f → die_of_flight f ≡ die)
    → option_map job_of (Some flight) ≡ option_map job_of o → die_of_flight flight ≡ die
job_stays die None flight h e = absurd (let two : Some (job_of flight) ≡ None = e in cc)
job_stays die (Some f) flight h e =
    let same : job_of flight ≡ job_of f = cc in
    lies_where flight ∙ ap die_of_job same ∙ sym (lies_where f) ∙ h f refl

-- where each die does what it did
jobs_stay : (f g : ℕ → Option Flight) → ((die : ℕ) → option_map job_of (g die) ≡ option_map job_of (f die)) → Stay f →
    Stay g
jobs_stay f g same h die flight e = job_stays die (f die) flight (h die) (ap (option_map job_of) (sym e) ∙ same die)

-- Calls

-- behind what it does first, a call leaves to each die what it does
first_stay : (s : State) (call : Call) (answer : Answer) → Allowed s call answer → JobsLieOnTheirDies s →
    Stay (first s call answer).translation.disk.flights
first_stay s (Take die) (OfTake (Some flight)) right home =
    stay_at s.translation.disk.flights die (Some flight) home
    (λ f e. job_here s.translation die f (subst (MayTake s.translation die) e right))
first_stay s (Done die ending left) (OfDone true) right home = by (s.translation.disk.flights die) refl
  where
    by : (o : Option Flight) → s.translation.disk.flights die ≡ o →
        Stay (over s die ending left).translation.disk.flights
    by None e =
        same_stay s.translation.disk.flights _
        (ap (λ (o : Option Flight). (job_over s die o ending left).translation.disk.flights) e) home
    by (Some flight) e =
        same_stay _ _ (jobs_left s die flight ending left e (home die flight e) right)
        (stay_at s.translation.disk.flights die None home (λ f k. absurd (none-some f k)))
first_stay s Turn (OfTurn due) right home = jobs_stay s.translation.disk.flights _ (step_same s) home
first_stay s call answer right home = home

pub stays : (s : State) (call : Call) (answer : Answer) → Allowed s call answer → JobsLieOnTheirDies s →
    JobsLieOnTheirDies (observe s call answer)
stays s call answer right home =
    jobs_stay _ _ (small_same (observed s call answer)) (first_stay s call answer right home)

-- no other call than the beginning and the end of a job changes what a die does
pub host_same : (s : State) (h : Heard) (result : Result Unit HostFault) (die : ℕ) →
    Does (observe s (Host h) (OfHost result)) die ≡ Does s die
host_same s h result die = small_same (observed s (Host h) (OfHost result)) die

pub turn_same : (s : State) (due : Bool) (die : ℕ) → Does (observe s Turn (OfTurn due)) die ≡ Does s die
turn_same s due die = small_same (observed s Turn (OfTurn due)) die ∙ step_same s die

pub ask_same : (s : State) (reply : Option Message) (die : ℕ) → Does (observe s Reply (OfReply reply)) die ≡ Does s die
ask_same s reply die = small_same (observed s Reply (OfReply reply)) die

-- Lives

pub opened_stays : (n : Numbers) (array : Array) (bad : Spot → Bool) (s : State) → IsOpened n array bad s →
    JobsLieOnTheirDies s
opened_stays n array bad s h die flight e =
    absurd (let two : None ≡ Some flight = sym (h.translation.disk.idle die) ∙ e in cc)

pub life_stays : (s : State) (es : List Event) (os : List Output) (t : State) → JobsLieOnTheirDies s → Life s es os t →
    JobsLieOnTheirDies t
life_stays s [] [] t home h = subst JobsLieOnTheirDies (sym h) home
life_stays s [] (o ∷ os) t home h = absurd h
life_stays s (e ∷ es) [] t home h = absurd h
life_stays s (e ∷ es) (o ∷ os) t home h =
    life_stays h.0 es os t (subst JobsLieOnTheirDies (sym h.1.next) (stays s h.1.call h.1.answer h.1.right home)) h.2
