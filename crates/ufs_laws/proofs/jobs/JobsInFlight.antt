-- What a job's beginning and its end make of the jobs in flight.
use Rattle.ufs_laws.proofs.Common.{Allowed, Array, Done, Ending, Erasing, Flight, List, None, OfDone, OfTake, Option}
use Rattle.ufs_laws.proofs.Common.{Programming, ReadState, Reading, Some, State, Take, Task, Translation, [], ap}
use Rattle.ufs_laws.proofs.Common.{at_die, die_of_flight, ending_fits, eq-eqb, false, fills, if_both, is_unfilled}
use Rattle.ufs_laws.proofs.Common.{job_of, lock_applied, locked, map, ne_eqb, observe, option_map, refl, sym, task_read}
use Rattle.ufs_laws.proofs.Common.{true, ℕ, ◌∙◌, ◌∷◌, ◌≡◌, ◌≢◌}
use Rattle.std.proofs.lemmas.Option.{none-some}
use Rattle.ufs_laws.proofs.exchanges.DeedLaws.{read_keeps}
use Rattle.ufs_laws.proofs.walk.SmallChanges.{first, observed}
use Rattle.ufs_laws.proofs.jobs.SameJobs.{Does, small_same}
use Rattle.ufs_laws.proofs.walk.Happenings.{ends_by, job_over}
use Rattle.ufs_laws.proofs.exchanges.RequestsSettled.{settled_is}
use Rattle.ufs_laws.proofs.walk.LayerEffects.{die_in, effect_flights, effect_of, freed_die, without_job}
use Rattle.ufs_laws.specs.Requests.{HaveNoneToFill}
use Rattle.ufs_spec.specs.Machine.{ends_with, given as given_job}
use Rattle.ufs_spec.specs.Moves.{end_flight, job_ended}

-- The job that was given

pub at_its_die : (f : ℕ → Option Flight) (die : ℕ) (o : Option Flight) → at_die f die o die ≡ o
at_its_die f die o = rw (eq-eqb die die refl) refl

pub at_other : (f : ℕ → Option Flight) (die : ℕ) (o : Option Flight) (other : ℕ) → other ≢ die →
    at_die f die o other ≡ f other
at_other f die o other differ = rw (ne_eqb other die differ) refl

-- to tell the lock leaves the translation as it is
pub told_layer : (s : State) → (lock_applied s).translation ≡ s.translation
told_layer s = if_both (λ (u : State). u.translation ≡ s.translation) (locked s) refl refl

pub own_job : (s : State) (die : ℕ) (flight : Flight) →
    Does (observe s (Take die) (OfTake (Some flight))) die ≡ Some (job_of flight)
own_job s die flight =
    small_same (observed s (Take die) (OfTake (Some flight))) die
    ∙ ap (option_map job_of) (at_its_die s.translation.disk.flights die (Some flight))

pub other_job : (s : State) (die : ℕ) (flight : Flight) (other : ℕ) → other ≢ die →
    Does (observe s (Take die) (OfTake (Some flight))) other ≡ Does s other
other_job s die flight other differ =
    small_same (observed s (Take die) (OfTake (Some flight))) other
    ∙ ap (option_map job_of) (at_other s.translation.disk.flights die (Some flight) other differ)

pub same_jobs : (s : State) (die other : ℕ) → Does (observe s (Take die) (OfTake None)) other ≡ Does s other
same_jobs s die other = small_same (observed s (Take die) (OfTake None)) other

-- where no request is yet to fill its register, for whom a read is stays as well
settled_flights : (s : State) → HaveNoneToFill s.tasks →
    (lock_applied (fills s)).translation.disk.flights ≡ s.translation.disk.flights
settled_flights s none =
    ap (λ (u : State). u.translation.disk.flights) (settled_is s none)
    ∙ ap (λ (t : Translation). t.disk.flights) (told_layer s)

pub given_flights : (s : State) (die : ℕ) (flight : Flight) → HaveNoneToFill s.tasks
    → (observe s (Take die) (OfTake (Some flight))).translation.disk.flights ≡ at_die s.translation.disk.flights die
    (Some flight)
given_flights s die flight none = settled_flights (given_job s die (Some flight)) none

pub same_flights : (s : State) (die : ℕ) → HaveNoneToFill s.tasks →
    (observe s (Take die) (OfTake None)).translation.disk.flights ≡ s.translation.disk.flights
same_flights s die none = settled_flights s none

-- A job's end

-- an end that fits the job frees the die that the job lies on
at_home : (die : ℕ) (flight : Flight) → die_of_flight flight ≡ die → die_in die flight ≡ die
at_home die (Reading reader place) here = refl
at_home die (Programming place cell) here = here
at_home die (Erasing spot) here = here

end_frees : (t : Translation) (die : ℕ) (flight : Flight) (ending : Ending) → die_of_flight flight ≡ die →
    ending_fits (Some flight) ending ≡ true →
    (job_ended t die flight ending).disk.flights ≡ at_die t.disk.flights die None
end_frees t die flight ending here fit =
    let h = effect_of t die (Some flight) ending in
    ap (λ (u : Translation). u.disk.flights) h.is
    ∙ effect_flights t h.effect
    ∙ ap (without_job t.disk.flights)
    (h.frees ∙ ap (freed_die die (Some flight)) fit ∙ ap Some (at_home die flight here))

abbrev pub over : State → ℕ → Ending → Array → State
over s die ending left = first s (Done die ending left) (OfDone true)

-- then it has none
pub jobs_left : (s : State) (die : ℕ) (flight : Flight) (ending : Ending) (left : Array) →
    s.translation.disk.flights die ≡ Some flight → die_of_flight flight ≡ die →
    Allowed s (Done die ending left) (OfDone true) →
    (over s die ending left).translation.disk.flights ≡ at_die s.translation.disk.flights die None
jobs_left s die flight ending left e here right =
    let t = s.translation in
    let fit : ending_fits (Some flight) ending ≡ true =
    ap (λ (o : Option Flight). ending_fits o ending) (sym e) ∙ sym right in
    ap (λ (o : Option Flight). (job_over s die o ending left).translation.disk.flights) e
    ∙ ap (λ (o : Option Flight). (end_flight t die o ending).disk.flights) e
    ∙ end_frees t die flight ending here fit

pub ended_flight : (s : State) (die : ℕ) (flight : Flight) (ending : Ending) (left : Array) →
    s.translation.disk.flights die ≡ Some flight → die_of_flight flight ≡ die →
    Allowed s (Done die ending left) (OfDone true) →
    (observe s (Done die ending left) (OfDone true)).translation.disk.flights die ≡ None
ended_flight s die flight ending left e here right =
    no_job _
    (small_same (observed s (Done die ending left) (OfDone true)) die
    ∙ ap (λ (f : ℕ → Option Flight). option_map job_of (f die)) (jobs_left s die flight ending left e here right)
    ∙ ap (option_map job_of) (at_its_die s.translation.disk.flights die None))
  where
    no_job : (o : Option Flight) → option_map job_of o ≡ None → o ≡ None
    no_job None h = refl
    no_job (Some f) h = absurd (none-some _ (sym h))

pub ended_others : (s : State) (die : ℕ) (flight : Flight) (ending : Ending) (left : Array) →
    s.translation.disk.flights die ≡ Some flight → die_of_flight flight ≡ die →
    Allowed s (Done die ending left) (OfDone true) → (other : ℕ) → other ≢ die →
    Does (observe s (Done die ending left) (OfDone true)) other ≡ Does s other
ended_others s die flight ending left e here right other differ =
    small_same (observed s (Done die ending left) (OfDone true)) other
    ∙ ap (λ (f : ℕ → Option Flight). option_map job_of (f other)) (jobs_left s die flight ending left e here right)
    ∙ ap (option_map job_of) (at_other s.translation.disk.flights die None other differ)

-- a job's end changes no request
read_requests : (tag index : ℕ) (read : ReadState) (tasks : List Task) → HaveNoneToFill tasks →
    HaveNoneToFill (map (task_read tag index read) tasks)
read_requests tag index read [] h = tt
read_requests tag index read (t ∷ ts) h = (
  read_keeps (λ task. is_unfilled task.request ≡ false) tag index read t h.0 h.0,
  read_requests tag index read ts h.1,
)

ends_requests : (s : State) (die : ℕ) (o : Option Flight) (ending : Ending) (left : Array) → HaveNoneToFill s.tasks →
    HaveNoneToFill (ends_with s die o ending left).tasks
ends_requests s die o ending left none =
    ends_by (λ u. HaveNoneToFill u.tasks) s die o ending left
    (λ tag index read. read_requests tag index read (job_over s die o ending left).tasks (over o)) (over o)
  where
    over : (o : Option Flight) → HaveNoneToFill (job_over s die o ending left).tasks
    over None = none
    over (Some flight) = none

pub jobs_behind : (s : State) (die : ℕ) (flight : Flight) (ending : Ending) (left : Array) → HaveNoneToFill s.tasks →
    s.translation.disk.flights die ≡ Some flight → die_of_flight flight ≡ die →
    Allowed s (Done die ending left) (OfDone true) →
    (observe s (Done die ending left) (OfDone true)).translation.disk.flights
    ≡ at_die s.translation.disk.flights die None
jobs_behind s die flight ending left none e here right =
    let o = s.translation.disk.flights die in
    settled_flights (ends_with s die o ending left) (ends_requests s die o ending left none)
    ∙ ap (λ (t : Translation). t.disk.flights)
    (ends_by (λ u. u.translation ≡ (over s die ending left).translation) s die o ending left
    (λ tag index state. refl) refl)
    ∙ jobs_left s die flight ending left e here right
