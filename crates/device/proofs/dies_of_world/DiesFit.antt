-- The dies of a world fit the state, event by event.
use Rattle.device.proofs.Common.{Array, Bad, BlockState, BlocksFit, Bool, CanDo, Cells, Closed, DieState, Done, Ending}
use Rattle.device.proofs.Common.{Erasing, Err, Filling, Fit, FitState, Flight, Free, GroupPage, Heard, Host, HostFault}
use Rattle.device.proofs.Common.{IsEndingOf, IsOfSize, IsOpened, IsPlace, IsTied, Job, List, Message, None, Nothing}
use Rattle.device.proofs.Common.{Numbers, OfDone, OfHost, OfReply, OfTake, OfTurn, Ok, Option, Place, Programming}
use Rattle.device.proofs.Common.{Reading, Ready, Reply, Result, Some, Spot, State, Take, TakeStep, Translation, Turn}
use Rattle.device.proofs.Common.{Vacancy, [], after_job, ap, arith, array_after, array_of, at_die, bad_of, blank_page}
use Rattle.device.proofs.Common.{die_at, ended_well, ending_fits, false, fills, get_or_past, has_page, if◌then◌else◌}
use Rattle.device.proofs.Common.{is_bad, job_at, job_of, length, length-replicate, length-set, lock_applied, next_of}
use Rattle.device.proofs.Common.{none-some, numbers_of, observe, option_map, outcome_of, page_of, refl, replied}
use Rattle.device.proofs.Common.{same_Some, slice_set, spot_is, spot_of, subst, sym, true, with_moves, ℕ, ⊎_elim, ◌<◌}
use Rattle.device.proofs.Common.{◌∙◌, ◌∷◌, ◌≡◌, ◌≢◌, ◌≤◌, ◌⊎◌}
use Rattle.std.specs.Prelude.{replicate}
use Rattle.std.proofs.lemmas.List.{get_or-replicate}
use Rattle.ufs_spec.specs.Cells.{IsCell}
use Rattle.ufs_spec.specs.Disk.{Stale, Untouched, at_place, blocks_begun}
use Rattle.ufs_spec.specs.Machine.{given, hears, in_block}
use Rattle.ufs_spec.specs.Openings.{IsVacancyAt}
use Rattle.ufs_spec.specs.Translation.{MayTake}
use Rattle.ufs_spec.specs.declared.flash.Job.TheVariants as job
use Rattle.ufs_spec.specs.declared.flash.Tag.{Tag}
use Rattle.ufs_laws.proofs.jobs.OneJob.{is_die}
use Rattle.ufs_laws.proofs.jobs.SameJobs as quiet
use Rattle.ufs_laws.proofs.deciding.SearchOverPlaces.{is_place, split}
use Rattle.ufs_laws.proofs.exchanges.RequestsSettled.{settled_jobs}
use Rattle.ufs_laws.proofs.lives.EventsLead.{well_fits}
use Rattle.ufs_laws.specs.Flights.{die_of_flight}
use Rattle.power_loss.proofs.openings.FirstBlocks.{bad_as_before, never_filling}
use Rattle.power_loss.proofs.jobs_owed.ProgramsAndErases.{OpensReady, program_owed, take_inside}
use Rattle.power_loss.proofs.books.SmallFacts.{at_die_is}
use Rattle.device.specs.Worlds.{DiesFit, jobs_given}
use Rattle.device.proofs.dies_of_world.DieParts.{begun_blocks, die_size, erase_blocks, erase_pages, program_blocks}
use Rattle.device.proofs.dies_of_world.DieParts.{program_pages, put_jobs, put_same, put_sizes}
use Rattle.device.proofs.dies_of_world.FinishDies.{blocks_behind, doing_behind, seen_behind, vacancies_behind}
use Rattle.device.proofs.dies_of_world.FreedBlock.{written_fits}
use Rattle.device.proofs.dies_of_world.QuietDies.{Seen, hears_same, replied_same, seen, seen_over, step_same, told_same}

-- A fit reads the numbers, the pages and the blocks of a state, and the jobs that are in flight

abbrev FitSeen : List DieState → List (Option Job) → (ℕ → Option Flight) → Seen → Type 0
FitSeen dies jobs flights k =
    DiesFit k.layer.numbers k.array k.layer.blocks k.layer.vacancies flights dies jobs

-- a die whose job is an erase does one of that block
is_erase : (o : Option Flight) (s : Spot) → Some (job.Erase s.die s.block) ≡ option_map job_of o → o ≡ Some (Erasing s)
is_erase None s e = cc
is_erase (Some (Reading who p)) s e = cc
is_erase (Some (Programming p cell)) s e = cc
is_erase (Some (Erasing q)) s e = ap (λ (x : Spot). Some (Erasing x)) (spot_is q s (die e) (block e))
  where
    die : Some (job.Erase s.die s.block) ≡ Some (job.Erase q.die q.block) → q.die ≡ s.die
    die f = cc

    block : Some (job.Erase s.die s.block) ≡ Some (job.Erase q.die q.block) → q.block ≡ s.block
    block f = cc

-- the same jobs are in flight, whomever a read is for
abbrev SameJobs : State → State → Type 0
SameJobs s u = (die : ℕ) →
    option_map job_of (u.translation.disk.flights die) ≡ option_map job_of (s.translation.disk.flights die)

-- what looks the same and has the same jobs is fitted by the same dies
stays : (dies : List DieState) (jobs : List (Option Job)) (s u : State) → seen u ≡ seen s → SameJobs s u →
    FitState dies jobs s → FitState dies jobs u
stays dies jobs s u look same h =
    subst (FitSeen dies jobs u.translation.disk.flights) (sym look)
    (record {
      sizes = h.sizes;
      pages = h.pages;
      as_many = h.as_many;
      jobs_are = λ die. h.jobs_are die ∙ sym (same die);
      blocks_fit = h.blocks_fit;
      erases = λ die spot e.
          h.erases die spot (is_erase (s.translation.disk.flights die) spot (sym (ap (option_map job_of) e)
          ∙ same die));
    })

-- and so is what it is once registers were filled and the lock was told
told_stays : (dies : List DieState) (jobs : List (Option Job)) (s u : State) → seen u ≡ seen s → SameJobs s u →
    FitState dies jobs s → FitState dies jobs (lock_applied (fills u))
told_stays dies jobs s u look same h =
    stays dies jobs s (lock_applied (fills u)) (told_same u ∙ look) (λ die. settled_jobs u die ∙ same die) h

-- a program is owed to the next page of a block that is being filled, or to the first of one that was erased in this
-- life
pub named_next : (t : Translation) (p : Place) → (t.disk.blocks (spot_of p) ≡ Filling p.page) ⊎ OpensReady t p →
    (is_bad (t.disk.blocks (spot_of p)) ≡ false)
    × (next_of (t.disk.blocks (spot_of p)) (t.disk.vacancies (spot_of p)) ≡ Some p.page)
named_next t p h =
    ⊎_elim
    (λ (fills : t.disk.blocks (spot_of p) ≡ Filling p.page).
    (ap is_bad fills, ap (λ (state : BlockState). next_of state (t.disk.vacancies (spot_of p))) fills))
    (λ (opens : OpensReady t p). (
      ap is_bad opens.free,
      ap (λ (state : BlockState). next_of state (t.disk.vacancies (spot_of p))) opens.free
          ∙ (ap (next_of Free) opens.ready ∙ ap (λ (page : ℕ). Some page) (sym opens.first)),
    ))
    h

-- Calls

-- dies whose jobs are the same fit, for whomever they read
same_doing : (dies : List DieState) (jobs : List (Option Job)) (f g : ℕ → Option Flight) (k : Seen) →
    ((die : ℕ) → option_map job_of (g die) ≡ option_map job_of (f die)) → FitSeen dies jobs f k → FitSeen dies jobs g k
same_doing dies jobs f g k same h = record {
  sizes = h.sizes;
  pages = h.pages;
  as_many = h.as_many;
  jobs_are = λ die. h.jobs_are die ∙ sym (same die);
  blocks_fit = h.blocks_fit;
  erases = λ die spot e. h.erases die spot
      (is_erase (f die) spot (sym (ap (option_map job_of) e) ∙ same die));
}

module _ (dies : List DieState) (jobs : List (Option Job)) (s : State) (fit : FitState dies jobs s) where
  -- what changes no job, no block and no page

  pub hears_fit : (heard : Heard) (result : Result Unit HostFault) →
      FitState dies jobs (observe s (Host heard) (OfHost result))
  hears_fit heard (Ok done) =
      told_stays dies jobs s (hears s heard) (hears_same s heard) (quiet.hears_same s heard) fit
  hears_fit heard (Err fault) = told_stays dies jobs s s refl (λ die. refl) fit

  pub asks_fit : (reply : Option Message) → FitState dies jobs (observe s Reply (OfReply reply))
  asks_fit (Some m) = told_stays dies jobs s (replied s m) (replied_same s m) (quiet.replied_same s m) fit
  asks_fit None = told_stays dies jobs s s refl (λ die. refl) fit

  pub steps_fit : (due : Bool) → FitState dies jobs (observe s Turn (OfTurn due))
  steps_fit due = told_stays dies jobs s (with_moves s (TakeStep ∷ [])) (step_same s) (quiet.step_same s) fit

  -- a die is given a job

  -- a program that is handed out is of the page that the die lets be programmed next
  begun : (flight : Flight) (die : ℕ) → MayTake s.translation die (Some flight) →
      BlocksFit (numbers_of s) dies (blocks_begun s.translation.disk flight) s.translation.disk.vacancies
  begun (Reading who p) die may = fit.blocks_fit
  begun (Erasing spot) die may = fit.blocks_fit
  begun (Programming p cell) die may =
      let owed = named_next s.translation p (program_owed s.translation die p cell may).place.next in
      begun_blocks (numbers_of s) dies s.translation.disk.blocks s.translation.disk.vacancies p owed.0 owed.1
      fit.blocks_fit

  give : (die : ℕ) (flight : Flight) → MayTake s.translation die (Some flight) →
      FitState dies (slice_set jobs die (Some (job_of flight))) (given s die (Some flight))
  give die flight may =
      let flights = s.translation.disk.flights in
      let own = is_die s.translation die flight may in
      let as_many = fit.as_many in
      let all = fit.sizes.0 in
      let inside : die < length jobs = omega arith in
      record {
        sizes = fit.sizes;
        pages = fit.pages;
        as_many = length-set jobs die (Some (job_of flight)) ∙ fit.as_many;
        jobs_are = put_jobs jobs flights die (Some flight) inside fit.jobs_are;
        blocks_fit = begun flight die may;
        erases = λ other spot e.
            ⊎_elim
            (λ (k : (other ≡ die) × (Some flight ≡ Some (Erasing spot))).
            take_inside s.translation die spot (subst (λ (o : Option Flight). MayTake s.translation die o) k.1 may))
            (λ (k : (other ≢ die) × (flights other ≡ Some (Erasing spot))). fit.erases other spot k.1)
            (at_die_is flights die (Some flight) other (Some (Erasing spot)) e);
      }

  pub gives_fit : (die : ℕ) (flight : Option Flight) → MayTake s.translation die flight →
      FitState dies (jobs_given jobs die (option_map job_of flight)) (observe s (Take die) (OfTake flight))
  gives_fit die None may = told_stays dies jobs s s refl (λ other. refl) fit
  gives_fit die (Some flight) may =
      told_stays dies (slice_set jobs die (Some (job_of flight))) (given s die (Some flight))
      (given s die (Some flight)) refl (λ other. refl) (give die flight may)

-- The job in flight

-- what is read is a page of the dies, since nothing stands elsewhere
page_inside : (n : Numbers) (cells : Cells) (p : Place) (tag : Tag) (body : List ℕ) →
    ((q : Place) → (IsPlace n q → ⊥) → cells q ≡ Nothing) → cells p ≡ GroupPage tag body → IsPlace n p
page_inside n cells p tag body within e =
    ⊎_elim (λ (h : IsPlace n p). h)
    (λ (out : IsPlace n p → ⊥). absurd (let both : Nothing ≡ GroupPage tag body = sym (within p out) ∙ e in cc))
    (is_place n p)

-- the pages and the blocks behind the job are those of the die behind it
pub record AreBehind (n : Numbers) (dies : List DieState) (array : Array) (blocks : Spot → BlockState)
    (vacancies : Spot → Vacancy) : Type 0 where
  pub pages : array ≡ array_of dies
  pub blocks_fit : BlocksFit n dies blocks vacancies

module _ (dies : List DieState) (jobs : List (Option Job)) (s : State) (fit : FitState dies jobs s)
    (tied : IsTied s) where
  abbrev n : Numbers
  n = s.translation.numbers

  abbrev flights : ℕ → Option Flight
  flights = s.translation.disk.flights

  -- it lies on the die that has it
  pub lies_home : (die : ℕ) (flight : Flight) → flights die ≡ Some flight → die_of_flight flight ≡ die
  lies_home die (Reading who p) flies = tied.valid.reads.at_home die who p flies
  lies_home die (Programming p cell) flies = (tied.valid.flights.programs die p cell flies).at_home
  lies_home die (Erasing spot) flies = (tied.valid.flights.erases die spot flies).at_home

  -- which is one of the dies
  pub is_inside : (die : ℕ) (flight : Flight) → flights die ≡ Some flight → die < length dies
  is_inside die flight flies =
      ⊎_elim
      (λ (past : length dies ≤ die).
      let as_many = fit.as_many in
      absurd (none-some (job_of flight)
      (sym (get_or_past jobs die None (omega arith)) ∙ (fit.jobs_are die ∙ ap (option_map job_of) flies))))
      (λ (l : die < length dies). l) (split (length dies) die)

  size : (die : ℕ) (flight : Flight) → flights die ≡ Some flight → IsOfSize n.blocks n.pages (die_at dies die)
  size die flight flies = die_size n dies die fit.sizes (is_inside die flight flies)

  -- the job may be asked of the die, where the die is told by the job
  can_do : (flight : Flight) → flights (die_of_flight flight) ≡ Some flight →
      CanDo (die_at dies (die_of_flight flight)) (job_of flight)
  can_do (Reading who p) flies =
      let page = (tied.valid.reads.page p.die who p flies).1 in
      let place = page_inside n s.translation.disk.cells p page.tag page.body tied.valid.pages.within page.there in
      has_page (die_at dies p.die) p.block p.page n.blocks n.pages place.block place.page
      (size p.die (Reading who p) flies)
  can_do (Programming p cell) flies =
      let right = tied.valid.flights.programs p.die p cell flies in
      let place = right.place in (
        has_page (die_at dies p.die) p.block p.page n.blocks n.pages place.block place.page
            (size p.die (Programming p cell) flies),
        sym (fit.blocks_fit.bad (spot_of p)) ∙ ap is_bad right.next,
        fit.blocks_fit.ready (spot_of p) p.page place.die place.block
            (ap (λ (state : BlockState). next_of state (s.translation.disk.vacancies (spot_of p))) right.next),
      )
  can_do (Erasing spot) flies =
      let right = tied.valid.flights.erases spot.die spot flies in
      let place = fit.erases spot.die spot flies in
      let its = size spot.die (Erasing spot) flies in
      let long : length (die_at dies spot.die).blocks ≡ n.blocks = its.0 in
      let within = place.block in (
        omega arith,
        sym (fit.blocks_fit.bad spot) ∙ ap is_bad right.free,
      )

  pub can_finish : (die : ℕ) (flight : Flight) → flights die ≡ Some flight → CanDo (die_at dies die) (job_of flight)
  can_finish die flight flies =
      subst (λ (e : ℕ). flights e ≡ Some flight → CanDo (die_at dies e) (job_of flight)) (lies_home die flight flies)
      (can_do flight) flies

  -- what the die tells of its job is how a job ends that went well
  ends_as : (flight : Flight) →
      IsEndingOf s.translation.disk.cells (Some flight)
      (outcome_of (die_at dies (die_of_flight flight)) (job_of flight)) (ended_well flight)
  ends_as (Reading who p) =
      (refl, subst (λ (array : Array). IsCell (array p) (s.translation.disk.cells p)) fit.pages (tied.shown p))
  ends_as (Programming p cell) = (refl, tt)
  ends_as (Erasing spot) = (refl, tt)

  pub finish_ending : (die : ℕ) (flight : Flight) → flights die ≡ Some flight →
      IsEndingOf s.translation.disk.cells (flights die) (outcome_of (die_at dies die) (job_of flight))
      (ended_well flight)
  finish_ending die flight flies =
      let ends : Option Flight → ℕ → Type 0 = λ o e.
      IsEndingOf s.translation.disk.cells o (outcome_of (die_at dies e) (job_of flight)) (ended_well flight) in
      subst (λ (o : Option Flight). ends o die) (sym flies)
      (subst (ends (Some flight)) (lies_home die flight flies) (ends_as flight))

  abbrev done_by : ℕ → Flight → List DieState
  done_by die flight = slice_set dies die (after_job (die_at dies die) (job_of flight))

  are_behind : (flight : Flight) → flights (die_of_flight flight) ≡ Some flight →
      AreBehind n (done_by (die_of_flight flight) flight) (array_after s flight (ended_well flight) s.array)
      (blocks_behind s.translation flight) (vacancies_behind s.translation flight)
  are_behind (Reading who p) flies =
      subst (λ (ds : List DieState). AreBehind n ds s.array s.translation.disk.blocks s.translation.disk.vacancies)
      (sym (put_same dies p.die)) record { pages = fit.pages; blocks_fit = fit.blocks_fit }
  are_behind (Programming p cell) flies =
      let right = tied.valid.flights.programs p.die p cell flies in
      let l = is_inside p.die (Programming p cell) flies in
      record {
        pages =
            ap (λ (array : Array). at_place array p (page_of cell)) fit.pages
            ∙ program_pages n dies p (page_of cell) fit.sizes l right.place;
        blocks_fit = written_fits s.translation (done_by p.die (Programming p cell)) p cell
            (program_blocks n dies s.translation.disk.blocks s.translation.disk.vacancies p (page_of cell) fit.sizes l
            right.place right.next fit.blocks_fit);
      }
  are_behind (Erasing spot) flies =
      let free = (tied.valid.flights.erases spot.die spot flies).free in
      let within = (fit.erases spot.die spot flies).block in
      let l = is_inside spot.die (Erasing spot) flies in
      record {
        pages =
            ap (λ (array : Array). λ (p : Place). if in_block n spot p then blank_page else array p) fit.pages
            ∙ erase_pages n dies spot fit.sizes l within;
        blocks_fit = erase_blocks n dies s.translation.disk.blocks s.translation.disk.vacancies spot fit.sizes l within
            free fit.blocks_fit;
      }

  -- behind the end of a job the dies that hold what is behind it fit
  pub ended_fits : (die : ℕ) (flight : Flight) (ending : Ending) (left : Array) (after : List DieState) (array : Array)
      (blocks : Spot → BlockState) (vacancies : Spot → Vacancy) → flights die ≡ Some flight →
      ending_fits (Some flight) ending ≡ true → Fit n after → AreBehind n after array blocks vacancies →
      seen (observe s (Done die ending left) (OfDone true))
      ≡ seen_over array (record { numbers = n; blocks = blocks; vacancies = vacancies }) →
      FitState after (slice_set jobs die None) (observe s (Done die ending left) (OfDone true))
  ended_fits die flight ending left after array blocks vacancies flies right sizes put looks =
      let u = observe s (Done die ending left) (OfDone true) in
      let l = is_inside die flight flies in
      let as_many = fit.as_many in
      let inside : die < length jobs = omega arith in
      let known : FitSeen after (slice_set jobs die None) (at_die flights die None)
      (seen_over array (record { numbers = n; blocks = blocks; vacancies = vacancies })) =
      record {
        sizes = sizes;
        pages = put.pages;
        as_many = length-set jobs die None ∙ (fit.as_many ∙ (fit.sizes.0 ∙ sym sizes.0));
        jobs_are = put_jobs jobs flights die None inside fit.jobs_are;
        blocks_fit = put.blocks_fit;
        erases = λ other spot e.
            ⊎_elim
            (λ (k : (other ≡ die) × (None ≡ Some (Erasing spot))). absurd (none-some (Erasing spot) k.1))
            (λ (k : (other ≢ die) × (flights other ≡ Some (Erasing spot))). fit.erases other spot k.1)
            (at_die_is flights die None other (Some (Erasing spot)) e);
      } in
      subst (FitSeen after (slice_set jobs die None) u.translation.disk.flights) (sym looks)
      (same_doing after (slice_set jobs die None) (at_die flights die None) u.translation.disk.flights
      (seen_over array (record { numbers = n; blocks = blocks; vacancies = vacancies }))
      (doing_behind s die flight ending left flies (lies_home die flight flies) right) known)

  pub finish_fits : (die : ℕ) (flight : Flight) → flights die ≡ Some flight →
      FitState (done_by die flight) (slice_set jobs die None)
      (observe s (Done die (ended_well flight) s.array) (OfDone true))
  finish_fits die flight flies =
      let array = array_after s flight (ended_well flight) s.array in
      let blocks = blocks_behind s.translation flight in
      let vacancies = vacancies_behind s.translation flight in
      let put : AreBehind n (done_by die flight) array blocks vacancies =
      subst (λ (e : ℕ). flights e ≡ Some flight → AreBehind n (done_by e flight) array blocks vacancies)
      (lies_home die flight flies) (are_behind flight) flies in
      ended_fits die flight (ended_well flight) s.array (done_by die flight) array blocks vacancies flies
      (well_fits flight) (put_sizes n dies die (job_of flight) fit.sizes (is_inside die flight flies)) put
      (seen_behind s die flight flies)

-- The opening

-- no die has a job
none_given : (count die : ℕ) → job_at (replicate count None) die ≡ None
none_given count die =
    let none : Option Job = None in
    let long : length (replicate count none) ≡ count = length-replicate count none in
    ⊎_elim (λ (past : count ≤ die). get_or_past (replicate count none) die none (omega arith))
    (λ (l : die < count). get_or-replicate count die none none l) (split count die)

-- no block is being filled and none was erased in this life, so of none a page may be programmed
none_next : (state : BlockState) (vacancy : Vacancy) (next : ℕ) → (state ≡ Filling next → ⊥) → (vacancy ≡ Ready → ⊥) →
    next_of state vacancy ≡ Some next → ⊥
none_next (Filling other) vacancy next unfilled unready e = unfilled (ap Filling (same_Some other next e))
none_next Free Ready next unfilled unready e = unready refl
none_next Free Untouched next unfilled unready e = none-some next e
none_next Free Stale next unfilled unready e = none-some next e
none_next Closed vacancy next unfilled unready e = none-some next e
none_next Bad vacancy next unfilled unready e = none-some next e

pub opens_fit : (n : Numbers) (dies : List DieState) (s : State) → Fit n dies →
    IsOpened n (array_of dies) (bad_of dies) s → FitState dies (replicate (length dies) None) s
opens_fit n dies s sizes opened =
    let t = opened.translation in
    let blocks = s.translation.disk.blocks in
    record {
      sizes = subst (λ (m : Numbers). Fit m dies) (sym t.numbers) sizes;
      pages = opened.array_now;
      as_many = length-replicate (length dies) None;
      jobs_are = λ die. none_given (length dies) die ∙ sym (ap (option_map job_of) (t.disk.idle die));
      blocks_fit = record {
        ready = λ spot next d b e.
            absurd (none_next (blocks spot) (s.translation.disk.vacancies spot) next
            (λ fills. never_filling t.disk.blocks fills)
            (λ (is : s.translation.disk.vacancies spot ≡ Ready).
            subst (IsVacancyAt opened.cells spot) is (t.disk.vacancies spot)) e);
        bad = λ spot. bad_as_before spot t.disk.blocks;
      };
      erases = λ die spot e. absurd (none-some (Erasing spot) (sym (t.disk.idle die) ∙ e));
    }
