-- From a job that its die has done to the step that ends it.
use Rattle.lanes.proofs.Common.{Bool, DeviceCore, DieState, Done, Fits, Follows, Job, LaneView, List, Meets, None}
use Rattle.lanes.proofs.Common.{Numbers, Option, Some, State, WorldState, ap, arith, array_of, die_at, job_at}
use Rattle.lanes.proofs.Common.{lane_ended, length, numbers_of, refl, slice_index_or, subst, sym, true, ℕ, ◌<◌, ◌∙◌}
use Rattle.lanes.proofs.Common.{◌≡◌, ◌≤◌}
use Rattle.std.specs.Prelude.{slice_set}
use Rattle.ufs_spec.specs.Cells.{Array}
use Rattle.ufs_spec.specs.DieLaws.{pages_in}
use Rattle.ufs_spec.specs.Dies as dies
use Rattle.ufs_spec.specs.Dies.{CanErase, after_job, blank_page, outcome_of, page_at, pages_of, with_bad}
use Rattle.ufs_spec.specs.Dies.{with_block, with_page}
use Rattle.ufs_spec.specs.Disk.{Erasing, Flight, Programming, Reading, job_of}
use Rattle.ufs_spec.specs.Machine.{MayLeave, OfDone}
use Rattle.ufs_spec.specs.Moves.{Ending, IsEndingOf, outcome_fits}
use Rattle.ufs_spec.specs.Pages.{MayBeLeft}
use Rattle.ufs_spec.specs.declared.events.Event.TheVariants as event
use Rattle.ufs_spec.specs.declared.events.Leftover.{Leftover}
use Rattle.ufs_spec.specs.declared.events.Leftover.TheVariants as leftover
use Rattle.ufs_spec.specs.declared.events.Output.TheVariants as output
use Rattle.ufs_spec.specs.declared.flash.Job.TheVariants as job
use Rattle.ufs_spec.specs.declared.flash.Outcome.{Outcome}
use Rattle.ufs_spec.specs.declared.flash.Outcome.TheVariants as outcome
use Rattle.ufs_spec.specs.declared.flash.Page.{Page}
use Rattle.ufs_spec.specs.declared.flash.Place.{Place}
use Rattle.ufs_laws.specs.Flights.{die_of_flight}
use Rattle.power_loss.proofs.books.PagesByName.{some_is}
use Rattle.power_loss.proofs.stops.SealedCells.{ranges_of}
use Rattle.device.specs.Describes.{Describes, IsAnswered}
use Rattle.device.specs.Leftovers.{IsOfDie, MayDieLeave}
use Rattle.device.specs.Worlds.{dies_failed}
use Rattle.device.proofs.dies_of_world.DieParts.{die_size, put_same}
use Rattle.device.proofs.dies_of_world.DiesFit.{is_inside, lies_home}
use Rattle.device.proofs.dies_of_world.FailRight.{IsToldOf, fail_read_went, fail_went}
use Rattle.device.proofs.dies_of_world.JobLeaves.{erase_leaves, program_leaves}
use Rattle.device.proofs.dies_of_world.WentRight.{finish_can, finish_went, has_flight}
use Rattle.lanes.specs.declared.view.Made.TheVariants as made
use Rattle.lanes.specs.Legal.{IsOutcomeOf, WentWell}
use Rattle.lanes.specs.Rule.{HasDone}
use Rattle.lanes.proofs.Made.{follows_went}
use Rattle.lanes.proofs.Vectors.{vector_of}

-- What a die tells of its job

-- is right in the state
outcome_right : (s : State) (ds : List DieState) (die f g : ℕ) (flight : Flight) (o : Outcome) (now : DieState) →
    s.array ≡ array_of ds → die_of_flight flight ≡ die → dies.Did f g (die_at ds die) (job_of flight) o now →
    IsOutcomeOf s (Some flight) o
outcome_right s ds die f g (Reading who p) (outcome.Read page) now pages home did =
    did.0 ∙ sym (ap (λ (e : ℕ). page_at (die_at ds e) p.block p.page) home) ∙ sym (ap (λ (a : Array). a p) pages)
outcome_right s ds die f g (Reading who p) outcome.ReadFailed now pages home did = tt
outcome_right s ds die f g (Programming p cell) outcome.Done now pages home did = tt
outcome_right s ds die f g (Programming p cell) outcome.Failed now pages home did = tt
outcome_right s ds die f g (Erasing spot) outcome.Done now pages home did = tt
outcome_right s ds die f g (Erasing spot) outcome.Failed now pages home did = tt
outcome_right s ds die f g flight o now pages home did = absurd did

-- and of the kind of the job
kind_right : (f g : ℕ) (before now : DieState) (flight : Flight) (o : Outcome) →
    dies.Did f g before (job_of flight) o now → outcome_fits (Some flight) o ≡ true
kind_right f g before now (Reading who p) (outcome.Read page) did = refl
kind_right f g before now (Reading who p) outcome.ReadFailed did = refl
kind_right f g before now (Programming p cell) outcome.Done did = refl
kind_right f g before now (Programming p cell) outcome.Failed did = refl
kind_right f g before now (Erasing spot) outcome.Done did = refl
kind_right f g before now (Erasing spot) outcome.Failed did = refl
kind_right f g before now flight o did = absurd did

-- The step

module _ (w : WorldState) (s : State) (die : ℕ) (fit : Fits w s) (after : DeviceCore) where
  abbrev d : DieState
  d = die_at w.dies die

  abbrev ended : DieState → WorldState
  ended now = record w { core = after; dies = slice_set w.dies die now; jobs = slice_set w.jobs die None }

  -- a step that ends the job of the die so
  abbrev Ends : Outcome → DieState → Type 0
  Ends o now = (t : State) × Follows s (made.Done die o true) t × Fits (ended now) t

  right : (j : Job) (o : Outcome) (now : DieState) (f g : ℕ) → job_at w.jobs die ≡ Some j → dies.Did f g d j o now →
      IsOutcomeOf s (s.translation.disk.flights die) o
  right j o now f g has did =
      let k = has_flight w s die j fit has in
      subst (λ (x : Option Flight). IsOutcomeOf s x o) (sym k.1)
      (outcome_right s w.dies die f g k.0 o now fit.dies_fit.pages
      (lies_home w.dies w.jobs s fit.dies_fit fit.describes.tied die k.0 k.1)
      (subst (λ (x : Job). dies.Did f g d x o now) (sym k.2) did))

  well : (j : Job) (o : Outcome) (now : DieState) → job_at w.jobs die ≡ Some j → o ≡ outcome_of d j →
      now ≡ after_job d j → WentWell o → IsOutcomeOf s (s.translation.disk.flights die) o → IsToldOf s die o after →
      Ends o now
  well j o now has out is good told_right told =
      subst (Ends o) (sym is)
      (follows_went (ended (after_job d j)) s (made.Done die o true) (event.Finish die) output.Ended (refl, refl, good)
      told_right (λ t h. h) (finish_went w after s die j o fit has out told))

  failed_read : (p : Place) (now : DieState) → job_at w.jobs die ≡ Some (job.Read p) → now ≡ d →
      IsOutcomeOf s (s.translation.disk.flights die) outcome.ReadFailed → IsToldOf s die outcome.ReadFailed after →
      Ends outcome.ReadFailed now
  failed_read p now has is told_right told =
      let none : Option Leftover = None in
      let next = follows_went (record w { core = after; jobs = slice_set w.jobs die None }) s
      (made.Done die outcome.ReadFailed true) (event.Fail die none) output.Ended (refl, refl, tt) told_right
      (λ t h. h) (fail_read_went w s die fit after p has told) in (
        next.0,
        next.1,
        subst (λ (ds : List DieState). Fits (record w { core = after; dies = ds; jobs = slice_set w.jobs die None })
            next.0)
            (sym (ap (slice_set w.dies die) is ∙ put_same w.dies die)) next.2,
      )

  failed : (l : Leftover) (now : DieState) → IsOfDie w die l → MayDieLeave w die l →
      slice_set w.dies die now ≡ dies_failed w.dies die l →
      IsOutcomeOf s (s.translation.disk.flights die) outcome.Failed → IsToldOf s die outcome.Failed after →
      Ends outcome.Failed now
  failed l now is may same told_right told =
      let next = follows_went (record w {
        core = after;
        dies = dies_failed w.dies die l;
        jobs = slice_set w.jobs die
            None;
      })
      s (made.Done die outcome.Failed true) (event.Fail die (Some l)) output.Ended (refl, refl, tt) told_right
      (λ t h. h) (fail_went w s die l fit is after may told) in (
        next.0,
        next.1,
        subst (λ (ds : List DieState). Fits (record w { core = after; dies = ds; jobs = slice_set w.jobs die None })
            next.0)
            (sym same) next.2,
      )

  failed_program : (p : Place) (page left : Page) (now : DieState) → job_at w.jobs die ≡ Some (job.Program p page) →
      MayBeLeft (page_at d p.block p.page) page left → now ≡ with_bad (with_page d p.block p.page left) p.block →
      IsOutcomeOf s (s.translation.disk.flights die) outcome.Failed → IsToldOf s die outcome.Failed after →
      Ends outcome.Failed now
  failed_program p page left now has may is told_right told =
      failed (leftover.Page p left) now (job.Program p page, has, finish_can w s die (job.Program p page) fit has, refl)
      (λ j e. program_leaves d j (leftover.Page p left) p p page left (some_is j (job.Program p page) (sym e
      ∙ has)) refl may)
      (ap (slice_set w.dies die) is) told_right told

  -- a block has as many pages as each block
  many_pages : (other block : ℕ) (left : List Page) → job_at w.jobs die ≡ Some (job.Erase other block) →
      length left ≡ length (pages_of d block) → length left ≡ w.config.pages
  many_pages other block left has same =
      let n = numbers_of s in
      let k = has_flight w s die (job.Erase other block) fit has in
      let inside = is_inside w.dies w.jobs s fit.dies_fit fit.describes.tied die k.0 k.1 in
      let size = die_size n w.dies die fit.dies_fit.sizes inside in
      let can : CanErase d block = finish_can w s die (job.Erase other block) fit has in
      let long : length d.blocks ≡ n.blocks = size.0 in
      let within = can.0 in
      same ∙ pages_in d block n.blocks n.pages (omega arith) size ∙ sym (ap (λ (x : Numbers). x.pages) fit.config)

  failed_erase : (other block : ℕ) (left : List Page) (now : DieState) →
      job_at w.jobs die ≡ Some (job.Erase other block) → length left ≡ length (pages_of d block) →
      ((i : ℕ) → i < length left → MayBeLeft (page_at d block i) blank_page (slice_index_or left i blank_page)) →
      now ≡ with_bad (with_block d block left) block →
      IsOutcomeOf s (s.translation.disk.flights die) outcome.Failed → IsToldOf s die outcome.Failed after →
      Ends outcome.Failed now
  failed_erase other block left now has same may is told_right told =
      let j : Job = job.Erase other block in
      let many = many_pages other block left has same in
      let few : w.config.pages ≤ 256 =
      subst (λ (n : Numbers). n.pages ≤ 256) (sym fit.config) (ranges_of (numbers_of s)
      fit.valid.tied.config).pages_bound in
      let v = vector_of left (omega arith) in
      let l : Leftover = leftover.Block other block v.0 in
      failed l now (j, has, finish_can w s die j fit has, (refl, refl, ap length v.1 ∙ many))
      (λ k e. erase_leaves d k l other block other block v.0 (some_is k j (sym e ∙ has)) refl
      (subst (λ (xs : List Page). (i : ℕ) → i < length xs →
      MayBeLeft (page_at d block i) blank_page (slice_index_or xs i blank_page)) (sym v.1) may))
      (ap (slice_set w.dies die) (is ∙ ap (λ (xs : List Page). with_bad (with_block d block xs) block) (sym v.1)))
      told_right told

  pub ends : (j : Job) (o : Outcome) (now : DieState) (f g : ℕ) → job_at w.jobs die ≡ Some j →
      dies.Did f g d j o now → IsToldOf s die o after → Ends o now
  ends (job.Read p) (outcome.Read page) now f g has did told =
      well (job.Read p) (outcome.Read page) now has (ap (λ (x : Page). outcome.Read x) did.0) did.1 tt
      (right (job.Read p) (outcome.Read page) now f g has did) told
  ends (job.Read p) outcome.ReadFailed now f g has did told =
      failed_read p now has did.0 (right (job.Read p) outcome.ReadFailed now f g has did) told
  ends (job.Program p page) outcome.Done now f g has did told =
      well (job.Program p page) outcome.Done now has refl did.0 tt
      (right (job.Program p page) outcome.Done now f g has did) told
  ends (job.Program p page) outcome.Failed now f g has did told =
      failed_program p page did.0.0 now has did.0.1 did.0.2
      (right (job.Program p page) outcome.Failed now f g has did) told
  ends (job.Erase other block) outcome.Done now f g has did told =
      well (job.Erase other block) outcome.Done now has refl did.0 tt
      (right (job.Erase other block) outcome.Done now f g has did) told
  ends (job.Erase other block) outcome.Failed now f g has did told =
      failed_erase other block did.0.0 now has did.0.1 did.0.2 did.0.3
      (right (job.Erase other block) outcome.Failed now f g has did) told
  ends j o now f g has did told = absurd did

module _ {D : Type 0} (state : D → DieState) (failed : D → ℕ) where
  pub done_meets : (before after : DeviceCore) (number : ℕ) (o : Outcome) (known : Bool) (die : D)
      (lane : Option (LaneView D)) → HasDone state failed lane number die o →
      ((s : State) → Describes before s → known ≡ outcome_fits (s.translation.disk.flights number) o) →
      ((s : State) (ending : Ending) (left : Array) → Describes before s →
      IsEndingOf s.translation.disk.cells (s.translation.disk.flights number) o ending → MayLeave s number ending left →
      (known ≡ true) × IsAnswered s (Done number ending left) (OfDone true) after) →
      Meets state before (made.Done number o known) after lane (lane_ended lane die)
  done_meets before after number o known die None done kind ensures = absurd done
  done_meets before after number o known die (Some l) done kind ensures = record {
    one_die = refl;
    leads = λ w same a s fits.
        let here : l.die ≡ number = done.0 in
        let j : Job = done.1.0 in
        let has : job_at w.jobs number ≡ Some j = ap (job_at w.jobs) (sym here) ∙ a.job ∙ done.1.1 in
        let content : state l.content ≡ die_at w.dies number = sym a.content ∙ ap (die_at w.dies) here in
        let describes = subst (λ (c : DeviceCore). Describes c s) same fits.describes in
        let did = subst (λ (x : DieState). dies.Did (failed l.content) (failed die) x j o (state die)) content done.1.2
        in
        let flies = has_flight w s number j fits has in
        let known_is : known ≡ true =
        kind s describes ∙ ap (λ (x : Option Flight). outcome_fits x o) flies.1
        ∙ kind_right (failed l.content) (failed die) (die_at w.dies number) (state die) flies.0 o
        (subst (λ (x : Job). dies.Did (failed l.content) (failed die) (die_at w.dies number) x o (state die)) (sym
        flies.2) did) in
        let next = ends w s number fits after j o (state die) (failed l.content) (failed die) has did
        (λ ending left is may. (ensures s ending left describes is may).1) in (
          next.0,
          subst (λ (b : Bool). Follows s (made.Done number o b) next.0) (sym known_is) next.1,
          subst (λ (n : ℕ). Fits (record w {
            core = after;
            dies = slice_set w.dies n (state die);
            jobs = slice_set
                w.jobs n None;
          }) next.0)
              (sym here) next.2,
        );
  }
