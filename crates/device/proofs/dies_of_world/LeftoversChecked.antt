-- A leftover that is checked over the dies is that of the job in flight, and lawful, just where the state says so.
use Rattle.device.proofs.Common.{All-weaker, Array, CanDo, Cell, DieState, Erasing, Fit, Fits, Flight, IsInside}
use Rattle.device.proofs.Common.{IsLawfulLeftover, IsLeftoverOf, IsOfDie, Job, Leftover, List, MayBeLeft, MayDieLeave}
use Rattle.device.proofs.Common.{None, Nothing, Numbers, Option, Page, Place, Programming, Reading, Some, Spot, State}
use Rattle.device.proofs.Common.{WorldState, ap, arith, array_of, blank_page, die_at, die_of, get_or_from_slice_get}
use Rattle.device.proofs.Common.{get_or_past, job_at, job_of, length, none_some, numbers_of, page_at, page_of, pages_in}
use Rattle.device.proofs.Common.{pages_of, refl, slice_get-get_or, slice_get_within, slice_index_or, some_is, spot_is}
use Rattle.device.proofs.Common.{subst, sym, ℕ, ⊎_elim, ◌<◌, ◌∙◌, ◌≡◌, ◌≤◌}
use Rattle.std.proofs.Common.{option_map}
use Rattle.std.specs.Prelude.{All}
use Rattle.ufs_laws.proofs.deciding.SearchOverPlaces.{split}
use Rattle.ufs_spec.specs.Dies.{LiesOnDie}
use Rattle.ufs_spec.specs.Disk.{Touches}
use Rattle.ufs_spec.specs.declared.events.Leftover.TheVariants as leftover
use Rattle.ufs_spec.specs.declared.flash.Job.TheVariants as job
use Rattle.device.specs.Leftovers.{HasPagesOf, IsOfJob, MayJobLeave}
use Rattle.device.proofs.dies_of_world.DieParts.{die_size}
use Rattle.device.proofs.dies_of_world.WentRight.{finish_can, has_flight}

-- Of the job in flight

of_job : (n : Numbers) (flight : Flight) (l : Leftover) → IsOfJob n.pages (job_of flight) l →
    IsLeftoverOf n (Some flight) l
of_job n (Programming p cell) (leftover.Page q x) h = h
of_job n (Erasing spot) (leftover.Block die block pages) h =
    (spot_is spot (record { die = die; block = block }) (sym h.0) (sym h.1), h.2)
of_job n (Reading reader p) (leftover.Page q x) h = absurd h
of_job n (Reading reader p) (leftover.Block die block pages) h = absurd h
of_job n (Programming p cell) (leftover.Block die block pages) h = absurd h
of_job n (Erasing spot) (leftover.Page q x) h = absurd h

to_job : (n : Numbers) (flight : Flight) (l : Leftover) → IsLeftoverOf n (Some flight) l →
    IsOfJob n.pages (job_of flight) l
to_job n (Programming p cell) (leftover.Page q x) h = h
to_job n (Erasing spot) (leftover.Block die block pages) h =
    (sym (ap (λ (s : Spot). s.die) h.0), sym (ap (λ (s : Spot). s.block) h.0), h.1)
to_job n (Reading reader p) (leftover.Page q x) h = absurd h
to_job n (Reading reader p) (leftover.Block die block pages) h = absurd h
to_job n (Programming p cell) (leftover.Block die block pages) h = absurd h
to_job n (Erasing spot) (leftover.Page q x) h = absurd h

pub of_flight : (w : WorldState) (s : State) (die : ℕ) (l : Leftover) → Fits w s → IsOfDie w die l →
    IsLeftoverOf (numbers_of s) (s.translation.disk.flights die) l
of_flight w s die l fit is =
    let f = has_flight w s die is.0 fit is.1 in
    subst (λ (o : Option Flight). IsLeftoverOf (numbers_of s) o l) (sym f.1)
    (of_job (numbers_of s) f.0 l
    (subst (λ (j : Job). IsOfJob (numbers_of s).pages j l) (sym f.2)
    (subst (λ (n : Numbers). IsOfJob n.pages is.0 l) fit.config is.3)))

to_die_of : (w : WorldState) (s : State) (die : ℕ) (l : Leftover) (o : Option Flight) → Fits w s →
    s.translation.disk.flights die ≡ o → IsLeftoverOf (numbers_of s) o l → IsOfDie w die l
to_die_of w s die l (Some flight) fit flies h =
    let has : job_at w.jobs die ≡ Some (job_of flight) = fit.dies_fit.jobs_are die ∙ ap (option_map job_of) flies in (
      job_of flight,
      has,
      finish_can w s die (job_of flight) fit has,
      subst (λ (n : Numbers). IsOfJob n.pages (job_of flight) l) (sym fit.config) (to_job (numbers_of s) flight l h),
    )
to_die_of w s die l None fit flies h = absurd h

pub to_die : (w : WorldState) (s : State) (die : ℕ) (l : Leftover) → Fits w s →
    IsLeftoverOf (numbers_of s) (s.translation.disk.flights die) l → IsOfDie w die l
to_die w s die l fit h = to_die_of w s die l (s.translation.disk.flights die) fit refl h

-- On the die that has it

home_of : (s : State) (die : ℕ) (l : Leftover) (o : Option Flight) →
    ((p : Place) (cell : Cell) → o ≡ Some (Programming p cell) → p.die ≡ die) →
    ((spot : Spot) → o ≡ Some (Erasing spot) → spot.die ≡ die) → IsLeftoverOf (numbers_of s) o l → die_of l ≡ die
home_of s die (leftover.Page q x) (Some (Programming p cell)) programs erases h =
    ap (λ (z : Place). z.die) h ∙ programs p cell refl
home_of s die (leftover.Block other block pages) (Some (Erasing spot)) programs erases h =
    sym (ap (λ (z : Spot). z.die) h.0) ∙ erases spot refl
home_of s die l o programs erases h = absurd h

pub home : (w : WorldState) (s : State) (die : ℕ) (l : Leftover) → Fits w s → IsOfDie w die l → die_of l ≡ die
home w s die l fit is =
    let right = fit.valid.tied.valid.flights in
    home_of s die l (s.translation.disk.flights die) (λ p cell flies. (right.programs die p cell flies).at_home)
    (λ spot flies. (right.erases die spot flies).at_home) (of_flight w s die l fit is)

-- Whether its job may leave it

touched : (o : Option Flight) (p : Place) (cell intended : Cell) (q : Place) → o ≡ Some (Programming q cell) →
    Touches o p intended → intended ≡ cell
touched o p cell intended q e h = (subst (λ (x : Option Flight). Touches x p intended) e h).1

erased : (o : Option Flight) (p : Place) (intended : Cell) (spot : Spot) → o ≡ Some (Erasing spot) →
    Touches o p intended → intended ≡ Nothing
erased o p intended spot e h = (subst (λ (x : Option Flight). Touches x p intended) e h).1

module _ (s : State) (dies : List DieState) (pages_are : s.array ≡ array_of dies) where
  abbrev flights : ℕ → Option Flight
  flights = s.translation.disk.flights

  -- the page there, by a place that is the same
  old_page : (p : Place) → array_of dies p ≡ s.array p
  old_page p = sym (ap (λ (array : Array). array p) pages_are)

  lawful_job : (flight : Flight) (l : Leftover) → flights (die_of l) ≡ Some flight →
      IsLeftoverOf (numbers_of s) (Some flight) l → MayJobLeave (die_at dies (die_of l)) (job_of flight) l →
      IsLawfulLeftover s l
  lawful_job (Programming q cell) (leftover.Page r x) flies h may = λ p page named.
      let same : page_at (die_at dies r.die) q.block q.page ≡ s.array p =
      ap (λ (z : Place). page_at (die_at dies r.die) z.block z.page) (sym h)
      ∙ ap (λ (z : Place). array_of dies z) named.0 ∙ old_page p in (
        cell,
        subst (λ (o : Option Flight). Touches o p cell)
            (sym (ap (λ (z : Place). flights z.die) (sym named.0) ∙ flies)) (sym h ∙ named.0, refl),
        subst (λ (before : Page). MayBeLeft before (page_of cell) page) same
            (subst (λ (y : Page). MayBeLeft (page_at (die_at dies r.die) q.block q.page) (page_of cell) y)
            (sym named.1) may),
      )
  lawful_job (Erasing spot) (leftover.Block die block pages) flies h may = λ p page named.
      let inside : p.page < length pages.items = slice_get_within pages.items p.page page named.1 in
      let same : page_at (die_at dies die) spot.block p.page ≡ s.array p =
      ap (λ (z : Spot). page_at (die_at dies die) z.block p.page) h.0
      ∙ ap (λ (z : Spot). page_at (die_at dies z.die) z.block p.page) (sym named.0) ∙ old_page p in (
        Nothing,
        subst (λ (o : Option Flight). Touches o p Nothing)
            (sym (ap (λ (z : Spot). flights z.die) named.0 ∙ flies)) (h.0 ∙ sym named.0, refl),
        subst (λ (before : Page). MayBeLeft before blank_page page) same
            (subst (λ (y : Page). MayBeLeft (page_at (die_at dies die) spot.block p.page) blank_page y)
            (get_or_from_slice_get pages.items p.page page blank_page named.1) (may p.page inside)),
      )
  lawful_job (Reading reader q) (leftover.Page r x) flies h may = absurd h
  lawful_job (Reading reader q) (leftover.Block die block pages) flies h may = absurd h
  lawful_job (Programming q cell) (leftover.Block die block pages) flies h may = absurd h
  lawful_job (Erasing spot) (leftover.Page r x) flies h may = absurd h

  may_job : (flight : Flight) (l : Leftover) → flights (die_of l) ≡ Some flight →
      IsLeftoverOf (numbers_of s) (Some flight) l → IsLawfulLeftover s l →
      MayJobLeave (die_at dies (die_of l)) (job_of flight) l
  may_job (Programming q cell) (leftover.Page r x) flies h lawful =
      let may = lawful r x (refl, refl) in
      let same : s.array r ≡ page_at (die_at dies r.die) q.block q.page =
      sym (old_page r) ∙ ap (λ (z : Place). page_at (die_at dies r.die) z.block z.page) h in
      subst (λ (before : Page). MayBeLeft before (page_of cell) x) same
      (subst (λ (c : Cell). MayBeLeft (s.array r) (page_of c) x) (touched (flights r.die) r cell may.0 q flies may.1)
      may.2)
  may_job (Erasing spot) (leftover.Block die block pages) flies h lawful = λ i l.
      let p : Place = record { die = die; block = block; page = i } in
      let now = slice_index_or pages.items i blank_page in
      let may = lawful p now (refl, slice_get-get_or pages.items i blank_page l) in
      let same : s.array p ≡ page_at (die_at dies die) spot.block i =
      sym (old_page p) ∙ ap (λ (z : Spot). page_at (die_at dies die) z.block i) (sym h.0) in
      subst (λ (before : Page). MayBeLeft before blank_page now) same
      (subst (λ (c : Cell). MayBeLeft (s.array p) (page_of c) now) (erased (flights die) p may.0 spot flies may.1)
      may.2)
  may_job (Reading reader q) (leftover.Page r x) flies h lawful = absurd h
  may_job (Reading reader q) (leftover.Block die block pages) flies h lawful = absurd h
  may_job (Programming q cell) (leftover.Block die block pages) flies h lawful = absurd h
  may_job (Erasing spot) (leftover.Page r x) flies h lawful = absurd h

module _ (w : WorldState) (s : State) (die : ℕ) (l : Leftover) (fit : Fits w s) (is : IsOfDie w die l) where
  -- the job in flight of the die that the leftover names
  flight_there : (f : Flight) × (s.translation.disk.flights (die_of l) ≡ Some f) × (job_of f ≡ is.0)
  flight_there =
      let f = has_flight w s die is.0 fit is.1 in
      (f.0, ap s.translation.disk.flights (home w s die l fit is) ∙ f.1, f.2)

  left_there : (f : Flight) → s.translation.disk.flights (die_of l) ≡ Some f → IsLeftoverOf (numbers_of s) (Some f) l
  left_there f e =
      subst (λ (o : Option Flight). IsLeftoverOf (numbers_of s) o l)
      (sym (ap s.translation.disk.flights (home w s die l fit is)) ∙ e) (of_flight w s die l fit is)

  pub lawful_of : MayDieLeave w die l → IsLawfulLeftover s l
  lawful_of may =
      let f = flight_there in
      lawful_job s w.dies fit.dies_fit.pages f.0 l f.1 (left_there f.0 f.1)
      (subst (λ (e : ℕ). MayJobLeave (die_at w.dies e) (job_of f.0) l) (sym (home w s die l fit is))
      (subst (λ (j : Job). MayJobLeave (die_at w.dies die) j l) (sym f.2) (may is.0 is.1)))

  pub may_of : IsLawfulLeftover s l → MayDieLeave w die l
  may_of lawful j has =
      let f = flight_there in
      let same : job_of f.0 ≡ j = f.2 ∙ some_is is.0 j (sym is.1 ∙ has) in
      subst (λ (x : Job). MayJobLeave (die_at w.dies die) x l) same
      (subst (λ (e : ℕ). MayJobLeave (die_at w.dies e) (job_of f.0) l) (home w s die l fit is)
      (may_job s w.dies fit.dies_fit.pages f.0 l f.1 (left_there f.0 f.1) lawful))

-- Where its pages lie

pub has_pages : (n : Numbers) (dies : List DieState) (die : ℕ) (j : Job) (l : Leftover) → Fit n dies →
    die < length dies → CanDo (die_at dies die) j → IsOfJob n.pages j l → HasPagesOf (die_at dies die) l
has_pages n dies die (job.Program p x) (leftover.Page q y) fit less can h =
    subst (λ (z : Place). LiesOnDie (die_at dies die) z.block z.page) (sym h) can.0
has_pages n dies die (job.Erase other b) (leftover.Block there block pages) fit less can h =
    let d = die_at dies die in
    let size = die_size n dies die fit less in
    let many = size.0 in
    let first = can.0 in
    let inside : b < n.blocks = omega arith in
    subst (λ (c : ℕ). (c < length d.blocks) × (length pages.items ≡ length (pages_of d c))) (sym h.1)
    (first, h.2 ∙ sym (pages_in d b n.blocks n.pages inside size))
has_pages n dies die j l fit less can h = absurd h

inside : (n : Numbers) (dies : List DieState) (l : Leftover) → Fit n dies → die_of l < length dies →
    HasPagesOf (die_at dies (die_of l)) l → IsInside n l
inside n dies (leftover.Page p x) fit less h =
    let d = die_at dies p.die in
    let size = die_size n dies p.die fit less in
    let all = fit.0 in
    let many = size.0 in
    let first = h.0 in
    let next = h.1 in
    let block : p.block < n.blocks = omega arith in
    let long = pages_in d p.block n.blocks n.pages block size in
    record { die = omega arith; block = block; page = omega arith }
inside n dies (leftover.Block die block pages) fit less h =
    let d = die_at dies die in
    let size = die_size n dies die fit less in
    let all = fit.0 in
    let many = size.0 in
    let first = h.0 in
    let there : block < n.blocks = omega arith in (
      record { die = omega arith; block = there },
      h.1 ∙ pages_in d block n.blocks n.pages there size,
    )

-- a die that has a job is one of ours
has_place : (jobs : List (Option Job)) (die : ℕ) (j : Job) → job_at jobs die ≡ Some j → die < length jobs
has_place jobs die j e =
    ⊎_elim (λ (past : length jobs ≤ die). absurd (none_some j (sym (get_or_past jobs die None past) ∙ e)))
    (λ (l : die < length jobs). l) (split (length jobs) die)

pub there_of : (w : WorldState) (die : ℕ) (l : Leftover) → length w.jobs ≡ length w.dies → IsOfDie w die l →
    die < length w.dies
there_of w die l even is = let less = has_place w.jobs die is.0 is.1 in omega arith

pub pages_of_left : (w : WorldState) (die : ℕ) (l : Leftover) → length w.jobs ≡ length w.dies → Fit w.config w.dies →
    IsOfDie w die l → HasPagesOf (die_at w.dies die) l
pages_of_left w die l even fit is =
    has_pages w.config w.dies die is.0 l fit (there_of w die l even is) is.2 is.3

pub all_inside : (w : WorldState) (lefts : List Leftover) → length w.jobs ≡ length w.dies → Fit w.config w.dies →
    All (λ l. IsOfDie w (die_of l) l) lefts → All (IsInside w.config) lefts
all_inside w lefts even fit all =
    All-weaker (λ l. IsOfDie w (die_of l) l) (IsInside w.config)
    (λ l is. inside w.config w.dies l fit (there_of w (die_of l) l even is)
    (pages_of_left w (die_of l) l even fit is)) lefts all
