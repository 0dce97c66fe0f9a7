-- What the jobs in flight of all dies leave: the leftovers of a stop, lawful and of the jobs of their dies.
use Rattle.std.proofs.Common.{◌≡◌, ◌≢◌, ◌≤◌, ◌<◌, ◌^◌, ◌∙◌, ◌++◌, ◌∷◌, [], ℕ, zero, suc, List, Option, None, Some, ap}
use Rattle.std.proofs.Common.{Contains, arith, inl, inr, length, refl, sym, subst}
use Rattle.std.proofs.lemmas.Bool.{cases_lt}
use Rattle.std.proofs.lemmas.List.{get_or_past, length-append}
use Rattle.std.proofs.lemmas.List.Elements.{All-append, All-head, All-nil, All-weaker}
use Rattle.std.proofs.lemmas.List.Kept.{AllPairs-cons}
use Rattle.std.specs.Global.{Vec}
use Rattle.std.specs.Prelude.{All, AllPairs, slice_index_or}
use Rattle.std.specs.declared.alloc.Global.{Global}
use Rattle.ufs_spec.specs.Cells.{Cell, GroupPage, MarkPage, Nothing, mark_tag}
use Rattle.ufs_spec.specs.DieLaws.{pages_in}
use Rattle.ufs_spec.specs.Dies.{CanDo, DieState}
use Rattle.ufs_spec.specs.Disk.{Erasing, Flight, Programming, Reading, job_of, page_of}
use Rattle.ufs_spec.specs.Lives.{AreLeftovers, Fit, IsLawfulLeftover, Stops, array_of, bad_in, bad_of, die_of}
use Rattle.ufs_spec.specs.Pages.{check_of, mark_bytes, spare_front}
use Rattle.ufs_spec.specs.Refusals.{State, numbers_of}
use Rattle.ufs_spec.specs.declared.configs.Numbers.{Numbers}
use Rattle.ufs_spec.specs.declared.events.Leftover.{Leftover}
use Rattle.ufs_spec.specs.declared.flash.Job.{Job}
use Rattle.ufs_spec.specs.declared.flash.Tag.{Tag}
use Rattle.power_loss.proofs.stops.SealedCells.{ranges_of}
use Rattle.device.specs.Kept.{WorldState}
use Rattle.device.specs.Leftovers.{IsOfDie, MayDieLeave}
use Rattle.device.specs.Worlds.{Fits, dies_stopped}
use Rattle.device.proofs.dies_of_world.DieParts.{die_size}
use Rattle.device.proofs.dies_of_world.LeftDies.{leftovers_on_dies, stopped_bad, stopped_fits, stops_by}
use Rattle.device.proofs.dies_of_world.LeftoversChecked.{home}
use Rattle.device.proofs.dies_of_world.StoppedWorld.{are_lawful, are_leftovers}
use Rattle.device.proofs.dies_of_world.WentRight.{finish_can, has_flight}
use Rattle.ufs_handle.specs.Kept.{die_at, job_at}
use Rattle.ufs_handle.specs.Left.{stopped}
use Rattle.ufs_handle.specs.declared.left.Left.{Left}
use Rattle.ufs_handle.specs.declared.left.Left.TheVariants as left
use Rattle.ufs_handle.proofs.DiesOneByOne.{all_from, becomes_by, inside, stopped_same}
use Rattle.ufs_handle.proofs.JobsLeave.{IsJobOn, IsOf, MayLeave, are_of_job, blank_long, leave_one, leftovers}
use Rattle.ufs_handle.proofs.JobsLeave.{one_at_most, vec_of}
use Rattle.ufs_handle.proofs.JobsLeave as jobs

-- ## Lists of which each die has one leftover at most

module _ (leaves : ℕ → List Leftover) (becomes : ℕ → DieState → DieState) where
  abbrev of_dies : ℕ → ℕ → List Leftover
  of_dies die count = all_from leaves becomes die count

  pub each_in : (P : Leftover → Type 0) → ((i : ℕ) → All P (leaves i)) → (count die : ℕ) → All P (of_dies die count)
  each_in P each zero die = All-nil P
  each_in P each (suc count) die =
      All-append P (leaves die) (of_dies (suc die) count) (each die) (each_in P each count (suc die))

  -- those from a die on lie on this die or on later ones
  from_in : ((i : ℕ) → All (λ l. die_of l ≡ i) (leaves i)) → (count die : ℕ) →
      All (λ l. die ≤ die_of l) (of_dies die count)
  from_in at zero die = All-nil (λ l. die ≤ die_of l)
  from_in at (suc count) die =
      All-append (λ l. die ≤ die_of l) (leaves die) (of_dies (suc die) count)
      (All-weaker (λ l. die_of l ≡ die) (λ l. die ≤ die_of l) (λ l is. here l is) (leaves die) (at die))
      (All-weaker (λ l. suc die ≤ die_of l) (λ l. die ≤ die_of l) (λ l more. later l more) (of_dies (suc die) count)
      (from_in at count (suc die)))
    where
      here : (l : Leftover) → die_of l ≡ die → die ≤ die_of l
      here l is = omega (arith, is)

      later : (l : Leftover) → suc die ≤ die_of l → die ≤ die_of l
      later l more = omega (arith, more)

  -- a leftover at most of this die stands before those of later dies
  one_more : (die : ℕ) (xs rest : List Leftover) → length xs ≤ 1 → All (λ l. die_of l ≡ die) xs →
      All (λ l. suc die ≤ die_of l) rest → AllPairs (λ l m. die_of l ≢ die_of m) rest →
      AllPairs (λ l m. die_of l ≢ die_of m) (xs ++ rest)
  one_more die [] rest less on later apart = apart
  one_more die (x ∷ []) rest less on later apart =
      AllPairs-cons (λ l m. die_of l ≢ die_of m) x rest
      (All-weaker (λ l. suc die ≤ die_of l) (λ l. die_of x ≢ die_of l)
      (λ l more same. differ l more same) rest later)
      apart
    where
      differ : (l : Leftover) → suc die ≤ die_of l → die_of x ≡ die_of l → ⊥
      differ l more same = let is = All-head (λ m. die_of m ≡ die) x [] on in omega (arith, more, same, is)
  one_more die (x ∷ y ∷ xs) rest less on later apart = absurd (many less)
    where
      many : suc (suc (length xs)) ≤ 1 → ⊥
      many h = omega arith

  pub apart_in : ((i : ℕ) → length (leaves i) ≤ 1) → ((i : ℕ) → All (λ l. die_of l ≡ i) (leaves i)) →
      (count die : ℕ) → AllPairs (λ l m. die_of l ≢ die_of m) (of_dies die count)
  apart_in few at zero die = λ i j d less within. absurd (omega arith)
  apart_in few at (suc count) die =
      one_more die (leaves die) (of_dies (suc die) count) (few die) (at die) (from_in at count (suc die))
      (apart_in few at count (suc die))

  pub few_in : ((i : ℕ) → length (leaves i) ≤ 1) → (count die : ℕ) → length (of_dies die count) ≤ count
  few_in few zero die = omega arith
  few_in few (suc count) die =
      let one = few die in
      let rest = few_in few count (suc die) in
      let all = length-append (leaves die) (of_dies (suc die) count) in
      omega (arith, one, rest, all)

-- ## Of a device in a state

-- the page that is programmed for a cell has its first 64 spare bytes
front_long : (t : Tag) → length (spare_front t) ≡ 64
front_long t = refl

sealed_long : (t : Tag) (body : List ℕ) → 64 ≤ length (spare_front t ++ check_of body (spare_front t))
sealed_long t body =
    let front = front_long t in
    let all = length-append (spare_front t) (check_of body (spare_front t)) in
    omega (arith, front, all)

page_long : (c : Cell) → 64 ≤ length (page_of c).spare
page_long Nothing = blank_long
page_long (GroupPage t body) = sealed_long t body
page_long (MarkPage m) = sealed_long (mark_tag m) (mark_bytes m.numbers m.fence)

module _ (w : WorldState) (s : State) (fit : Fits w s) (heap : Global) (lefts : List Left) where
  abbrev n : Numbers
  n = numbers_of s

  pub pages_few : w.config.pages < 2 ^ 63
  pages_few =
      subst (λ (m : Numbers). m.pages < 2 ^ 63) (sym fit.config)
      (let bound = (ranges_of n fit.valid.tied.config).pages_bound in omega (arith, bound))

  abbrev say : ℕ → Left
  say die = slice_index_or lefts die left.Old

  abbrev leaves : ℕ → List Leftover
  leaves die = leftovers heap w.config.pages pages_few (say die) (job_at w.jobs die)

  abbrev becomes : ℕ → DieState → DieState
  becomes = becomes_by w.config.pages lefts w.jobs

  -- the leftovers of all dies
  abbrev pub all_left : List Leftover
  all_left = all_from leaves becomes 0 (length w.dies)

  -- the job in flight of a die is one of this die
  flight_on : (die : ℕ) (flight : Flight) → die < length w.dies → s.translation.disk.flights die ≡ Some flight →
      CanDo (die_at w.dies die) (job_of flight) →
      IsJobOn heap w.config.pages pages_few die (die_at w.dies die) (Some (job_of flight))
  flight_on die (Reading reader p) less flies can = tt
  flight_on die (Programming p cell) less flies can =
      ((fit.valid.tied.valid.flights.programs die p cell flies).at_home, page_long cell)
  flight_on die (Erasing spot) less flies can = (
    (fit.valid.tied.valid.flights.erases die spot flies).at_home,
    can.0,
    (let size = die_size n w.dies die fit.dies_fit.sizes less in
        let many = size.0 in
        let first = can.0 in
        pages_in (die_at w.dies die) spot.block n.blocks n.pages (omega (arith, many, first)) size)
        ∙ ap (λ (m : Numbers). m.pages) (sym fit.config),
  )

  pub on_die : (die : ℕ) → die < length w.dies →
      IsJobOn heap w.config.pages pages_few die (die_at w.dies die) (job_at w.jobs die)
  on_die die less = by (job_at w.jobs die) refl
    where
      by : (j : Option Job) → job_at w.jobs die ≡ j →
          IsJobOn heap w.config.pages pages_few die (die_at w.dies die) j
      by None is = tt
      by (Some x) is =
          let f = has_flight w s die x fit is in
          subst (λ (y : Job). IsJobOn heap w.config.pages pages_few die (die_at w.dies die) (Some y)) f.2
          (flight_on die f.0 less f.1
          (subst (CanDo (die_at w.dies die)) (sym f.2) (finish_can w s die x fit is)))

  -- ## They are of the jobs of their dies

  of_die : (die : ℕ) (l : Leftover) →
      IsOf heap w.config.pages pages_few (job_at w.jobs die) l → IsOfDie w die l
  of_die die l is = (is.0, is.1, finish_can w s die is.0 fit is.1, is.2)

  at_home : (die : ℕ) → All (λ l. die_of l ≡ die) (leaves die)
  at_home die =
      All-weaker (IsOf heap w.config.pages pages_few (job_at w.jobs die)) (λ l. die_of l ≡ die)
      (λ l is. home w s die l fit (of_die die l is)) (leaves die)
      (are_of_job heap w.config.pages pages_few (say die) (job_at w.jobs die))

  few_each : (die : ℕ) → length (leaves die) ≤ 1
  few_each die = one_at_most heap w.config.pages pages_few (say die) (job_at w.jobs die)

  of_dies_all : All (λ l. IsOfDie w (die_of l) l) all_left
  of_dies_all =
      each_in leaves becomes (λ l. IsOfDie w (die_of l) l)
      (λ die.
      All-weaker (IsOf heap w.config.pages pages_few (job_at w.jobs die)) (λ l. IsOfDie w (die_of l) l)
      (λ l is. let own = of_die die l is in
      subst (λ (i : ℕ). IsOfDie w i l) (sym (home w s die l fit own)) own) (leaves die)
      (are_of_job heap w.config.pages pages_few (say die) (job_at w.jobs die)))
      (length w.dies) 0

  apart : AllPairs (λ l m. die_of l ≢ die_of m) all_left
  apart = apart_in leaves becomes few_each at_home (length w.dies) 0

  -- the die of a job is one of ours
  pub has_die : (die : ℕ) (x : Job) → job_at w.jobs die ≡ Some x → die < length w.dies
  has_die die x is =
      elim (cases_lt die (length w.jobs)) [
        | inl less ↦ subst (λ (k : ℕ). die < k) fit.dies_fit.as_many less
        | inr past ↦ absurd (none (sym (jobs_past past) ∙ is))
      ]
    where
      jobs_past : length w.jobs ≤ die → job_at w.jobs die ≡ None
      jobs_past past = get_or_past w.jobs die None past

      none : None ≡ Some x → ⊥
      none e = cc

  may_all : All (λ l. MayDieLeave w (die_of l) l) all_left
  may_all =
      each_in leaves becomes (λ l. MayDieLeave w (die_of l) l) may_each (length w.dies) 0
    where
      may_of : (die : ℕ) (l : Leftover) → die_of l ≡ die →
          MayLeave heap w.config.pages pages_few (die_at w.dies die) (job_at w.jobs die) l →
          MayDieLeave w (die_of l) l
      may_of die l same may =
          subst (λ (i : ℕ). MayDieLeave w i l) (sym same) may

      may_each : (die : ℕ) → All (λ l. MayDieLeave w (die_of l) l) (leaves die)
      may_each die = by (job_at w.jobs die) refl
        where
          by : (j : Option Job) → job_at w.jobs die ≡ j → All (λ l. MayDieLeave w (die_of l) l) (leaves die)
          by None is =
              subst (λ (o : Option Job). All (λ l. MayDieLeave w (die_of l) l)
              (leftovers heap w.config.pages pages_few (say die) o)) (sym is)
              (nothing (say die))
            where
              nothing : (x : Left) →
                  All (λ l. MayDieLeave w (die_of l) l) (leftovers heap w.config.pages pages_few x None)
              nothing left.Old = All-nil (λ l. MayDieLeave w (die_of l) l)
              nothing left.New = All-nil (λ l. MayDieLeave w (die_of l) l)
              nothing left.Torn = All-nil (λ l. MayDieLeave w (die_of l) l)
          by (Some x) is =
              All-both die (leaves die) (at_home die)
              (jobs.are_lawful heap w.config.pages pages_few (say die) die (die_at w.dies die) (job_at w.jobs die)
              (on_die die (has_die die x is)))
            where
              All-both : (i : ℕ) (ls : List Leftover) → All (λ l. die_of l ≡ i) ls →
                  All (MayLeave heap w.config.pages pages_few (die_at w.dies i) (job_at w.jobs i)) ls →
                  All (λ l. MayDieLeave w (die_of l) l) ls
              All-both i ls own may = λ k d less. may_of i _ (own k d less) (may k d less)

  pub are_theirs : AreLeftovers s all_left
  are_theirs = are_leftovers w s all_left fit of_dies_all apart

  pub lawful : (l : Leftover) → Contains all_left l → IsLawfulLeftover s l
  lawful = are_lawful w s all_left fit of_dies_all may_all

  -- ## What they make of the dies

  pub dies_same : stopped w.config.pages lefts w.jobs (length w.dies) w.dies ≡ dies_stopped w.dies all_left
  dies_same =
      stopped_same w.config.pages lefts w.jobs w.dies all_left
      (λ i less.
      inside leaves becomes (length w.dies) 0 w.dies (omega arith)
      (λ die from to.
      leave_one heap w.config.pages pages_few (say die) die (die_at w.dies die) (job_at w.jobs die)
      (on_die die (omega (arith, to))))
      i (omega arith) (omega (arith, less)))

  pub all_few : length all_left < 2 ^ 63
  all_few =
      let few = few_in leaves becomes few_each (length w.dies) 0 in
      let many = fit.dies_fit.sizes.0 in
      let bound = (ranges_of n fit.valid.tied.config).dies_bound in
      omega (arith, few, many, bound)

  -- the same as a vector
  abbrev pub all_vec : Vec Leftover
  all_vec = vec_of heap all_left all_few

  abbrev pub after : List DieState
  after = stopped w.config.pages lefts w.jobs (length w.dies) w.dies

  -- the stop that they are the leftovers of
  pub stops : Stops s all_left (array_of after)
  stops =
      subst (λ (ds : List DieState). Stops s all_left (array_of ds)) (sym dies_same)
      (stops_by s fit.valid w.dies all_left fit.dies_fit.sizes fit.dies_fit.pages are_theirs lawful)

  pub sizes : Fit n after
  sizes =
      subst (Fit n) (sym dies_same)
      (stopped_fits n w.dies all_left fit.dies_fit.sizes (leftovers_on_dies s fit.valid all_left are_theirs))

  pub bads : bad_in s ≡ bad_of after
  bads =
      (λ i spot. fit.dies_fit.blocks_fit.bad spot i)
      ∙ sym (stopped_bad n w.dies all_left fit.dies_fit.sizes (leftovers_on_dies s fit.valid all_left are_theirs))
      ∙ ap bad_of (sym dies_same)
