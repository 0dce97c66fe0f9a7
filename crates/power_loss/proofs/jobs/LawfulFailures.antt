-- A program or an erase may fail and leave each lawful leftover of it, and no other; and a read may fail.
use Rattle.power_loss.proofs.Common.{◌≡◌, ◌==◌, ℕ, true, [], ◌∷◌, Option, Some, None, refl, sym, ap, ◌∙◌, subst, inl}
use Rattle.power_loss.proofs.Common.{⊎_elim, Contains, Array, Cell, Cells, Shows, Crash, Erasing, Flight, Programming}
use Rattle.power_loss.proofs.Common.{Reader, Reading, Spot, Touches, flight_alone, page_of, Ending, ReadWrong}
use Rattle.power_loss.proofs.Common.{WentWrong, ending_fits, MayBeLeft, Page, Place, cases_Bool, cond-false, cond-true}
use Rattle.power_loss.proofs.Common.{eqb-self}
use Rattle.power_loss.proofs.MachineWords.{IsFailure, IsLawfulLeftover, IsLeft, IsLeftoverOf, Leads, die_of, page_left}
use Rattle.power_loss.proofs.MachineWords.{Done, OfDone, observe, State, numbers_of, Leftover, ValidState}
use Rattle.ufs_laws.proofs.pages.PageIsSomeCell.{some_cell}
use Rattle.power_loss.proofs.stops.LawfulLeftovers.{crash_by, is_left_by, left_by, named_touches}
use Rattle.power_loss.proofs.stops.LeftoverLists.{first_contained, one_apart, only_contained}
use Rattle.power_loss.proofs.die_pages.LeftoversLeaveOneArray.{left_named, named_die}
use Rattle.ufs_spec.specs.declared.events.Event.TheVariants as event
use Rattle.ufs_spec.specs.declared.events.Leftover.TheVariants as leftover
use Rattle.ufs_spec.specs.declared.events.Output.TheVariants as output

-- One die's job

alone_own : (flights : ℕ → Option Flight) {die other : ℕ} → other ≡ die → flight_alone flights die other ≡ flights other
alone_own flights {die} {other} e = cond-true (other == die) (flights other) None (ap (λ d. d == die) e ∙ eqb-self die)

touches_alone : (flights : ℕ → Option Flight) (die : ℕ) (p : Place) (intended : Cell) →
    Touches (flight_alone flights die p.die) p intended → Touches (flights p.die) p intended
touches_alone flights die p intended h = ⊎_elim
    (λ e. subst (λ f. Touches f p intended) (cond-true (p.die == die) (flights p.die) None e) h)
    (λ e. absurd (subst (λ f. Touches f p intended) (cond-false (p.die == die) (flights p.die) None e) h))
    (cases_Bool (p.die == die))

module _ (s : State) (v : ValidState s) (die : ℕ) (l : Leftover) where
  abbrev Flies : ℕ → Option Flight
  Flies = s.translation.disk.flights

  -- the leftover of a job is on the job's die
  home : (flight : Flight) → Flies die ≡ Some flight → (m : Leftover) → IsLeftoverOf (numbers_of s) (Some flight) m →
      die_of m ≡ die
  home (Programming p cell) e (leftover.Page q page) fit =
      ap (λ r. r.die) fit ∙ (v.tied.valid.flights.programs die p cell e).at_home
  home (Erasing spot) e (leftover.Block d block pages) fit =
      sym (ap (λ x. x.die) fit.0) ∙ (v.tied.valid.flights.erases die spot e).at_home
  home flight e m fit = absurd fit

  module _ (flight : Flight) (flies : Flies die ≡ Some flight) (fit : IsLeftoverOf (numbers_of s) (Some flight) l) where
    named_home : (p : Place) (page : Page) → page_left l p page → p.die ≡ die
    named_home p page h = sym (named_die l p page h) ∙ home flight flies l fit

    module _ (lawful : IsLawfulLeftover s l) where
      lawful_alone : (m : Leftover) → Contains (l ∷ []) m → (p : Place) (page : Page) → page_left m p page →
          (intended : Cell) × Touches (flight_alone Flies die p.die) p intended × MayBeLeft (s.array p)
          (page_of intended) page
      lawful_alone m there p page h =
          let named : page_left l p page = subst (λ x. page_left x p page) (only_contained there) h in
          let is = lawful p page named in (
            is.0,
            subst (λ f. Touches f p is.0) (sym (alone_own Flies (named_home p page named))) is.1,
            is.2,
          )

      left_here : Array
      left_here = left_by s.array (l ∷ [])

      cells_here : Cells
      cells_here p = (some_cell (left_here p)).0

      shown_here : Shows left_here cells_here
      unfolding cells_here
      shown_here p = (some_cell (left_here p)).1

      is_left_here : IsLeft s.array (l ∷ []) left_here
      unfolding left_here
      is_left_here = is_left_by s.array (l ∷ [])

      crash_here : Crash s.array (flight_alone Flies die) left_here
      unfolding left_here
      crash_here = crash_by s.array (l ∷ []) (flight_alone Flies die) lawful_alone

-- A job that fails leads on

pub failure_leads : {s : State} (die : ℕ) {flight : Flight} {l : Option Leftover} (ending : Ending) (left : Array) →
    s.translation.disk.flights die ≡ Some flight → ending_fits (Some flight) ending ≡ true →
    IsFailure s die (Some flight) l ending left → Leads s (event.Fail die l) output.Ended
    (observe s (Done die ending left) (OfDone true))
failure_leads {s} die {l} ending left flies fit h = record {
  call = Done die ending left;
  answer = OfDone true;
  is_call = (ending, left, subst (λ f. IsFailure s die f l ending left) (sym flies) h, refl);
  is_shown = refl;
  right = sym (ap (λ f. ending_fits f ending) flies ∙ fit);
  next = refl;
}

-- what a failure of the job leaves by the leftover
abbrev pub Failure : State → ℕ → Flight → Leftover → Type 0
Failure s die flight l = (c : Cells) × (left : Array) × IsFailure s die (Some flight) (Some l) (WentWrong c) left

pub program_failure : {s : State} (die : ℕ) (p : Place) (cell : Cell) (l : Leftover) → ValidState s →
    s.translation.disk.flights die ≡ Some (Programming p cell) → IsLeftoverOf (numbers_of s)
    (Some (Programming p cell)) l → IsLawfulLeftover s l → Failure s die (Programming p cell) l
program_failure {s} die p cell l v e fit lawful = (
  cells_here s v die l (Programming p cell) e fit lawful,
  left_here s v die l (Programming p cell) e fit lawful,
  (
    fit,
    is_left_here s v die l (Programming p cell) e fit lawful,
    crash_here s v die l (Programming p cell) e fit lawful,
    shown_here s v die l (Programming p cell) e fit lawful,
  ),
)

pub erase_failure : {s : State} (die : ℕ) (spot : Spot) (l : Leftover) → ValidState s →
    s.translation.disk.flights die ≡ Some (Erasing spot) → IsLeftoverOf (numbers_of s) (Some (Erasing spot)) l →
    IsLawfulLeftover s l → Failure s die (Erasing spot) l
erase_failure {s} die spot l v e fit lawful = (
  cells_here s v die l (Erasing spot) e fit lawful,
  left_here s v die l (Erasing spot) e fit lawful,
  (
    fit,
    is_left_here s v die l (Erasing spot) e fit lawful,
    crash_here s v die l (Erasing spot) e fit lawful,
    shown_here s v die l (Erasing spot) e fit lawful,
  ),
)

pub job_fails : (s : State) (die : ℕ) (flight : Flight) (l : Leftover) → ValidState s →
    s.translation.disk.flights die ≡ Some flight → IsLeftoverOf (numbers_of s) (Some flight) l → IsLawfulLeftover s l →
    (t : State) × Leads s (event.Fail die (Some l)) output.Ended t
job_fails s die (Programming p cell) l v e fit lawful =
    let f = program_failure die p cell l v e fit lawful in
    (_, failure_leads die (WentWrong f.0) f.1 e refl f.2)
job_fails s die (Erasing spot) l v e fit lawful =
    let f = erase_failure die spot l v e fit lawful in
    (_, failure_leads die (WentWrong f.0) f.1 e refl f.2)
job_fails s die (Reading reader p) l v e fit lawful = absurd fit

pub read_fails : (s : State) (die : ℕ) (reader : Reader) (p : Place) → s.translation.disk.flights die ≡ Some
    (Reading reader p) → (t : State) × Leads s (event.Fail die None) output.Ended t
read_fails s die reader p e = (_, failure_leads die ReadWrong s.array e refl refl)

-- And no other

module _ (s : State) (v : ValidState s) (die : ℕ) (flight : Flight) (l : Leftover) (left : Array)
    (flies : s.translation.disk.flights die ≡ Some flight)
    (fit : IsLeftoverOf (numbers_of s) (Some flight) l) (is_left : IsLeft s.array (l ∷ []) left)
    (crash : Crash s.array (flight_alone s.translation.disk.flights die) left) where
  failed_lawful : IsLawfulLeftover s l
  failed_lawful p page h =
      let is : left p ≡ page = left_named s.array (l ∷ []) (one_apart l) left is_left p (l, first_contained [], h) in
      ⊎_elim
      (λ old.
      let t = named_touches (numbers_of s) (Some flight) l p page fit h in (
        t.0,
        subst (λ f. Touches f p t.0)
            (sym (ap s.translation.disk.flights (named_home s v die l flight flies fit p page h) ∙ flies)) t.1,
        inl (sym is ∙ old),
      ))
      (λ k.
      (k.0, touches_alone s.translation.disk.flights die p k.0 k.1, subst (MayBeLeft (s.array p) (page_of k.0)) is k.2))
      (crash p)

pub failure_lawful : (s : State) (die : ℕ) (flight : Flight) (l : Leftover) (ending : Ending) (left : Array) →
    ValidState s → s.translation.disk.flights die ≡ Some flight → IsFailure s die (Some flight) (Some l) ending left →
    IsLawfulLeftover s l
failure_lawful s die (Programming p cell) l (WentWrong c) left v e h = failed_lawful s v die
    (Programming p cell) l left e h.0 h.1 h.2
failure_lawful s die (Erasing spot) l (WentWrong c) left v e h = failed_lawful s v die
    (Erasing spot) l left e h.0 h.1 h.2
failure_lawful s die (Reading reader p) l (WentWrong c) left v e h = failed_lawful s v die
    (Reading reader p) l left e h.0 h.1 h.2
failure_lawful s die flight l ending left v e h = absurd h
