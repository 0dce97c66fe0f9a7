-- A job that fails leads to a state that the world then fits, and one that is refused fails not so.
use Rattle.device.proofs.Common.{Array, Cell, Cells, DeviceCore, Done, Ending, Erasing, Fit, Fits, Flight, IsAnswered}
use Rattle.device.proofs.Common.{IsEndingOf, IsInside, IsLawfulLeftover, IsLeft, IsLeftoverOf, IsOfDie, Leftover}
use Rattle.device.proofs.Common.{MayDieLeave, MayLeave, None, Numbers, OfDone, Ok, Option, Outcome, Place, Programming}
use Rattle.device.proofs.Common.{ReadWrong, Reader, Reading, Some, Spot, State, Went, WentWrong, WorldState, [], ap}
use Rattle.device.proofs.Common.{array_of, die_of, dies_failed, ending_fits, job_at, job_of, numbers_of, observe, refl}
use Rattle.device.proofs.Common.{slice_set, spot_of, subst, sym, true, ℕ, ◌∙◌, ◌∷◌, ◌≡◌}
use Rattle.std.proofs.Common.{option_map}
use Rattle.ufs_spec.specs.Lives.{IsFailure}
use Rattle.ufs_spec.specs.declared.events.Event.TheVariants as event
use Rattle.ufs_spec.specs.declared.events.Leftover.TheVariants as leftover
use Rattle.ufs_spec.specs.declared.events.Output.TheVariants as output
use Rattle.ufs_spec.specs.declared.flash.Job.TheVariants as job
use Rattle.ufs_spec.specs.declared.flash.Outcome.TheVariants as outcome
use Rattle.power_loss.proofs.die_pages.LeftoversLeaveOneArray.{one_left}
use Rattle.power_loss.proofs.jobs.LawfulFailures.{job_fails}
use Rattle.power_loss.proofs.stops.LeftoverLists.{one_apart}
use Rattle.device.specs.Worlds.{IsBad, IsFailureOf, IsWrong}
use Rattle.device.proofs.dies_of_world.DiesFit.{AreBehind, ended_fits}
use Rattle.device.proofs.dies_of_world.FailDies.{failed_blocks, failed_fits, failed_left}
use Rattle.device.proofs.dies_of_world.FinishDies.{blocks_failed, layer_failed, seen_erase_failed, seen_program_failed}
use Rattle.device.proofs.dies_of_world.FinishDies.{seen_unread}
use Rattle.device.proofs.dies_of_world.LeftDies.{leftover_on_dies, spot_left}
use Rattle.device.proofs.dies_of_world.LeftoversChecked.{home, lawful_of, may_of, of_flight, to_die}
use Rattle.device.proofs.dies_of_world.QuietDies.{seen, seen_over}
use Rattle.device.proofs.dies_of_world.WentRight.{has_flight, went_on}

-- what a device is told of a job that ended so
abbrev pub IsToldOf : State → ℕ → Outcome → DeviceCore → Type 0
IsToldOf s die o after =
    (ending : Ending) (left : Array) → IsEndingOf s.translation.disk.cells (s.translation.disk.flights die) o ending →
    MayLeave s die ending left → IsAnswered s (Done die ending left) (OfDone true) after

-- A program or an erase

module _ (w : WorldState) (s : State) (die : ℕ) (l : Leftover) (fit : Fits w s) (is : IsOfDie w die l) where
  abbrev n : Numbers
  n = numbers_of s

  abbrev flights : ℕ → Option Flight
  flights = s.translation.disk.flights

  abbrev after_fail : DeviceCore → WorldState
  after_fail core = record w {
    core = core;
    jobs = slice_set w.jobs die None;
    dies = dies_failed w.dies die l;
  }

  on : IsInside n l
  on = leftover_on_dies s fit.valid die (flights die) l refl (of_flight w s die l fit is)

  -- the dies hold what the failed job leaves
  behind : (left : Array) → IsLeft s.array (l ∷ []) left →
      AreBehind n (dies_failed w.dies die l) left (blocks_failed s.translation (spot_left l))
      s.translation.disk.vacancies
  behind left is_left =
      subst
      (λ (e : ℕ). AreBehind n (dies_failed w.dies e l) left (blocks_failed s.translation (spot_left l))
      s.translation.disk.vacancies)
      (home w s die l fit is)
      record {
        pages =
            one_left s.array (l ∷ []) (one_apart l) left (array_of (dies_failed w.dies (die_of l) l)) is_left
            (subst (λ (array : Array). IsLeft array (l ∷ []) (array_of (dies_failed w.dies (die_of l) l)))
            (sym fit.dies_fit.pages) (failed_left n w.dies l fit.dies_fit.sizes on));
        blocks_fit = failed_blocks n w.dies l fit.dies_fit.sizes on s.translation.disk.blocks
            s.translation.disk.vacancies fit.dies_fit.blocks_fit;
      }

  sizes : Fit n (dies_failed w.dies die l)
  sizes =
      subst (λ (e : ℕ). Fit n (dies_failed w.dies e l)) (home w s die l fit is)
      (failed_fits n w.dies l fit.dies_fit.sizes on)

  -- whichever job it is
  fails : (flight : Flight) (core : DeviceCore) (c : Cells) (left : Array) → flights die ≡ Some flight →
      IsFailure s die (Some flight) (Some l) (WentWrong c) left → ending_fits (Some flight) (WentWrong c) ≡ true →
      IsLeft s.array (l ∷ []) left →
      seen (observe s (Done die (WentWrong c) left) (OfDone true))
      ≡ seen_over left (layer_failed s.translation (spot_left l)) →
      IsAnswered s (Done die (WentWrong c) left) (OfDone true) core →
      Went s (event.Fail die (Some l)) (after_fail core) (Ok output.Ended)
  fails flight core c left flies failure right is_left looks answered =
      went_on w (after_fail core) s (event.Fail die (Some l)) output.Ended (Done die (WentWrong c) left) (OfDone true)
      fit refl (
        WentWrong c,
        left,
        subst (λ (o : Option Flight). IsFailure s die o (Some l) (WentWrong c) left) (sym flies) failure,
        refl,
      )
      refl answered
      (ended_fits w.dies w.jobs s fit.dies_fit fit.describes.tied die flight (WentWrong c) left
      (dies_failed w.dies die l) left (blocks_failed s.translation (spot_left l)) s.translation.disk.vacancies
      flies right
      sizes (behind left is_left) looks)

  -- the spot of the job is that of the leftover
  program_spot : (p : Place) (cell : Cell) (m : Leftover) → IsLeftoverOf n (Some (Programming p cell)) m →
      spot_of p ≡ spot_left m
  program_spot p cell (leftover.Page q x) h = ap spot_of (sym h)
  program_spot p cell (leftover.Block other block pages) h = absurd h

  erase_spot : (spot : Spot) (m : Leftover) → IsLeftoverOf n (Some (Erasing spot)) m → spot ≡ spot_left m
  erase_spot spot (leftover.Page q x) h = absurd h
  erase_spot spot (leftover.Block other block pages) h = h.0

  -- a job that fails leaves cells
  cells_left : (flight : Flight) (ending : Ending) (left : Array) →
      IsFailure s die (Some flight) (Some l) ending left →
      (c : Cells) × IsFailure s die (Some flight) (Some l) (WentWrong c) left
  cells_left (Programming p cell) (WentWrong c) left h = (c, h)
  cells_left (Erasing spot) (WentWrong c) left h = (c, h)
  cells_left (Reading reader p) (WentWrong c) left h = (c, h)
  cells_left flight ending left h = absurd h

  failure : (flight : Flight) → flights die ≡ Some flight → IsLeftoverOf n (Some flight) l → IsLawfulLeftover s l →
      (c : Cells) × (left : Array) × IsFailure s die (Some flight) (Some l) (WentWrong c) left
  failure flight flies h lawful =
      let call = (job_fails s die flight l fit.valid flies h lawful).1.is_call in
      let c = cells_left flight call.0 call.1
      (subst (λ (o : Option Flight). IsFailure s die o (Some l) call.0 call.1) flies call.2) in (c.0, call.1, c.1)

  by_flight : (flight : Flight) (core : DeviceCore) → flights die ≡ Some flight → IsLeftoverOf n (Some flight) l →
      IsLawfulLeftover s l → IsToldOf s die outcome.Failed core →
      Went s (event.Fail die (Some l)) (after_fail core) (Ok output.Ended)
  by_flight (Programming p cell) core flies h lawful told =
      let f = failure (Programming p cell) flies h lawful in
      fails (Programming p cell) core f.0 f.1 flies f.2 refl f.2.1
      (subst
      (λ (spot : Spot). seen (observe s (Done die (WentWrong f.0) f.1) (OfDone true))
      ≡ seen_over f.1 (layer_failed s.translation spot))
      (program_spot p cell l h) (seen_program_failed s die p cell f.0 f.1 flies))
      (told (WentWrong f.0) f.1
      (subst (λ (o : Option Flight). IsEndingOf s.translation.disk.cells o outcome.Failed (WentWrong f.0)) (sym flies)
      (refl, tt)) (f.2.2, f.2.3))
  by_flight (Erasing spot) core flies h lawful told =
      let f = failure (Erasing spot) flies h lawful in
      fails (Erasing spot) core f.0 f.1 flies f.2 refl f.2.1
      (subst
      (λ (x : Spot). seen (observe s (Done die (WentWrong f.0) f.1) (OfDone true))
      ≡ seen_over f.1 (layer_failed s.translation x))
      (erase_spot spot l h) (seen_erase_failed s die spot f.0 f.1 flies))
      (told (WentWrong f.0) f.1
      (subst (λ (o : Option Flight). IsEndingOf s.translation.disk.cells o outcome.Failed (WentWrong f.0)) (sym flies)
      (refl, tt)) (f.2.2, f.2.3))
  by_flight (Reading reader p) core flies h lawful told = absurd h

  pub fail_went : (core : DeviceCore) → MayDieLeave w die l → IsToldOf s die outcome.Failed core →
      Went s (event.Fail die (Some l)) (after_fail core) (Ok output.Ended)
  fail_went core may told =
      let f = has_flight w s die is.0 fit is.1 in
      by_flight f.0 core f.1
      (subst (λ (o : Option Flight). IsLeftoverOf n o l) f.1 (of_flight w s die l fit is))
      (lawful_of w s die l fit is may) told

  -- it fits, but the job may not leave it
  pub fail_bad : (MayDieLeave w die l → ⊥) → IsBad s (event.Fail die (Some l))
  fail_bad none = (of_flight w s die l fit is, λ lawful. none (may_of w s die l fit is lawful))

-- it is not that of the job of the die
pub fail_wrong : (w : WorldState) (s : State) (die : ℕ) (l : Leftover) → Fits w s → (IsOfDie w die l → ⊥) →
    IsWrong s (event.Fail die (Some l))
fail_wrong w s die l fit none h = none (to_die w s die l fit h)

-- A read

read_of : (o : Option Flight) (flight : Flight) (p : Place) → job_of flight ≡ job.Read p → o ≡ Some flight →
    (reader : Reader) × (place : Place) × (o ≡ Some (Reading reader place))
read_of o (Reading reader place) p e flies = (reader, place, flies)
read_of o (Programming place cell) p e flies = absurd (no_program e)
  where
    no_program : {x : _} → job.Program place x ≡ job.Read p → ⊥
    no_program h = cc
read_of o (Erasing spot) p e flies = absurd (no_erase e)
  where
    no_erase : job.Erase spot.die spot.block ≡ job.Read p → ⊥
    no_erase h = cc

module _ (w : WorldState) (s : State) (die : ℕ) (fit : Fits w s) where
  abbrev after_read : DeviceCore → WorldState
  after_read core = record w { core = core; jobs = slice_set w.jobs die None }

  unread : (core : DeviceCore) (reader : Reader) (p : Place) →
      s.translation.disk.flights die ≡ Some (Reading reader p) → IsToldOf s die outcome.ReadFailed core →
      Went s (event.Fail die None) (after_read core) (Ok output.Ended)
  unread core reader p flies told =
      went_on w (after_read core) s (event.Fail die None) output.Ended (Done die ReadWrong s.array) (OfDone true) fit
      refl (
        ReadWrong,
        s.array,
        subst (λ (o : Option Flight). IsFailure s die o None ReadWrong s.array) (sym flies) refl,
        refl,
      )
      refl
      (told ReadWrong s.array
      (subst (λ (o : Option Flight). IsEndingOf s.translation.disk.cells o outcome.ReadFailed ReadWrong) (sym flies)
      (refl, tt)) tt)
      (ended_fits w.dies w.jobs s fit.dies_fit fit.describes.tied die (Reading reader p) ReadWrong s.array w.dies
      s.array s.translation.disk.blocks s.translation.disk.vacancies
      flies refl
      fit.dies_fit.sizes record { pages = fit.dies_fit.pages; blocks_fit = fit.dies_fit.blocks_fit }
      (seen_unread s die reader p s.array flies))

  pub fail_read_went : (core : DeviceCore) (p : Place) → job_at w.jobs die ≡ Some (job.Read p) →
      IsToldOf s die outcome.ReadFailed core → Went s (event.Fail die None) (after_read core) (Ok output.Ended)
  fail_read_went core p has told =
      let f = has_flight w s die (job.Read p) fit has in
      let r = read_of (s.translation.disk.flights die) f.0 p f.2 f.1 in
      unread core r.0 r.1 r.2 told

  no_read : (o : Option Flight) → s.translation.disk.flights die ≡ o →
      ((p : Place) → job_at w.jobs die ≡ Some (job.Read p) → ⊥) → IsFailureOf (numbers_of s) o None → ⊥
  no_read (Some (Reading reader p)) flies none h =
      none p (fit.dies_fit.jobs_are die ∙ ap (option_map job_of) flies)
  no_read (Some (Programming p cell)) flies none h = h
  no_read (Some (Erasing spot)) flies none h = h
  no_read None flies none h = h

  pub fail_read_wrong : ((p : Place) → job_at w.jobs die ≡ Some (job.Read p) → ⊥) → IsWrong s (event.Fail die None)
  fail_read_wrong none h = no_read (s.translation.disk.flights die) refl none h
