-- What threads do is a life, and a stop among them is one of a run.
use Rattle.lanes.proofs.Common.{DieState, Entry, Event, Fits, IsLegal, IsOpening, IsStart, Legal, List, Numbers}
use Rattle.lanes.proofs.Common.{Opening, Output, State, Vec, WorldState, [], ap, array_of, inr, map, numbers_of, subst}
use Rattle.lanes.proofs.Common.{sym, ◌++◌, ◌∙◌, ◌∷◌, ◌≡◌}
use Rattle.std.specs.Prelude.{take}
use Rattle.std.proofs.lemmas.List.{append-nil}
use Rattle.ufs_spec.specs.Configs.{IsConfig}
use Rattle.ufs_spec.specs.Lives.{Fit, GoesOn, IsOpened, Runs, Stops, bad_in, bad_of}
use Rattle.ufs_spec.specs.Plain.{Plain, after}
use Rattle.ufs_spec.specs.Sound.{Suits}
use Rattle.ufs_spec.specs.declared.events.Event.TheVariants as event
use Rattle.ufs_spec.specs.declared.events.Leftover.{Leftover}
use Rattle.ufs_spec.specs.declared.events.Output.TheVariants as output
use Rattle.power_loss.proofs.die_pages.BlankOutsideDies.{fit_inside}
use Rattle.power_loss.proofs.lives.ChainedLives.{life_continues}
use Rattle.power_loss.proofs.lives.LivesOfRuns.{life_runs, more}
use Rattle.power_loss.proofs.lives.NextLife.{prefix_left, sound_left, suits_left, within_left}
use Rattle.power_loss.proofs.openings.EachSoundArrayOpens.{any_opens}
use Rattle.power_loss.specs.Exchange.{IsArrayOf}
use Rattle.device.specs.Worlds.{KeepsThePromise, dies_stopped}
use Rattle.device.proofs.dies_of_world.LeftDies.{stops_by}
use Rattle.device.proofs.dies_of_world.Runs.{promise}
use Rattle.device.proofs.dies_of_world.StoppedWorld.{are_lawful, are_leftovers}
use Rattle.lanes.specs.Promised.{IsLife, IsStoppedSafely, KeepsItsPromise, KeepsItsPromiseStopped, MayBeStopped}
use Rattle.lanes.proofs.Opened.{begins, fit_of, fits_first, is_config, same_numbers}

-- Lists of steps are lives

pub life_of : (s t : State) (list : List Entry) → Legal s list t → IsLife s list t
life_of s t [] h = record { events = []; outputs = []; told_as = tt; life = h }
life_of s t (e ∷ es) h =
    let rest = life_of h.0 t es h.2 in
    record {
      events = h.1.event ∷ rest.events;
      outputs = h.1.output ∷ rest.outputs;
      told_as = (h.1.told_as, rest.told_as);
      life = (h.0, h.1.leads, rest.life);
    }

module _ {D : Type 0} (state : D → DieState) (opening : Opening D) (is : IsOpening state opening) where
  abbrev n : Numbers
  n = opening.device.value.ftl.numbers

  abbrev ds : List DieState
  ds = map state opening.dies.value.items

  config : IsConfig n
  config = is_config state opening.device.value opening.dies.value.items is

  fit : Fit n ds
  fit = fit_of state opening.device.value opening.dies.value.items is

  suits : Suits n (array_of ds)
  suits =
      subst (λ (m : Numbers). Suits m (array_of ds))
      (sym (same_numbers state opening.device.value opening.dies.value.items is)) is.suits

  keeps : (s t : State) (es : List Event) (os : List Output) → IsOpened n (array_of ds) (bad_of ds) s →
      Runs n s es os t → KeepsThePromise n ds es os
  keeps s t es os opened runs =
      promise n ds es os s t config (record { fit = fit; suits = suits }) is.sound opened runs

  -- without a stop
  pub list_keeps : (list : List Entry) → IsLegal state opening list → KeepsItsPromise state opening list [] []
  list_keeps list legal =
      let start = begins state opening is in
      let led = legal start.0 start.1 in
      let life = life_of start.0 led.0 list led.1 in
      record {
        events = life.events;
        outputs = life.outputs;
        told_as = life.told_as;
        promise =
            subst (λ (es : List Event). KeepsThePromise n ds es (life.outputs ++ [])) (sym (append-nil life.events))
            (subst (λ (os : List Output). KeepsThePromise n ds life.events os) (sym (append-nil life.outputs))
            (keeps start.0 led.0 life.events life.outputs start.1
            (life_runs n start.0 led.0 life.events life.outputs life.life)));
      }

  -- with a stop
  module _ (w : WorldState) (list : List Entry) (lefts : Vec Leftover) (may : MayBeStopped w lefts.items) (s now :
      State)
      (opened : IsStart state opening s) (legal : Legal s list now) (fits : Fits w now) where
    abbrev left : List DieState
    left = dies_stopped w.dies lefts.items

    stops : Stops now lefts.items (array_of left)
    stops =
        stops_by now fits.valid w.dies lefts.items fits.dies_fit.sizes fits.dies_fit.pages
        (are_leftovers w now lefts.items fits may.of_jobs may.apart)
        (are_lawful w now lefts.items fits may.of_jobs may.lawful)

    continues : (numbers_of now ≡ numbers_of s) × (now.base ≡ s.base) × IsArrayOf (numbers_of s) now.array
    continues =
        let first = fits_first state opening is s opened in
        let life = life_of s now list legal in
        life_continues now life.events life.outputs first.valid
        (subst (IsArrayOf (numbers_of s)) (sym opened.array_now)
        (subst (λ (m : Numbers). IsArrayOf m (array_of ds)) (sym opened.translation.numbers) (fit_inside n ds fit)))
        life.life

    same_numbers_now : numbers_of now ≡ n
    same_numbers_now = continues.0 ∙ opened.translation.numbers

    reopens : (u : State) × GoesOn n now (event.Stop lefts) output.Stopped u
    reopens =
        let inside = within_left fits.valid stops
        (subst (λ (m : Numbers). IsArrayOf m now.array) (sym continues.0) continues.2) in
        let o = any_opens n (array_of left) (bad_in now)
        (subst (λ (m : Numbers). IsArrayOf m (array_of left)) same_numbers_now inside)
        (sound_left now fits.valid lefts.items (array_of left) stops)
        (subst (λ (m : Numbers). Suits m (array_of left)) same_numbers_now
        (suits_left now fits.valid lefts.items (array_of left) stops)) in
        (o.0, inr (array_of left, stops, o.1))

    pub stop_keeps : KeepsItsPromiseStopped state opening list lefts
    stop_keeps =
        let life = life_of s now list legal in
        record {
          events = life.events;
          outputs = life.outputs;
          told_as = life.told_as;
          promise =
              keeps s reopens.0 (life.events ++ event.Stop lefts ∷ []) (life.outputs ++ output.Stopped ∷ []) opened
              (more n s now reopens.0 life.events life.outputs (event.Stop lefts) output.Stopped
              (life_runs n s now life.events life.outputs life.life) reopens.1);
        }

    pub stop_safe : IsStoppedSafely state opening list w lefts.items s
    stop_safe = record {
      now = now;
      legal = legal;
      prefix = record {
        opens = λ next bad o.
            let k = prefix_left now fits.valid lefts.items (array_of left) stops o in
            (k.0, k.1, k.3, k.4 ∙ ap (λ (p : Plain). after p (take k.0 now.accepted)) continues.1);
      };
    }
