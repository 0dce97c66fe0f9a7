-- A stop of a device that a handle holds, and a save whose image is opened again, are stops of a run.
use Rattle.std.proofs.Common.{◌≡◌, ◌≤◌, ◌∙◌, [], ℕ, Bool, List, Option, None, Some, ap, arith, inl, inr}
use Rattle.std.proofs.Common.{length, map, refl, replicate, sym, subst}
use Rattle.std.proofs.lemmas.Bool.{cases_lt}
use Rattle.std.proofs.lemmas.List.{get_or-replicate, get_or_past, length-map, length-replicate}
use Rattle.std.proofs.lemmas.List.Elements.{All-nil}
use Rattle.std.specs.Global.{Vec}
use Rattle.std.specs.Prelude.{Result, Ok, Err, slice_index_or}
use Rattle.std.specs.declared.alloc.Global.{Global}
use Rattle.ufs_spec.specs.Cells.{Array}
use Rattle.ufs_spec.specs.Dies.{DieState, power_cycle_ended}
use Rattle.ufs_spec.specs.Disk.{Spot}
use Rattle.ufs_spec.specs.Lives.{Fit, IsOpened, Stops, array_of, bad_in, bad_of}
use Rattle.ufs_spec.specs.Refusals.{State, numbers_of}
use Rattle.ufs_spec.specs.declared.configs.Numbers.{Numbers}
use Rattle.ufs_spec.specs.declared.events.Event.TheVariants as event
use Rattle.ufs_spec.specs.declared.events.Leftover.{Leftover}
use Rattle.ufs_spec.specs.declared.events.Output.TheVariants as output
use Rattle.ufs_spec.specs.declared.flash.Job.{Job}
use Rattle.power_loss.proofs.die_pages.BlankOutsideDies.{fit_inside}
use Rattle.power_loss.proofs.lives.NextLife.{sound_left, suits_left}
use Rattle.power_loss.proofs.openings.EachSoundArrayOpens.{any_opens}
use Rattle.power_loss.proofs.stops.LeftoverLists.{none_contained}
use Rattle.power_loss.specs.Exchange.{ValidState}
use Rattle.device.specs.Worlds.{Went}
use Rattle.device.proofs.dies_of_world.LeftDies.{cycled_bad, cycled_fits, cycled_pages}
use Rattle.device.proofs.dies_of_world.OpenedWorld.{IsOpenedOver, opened_fits}
use Rattle.ufs_handle.specs.Calls.{IsOpen, OpensOver, Stopped, StopsSo, dies_stopped, left_off}
use Rattle.ufs_handle.specs.Kept.{HeldState, die_at, job_at}
use Rattle.ufs_handle.specs.Left.{left_by, stopped}
use Rattle.ufs_handle.specs.Runs.{FitsHeld, HoldTheSame, IsEvent, IsOffAfter, Makes, Save, Stop, world_held}
use Rattle.ufs_handle.specs.declared.fault.Fault.{Fault}
use Rattle.ufs_handle.specs.declared.left.Left.{Left}
use Rattle.ufs_handle.specs.declared.left.Left.TheVariants as left
use Rattle.ufs_handle.proofs.AllJobsLeave.{all_vec, bads, sizes, stops}
use Rattle.ufs_handle.proofs.CallsAreEvents.{no_event, went_event}
use Rattle.ufs_handle.proofs.DiesOneByOne.{stopped_same}
use Rattle.ufs_handle.proofs.JobsLeave.{vec_of}

-- ## A device that is opened over what a stop left

pub opened_again : (s : State) (v : Vec Leftover) (h : HeldState) → ValidState s → h.config ≡ numbers_of s →
    Stops s v.items (array_of h.dies) → bad_in s ≡ bad_of h.dies → Fit (numbers_of s) h.dies →
    h.jobs ≡ replicate (length h.dies) None → OpensOver h.config h.dies h.core →
    Went s (event.Stop v) (world_held h) (Ok output.Stopped)
opened_again s v h valid config stops_so bad fit idle opens =
    let n = numbers_of s in
    let array = array_of h.dies in
    let sound = sound_left s valid v.items array stops_so in
    let suits = suits_left s valid v.items array stops_so in
    let o = any_opens n array (bad_of h.dies) (fit_inside n h.dies fit) sound suits in
    let over : IsOpenedOver n h.dies h.core =
    subst (λ (m : Numbers). IsOpenedOver m h.dies h.core) config opens.described in (
      o.0,
      inr (array, stops_so, subst (λ (b : Spot → Bool). IsOpened n array b o.0) (sym bad) o.1),
      opened_fits (world_held h) n h.dies o.0 fit config refl idle over sound o.1,
    )

-- ## A stop of a device with its power on

-- as many jobs as dies
idle_dies : {A : Type 0} (a b c : ℕ) (x : A) → a ≡ b → b ≡ c → replicate a x ≡ replicate c x
idle_dies a b c x e f = ap (λ (k : ℕ). replicate k x) (e ∙ f)

module _ (heap : Global) (h : HeldState) (s : State) (fits : FitsHeld h s) (lefts : List Left) where
  abbrev n : Numbers
  n = numbers_of s

  abbrev left_on : List DieState
  left_on = dies_stopped lefts h

  many_jobs : length h.jobs ≡ length left_on
  many_jobs =
      fits.world.dies_fit.as_many ∙ fits.world.dies_fit.sizes.0 ∙ sym (sizes (world_held h) s fits.world heap lefts).0

  stop_opened : (after : HeldState) → Stopped lefts h after → IsEvent (Stop lefts (Ok tt)) s after
  stop_opened after is =
      let v = all_vec (world_held h) s fits.world heap lefts in
      went_event (Stop lefts (Ok tt)) s after (event.Stop v) output.Stopped ((v, refl), refl) is.on
      (opened_again s v after fits.world.valid (is.config ∙ fits.world.config)
      (subst (λ (ds : List DieState). Stops s v.items (array_of ds)) (sym is.dies)
      (stops (world_held h) s fits.world heap lefts))
      (bads (world_held h) s fits.world heap lefts ∙ ap bad_of (sym is.dies))
      (subst (Fit n) (sym is.dies) (sizes (world_held h) s fits.world heap lefts))
      (is.jobs ∙ ap (λ (k : ℕ). replicate k None) (many_jobs ∙ ap (λ (ds : List DieState). length ds) (sym is.dies)))
      is.opened)

  stop_off : (f : Fault) (after : HeldState) → after ≡ left_off lefts h → IsEvent (Stop lefts (Err f)) s after
  stop_off f after is =
      record {
        events = [];
        outputs = [];
        shows = (refl, refl);
        next = s;
        runs = refl;
        stands = inr (subst (λ (x : HeldState). IsOffAfter x s) (sym is) (record {
          off = refl;
          config = fits.world.config;
          valid = fits.world.valid;
          lefts = all_vec (world_held h) s fits.world heap lefts;
          stops = stops (world_held h) s fits.world heap lefts;
          bad = bads (world_held h) s fits.world heap lefts;
          sizes = sizes (world_held h) s fits.world heap lefts;
          idle = ap (λ (k : ℕ). replicate k None) many_jobs;
        }));
      }

  pub stops_on : (answer : Result (Unit {0}) Fault) (after : HeldState) →
      StopsSo lefts (Some h) (Some answer) (Some after) → IsEvent (Stop lefts answer) s after
  stops_on (Ok done) after (some, is) = stop_opened after is
  stops_on (Err f) after (inl own) = no_event (Stop lefts (Err f)) s h after (refl, refl) own.2 fits
  stops_on (Err f) after (inr off) = stop_off f after off.2

-- ## A stop of a device whose power is off

none_of : (k die : ℕ) → job_at (replicate k None) die ≡ None
none_of k die =
    elim (cases_lt die k) [
      | inl less ↦ get_or-replicate {A = Option Job} k die None None less
      | inr past ↦
          get_or_past (replicate k None) die None
          (subst (λ (m : ℕ). m ≤ die) (sym (length-replicate {A = Option Job} k None)) past)
    ]

left_by_none : (pages : ℕ) (x : Left) (j : Option Job) (d : DieState) → j ≡ None → left_by pages x j d ≡ d
left_by_none pages left.Old j d is = refl
left_by_none pages left.New j d is = ap (λ (o : Option Job). left_by pages left.New o d) is
left_by_none pages left.Torn j d is = ap (λ (o : Option Job). left_by pages left.Torn o d) is

-- without a job in flight the dies stay, and their power cycle is over
idle_stopped : (pages : ℕ) (lefts : List Left) (jobs : List (Option Job)) (k : ℕ) (dies : List DieState) →
    jobs ≡ replicate k None →
    stopped pages lefts jobs (length dies) dies ≡ map power_cycle_ended dies
idle_stopped pages lefts jobs k dies idle =
    stopped_same pages lefts jobs dies []
    (λ i less.
    sym (left_by_none pages (slice_index_or lefts i left.Old) (job_at jobs i) (die_at dies i)
    (ap (λ (js : List (Option Job)). job_at js i) idle ∙ none_of k i)))

module _ (h : HeldState) (s : State) (o : IsOffAfter h s) (lefts : List Left) where
  abbrev ended : List DieState
  ended = map power_cycle_ended h.dies

  same_dies : dies_stopped lefts h ≡ ended
  same_dies = idle_stopped h.config.pages lefts h.jobs (length h.dies) h.dies o.idle

  many_idle : length h.jobs ≡ length ended
  many_idle =
      ap (λ (js : List (Option Job)). length js) o.idle ∙ length-replicate {A = Option Job} (length h.dies) None
      ∙ sym (length-map h.dies power_cycle_ended)

  off_again : (x : HeldState) → x.dies ≡ ended → Stops s o.lefts.items (array_of x.dies)
  off_again x is =
      subst (λ (array : Array). Stops s o.lefts.items array)
      (sym (cycled_pages h.dies) ∙ ap array_of (sym is)) o.stops

  bad_again : (x : HeldState) → x.dies ≡ ended → bad_in s ≡ bad_of x.dies
  bad_again x is = o.bad ∙ sym (λ i spot. cycled_bad h.dies spot i) ∙ ap bad_of (sym is)

  fit_again : (x : HeldState) → x.dies ≡ ended → Fit (numbers_of s) x.dies
  fit_again x is = subst (Fit (numbers_of s)) (sym is) (cycled_fits (numbers_of s) h.dies o.sizes)

  off_opened : (after : HeldState) → Stopped lefts h after → IsEvent (Stop lefts (Ok tt)) s after
  off_opened after is =
      let same = is.dies ∙ same_dies in
      went_event (Stop lefts (Ok tt)) s after (event.Stop o.lefts) output.Stopped ((o.lefts, refl), refl) is.on
      (opened_again s o.lefts after o.valid (is.config ∙ o.config) (off_again after same) (bad_again after same)
      (fit_again after same)
      (is.jobs ∙ ap (λ (k : ℕ). replicate k None) (many_idle ∙ ap (λ (ds : List DieState). length ds) (sym same)))
      is.opened)

  off_left : (f : Fault) (after : HeldState) → after ≡ left_off lefts h → IsEvent (Stop lefts (Err f)) s after
  off_left f after is =
      record {
        events = [];
        outputs = [];
        shows = (refl, refl);
        next = s;
        runs = refl;
        stands = inr (subst (λ (x : HeldState). IsOffAfter x s) (sym is) (record {
          off = refl;
          config = o.config;
          valid = o.valid;
          lefts = o.lefts;
          stops = off_again (left_off lefts h) same_dies;
          bad = bad_again (left_off lefts h) same_dies;
          sizes = fit_again (left_off lefts h) same_dies;
          idle = ap (λ (k : ℕ). replicate k None) (many_idle ∙ ap (λ (ds : List DieState). length ds) (sym same_dies));
        }));
      }

  stays_off : (f : Fault) (after : HeldState) → after ≡ h → IsEvent (Stop lefts (Err f)) s after
  stays_off f after same =
      record {
        events = [];
        outputs = [];
        shows = (refl, refl);
        next = s;
        runs = refl;
        stands = inr (subst (λ (x : HeldState). IsOffAfter x s) (sym same) o);
      }

  pub stops_off : (answer : Result (Unit {0}) Fault) (after : HeldState) →
      StopsSo lefts (Some h) (Some answer) (Some after) → IsEvent (Stop lefts answer) s after
  stops_off (Ok done) after (some, is) = off_opened after is
  stops_off (Err f) after (inl own) = stays_off f after own.2
  stops_off (Err f) after (inr off) = off_left f after off.2

-- ## A save that is opened again

-- a stop in which no job leaves anything
pub nothing_left : (s : State) → Stops s [] s.array
nothing_left s = record {
  fit = (All-nil _, λ i j d less within. absurd (omega arith));
  is_left = λ p. inr ((λ l page there. absurd (none_contained there)), refl);
  crash = λ p. inl refl;
}

-- the handle is opened over dies that hold the same as these
saved_opened : (s : State) (v : Vec Leftover) (h after : HeldState) (others : List DieState) → ValidState s →
    h.config ≡ numbers_of s → Stops s v.items (array_of h.dies) → bad_in s ≡ bad_of h.dies →
    HoldTheSame h.dies others → IsOpen h.config others (Some after) → IsEvent Save s after
saved_opened s v h after others valid config stops_so bad same (on, as_before, dies, jobs, opens) =
    let numbers = as_before ∙ config in
    went_event Save s after (event.Stop v) output.Stopped ((v, refl), refl) on
    (opened_again s v after valid numbers
    (subst (λ (array : Array). Stops s v.items array) (sym same.0 ∙ ap array_of (sym dies)) stops_so)
    (bad ∙ sym same.1 ∙ ap bad_of (sym dies))
    (subst (Fit (numbers_of s)) (sym dies) (subst (λ (m : Numbers). Fit m others) config opens.fit))
    (jobs ∙ ap (λ (k : ℕ). replicate k None) (ap (λ (ds : List DieState). length ds) (sym dies)))
    (subst (λ (m : Numbers). OpensOver m after.dies after.core) (sym as_before)
    (subst (λ (ds : List DieState). OpensOver h.config ds after.core) (sym dies) opens)))

pub saves_on : (heap : Global) (h after : HeldState) (s : State) → FitsHeld h s → Makes Save h after → IsEvent Save s after
saves_on heap h after s fits (others, same, opened) =
    saved_opened s (vec_of heap [] (omega arith)) h after others fits.world.valid fits.world.config
    (subst (λ (array : Array). Stops s [] array) fits.world.dies_fit.pages (nothing_left s))
    (λ i spot. fits.world.dies_fit.blocks_fit.bad spot i) same opened

pub saves_off : (h after : HeldState) (s : State) → IsOffAfter h s → Makes Save h after → IsEvent Save s after
saves_off h after s o (others, same, opened) =
    saved_opened s o.lefts h after others o.valid o.config o.stops o.bad same opened
