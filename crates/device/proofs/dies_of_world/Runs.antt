-- A run: the lives that its trace is, event by event.
use Rattle.device.proofs.Common.{DieState, Event, Fit, Fits, IsConfig, IsOpened, List, Numbers, Ok, Output, Some, Sound}
use Rattle.device.proofs.Common.{State, Suits, Went, WorldState, [], ap, array_of, bad_of, fit_inside, length}
use Rattle.device.proofs.Common.{numbers_of, refl, slice_get-get_or, slice_index_or, subst, suc, sym, take, take_all, ℕ}
use Rattle.device.proofs.Common.{⊎_elim, ◌++◌, ◌+◌, ◌<◌, ◌∙◌, ◌∷◌, ◌≡◌, ◌≤◌}
use Rattle.std.proofs.Common.{add-one}
use Rattle.std.proofs.Math.Seq.{take-suc}
use Rattle.ufs_spec.specs.Lives.{GoesOn, Leads, Reopens, Runs}
use Rattle.device.specs.Worlds.{IsBroken, IsRefused, IsRunFault, IsUnderWay, KeepsThePromise}
use Rattle.ufs_spec.specs.declared.events.Event.TheVariants as event
use Rattle.ufs_spec.specs.declared.events.Output.TheVariants as output
use Rattle.ufs_spec.specs.declared.events.RunFault.{RunFault}
use Rattle.power_loss.proofs.calls.CallsLeaveTheDevice.{call_kept}
use Rattle.power_loss.proofs.lives.LivesOfRuns.{headline, lives_right, more}
use Rattle.power_loss.proofs.openings.EachSoundArrayOpens.{any_opens}

-- what is known of the dies of a run
pub record MayRun (n : Numbers) (dies : List DieState) : Type 0 where
  pub fit : Fit n dies
  pub suits : Suits n (array_of dies)

-- the opening

pub run_begins : (n : Numbers) (dies : List DieState) (w : WorldState) → MayRun n dies → Sound (array_of dies) →
    ((s : State) → IsOpened n (array_of dies) (bad_of dies) s → Fits w s) → IsUnderWay n dies [] [] w
run_begins n dies w may sound fits =
    let s = any_opens n (array_of dies) (bad_of dies) (fit_inside n dies may.fit) sound may.suits in
    record { start = s.0; now = s.0; opened = s.1; runs = refl; fits = fits s.0 s.1 }

-- one event more

-- the numbers stay, in a life and over stops
reopens_numbers : (n : Numbers) (s t : State) (e : Event) (o : Output) → Reopens n s e o t → numbers_of t ≡ n
reopens_numbers n s t (event.Stop lefts) output.Stopped h = h.2.translation.numbers
reopens_numbers n s t e o h = absurd h

goes_numbers : (n : Numbers) (s t : State) (e : Event) (o : Output) → numbers_of s ≡ n → GoesOn n s e o t →
    numbers_of t ≡ n
goes_numbers n s t e o is h =
    ⊎_elim
    (λ (leads : Leads s e o t).
    ap (λ (x : State). numbers_of x) leads.next ∙ ((call_kept s leads.call leads.answer).0 ∙ is))
    (λ (stop : Reopens n s e o t). reopens_numbers n s t e o stop) h

pub runs_numbers : (n : Numbers) (s t : State) (es : List Event) (os : List Output) → numbers_of s ≡ n →
    Runs n s es os t → numbers_of t ≡ n
runs_numbers n s t [] [] is h = ap (λ (x : State). numbers_of x) h ∙ is
runs_numbers n s t (e ∷ es) (o ∷ os) is h =
    runs_numbers n h.0 t es os (goes_numbers n s h.0 e o is h.1) h.2
runs_numbers n s t [] (o ∷ os) is h = absurd h
runs_numbers n s t (e ∷ es) [] is h = absurd h

pub run_more : (n : Numbers) (dies : List DieState) (events : List Event) (before trace : List Output) (k : ℕ)
    (e : Event) (w after : WorldState) →
    k < length events → e ≡ slice_index_or events k e → (u : IsUnderWay n dies (take k events) before w) →
    (o : Output) × (trace ≡ before ++ o ∷ []) × Went u.now e after (Ok o) →
    IsUnderWay n dies (take (k + 1) events) trace after
run_more n dies events before trace k e w after less is u played =
    let went = played.2 in
    let goes : GoesOn n u.now e played.0 went.0 =
    subst (λ (m : Numbers). GoesOn m u.now e played.0 went.0)
    (runs_numbers n u.start u.now (take k events) before u.opened.translation.numbers u.runs) went.1 in
    subst (λ (j : ℕ). IsUnderWay n dies (take j events) trace after) (sym (add-one k))
    (subst (λ (os : List Output). IsUnderWay n dies (take (suc k) events) os after) (sym played.1)
    (record {
      start = u.start;
      now = went.0;
      opened = u.opened;
      runs = subst (λ (es : List Event). Runs n u.start es (before ++ played.0 ∷ []) went.0)
          (sym (take-suc events k e less ∙ ap (λ (x : Event). take k events ++ x ∷ []) (sym is)))
          (more n u.start u.now went.0 (take k events) before e played.0 u.runs goes);
      fits = went.2;
    }))

-- the promise

pub promise : (n : Numbers) (dies : List DieState) (events : List Event) (trace : List Output) (s t : State) →
    IsConfig n → MayRun n dies → Sound (array_of dies) → IsOpened n (array_of dies) (bad_of dies) s →
    Runs n s events trace t → KeepsThePromise n dies events trace
promise n dies events trace s t config may sound opened runs =
    let told = headline n dies s t events trace config may.fit sound opened runs in
    record {
      headline = told;
      right =
          lives_right n (array_of dies) (bad_of dies) told.first told.later events trace config
          (record { inside = fit_inside n dies may.fit; sound = sound; suits = may.suits }) told.lives;
    }

-- the numbers are those of a configuration
config_of : (n : Numbers) (dies : List DieState) (events : List Event) (trace : List Output) (w : WorldState) →
    IsUnderWay n dies events trace w → IsConfig n
config_of n dies events trace w u =
    subst IsConfig (runs_numbers n u.start u.now events trace u.opened.translation.numbers u.runs)
    u.fits.valid.tied.config

-- the end

pub run_ends : (n : Numbers) (dies : List DieState) (events : List Event) (trace : List Output) (k : ℕ) (w : WorldState)
    → MayRun n dies → Sound (array_of dies) → length events ≤ k →
    IsUnderWay n dies (take k events) trace w → KeepsThePromise n dies events trace
run_ends n dies events trace k w may sound all u =
    let config = config_of n dies (take k events) trace w u in
    subst (λ (es : List Event). KeepsThePromise n dies es trace) (take_all k events all)
    (promise n dies (take k events) trace u.start u.now config may sound u.opened u.runs)

-- a fault

pub run_breaks : (n : Numbers) (dies : List DieState) (events : List Event) (before : List Output) (k : ℕ) (e : Event)
    (w : WorldState) (f : RunFault) → MayRun n dies → Sound (array_of dies) →
    k < length events → e ≡ slice_index_or events k e → (u : IsUnderWay n dies (take k events) before w) →
    (f.trace.items ≡ before) × IsRefused u.now e f.kind → IsBroken n dies events k f
run_breaks n dies events before k e w f may sound less is u why =
    let config = config_of n dies (take k events) before w u in
    let runs : Runs n u.start (take k events) f.trace.items u.now =
    subst (λ (os : List Output). Runs n u.start (take k events) os u.now) (sym why.0) u.runs in
    record {
      start = u.start;
      before = u.now;
      opened = u.opened;
      runs = runs;
      promise = promise n dies (take k events) f.trace.items u.start u.now config may sound u.opened runs;
      broken = e;
      there = slice_get-get_or events k e less ∙ ap (λ (x : Event). Some x) (sym is);
      why = why.1;
    }

-- the position counts from 1
pub run_broken : (n : Numbers) (dies : List DieState) (events : List Event) (k : ℕ) (f : RunFault) →
    (Sound (array_of dies) → IsBroken n dies events k f) → IsRunFault n dies events (k + 1) f
run_broken n dies events k f broken = subst (λ (j : ℕ). IsRunFault n dies events j f) (sym (add-one k)) broken
