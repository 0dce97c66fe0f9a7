-- A run over stops is lives one after another: so it keeps the promise, and each of its lives is right.
use Rattle.power_loss.proofs.Common.{◌≡◌, Bool, List, [], ◌∷◌, ◌++◌, refl, sym, ap, ◌∙◌, subst, ⊎_elim, append_assoc}
use Rattle.power_loss.proofs.Common.{append-nil, inl, Array, Spot, Sound, Suits, Numbers}
use Rattle.power_loss.proofs.MachineWords.{IsConfig, DieState, Fit, GoesOn, IsLived, IsOpened, Life, Lived, Lives, Runs}
use Rattle.power_loss.proofs.MachineWords.{Stops, array_of, bad_in, State, numbers_of, Event, Leftover, Output}
use Rattle.power_loss.proofs.MachineWords.{IsArrayOf, ValidState, LivesRight, MayBeOpened, last_state}
use Rattle.ufs_laws.proofs.lives.LivesJoined.{join}
use Rattle.ufs_spec.specs.Lives.{Headline, Reopens, bad_of}
use Rattle.power_loss.specs.Runs.{LifeRight}
use Rattle.power_loss.proofs.lives.ChainedLives.{chained, life_continues}
use Rattle.power_loss.proofs.die_pages.BlankOutsideDies.{fit_inside}
use Rattle.power_loss.proofs.stops.LawfulLeftovers.{none_left}
use Rattle.power_loss.proofs.lives.EachEventKeeps.{many_events as event_keeps_many}
use Rattle.power_loss.proofs.openings.OpenedStates.{opened_state as opened_valid}
use Rattle.power_loss.proofs.mending_steps.TurnsOfALife.{true_turns_of_life}
use Rattle.power_loss.proofs.lives.NextLife.{sound_left, suits_left, within_left}
use Rattle.ufs_spec.specs.declared.events.Event.TheVariants as event
use Rattle.ufs_spec.specs.declared.events.Output.TheVariants as output

-- A life is a run with no stop

pub life_runs : (n : Numbers) (s t : State) (es : List Event) (os : List Output) → Life s es os t → Runs n s es os t
life_runs n s t [] [] life = life
life_runs n s t (e ∷ es) (o ∷ os) life = (life.0, inl life.1, life_runs n life.0 t es os life.2)
life_runs n s t es os life = absurd life

-- One event more

pub more : (n : Numbers) (s t u : State) (es : List Event) (os : List Output) (e : Event) (o : Output) →
    Runs n s es os t → GoesOn n t e o u → Runs n s (es ++ e ∷ []) (os ++ o ∷ []) u
more n s t u [] [] e o h g = (u, subst (λ v. GoesOn n v e o u) h g, refl)
more n s t u (d ∷ es) (p ∷ os) e o h g = (h.0, h.1, more n h.0 t u es os e o h.2 g)
more n s t u es os e o h g = absurd h

-- Lives

pub record AreLives (n : Numbers) (array : Array) (bad : Spot → Bool) (es : List Event) (os : List Output)
    (t : State) : Type 0 where
  pub first : Lived
  pub later : List Lived
  pub lives : Lives n array bad first later es os
  pub ends : last_state first later ≡ t

-- what a stop's event is
record IsReopened (n : Numbers) (s : State) (e : Event) (o : Output) (t : State) : Type 0 where
  pub lefts : _
  pub is : e ≡ event.Stop lefts
  pub shown : o ≡ output.Stopped
  pub left : Array
  pub stops : Stops s lefts.items left
  pub opened : IsOpened n left (bad_in s) t

reopened : {n : Numbers} {s : State} (e : Event) (o : Output) {t : State} → Reopens n s e o t → IsReopened n s e o t
reopened (event.Stop lefts) output.Stopped h = record {
  lefts = lefts;
  is = refl;
  shown = refl;
  left = h.0;
  stops = h.1;
  opened = h.2;
}
reopened (event.Stop lefts) (output.Host x) h = absurd h
reopened (event.Stop lefts) (output.Reply x) h = absurd h
reopened (event.Stop lefts) (output.Take x) h = absurd h
reopened (event.Stop lefts) output.Ended h = absurd h
reopened (event.Stop lefts) (output.Turn x) h = absurd h
reopened (event.Host x) o h = absurd h
reopened event.Reply o h = absurd h
reopened (event.Take x) o h = absurd h
reopened (event.Finish x) o h = absurd h
reopened (event.Fail x y) o h = absurd h
reopened event.Turn o h = absurd h

-- a life over these events, and lives behind the stop that ends it
at_stop : {n : Numbers} {array : Array} {bad : Spot → Bool} {s : State} (now : State) {next t : State} (ds : List Event)
    (ps : List Output) {e : Event} {o : Output} {es : List Event} {os : List Output} → IsOpened n array bad s →
    Life s ds ps now → (r : IsReopened n now e o next) → AreLives n r.left (bad_in now) es os t → AreLives n array bad
    (ds ++ e ∷ es) (ps ++ o ∷ os) t
at_stop {s = s} now ds ps {es = es} {os = os} opened life r rest =
    record {
      first = record { start = s; events = ds; outputs = ps; finish = now };
      later = rest.first ∷ rest.later;
      lives = (
        (opened, life),
        (r.lefts, es, os, r.left, ap (λ x. ds ++ x ∷ es) r.is, ap (λ x. ps ++ x ∷ os) r.shown, r.stops, rest.lives),
      );
      ends = rest.ends;
    }

shifted : {n : Numbers} {array : Array} {bad : Spot → Bool} {t : State} (ds : List Event) (ps : List Output) (e : Event)
    (o : Output) (es : List Event) (os : List Output) → AreLives n array bad ((ds ++ e ∷ []) ++ es)
    ((ps ++ o ∷ []) ++ os) t → AreLives n array bad (ds ++ e ∷ es) (ps ++ o ∷ os) t
shifted {n} {array} {bad} {t} ds ps e o es os h =
    subst (λ xs. AreLives n array bad xs (ps ++ o ∷ os) t) (append_assoc ds (e ∷ []) es)
    (subst (λ xs. AreLives n array bad ((ds ++ e ∷ []) ++ es) xs t) (append_assoc ps (o ∷ []) os) h)

lives_from : {n : Numbers} {array : Array} {bad : Spot → Bool} {s : State} (now : State) {t : State} (ds : List Event)
    (ps : List Output) (es : List Event) (os : List Output) → IsOpened n array bad s → Life s ds ps now →
    Runs n now es os t → AreLives n array bad (ds ++ es) (ps ++ os) t
lives_from {s = s} now ds ps [] [] opened life h =
    record {
      first = record { start = s; events = ds; outputs = ps; finish = now };
      later = [];
      lives = ((opened, life), append-nil ds, append-nil ps);
      ends = sym h;
    }
lives_from {n} {array} {bad} {s} now {t} ds ps (e ∷ es) (o ∷ os) opened life (next, goes, rest) = ⊎_elim
    (λ leads. shifted ds ps e o es os
    (lives_from next (ds ++ e ∷ []) (ps ++ o ∷ []) es os opened
    (join s ds (e ∷ []) ps (o ∷ []) now next life (next, leads, refl)) rest))
    (λ g.
    let r : IsReopened n now e o next = reopened e o g in
    at_stop now ds ps opened life r (lives_from {array = r.left} next [] [] es os r.opened refl rest)) goes
lives_from now ds ps es os opened life h = absurd h

pub lives_of : {n : Numbers} {array : Array} {bad : Spot → Bool} {s t : State} {es : List Event} {os : List Output} →
    IsOpened n array bad s → Runs n s es os t → AreLives n array bad es os t
lives_of {n} {array} {bad} {s} {t} {es} {os} opened h = lives_from s [] [] es os opened refl h

-- Each life

-- a life that begins over an array that a device may be opened over
module _ (n : Numbers) (array : Array) (bad : Spot → Bool) (l : Lived) (config : IsConfig n) (may : MayBeOpened n array)
    (lived : IsLived n array bad l) where
  numbers : numbers_of l.start ≡ n
  numbers = lived.0.translation.numbers

  begins : ValidState l.start
  begins = opened_valid n array bad l.start config may.inside may.sound lived.0

  start_inside : IsArrayOf (numbers_of l.start) l.start.array
  start_inside = subst (λ x. IsArrayOf x l.start.array) (sym numbers)
      (subst (IsArrayOf n) (sym lived.0.array_now) may.inside)

  continues : (numbers_of l.finish ≡ numbers_of l.start) × (l.finish.base ≡ l.start.base) × IsArrayOf
      (numbers_of l.start) l.finish.array
  continues = life_continues l.finish l.events l.outputs begins start_inside lived.1

  ends_valid : ValidState l.finish
  ends_valid = event_keeps_many l.start l.finish l.events l.outputs begins lived.1

  left_opens : (lefts : List Leftover) (left : Array) → Stops l.finish lefts left → MayBeOpened n left
  left_opens lefts left stops = record {
    inside = subst (λ x. IsArrayOf x left) (continues.0 ∙ numbers)
        (within_left ends_valid stops (subst (λ x. IsArrayOf x l.finish.array) (sym continues.0) continues.2));
    sound = sound_left l.finish ends_valid lefts left stops;
    suits = subst (λ x. Suits x left) (continues.0 ∙ numbers) (suits_left l.finish ends_valid lefts left stops);
  }

  life_right : LifeRight n array bad l
  life_right = record {
    lived = lived;
    opens = may;
    valid = ends_valid;
    ends = left_opens [] l.finish.array (none_left);
    stops = left_opens;
    mends = λ lost are es os middle life unmended. true_turns_of_life n array bad l.start middle es os lost config
        may.inside may.sound lived.0 are life unmended;
  }

pub lives_right : (n : Numbers) (array : Array) (bad : Spot → Bool) (first : Lived) (later : List Lived)
    (es : List Event) (os : List Output) → IsConfig n → MayBeOpened n array → Lives n array bad first later es os →
    LivesRight n array bad first later
lives_right n array bad l [] es os config may h = life_right n array bad l config may h.0
lives_right n array bad l (m ∷ ls) es os config may h =
    let lefts = h.1.0 in
    let left : Array = h.1.3 in (
      life_right n array bad l config may h.0,
      (
        lefts.items,
        left,
        h.1.6,
        lives_right n left (bad_in l.finish) m ls h.1.1 h.1.2 config
            (left_opens n array bad l config may h.0 lefts.items left h.1.6) h.1.7,
      ),
    )

-- The promise

pub headline : (n : Numbers) (dies : List DieState) (s t : State) (es : List Event) (os : List Output) → IsConfig n →
    Fit n dies → Sound (array_of dies) → IsOpened n (array_of dies) (bad_of dies) s → Runs n s es os t →
    Headline n dies es os
headline n dies s t es os config fit sound opened runs =
    let l = lives_of opened runs in
    let c = chained n (array_of dies) (bad_of dies) l.first l.later es os s.base config
    (fit_inside n dies fit) sound opened.stands l.lives in
    record {
      base = s.base;
      stands = opened.stands;
      first = l.first;
      later = l.later;
      ks = c.0;
      lives = l.lives;
      chain = c.1;
    }
