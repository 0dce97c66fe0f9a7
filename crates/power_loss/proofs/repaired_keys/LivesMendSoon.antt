-- Each life over an array with few lost keys mends soon, and so does the next one, over any number of stops.
use Rattle.power_loss.proofs.Common.{◌≡◌, ℕ, ◌+◌, ◌<◌, ◌≤◌, Bool, false, List, [], ◌∷◌, Option, sym, ◌∙◌, subst, arith}
use Rattle.power_loss.proofs.Common.{none-some, Array, Cells, Mark, IsCell, Nothing, Spot, IsNewestMark, Accept}
use Rattle.power_loss.proofs.Common.{EndJob, GiveJob, Move, TakeStep, moved, AreLost, All, All-cons, All-nil, length}
use Rattle.power_loss.proofs.Common.{IsMendingAt, Sound, Mended, Mending, Repairing, Translation, Unmarked, Numbers}
use Rattle.power_loss.proofs.Common.{Place, Valid}
use Rattle.power_loss.proofs.MachineWords.{IsConfig, DieState, blank_page, IsLived, IsOpened, Leads, Life, Lived}
use Rattle.power_loss.proofs.MachineWords.{Lives, Runs, Stops, array_of, bad_in, Answer, Call, State, mended}
use Rattle.power_loss.proofs.MachineWords.{numbers_of, Event, Leftover, Output, IsArrayOf, ValidState}
use Rattle.ufs_laws.proofs.pages.BlankPages.{blank_is_nothing}
use Rattle.ufs_laws.proofs.walk.SmallChanges.{IsQuiet, Small, first, first_kept, layer_kept, observed}
use Rattle.ufs_spec.specs.Lives.{bad_of}
use Rattle.power_loss.specs.FewRepairs.{ArrayHasFewLost, HasFewLost, HasFewRepairs, MendsSoon, still_lost}
use Rattle.power_loss.specs.Mending.{true_turns}
use Rattle.power_loss.specs.Runs.{AreNewDies}
use Rattle.power_loss.proofs.die_pages.BlankOutsideDies.{new_blank, new_opens}
use Rattle.power_loss.proofs.lives.ChainedLives.{Left, end_of_life, left_of, life_continues}
use Rattle.power_loss.proofs.lives.EachEventKeeps.{many_events, one_event}
use Rattle.power_loss.proofs.lives.LivesOfRuns.{lives_of}
use Rattle.power_loss.proofs.mending_steps.TurnsOfALife.{none_lost, true_turns_of_life}
use Rattle.power_loss.proofs.openings.OpenedStates.{cells_shown, is_opened, opened_state, valid_is}
use Rattle.power_loss.proofs.repaired_keys.NoMoreKeys.{as_many}
use Rattle.power_loss.proofs.repaired_keys.RepairsStayFew.{accepted_few, begins, move_few}
use Rattle.power_loss.proofs.repaired_keys.StopsLeaveFew.{stop_few}
use Rattle.power_loss.proofs.stops.LeftPages.{cell_crash}

-- Events

quiet_few : (t : Translation) (move : Move) → IsQuiet move → HasFewRepairs t → HasFewRepairs (moved t move)
quiet_few t (Accept claimed g) quiet f = accepted_few t claimed g f
quiet_few t (GiveJob die flight) quiet f = absurd quiet
quiet_few t (EndJob die ending) quiet f = absurd quiet
quiet_few t TakeStep quiet f = absurd quiet
quiet_few t move quiet f = f

small_few : {s t : State} → Small s t → HasFewRepairs s.translation → HasFewRepairs t.translation
small_few h = layer_kept (λ t u. HasFewRepairs t → HasFewRepairs u)
    (record { self = λ t f. f; both = λ t u v h k f. k (h f); one = quiet_few }) h

first_few : (s : State) (call : Call) (answer : Answer) → Valid s.translation → HasFewRepairs s.translation →
    HasFewRepairs (first s call answer).translation
first_few = first_kept (λ s t. Valid s.translation → HasFewRepairs s.translation → HasFewRepairs t.translation)
    (λ s v f. f) (λ s move array v f. move_few move v f)

event_few : {s t : State} {e : Event} {o : Output} → ValidState s → Leads s e o t → HasFewRepairs s.translation →
    HasFewRepairs t.translation
event_few {s} v l f = subst (λ (x : State). HasFewRepairs x.translation) (sym l.next)
    (small_few (observed s l.call l.answer) (first_few s l.call l.answer v.tied.valid f))

life_few : {s : State} (t : State) (es : List Event) (os : List Output) → ValidState s → Life s es os t →
    HasFewRepairs s.translation → HasFewRepairs t.translation
life_few t [] [] v life f = subst (λ (x : State). HasFewRepairs x.translation) (sym life) f
life_few {s} t (e ∷ es) (o ∷ os) v life f =
    life_few t es os (one_event s life.0 e o v life.1) life.2 (event_few v life.1 f)
life_few t [] (o ∷ os) v life f = absurd life
life_few t (e ∷ es) [] v life f = absurd life

-- A stop

left_few : {s : State} {lefts : List Leftover} {left : Array} → ValidState s → HasFewRepairs s.translation →
    Stops s lefts left → ArrayHasFewLost (numbers_of s) left
left_few {s} {left = left} v f stops c m shows newest =
    stop_few s.translation c m v.tied.valid f
    (cell_crash s.array s.translation.disk.cells s.translation.disk.flights left v.tied.shown v.tied.flights
    stops.crash c shows) newest

-- One life

none_above : {c : Cells} {low top : ℕ} → top < low → AreLost c low top []
none_above l = record {
  ordered = λ i j a b e f u. absurd (none-some a e);
  lost = λ i k e. absurd (none-some k e);
  all = λ k h. absurd (let a = h.5 in let b = h.6 in omega arith);
}

-- the keys with a lost page when a life begins
pub listed : (n : Numbers) {c : Cells} (m : Option Mark) {low top : ℕ} (w : Mending) → IsMendingAt n c m low top w →
    AreLost c low top (still_lost w)
listed n m (Unmarked fence lost) h = h.2
listed n m (Repairing left) h = absurd h
listed n m Mended h = none_above h.2

pub few_keys : (n : Numbers) (array : Array) (bad : Spot → Bool) (s : State) → ArrayHasFewLost n array →
    IsOpened n array bad s → length (still_lost s.translation.work.mending) ≤ n.slots
few_keys n array bad s few o =
    let t = s.translation in
    let ledger = o.translation.ledger in
    few o.cells t.ledger.newest o.shown ledger.newest ledger.kept t.ledger.greatest_seen (still_lost t.work.mending)
    ledger.is_kept ledger.greatest_seen
    (subst (λ low. AreLost o.cells low t.ledger.greatest_seen (still_lost t.work.mending)) ledger.first_lost
    (listed n t.ledger.newest t.work.mending o.translation.mending))

module _ (n : Numbers) (array : Array) (bad : Spot → Bool) (s : State) (config : IsConfig n) (blank : IsArrayOf n array)
    (sound : Sound array) (few : ArrayHasFewLost n array) (o : IsOpened n array bad s) where
  starts_few : HasFewRepairs s.translation
  starts_few = begins (is_opened n array bad s config blank sound o) (valid_is n array bad s config blank sound o)
      (subst (λ z. HasFewLost z s.translation.disk.cells s.translation.ledger.newest) (sym o.translation.numbers)
      (few s.translation.disk.cells s.translation.ledger.newest (cells_shown n array bad s config blank sound o)
      (subst (λ z. IsNewestMark z s.translation.ledger.newest) (sym o.translation.disk.cells)
      o.translation.ledger.newest)))

  pub short_life : (t : State) (es : List Event) (os : List Output) → Life s es os t → mended t ≡ false →
      true_turns os ≤ n.slots + 2
  short_life t es os life unmended =
      let w = s.translation.work.mending in
      let keys = few_keys n array bad s few o in
      let turns = true_turns_of_life n array bad s t es os (still_lost w) config blank sound o
      (listed n s.translation.ledger.newest w o.translation.mending) life unmended in
      omega arith

  numbers_stay : (t : State) (es : List Event) (os : List Output) → Life s es os t → numbers_of t ≡ n
  numbers_stay t es os life =
      let e = o.translation.numbers in
      (life_continues t es os (opened_state n array bad s config blank sound o)
      (subst (λ x. IsArrayOf x s.array) (sym e) (subst (IsArrayOf n) (sym o.array_now) blank)) life).0 ∙ e

  pub stopped_few : (t : State) (es : List Event) (os : List Output) (lefts : List Leftover) (left : Array) →
      Life s es os t → Stops t lefts left → ArrayHasFewLost n left
  stopped_few t es os lefts left life stops =
      let v = opened_state n array bad s config blank sound o in
      subst (λ x. ArrayHasFewLost x left) (numbers_stay t es os life)
      (left_few (many_events s t es os v life) (life_few t es os v life starts_few) stops)

-- Lives

mends_soon : (n : Numbers) (array : Array) (bad : Spot → Bool) (l : Lived) → IsConfig n → IsArrayOf n array →
    Sound array → ArrayHasFewLost n array → IsLived n array bad l → MendsSoon n l
mends_soon n array bad l config blank sound few h = record {
  keys = few_keys n array bad l.start few h.0;
  turns = λ es os middle life unmended.
      short_life n array bad l.start config blank sound few h.0 middle es os life unmended;
  stops = λ lefts left stops. stopped_few n array bad l.start config blank sound few h.0 l.finish l.events l.outputs
      lefts left h.1 stops;
}

-- what holds of each life that begins over such an array holds of each one of several
abbrev pub OfEachLife : Numbers → (Lived → Type 0) → Type 0
OfEachLife n P = (array : Array) (bad : Spot → Bool) (l : Lived) → IsArrayOf n array → Sound array →
    ArrayHasFewLost n array → IsLived n array bad l → P l

pub each_life : (P : Lived → Type 0) (n : Numbers) (array : Array) (bad : Spot → Bool) (first : Lived)
    (later : List Lived) (es : List Event) (os : List Output) → OfEachLife n P → IsConfig n → IsArrayOf n array →
    Sound array → ArrayHasFewLost n array → Lives n array bad first later es os → All P (first ∷ later)
each_life P n array bad l [] es os one config blank sound few h =
    All-cons P l [] (one array bad l blank sound few h.0) (All-nil P)
each_life P n array bad l (m ∷ ls) es os one config blank sound few h =
    let left : Array = h.1.3 in
    let behind : Left n l left = left_of (end_of_life bad config blank sound h.0) h.1.6 in
    let soon = mends_soon n array bad l config blank sound few h.0 in
    All-cons P l (m ∷ ls) (one array bad l blank sound few h.0)
    (each_life P n left (bad_in l.finish) m ls h.1.1 h.1.2 one config behind.inside behind.sound
    (soon.stops h.1.0.items left h.1.6) h.1.7)

pub lives_mend_soon : (n : Numbers) (array : Array) (bad : Spot → Bool) (first : Lived) (later : List Lived)
    (es : List Event) (os : List Output) → IsConfig n → IsArrayOf n array → Sound array → ArrayHasFewLost n array →
    Lives n array bad first later es os → All (MendsSoon n) (first ∷ later)
lives_mend_soon n array bad first later es os config =
    each_life (MendsSoon n) n array bad first later es os (λ a b l. mends_soon n a b l config) config

-- New dies

pub new_few : (n : Numbers) (array : Array) → ((p : Place) → array p ≡ blank_page) → ArrayHasFewLost n array
new_few n array blank c m shows newest kept top lost is_kept greatest are =
    let nothing : (p : Place) → c p ≡ Nothing =
    λ p. blank_is_nothing (c p) (subst (λ page. IsCell page (c p)) (blank p) (shows p)) in
    let l = as_many are (none_lost nothing) in
    omega arith

-- what holds of each life holds of those of a run over new dies
pub each_life_of_a_run : (P : Lived → Type 0) (n : Numbers) (dies : List DieState) (s t : State) (es : List Event)
    (os : List Output) → OfEachLife n P → IsConfig n → AreNewDies n dies →
    IsOpened n (array_of dies) (bad_of dies) s → Runs n s es os t →
    (first : Lived) × (later : List Lived) × Lives n (array_of dies) (bad_of dies) first later es os
    × All P (first ∷ later)
each_life_of_a_run P n dies s t es os one config new opened runs =
    let r = lives_of opened runs in
    let may = new_opens n dies new in (
      r.first,
      r.later,
      r.lives,
      each_life P n (array_of dies) (bad_of dies) r.first r.later es os one config may.inside may.sound
          (new_few n (array_of dies) (new_blank n dies new)) r.lives,
    )

pub runs_mend_soon : (n : Numbers) (dies : List DieState) (s t : State) (es : List Event) (os : List Output) →
    IsConfig n → AreNewDies n dies → IsOpened n (array_of dies) (bad_of dies) s → Runs n s es os t →
    (first : Lived) × (later : List Lived) × Lives n (array_of dies) (bad_of dies) first later es os
    × All (MendsSoon n) (first ∷ later)
runs_mend_soon n dies s t es os config =
    each_life_of_a_run (MendsSoon n) n dies s t es os (λ a b l. mends_soon n a b l config) config
