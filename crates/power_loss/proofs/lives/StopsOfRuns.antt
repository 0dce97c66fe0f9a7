-- Whatever a run over stops comes to, a stop may come there, and the run goes on after it; right after an opening a
-- stop
-- changes nothing.
use Rattle.power_loss.proofs.Common.{◌≡◌, ℕ, Bool, List, [], ◌∷◌, Option, None, sym, ◌∙◌, subst, inr, ⊎_elim, Vec}
use Rattle.power_loss.proofs.Common.{Array, Cell, Flight, Spot, Touches, Numbers, Place}
use Rattle.power_loss.proofs.MachineWords.{IsConfig, GoesOn, IsOpened, Lived, Runs, Stops, bad_in, State, Event}
use Rattle.power_loss.proofs.MachineWords.{Leftover, Output, LivesRight, MayBeOpened, last_state}
use Rattle.power_loss.proofs.openings.EachSoundArrayOpens.{any_opens}
use Rattle.power_loss.proofs.stops.LawfulLeftovers.{none_left}
use Rattle.power_loss.proofs.lives.LivesOfRuns.{lives_of, lives_right}
use Rattle.ufs_spec.specs.declared.events.Event.TheVariants as event
use Rattle.ufs_spec.specs.declared.events.Output.TheVariants as output

-- where no job is in flight a stop changes nothing
none_touched : (p : Place) (intended : Cell) {f : Option Flight} → f ≡ None → Touches f p intended → ⊥
none_touched p intended e h = subst (λ x. Touches x p intended) e h

pub idle_stop : (s : State) {lefts : List Leftover} (left : Array) →
    ((die : ℕ) → s.translation.disk.flights die ≡ None) → Stops s lefts left → left ≡ s.array
idle_stop s left idle stops i p = ⊎_elim (λ e. e) (λ h. absurd (none_touched p h.0 (idle p.die) h.1)) (stops.crash p) i

pub stop_of_opened : (n : Numbers) (array : Array) (bad : Spot → Bool) (s : State) (lefts : List Leftover)
    (left : Array) → IsOpened n array bad s → Stops s lefts left → left ≡ array
stop_of_opened n array bad s lefts left opened stops = idle_stop s left opened.translation.disk.idle stops
    ∙ opened.array_now

-- the last life of several
last_right : {n : Numbers} (array : Array) (bad : Spot → Bool) (l : Lived) (later : List Lived) →
    LivesRight n array bad l later → {lefts : List Leftover} {left : Array} → Stops (last_state l later) lefts left →
    MayBeOpened n left
last_right array bad l [] h {lefts} {left} stops = h.stops lefts left stops
last_right array bad l (m ∷ ls) h stops = last_right h.1.1 (bad_in l.finish) m ls h.1.3 stops

-- whatever a stop leaves at the end of a run, and what stands there without one, may be opened
pub run_leaves : (n : Numbers) (array : Array) (bad : Spot → Bool) (s t : State) (es : List Event) (os : List Output) →
    IsConfig n → MayBeOpened n array → IsOpened n array bad s → Runs n s es os t → (lefts : List Leftover)
    (left : Array) → Stops t lefts left → MayBeOpened n left
run_leaves n array bad s t es os config may opened runs lefts left stops =
    let l = lives_of opened runs in
    last_right array bad l.first l.later (lives_right n array bad l.first l.later es os config may l.lives)
    (subst (λ x. Stops x lefts left) (sym l.ends) stops)

pub run_ends : (n : Numbers) (array : Array) (bad : Spot → Bool) (s t : State) (es : List Event) (os : List Output) →
    IsConfig n → MayBeOpened n array → IsOpened n array bad s → Runs n s es os t → MayBeOpened n t.array
run_ends n array bad s t es os config may opened runs = run_leaves n array bad s t es os config may opened runs []
    t.array (none_left)

-- so a run goes on behind each stop that leaves an array
pub stop_goes : (n : Numbers) (array : Array) (bad : Spot → Bool) (s t : State) (es : List Event) (os : List Output) →
    IsConfig n → MayBeOpened n array → IsOpened n array bad s → Runs n s es os t → (lefts : Vec Leftover)
    (left : Array) → Stops t lefts.items left → (u : State) × GoesOn n t (event.Stop lefts) output.Stopped u
stop_goes n array bad s t es os config may opened runs lefts left stops =
    let m = run_leaves n array bad s t es os config may opened runs lefts.items left stops in
    let o = any_opens n left (bad_in t) m.inside m.sound m.suits in
    (o.0, inr (left, stops, o.1))
