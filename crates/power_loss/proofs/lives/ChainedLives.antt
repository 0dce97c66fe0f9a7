-- Lives one after another.
use Rattle.power_loss.proofs.Common.{if◌then◌else◌, ◌≡◌, ℕ, Bool, true, false, List, [], ◌∷◌, Option, Some, take, refl}
use Rattle.power_loss.proofs.Common.{sym, ap, ◌∙◌, subst, ⊎_elim, All-cons, All-contains, All-nil, Array, IsPlace}
use Rattle.power_loss.proofs.Common.{Flight, Spot, at_place, page_of, StandsFor, Plain, after, Sound, Numbers, Page}
use Rattle.power_loss.proofs.Common.{Place, at_place_cases}
use Rattle.power_loss.proofs.MachineWords.{IsConfig, blank_page, IsLeft, IsLeftoverOf, IsLived, IsOpened, Leads, Life}
use Rattle.power_loss.proofs.MachineWords.{Lived, Lives, Stops, bad_in, in_block, State, numbers_of, Event, Leftover}
use Rattle.power_loss.proofs.MachineWords.{Output, IsArrayOf, ValidState}
use Rattle.ufs_laws.proofs.array_cells.StandsForOne.{plain_one}
use Rattle.ufs_laws.proofs.pages.PageIsOneCell.{one_cell}
use Rattle.ufs_laws.proofs.plain_contents.PlainFromContents.{same_contents}
use Rattle.ufs_spec.specs.Lives.{Chain}
use Rattle.power_loss.proofs.die_pages.PagesOfEachCall.{IsKeptByJobs, behind_event}
use Rattle.power_loss.proofs.lives.EachEventKeeps.{many_events as event_keeps_many}
use Rattle.power_loss.proofs.openings.OpenedStates.{opened_state as opened_valid}
use Rattle.power_loss.proofs.lives.NextLife.{IsInside, flight_inside, left_inside, named_inside, prefix_left}
use Rattle.power_loss.proofs.lives.NextLife.{sound_left, within_left}
use Rattle.power_loss.proofs.calls.CallsLeaveTheDevice.{call_kept}

-- Pages outside the dies stay blank

blank_if : (b : Bool) {page : Page} → page ≡ blank_page → (if b then blank_page else page) ≡ blank_page
blank_if true e = refl
blank_if false e = e

put_inside : {n : Numbers} (array : Array) (place : Place) (page : Page) → IsPlace n place → IsArrayOf n array →
    IsArrayOf n (at_place array place page)
put_inside {n} array place page is blank p out =
    ⊎_elim (λ h. absurd (out (subst (IsPlace n) (sym h.0) is))) (λ h. h.1 ∙ blank p out)
    (at_place_cases array place page p)

-- what one leftover leaves
one_left_inside : {n : Numbers} (array : Array) (flight : Option Flight) (l : Leftover) (left : Array) →
    IsInside n flight → IsLeftoverOf n flight l → IsLeft array (l ∷ []) left → IsArrayOf n array → IsArrayOf n left
one_left_inside {n} array flight l left is fit left_is blank =
    let P : Leftover → Type 0 = λ x. IsLeftoverOf n flight x in
    left_inside {n = n} array (l ∷ []) left
    (λ other there p page named. named_inside flight other page is (All-contains P (l ∷ []) other
    (All-cons P l [] fit (All-nil P)) there) named) blank left_is

jobs_inside : {s : State} → ValidState s → IsArrayOf (numbers_of s) s.array → IsKeptByJobs s (IsArrayOf (numbers_of s))
jobs_inside {s} v blank = record {
  now = blank;
  programmed = λ die p cell e. put_inside s.array p (page_of cell) (v.tied.valid.flights.programs die p cell e).place
      blank;
  erased = λ die spot e p out. blank_if (in_block (numbers_of s) spot p) (blank p out);
  failed = λ die flight l left f.
      one_left_inside s.array (Some flight) l left (subst (IsInside (numbers_of s)) f.flies (flight_inside v die))
      f.fit f.is_left blank;
}

-- One life

-- the numbers and the base are the same, and the pages outside the dies are blank
abbrev Continues : State → State → Type 0
Continues s t = (numbers_of t ≡ numbers_of s) × (t.base ≡ s.base) × IsArrayOf (numbers_of s) t.array

pub event_continues : {s t : State} {e : Event} {o : Output} → ValidState s → IsArrayOf (numbers_of s) s.array →
    Leads s e o t → Continues s t
event_continues {s} {t} {e} {o} v blank h =
    let kept = call_kept s h.call h.answer in (
      ap (λ x. numbers_of x) h.next ∙ kept.0,
      ap (λ x. x.base) h.next ∙ kept.1,
      behind_event s (IsArrayOf (numbers_of s)) (jobs_inside v blank) h,
    )

pub life_continues : {s : State} (t : State) (es : List Event) (os : List Output) → ValidState s →
    IsArrayOf (numbers_of s) s.array → Life s es os t → Continues s t
life_continues {s} t [] [] v blank h = (
  ap (λ x. numbers_of x) h,
  ap (λ x. x.base) h,
  subst (IsArrayOf (numbers_of s)) (sym (ap (λ x. x.array) h)) blank,
)
life_continues t (e ∷ es) [] v blank h = absurd h
life_continues t [] (o ∷ os) v blank h = absurd h
life_continues {s} t (e ∷ es) (o ∷ os) v blank h =
    let first = event_continues v blank h.1 in
    let valid : ValidState h.0 = event_keeps_many s h.0 (e ∷ []) (o ∷ []) v (h.0, h.1, refl) in
    let rest = life_continues {s = h.0} t es os valid (subst (λ n. IsArrayOf n h.0.array) (sym first.0) first.2) h.2 in
    (rest.0 ∙ first.0, rest.1 ∙ first.1, subst (λ n. IsArrayOf n t.array) first.0 rest.2)

-- All lives

head_lived : {n : Numbers} {array : Array} {bad : Spot → Bool} (l : Lived) (later : List Lived) (es : List Event)
    (os : List Output) → Lives n array bad l later es os → IsLived n array bad l
head_lived l [] es os h = h.0
head_lived l (m ∷ ls) es os h = h.0

start_base : (n : Numbers) {array : Array} {bad : Spot → Bool} (l : Lived) {base : Plain} → Sound array →
    StandsFor n array base → IsLived n array bad l → l.start.base ≡ base
start_base n {array} l {base} sound stands h = plain_one one_cell same_contents n array l.start.base base
    sound h.0.stands stands

-- what holds at the end of a life
pub record Ended (n : Numbers) (l : Lived) : Type 0 where
  pub valid : ValidState l.finish
  pub numbers : numbers_of l.finish ≡ n
  pub base : l.finish.base ≡ l.start.base
  pub inside : IsArrayOf n l.finish.array

pub end_of_life : {n : Numbers} {array : Array} (bad : Spot → Bool) {l : Lived} → IsConfig n → IsArrayOf n array →
    Sound array → IsLived n array bad l → Ended n l
end_of_life {n} {array} bad {l} config blank sound h =
    let numbers : numbers_of l.start ≡ n = h.0.translation.numbers in
    let valid : ValidState l.start = opened_valid n array bad l.start config blank sound h.0 in
    let start : IsArrayOf (numbers_of l.start) l.start.array =
    subst (λ x. IsArrayOf x l.start.array) (sym numbers) (subst (IsArrayOf n) (sym h.0.array_now) blank) in
    let life = life_continues l.finish l.events l.outputs valid start h.1 in
    record {
      valid = event_keeps_many l.start l.finish l.events l.outputs valid h.1;
      numbers = life.0 ∙ numbers;
      base = life.1;
      inside = subst (λ x. IsArrayOf x l.finish.array) numbers life.2;
    }

-- what a stop of it leaves
pub record Left (n : Numbers) (l : Lived) (left : Array) : Type 0 where
  pub sound : Sound left
  pub inside : IsArrayOf n left

pub left_of : {n : Numbers} {l : Lived} {lefts : List Leftover} {left : Array} → Ended n l →
    Stops l.finish lefts left → Left n l left
left_of {l = l} {lefts = lefts} {left = left} ended stops =
    let inside : IsArrayOf (numbers_of l.finish) left =
    within_left ended.valid stops (subst (λ x. IsArrayOf x l.finish.array) (sym ended.numbers) ended.inside) in
    record {
      sound = sound_left l.finish ended.valid lefts left stops;
      inside = subst (λ x. IsArrayOf x left) ended.numbers inside;
    }

pub chained : (n : Numbers) (array : Array) (bad : Spot → Bool) (first : Lived) (later : List Lived) (es : List Event)
    (os : List Output) (base : Plain) → IsConfig n → IsArrayOf n array → Sound array → StandsFor n array base →
    Lives n array bad first later es os → (ks : List ℕ) × Chain base first later ks
chained n array bad l [] es os base config blank sound stands h = ([], start_base n l sound stands h.0)
chained n array bad l (m ∷ ls) es os base config blank sound stands h =
    let lefts = h.1.0 in
    let left : Array = h.1.3 in
    let start : l.start.base ≡ base = start_base n l sound stands h.0 in
    let ended : Ended n l = end_of_life bad config blank sound h.0 in
    let behind : Left n l left = left_of ended h.1.6 in
    let next : IsLived n left (bad_in l.finish) m = head_lived m ls h.1.1 h.1.2 h.1.7 in
    let opened : IsOpened (numbers_of l.finish) left (bad_in l.finish) m.start = subst (λ x. IsOpened x left
    (bad_in l.finish) m.start) (sym ended.numbers) next.0 in
    let prefix = prefix_left l.finish ended.valid lefts.items left h.1.6 opened in
    let reached : m.start.base ≡ after base (take prefix.0 l.finish.accepted) =
    prefix.4 ∙ ap (λ b. after b (take prefix.0 l.finish.accepted)) (ended.base ∙ start) in
    let rest = chained n left (bad_in l.finish) m ls h.1.1 h.1.2 (after base (take prefix.0 l.finish.accepted)) config
    behind.inside behind.sound (subst (StandsFor n left) reached next.0.stands) h.1.7 in
    (prefix.0 ∷ rest.0, (start, prefix.1, prefix.3, rest.1))
