-- A device whose mending began with room may go on after any events until it is mended, where a block more was free for
-- each program and erase that failed.
use Rattle.power_loss.proofs.Common.{AreLost, Array, Bool, EndJob, Ending, Erasing, Flight, GiveJob, Key, List, Move}
use Rattle.power_loss.proofs.Common.{None, Numbers, Option, Programming, ReadRight, ReadWrong, Reading, Some, Sound}
use Rattle.power_loss.proofs.Common.{Spot, TakeStep, WentWell, WentWrong, [], ap, arith, config_tests, ending_fits}
use Rattle.power_loss.proofs.Common.{false, if◌then◌else◌, is_free, length, ranges, refl, subst, sym, true, true≢false}
use Rattle.power_loss.proofs.Common.{ℕ, ◌*◌, ◌+◌, ◌-◌, ◌∙◌, ◌∷◌, ◌≡◌, ◌≤◌}
use Rattle.power_loss.proofs.MachineWords.{Allowed, Answer, Call, Done, Event, IsArrayOf, IsCall, IsConfig, IsFailure}
use Rattle.power_loss.proofs.MachineWords.{IsFinish, IsOpened, IsTied, Leads, Leftover, Life, MayCome, MayLeave, OfDone}
use Rattle.power_loss.proofs.MachineWords.{OfTake, OfTurn, Output, State, Take, Turn, ValidState, mended}
use Rattle.ufs_laws.proofs.walk.SmallChanges.{Accepts, Change, IsSmallMove, Moves, changed, first, job_over, kept}
use Rattle.ufs_laws.proofs.walk.SmallChanges.{observed, small_quiet}
use Rattle.ufs_spec.specs.Translation.{count_blocks, least_room}
use Rattle.ufs_spec.specs.declared.events.Event.TheVariants as event
use Rattle.power_loss.specs.MendingRoom.{HasRoom, MayGoOn, fails_job, makes_bad}
use Rattle.power_loss.proofs.calls.CallsKeepTied.{call_right}
use Rattle.power_loss.proofs.calls.RightChanges.{IsRight, Right}
use Rattle.power_loss.proofs.lives.EachEventKeeps.{event_comes, one_event}
use Rattle.power_loss.proofs.mending_steps.TurnsOfALife.{event_takes, false_before, life_takes, quiet_move, small_turns}
use Rattle.power_loss.proofs.openings.OpenedStates.{opened_state}
use Rattle.power_loss.proofs.room_to_mend.LivesWithRoom.{Mends, failures_split, fewer_mend, mends_on, move_mends}
use Rattle.power_loss.proofs.room_to_mend.LivesWithRoom.{none_more}
use Rattle.power_loss.proofs.jobs.EndsOfJobs.{cells_left}
use Rattle.std.specs.List.{count_by}
use Rattle.power_loss.proofs.room_to_mend.RoomInBlocks.{opening_alone, opening_room, least_room_mends}

-- What a call does first

-- a program or an erase failed, as the call says
abbrev pub ends_badly : Call → Bool
ends_badly (Done die (WentWrong cells) left) = true
ends_badly call = false

abbrev failures_in : Call → ℕ
failures_in call = if ends_badly call then 1 else 0

over_mends : (s : State) (die : ℕ) (flight : Option Flight) (ending : Ending) (left : Array) (k : ℕ) → IsTied s →
    Mends (k + failures_in (Done die ending left)) s.translation → mended s ≡ false → MayLeave s die ending left →
    s.translation.disk.flights die ≡ flight → ending_fits flight ending ≡ true →
    Mends k (job_over s die flight ending left).translation
over_mends s die None ending left k v m un may e fit = absurd (true≢false (sym fit))
over_mends s die (Some flight) (WentWrong cells) left k v m un may e fit =
    move_mends (EndJob die (WentWrong cells)) k m un
    (ap (λ o. ending_fits o (WentWrong cells)) e ∙ fit, cells_left die cells v may.0 may.1)
over_mends s die (Some flight) ReadRight left k v m un may e fit =
    move_mends (EndJob die ReadRight) k m un (ap (λ o. ending_fits o ReadRight) e ∙ fit, tt)
over_mends s die (Some flight) ReadWrong left k v m un may e fit =
    move_mends (EndJob die ReadWrong) k m un (ap (λ o. ending_fits o ReadWrong) e ∙ fit, tt)
over_mends s die (Some flight) WentWell left k v m un may e fit =
    move_mends (EndJob die WentWell) k m un (ap (λ o. ending_fits o WentWell) e ∙ fit, tt)

first_mends : (s : State) (call : Call) (answer : Answer) (k : ℕ) → IsTied s →
    Mends (k + failures_in call) s.translation → mended s ≡ false → MayCome s call → Allowed s call answer →
    Mends k (first s call answer).translation
first_mends s (Take die) (OfTake (Some flight)) k v m un may right = move_mends (GiveJob die flight) k m un right
first_mends s (Done die ending left) (OfDone true) k v m un may right =
    over_mends s die (s.translation.disk.flights die) ending left k v m un may refl (sym right)
first_mends s Turn (OfTurn due) k v m un may right = move_mends TakeStep k m un tt
first_mends s call answer k v m un may right = fewer_mend s.translation (failures_in call) k m

-- The changes behind it

-- the mending is as far as it was, and where it is not over the layer mends as before
abbrev StillMends : ℕ → State → State → Type 0
StillMends k s t =
    (mended t ≡ mended s) × (mended s ≡ false → Mends k s.translation → Mends k t.translation)

pub small_fails : (move : Move) → IsSmallMove move → fails_job move ≡ false
small_fails (EndJob die ending) small = absurd small
small_fails move small = refl

pub no_failure : (b : Bool) (k : ℕ) → b ≡ false → k ≡ k + (if b then 1 else 0)
no_failure true k h = absurd (true≢false h)
no_failure false k h = omega arith

change_mends : (k : ℕ) (s : State) (change : Change) → IsRight s change → StillMends k s (changed s change)
change_mends k s (Moves move) r = (
  (quiet_move s.translation move (small_quiet move r.small)).1,
  λ un m. move_mends move k
      (subst (λ j. Mends j s.translation) (no_failure (fails_job move) k (small_fails move r.small)) m) un r.layer,
)
change_mends k s (Accepts command claimed f) r =
    (refl, λ un m. absurd (true≢false (sym r.layer.2.0 ∙ un)))
change_mends k s change r = (refl, λ un m. m)

right_mends : (k : ℕ) {s t : State} → Right s t → StillMends k s t
right_mends k h = kept (StillMends k) (record {
  self = λ s. (refl, λ un m. m);
  both = λ s t u h g. (g.0 ∙ h.0, λ un m. g.1 (h.0 ∙ un) (h.1 un m));
  one = change_mends k;
}) h

-- Events

finish_well : (s : State) (die : ℕ) (flight : Option Flight) (call : Call) → IsFinish s die flight call →
    ends_badly call ≡ false
finish_well s die None call h = absurd h
finish_well s die (Some (Reading reader place)) call h = ap ends_badly h
finish_well s die (Some (Programming place cell)) call h = ap ends_badly h
finish_well s die (Some (Erasing spot)) call h = ap ends_badly h

failure_badly : (s : State) (die : ℕ) (flight : Option Flight) (l : Option Leftover) (ending : Ending) (left : Array)
    (by : _) → IsFailure s die flight l ending left →
    ends_badly (Done die ending left) ≡ makes_bad (event.Fail by l)
failure_badly s die flight (Some l) (WentWrong cells) left by h = refl
failure_badly s die (Some (Reading reader place)) None ReadWrong left by h = refl
failure_badly s die None l ending left by h = absurd h
failure_badly s die (Some (Reading reader place)) l ending left by h = absurd h
failure_badly s die (Some (Programming place cell)) l ending left by h = absurd h
failure_badly s die (Some (Erasing spot)) l ending left by h = absurd h

-- a call fails a program or an erase where its event does
pub event_badly : (s : State) (e : Event) (call : Call) → IsCall s e call → ends_badly call ≡ makes_bad e
event_badly s (event.Host bytes) call h = ap ends_badly h.2
event_badly s event.Reply call h = ap ends_badly h
event_badly s (event.Take die) call h = ap ends_badly h
event_badly s (event.Finish die) call h = finish_well s die (s.translation.disk.flights die) call h
event_badly s (event.Fail die l) call h =
    ap ends_badly h.3 ∙ failure_badly s die (s.translation.disk.flights die) l h.0 h.1 die h.2
event_badly s event.Turn call h = ap ends_badly h
event_badly s (event.Stop lefts) call h = absurd h

event_mends : {s t : State} {e : Event} {o : Output} (k : ℕ) → ValidState s → Leads s e o t → mended t ≡ false →
    Mends (k + (if makes_bad e then 1 else 0)) s.translation → Mends k t.translation
event_mends {s = s} {t = t} {e = e} k v l un m =
    let before = false_before (mended s) (event_takes v l).stays un in
    let may = event_comes s e l.call l.is_call in
    let enough = subst (λ (b : Bool). Mends (k + (if b then 1 else 0)) s.translation)
    (sym (event_badly s e l.call l.is_call)) m in
    let done = first_mends s l.call l.answer k v.tied enough before may l.right in
    let same = (small_turns (observed s l.call l.answer)).1 in
    let still = right_mends k (call_right l.call l.answer v.tied may l.right) in
    subst (λ (x : State). Mends k x.translation) (sym l.next)
    (still.1 (sym same ∙ ap (λ (x : State). mended x) (sym l.next) ∙ un) done)

-- A life

life_mends : {s : State} (t : State) (es : List Event) (os : List Output) (k : ℕ) → ValidState s → Life s es os t →
    mended t ≡ false → Mends (k + count_by makes_bad es) s.translation → Mends k t.translation
life_mends {s} t [] [] k v life un m =
    subst (λ (x : State). Mends k x.translation) (sym life) (fewer_mend s.translation (count_by makes_bad []) k m)
life_mends {s} t (e ∷ es) (o ∷ os) k v life un m =
    let next = one_event s life.0 e o v life.1 in
    let before = (life_takes t es os next life.2 un).0 in
    life_mends t es os k next life.2 un
    (event_mends (k + count_by makes_bad es) v life.1 before
    (subst (λ j. Mends j s.translation) (failures_split makes_bad e es k) m))
life_mends t [] (o ∷ os) k v life un m = absurd life
life_mends t (e ∷ es) [] k v life un m = absurd life

-- where the opening has room for the failures
with_room : (n : Numbers) (array : Array) (bad : Spot → Bool) (s t : State) (es : List Event) (os : List Output) →
    IsConfig n → IsArrayOf n array → Sound array → IsOpened n array bad s →
    HasRoom (count_by makes_bad es) s.translation → Life s es os t → mended t ≡ false → MayGoOn t.translation
with_room n array bad s t es os config blank sound opened room life un =
    let v = opened_state n array bad s config blank sound opened in
    mends_on (life_mends t es os 0 v life un
    (subst (λ k. Mends k s.translation) (none_more (count_by makes_bad es)) (record {
      valid = v.tied.valid;
      alone = opening_alone n opened.cells bad s.translation opened.translation;
      room = room;
    }))) un

module _ (n : Numbers) (array : Array) (bad : Spot → Bool) (s t : State) (es : List Event) (os : List Output)
    (lost : List Key) (config : IsConfig n) (blank : IsArrayOf n array) (sound : Sound array)
    (opened : IsOpened n array bad s)
    (are : AreLost opened.cells s.translation.ledger.first_lost s.translation.ledger.greatest_seen lost) where
  pub device_goes_on :
      length lost + 2 + count_by makes_bad es * n.pages ≤ n.pages * count_blocks s.translation is_free →
      Life s es os t → mended t ≡ false → MayGoOn t.translation
  device_goes_on room = with_room n array bad s t es os config blank sound opened
      (opening_room n opened.cells bad s.translation lost (count_by makes_bad es) opened.translation are room)

  pub device_with_least_room : length lost ≤ n.slots →
      least_room n - n.dies + count_by makes_bad es ≤ count_blocks s.translation is_free →
      Life s es os t → mended t ≡ false → MayGoOn t.translation
  device_with_least_room few free = with_room n array bad s t es os config blank sound opened
      (least_room_mends n opened.cells bad s.translation lost (count_by makes_bad es) some opened.translation are few
      free)
    where
      some : 1 ≤ n.pages
      some = let r = (ranges n (config_tests n config).0).has_pages in omega (arith, r)
