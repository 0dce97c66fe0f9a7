-- In a life that is not mended at its end, each turn that was answered true took one of the turns that were left at its
-- opening, and no other event added to them.
use Rattle.power_loss.proofs.Common.{if◌then◌else◌, ◌≡◌, ℕ, ◌+◌, ◌≤◌, Bool, true, false, List, [], ◌∷◌, Option, Some}
use Rattle.power_loss.proofs.Common.{None, length, refl, sym, ap, ◌∙◌, subst, arith, sum_by-cons, Array, Cells, Nothing}
use Rattle.power_loss.proofs.Common.{Flight, Spot, EndJob, Ending, Move, GiveJob, TakeStep, moved, AreLost, Sound}
use Rattle.power_loss.proofs.Common.{Translation, is_mended, Numbers, Key, Place, Valid}
use Rattle.power_loss.proofs.MachineWords.{IsConfig, blank_page, IsOpened, Leads, Life, Allowed, Answer, Call, Done}
use Rattle.power_loss.proofs.MachineWords.{OfDone, Take, OfTake, OfHost, OfReply, Turn, OfTurn, observe, with_moves}
use Rattle.power_loss.proofs.MachineWords.{State, mended, Event, Output, IsArrayOf, ValidState, turns_left}
use Rattle.ufs_laws.proofs.walk.SmallChanges.{IsQuiet, Small, first, job_over, layer_kept, observed}
use Rattle.ufs_laws.proofs.new_dies.FirstLife.{none_there}
use Rattle.ufs_laws.proofs.array_cells.StandsForSomething.{no_page, new_sound}
use Rattle.ufs_spec.specs.Lives.{IsShown}
use Rattle.ufs_spec.specs.declared.events.Output.TheVariants as output
use Rattle.power_loss.specs.Mending.{is_true_turn, true_turns}
use Rattle.power_loss.proofs.lives.EachEventKeeps.{one_event}
use Rattle.power_loss.proofs.moves.MovesKeepCellsFitting.{move_stays}
use Rattle.power_loss.proofs.lives.LostKeys.{turns_at_opening}
use Rattle.power_loss.proofs.openings.OpenedStates.{opened_state}
use Rattle.power_loss.proofs.mending_steps.TurnsLeft.{move_keeps_turns, turn_takes}

-- the turns that are left and the mending are the same
abbrev pub SameTurns : Translation → Translation → Type 0
SameTurns t u = (turns_left u ≡ turns_left t) × (is_mended u.work.mending ≡ is_mended t.work.mending)

pub quiet_move : (t : Translation) (move : Move) → IsQuiet move → SameTurns t (moved t move)
quiet_move t (GiveJob die flight) quiet = absurd quiet
quiet_move t (EndJob die ending) quiet = absurd quiet
quiet_move t TakeStep quiet = absurd quiet
quiet_move t move quiet = (refl, refl)

pub small_turns : {s t : State} → Small s t → SameTurns s.translation t.translation
small_turns h =
    layer_kept SameTurns (record {
      self = λ t. (refl, refl);
      both = λ t u v h k. (k.0 ∙ h.0, k.1 ∙ h.1);
      one = quiet_move;
    }) h

-- Calls

-- mended stays mended; and where it was not, what is counted is taken of the turns that are left
pub record Takes (count : Bool) (s t : State) : Type 0 where
  pub stays : mended s ≡ true → mended t ≡ true
  pub takes : mended s ≡ false → (if count then 1 else 0) + turns_left t.translation ≤ turns_left s.translation

none_taken : {s t : State} → SameTurns s.translation t.translation → Takes false s t
none_taken h = record { stays = λ m. h.1 ∙ m; takes = λ unmended. let e = h.0 in omega arith }

over_takes : (s : State) (die : ℕ) (flight : Option Flight) (ending : Ending) (left : Array) → Valid s.translation →
    Takes false s (job_over s die flight ending left)
over_takes s die None ending left v = none_taken (refl, refl)
over_takes s die (Some flight) ending left v = record {
  stays = (move_stays s.translation (EndJob die ending)).mended;
  takes = λ unmended. let l = move_keeps_turns (EndJob die ending) v in omega arith;
}

step_takes : {s : State} (due : Bool) → Valid s.translation → Allowed s Turn (OfTurn due) →
    Takes due s (with_moves s (TakeStep ∷ []))
step_takes {s} true v right = record {
  stays = (move_stays s.translation TakeStep).mended;
  takes = λ unmended. let l = turn_takes s.translation unmended (sym right) in omega arith;
}
step_takes {s} false v right = record {
  stays = (move_stays s.translation TakeStep).mended;
  takes = λ unmended. let l = move_keeps_turns TakeStep v in omega arith;
}

-- a turn that found a step due
abbrev is_true_answer : Answer → Bool
is_true_answer (OfTurn due) = due
is_true_answer answer = false

first_takes : {s : State} (call : Call) (answer : Answer) → Valid s.translation → Allowed s call answer →
    Takes (is_true_answer answer) s (first s call answer)
first_takes {s} (Take die) (OfTake (Some flight)) v right = none_taken (refl, refl)
first_takes {s} (Done die ending left) (OfDone true) v right =
    over_takes s die (s.translation.disk.flights die) ending left v
first_takes {s} Turn (OfTurn due) v right = step_takes due v right
first_takes call (OfTurn due) v right = absurd right
first_takes {s} call answer v right = none_taken (refl, refl)

call_takes : {s : State} (call : Call) (answer : Answer) → Valid s.translation → Allowed s call answer →
    Takes (is_true_answer answer) s (observe s call answer)
call_takes {s} call answer v right =
    let h = first_takes call answer v right in
    let k = small_turns (observed s call answer) in
    record { stays = λ m. k.1 ∙ h.stays m; takes = λ unmended. let l = h.takes unmended in let e = k.0 in omega arith }

-- Events

shown_turn : (answer : Answer) (o : Output) → IsShown answer o → is_true_answer answer ≡ is_true_turn o
shown_turn (OfTurn due) (output.Turn shown) h = sym h
shown_turn (OfTurn due) o h = absurd h
shown_turn (OfHost result) (output.Turn shown) h = absurd h
shown_turn (OfTake flight) (output.Turn shown) h = absurd h
shown_turn (OfDone known) (output.Turn shown) h = absurd h
shown_turn (OfReply None) (output.Turn shown) h = absurd h
shown_turn (OfReply (Some m)) (output.Turn shown) h = absurd h
shown_turn answer o h = refl

pub event_takes : {s t : State} {e : Event} {o : Output} → ValidState s → Leads s e o t → Takes (is_true_turn o) s t
event_takes {s = s} {t = t} {o = o} v l = subst (λ (b : Bool). Takes b s t) (shown_turn l.answer o l.is_shown)
    (subst (Takes (is_true_answer l.answer) s) (sym l.next) (call_takes l.call l.answer v.tied.valid l.right))

-- A life

pub false_before : (a : Bool) {b : Bool} → (a ≡ true → b ≡ true) → b ≡ false → a ≡ false
false_before false h e = refl
false_before true h e = let yes = h refl in cc

-- where it is not mended at its end, it was not at its beginning
pub life_takes : {s : State} (t : State) (es : List Event) (os : List Output) → ValidState s → Life s es os t →
    mended t ≡ false → (mended s ≡ false) × (true_turns os + turns_left t.translation ≤ turns_left s.translation)
life_takes t [] [] v life unmended =
    let e = ap (λ (x : State). turns_left x.translation) life in
    (ap (λ (x : State). mended x) (sym life) ∙ unmended, omega arith)
life_takes {s} t (e ∷ es) (o ∷ os) v life unmended =
    let next : State = life.0 in
    let one = event_takes v life.1 in
    let rest = life_takes t es os (one_event s next e o v life.1) life.2 unmended in
    let before : mended s ≡ false = false_before (mended s) one.stays rest.0 in
    let l = one.takes before in
    let r = rest.1 in
    let count : true_turns (o ∷ os) ≡ (if is_true_turn o then 1 else 0) + true_turns os =
    sum_by-cons (λ (x : Output). if is_true_turn x then 1 else 0) o os in
    (before, omega arith)
life_takes t [] (o ∷ os) v life unmended = absurd life
life_takes t (e ∷ es) [] v life unmended = absurd life

pub true_turns_of_life : (n : Numbers) (array : Array) (bad : Spot → Bool) (s t : State) (es : List Event)
    (os : List Output) (lost : List Key) →
    IsConfig n → IsArrayOf n array → Sound array → (opened : IsOpened n array bad s) →
    AreLost opened.cells s.translation.ledger.first_lost s.translation.ledger.greatest_seen lost → Life s es os t →
    mended t ≡ false → true_turns os ≤ length lost + 2
true_turns_of_life n array bad s t es os lost config blank sound opened are life unmended =
    let l = (life_takes t es os (opened_state n array bad s config blank sound opened) life unmended).1 in
    let r = turns_at_opening n opened.cells bad s.translation lost opened.translation are in
    omega arith

-- New dies

pub none_lost : {c : Cells} {low top : ℕ} → ((p : Place) → c p ≡ Nothing) → AreLost c low top []
none_lost none = record {
  ordered = λ i j a b e f l. absurd (let no : None ≡ Some a = e in cc);
  lost = λ i k e. absurd (let no : None ≡ Some k = e in cc);
  all = λ k h. absurd (no_page h.1 h.2 (sym (none h.0) ∙ h.3));
}

pub true_turns_of_new_dies : (n : Numbers) (array : Array) (bad : Spot → Bool) (s t : State) (es : List Event)
    (os : List Output) → IsConfig n → ((p : Place) → array p ≡ blank_page) → IsOpened n array bad s → Life s es os t →
    mended t ≡ false → true_turns os ≤ 2
true_turns_of_new_dies n array bad s t es os config blank opened life unmended =
    let l = true_turns_of_life n array bad s t es os [] config (λ p outside. blank p) (new_sound array blank) opened
    (none_lost (none_there n array bad s blank opened)) life unmended in
    omega arith
