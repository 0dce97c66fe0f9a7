-- In a life whose failures are borne, what each move keeps each event keeps.
use Rattle.many_stops.proofs.Common.{AreAllowedMoves, EndJob, Ending, Flight, GiveJob, IsAllowedMove, List, Move, None}
use Rattle.many_stops.proofs.Common.{Option, ReadRight, ReadWrong, Some, TakeStep, Translation, Valid, WentWell}
use Rattle.many_stops.proofs.Common.{WentWrong, [], all_keep, ap, ending_fits, false, moved, moved_by, refl, subst, sym}
use Rattle.many_stops.proofs.Common.{true, true≢false, ℕ, ◌∙◌, ◌∷◌, ◌≡◌}
use Rattle.ufs_laws.proofs.walk.SmallChanges.{Accepts, Change, IsSmallMove, Moves, changed, first, job_over, kept}
use Rattle.ufs_spec.specs.Cells.{Array}
use Rattle.ufs_spec.specs.Lives.{IsCall, Leads, Life}
use Rattle.ufs_spec.specs.Machine.{Allowed, Answer, Call, Done, MayLeave, OfDone, OfTake, OfTurn, Take, Turn}
use Rattle.ufs_spec.specs.Moves.{Accept}
use Rattle.ufs_spec.specs.Refusals.{State}
use Rattle.ufs_spec.specs.declared.events.Event.{Event}
use Rattle.ufs_spec.specs.declared.events.Event.TheVariants as event
use Rattle.ufs_spec.specs.declared.events.Output.{Output}
use Rattle.power_loss.proofs.calls.CallsKeepTied.{call_right}
use Rattle.power_loss.proofs.calls.RightChanges.{IsRight, Right}
use Rattle.power_loss.proofs.lives.EachEventKeeps.{event_comes, one_event}
use Rattle.power_loss.proofs.jobs.EndsOfJobs.{cells_left}
use Rattle.power_loss.specs.Exchange.{IsTied, MayCome, ValidState}
use Rattle.power_loss.proofs.room_to_mend.DevicesWithRoom.{ends_badly, event_badly}
use Rattle.many_stops.specs.BorneFailures.{AreBorne, AreBorneMoves, EventIsBorne, IsBorne, MoveIsBorne}

-- Which calls are borne

abbrev CallIsBorne : State → Call → Type 0
CallIsBorne s (Done die (WentWrong cells) left) = IsBorne s.translation die
CallIsBorne s call = Unit {0}

well_borne : (s : State) (call : Call) → ends_badly call ≡ false → CallIsBorne s call
well_borne s (Done die (WentWrong cells) left) well = absurd (true≢false well)
well_borne s call well = tt

failed_borne : (s : State) (die : ℕ) (ending : Ending) (left : Array) → IsBorne s.translation die →
    CallIsBorne s (Done die ending left)
failed_borne s die (WentWrong cells) left b = b
failed_borne s die ending left b = tt

event_borne : (s : State) (e : Event) (call : Call) → IsCall s e call → EventIsBorne s e → CallIsBorne s call
event_borne s (event.Fail die (Some leftover)) call h b =
    subst (CallIsBorne s) (sym h.3) (failed_borne s die h.0 h.1 b)
event_borne s (event.Fail die None) call h b =
    well_borne s call (event_badly s (event.Fail die None) call h)
event_borne s (event.Host bytes) call h b = well_borne s call (event_badly s (event.Host bytes) call h)
event_borne s event.Reply call h b = well_borne s call (event_badly s event.Reply call h)
event_borne s (event.Take die) call h b = well_borne s call (event_badly s (event.Take die) call h)
event_borne s (event.Finish die) call h b = well_borne s call (event_badly s (event.Finish die) call h)
event_borne s event.Turn call h b = well_borne s call (event_badly s event.Turn call h)
event_borne s (event.Stop lefts) call h b = absurd h

-- What each move keeps whose failure is borne

abbrev pub IsKeptByMoves : (Translation → Type 0) → Type 0
IsKeptByMoves P = (t : Translation) (move : Move) → Valid t → IsAllowedMove t move → MoveIsBorne t move → P t →
    P (moved t move)

module _ (P : Translation → Type 0) (keeps : IsKeptByMoves P) where
  abbrev Holds : Translation → Type 0
  Holds t = Valid t × P t

  move_holds : (t : Translation) (move : Move) → IsAllowedMove t move → MoveIsBorne t move → Holds t →
      Holds (moved t move)
  move_holds t move may b h = (all_keep t move h.0 may, keeps t move h.0 may b h.1)

  over_holds : (s : State) (die : ℕ) (flight : Option Flight) (ending : Ending) (array : Array) →
      IsTied s → Holds s.translation → s.translation.disk.flights die ≡ flight →
      ending_fits flight ending ≡ true → MayLeave s die ending array → CallIsBorne s (Done die ending array) →
      Holds (job_over s die flight ending array).translation
  over_holds s die None ending array v h e fit may b = absurd (true≢false (sym fit))
  over_holds s die (Some flight) (WentWrong cells) array v h e fit may b =
      move_holds s.translation (EndJob die (WentWrong cells))
      (ap (λ o. ending_fits o (WentWrong cells)) e ∙ fit, cells_left die cells v may.0 may.1) b h
  over_holds s die (Some flight) ReadRight array v h e fit may b =
      move_holds s.translation (EndJob die ReadRight) (ap (λ o. ending_fits o ReadRight) e ∙ fit, tt) tt h
  over_holds s die (Some flight) ReadWrong array v h e fit may b =
      move_holds s.translation (EndJob die ReadWrong) (ap (λ o. ending_fits o ReadWrong) e ∙ fit, tt) tt h
  over_holds s die (Some flight) WentWell array v h e fit may b =
      move_holds s.translation (EndJob die WentWell) (ap (λ o. ending_fits o WentWell) e ∙ fit, tt) tt h

  first_holds : (s : State) (call : Call) (answer : Answer) → IsTied s → Holds s.translation →
      MayCome s call → Allowed s call answer → CallIsBorne s call → Holds (first s call answer).translation
  first_holds s (Take die) (OfTake (Some flight)) v h may right b =
      move_holds s.translation (GiveJob die flight) right tt h
  first_holds s (Done die ending array) (OfDone true) v h may right b =
      over_holds s die (s.translation.disk.flights die) ending array v h refl (sym right) may b
  first_holds s Turn (OfTurn due) v h may right b = move_holds s.translation TakeStep tt tt h
  first_holds s call answer v h may right b = h

  small_borne : (t : Translation) (move : Move) → IsSmallMove move → MoveIsBorne t move
  small_borne t (EndJob die ending) small = absurd small
  small_borne t move small = tt

  change_holds : (s : State) (change : Change) → IsRight s change → Holds s.translation →
      Holds (changed s change).translation
  change_holds s (Moves move) r h =
      move_holds s.translation move r.layer (small_borne s.translation move r.small) h
  change_holds s (Accepts command claimed f) r h = move_holds s.translation (Accept claimed _) r.layer.2 tt h
  change_holds s change r h = h

  right_holds : {s t : State} → Right s t → Holds s.translation → Holds t.translation
  right_holds h = kept (λ (s t : State). Holds s.translation → Holds t.translation) (record {
    self = λ s x. x;
    both = λ s t u h g x. g (h x);
    one = change_holds;
  }) h

  event_holds : {s t : State} {e : Event} {o : Output} → ValidState s → Leads s e o t → EventIsBorne s e →
      P s.translation → P t.translation
  event_holds {s = s} {e = e} v l b p =
      let may = event_comes s e l.call l.is_call in
      let begun = first_holds s l.call l.answer v.tied (v.tied.valid, p) may l.right
      (event_borne s e l.call l.is_call b) in
      let done = right_holds (call_right l.call l.answer v.tied may l.right) begun in
      subst (λ (x : State). P x.translation) (sym l.next) done.1

  pub life_holds : {s : State} (t : State) (es : List Event) (os : List Output) → ValidState s →
      Life s es os t → AreBorne s es os → P s.translation → P t.translation
  life_holds t [] [] v life b p = subst (λ (x : State). P x.translation) (sym life) p
  life_holds {s} t (e ∷ es) (o ∷ os) v life b p =
      life_holds t es os (one_event s life.0 e o v life.1) life.2 (b.1 life.0 life.1) (event_holds v life.1 b.0 p)
  life_holds t [] (o ∷ os) v life b p = absurd life
  life_holds t (e ∷ es) [] v life b p = absurd life

  pub moves_hold : (t : Translation) (moves : List Move) → Valid t → AreAllowedMoves t moves →
      AreBorneMoves t moves → P t → P (moved_by t moves)
  moves_hold t [] v may b p = p
  moves_hold t (move ∷ moves) v may b p =
      moves_hold (moved t move) moves (all_keep t move v may.0) may.1 b.1 (keeps t move v may.0 b.0 p)
