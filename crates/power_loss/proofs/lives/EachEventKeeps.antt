-- Each event that is answered rightly keeps the state valid, and so does a life.
use Rattle.power_loss.proofs.Common.{ℕ, List, [], ◌∷◌, Option, Some, None, sym, subst, Ending, ReadRight, ReadWrong}
use Rattle.power_loss.proofs.Common.{WentWell, WentWrong, Array, Erasing, Flight, Programming, Reading}
use Rattle.power_loss.proofs.MachineWords.{IsCall, IsFailure, IsFinish, Leads, Life, ended_well, Call, MayLeave, State}
use Rattle.power_loss.proofs.MachineWords.{Event, Output, Leftover, IsTied, MayCome, ValidState}
use Rattle.power_loss.proofs.die_pages.PageRulesHold.{event_hold}
use Rattle.power_loss.proofs.calls.CallsLeaveTheDevice.{event_inside}
use Rattle.power_loss.proofs.calls.CallsKeepTied.{call_keeps}
use Rattle.ufs_spec.specs.declared.events.Event.TheVariants as event

-- Events

-- what a job's end that went well leaves is its own
pub well_leaves : (s : State) (die : ℕ) (flight : Flight) (left : Array) → MayLeave s die (ended_well flight) left
well_leaves s die (Reading reader place) left = tt
well_leaves s die (Programming place cell) left = tt
well_leaves s die (Erasing spot) left = tt

finish_comes : (s : State) (die : ℕ) (flight : Option Flight) (call : Call) → IsFinish s die flight call →
    MayCome s call
finish_comes s die None call h = absurd h
finish_comes s die (Some flight) call h = subst (MayCome s) (sym h) (well_leaves s die flight s.array)

failure_comes : (s : State) (die : ℕ) (flight : Option Flight) (l : Option Leftover) (ending : Ending) (left : Array) →
    IsFailure s die flight l ending left → MayLeave s die ending left
failure_comes s die (Some (Reading reader place)) (Some l) (WentWrong cells) left h = (h.2, h.3)
failure_comes s die (Some (Programming place cell)) (Some l) (WentWrong cells) left h = (h.2, h.3)
failure_comes s die (Some (Erasing spot)) (Some l) (WentWrong cells) left h = (h.2, h.3)
failure_comes s die (Some (Reading reader place)) None (WentWrong cells) left h = absurd h
failure_comes s die (Some (Programming place cell)) None (WentWrong cells) left h = absurd h
failure_comes s die (Some (Erasing spot)) None (WentWrong cells) left h = absurd h
failure_comes s die None l (WentWrong cells) left h = absurd h
failure_comes s die flight l ReadRight left h = tt
failure_comes s die flight l ReadWrong left h = tt
failure_comes s die flight l WentWell left h = tt

pub event_comes : (s : State) (e : Event) (call : Call) → IsCall s e call → MayCome s call
event_comes s (event.Host bytes) call h = subst (MayCome s) (sym h.2) (bytes.items, h.1)
event_comes s (event.Finish die) call h = finish_comes s die (s.translation.disk.flights die) call h
event_comes s (event.Fail die l) call h =
    subst (MayCome s) (sym h.3) (failure_comes s die (s.translation.disk.flights die) l h.0 h.1 h.2)
event_comes s (event.Stop lefts) call h = absurd h
event_comes s e call h = subst (MayCome s) (sym h) tt

tied_event : {s : State} {t : State} {e : Event} {o : Output} → IsTied s → Leads s e o t → IsTied t
tied_event {s = s} {e = e} v l = subst IsTied (sym l.next) (call_keeps s l.call l.answer v
    (event_comes s e l.call l.is_call) l.right)

pub one_event : (s t : State) (e : Event) (o : Output) → ValidState s → Leads s e o t → ValidState t
one_event s t e o v l = record { tied = tied_event v.tied l; hold = event_hold v l; erases = event_inside l v.erases }

pub many_events : (s t : State) (es : List Event) (os : List Output) → ValidState s → Life s es os t → ValidState t
many_events s t [] [] v life = subst ValidState (sym life) v
many_events s t (e ∷ es) (o ∷ os) v life = many_events life.0 t es os (one_event s life.0 e o v life.1) life.2
many_events s t es os v life = absurd life
