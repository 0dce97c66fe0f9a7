-- Nothing but a message of the host has a command accepted.
use Rattle.heard_laws.proofs.Common.{Answer, Call, Deed, Done, Event, Flight, None, OfDone, OfReply, OfTake, OfTurn}
use Rattle.heard_laws.proofs.Common.{Option, Output, Some, State, Take, Task, Turn, ap, behind, find, if_both}
use Rattle.heard_laws.proofs.Common.{is_short_of, locked, observe, refl, short_replied, subst, sym, tag_in, task_of}
use Rattle.heard_laws.proofs.Common.{true, with_moves, ℕ, ◌∙◌, ◌≡◌}
use Rattle.ufs_spec.specs.Exchanges.{Short}
use Rattle.ufs_spec.specs.Lives.{IsCall, IsFinish, Leads}
use Rattle.ufs_spec.specs.Machine.{Host, Reply, deed_after, ends_with, fills, lock_applied, moves_after, replied_by}
use Rattle.ufs_spec.specs.Machine.{task_goes_on}
use Rattle.ufs_spec.specs.declared.events.Event.TheVariants as event
use Rattle.ufs_laws.proofs.walk.Happenings.{ends_by, job_over}
use Rattle.heard_laws.specs.Listening.{IsNoMessage}

-- the call hears no message
abbrev IsQuiet : Call → Type 0
IsQuiet (Host heard) = ⊥
IsQuiet call = Unit {0}

goes_on : (u : State) (task : Task) (deed : Option Deed) → (task_goes_on u task deed).accepted ≡ u.accepted
goes_on u task None = refl
goes_on u task (Some deed) = refl

replies : (s : State) (tag : ℕ) (x : Option Task) → (replied_by s tag x).accepted ≡ s.accepted
replies s tag (Some task) = goes_on (with_moves s (moves_after task task.deed)) task (deed_after task task.deed)
replies s tag None = by (find (is_short_of tag) s.shorts)
  where
    by : (x : Option Short) → (short_replied s x).accepted ≡ s.accepted
    by None = refl
    by (Some short) = refl

ends : (s : State) (die : ℕ) (flight : Option Flight) (ending : _) (left : _) →
    (ends_with s die flight ending left).accepted ≡ s.accepted
ends s die flight ending left =
    ends_by (λ u. u.accepted ≡ s.accepted) s die flight ending left (λ tag index state. over flight) (over flight)
  where
    over : (o : Option Flight) → (job_over s die o ending left).accepted ≡ s.accepted
    over None = refl
    over (Some x) = refl

behind_same : (s : State) (call : Call) (answer : Answer) → IsQuiet call → (behind s call answer).accepted ≡ s.accepted
behind_same s (Host heard) answer is = absurd is
behind_same s (Take die) (OfTake None) is = refl
behind_same s (Take die) (OfTake (Some flight)) is = refl
behind_same s (Done die ending left) (OfDone true) is = ends s die (s.translation.disk.flights die) ending left
behind_same s Turn (OfTurn due) is = refl
behind_same s Reply (OfReply (Some m)) is = replies s (tag_in m) (task_of (tag_in m) s.tasks)
behind_same s (Take die) answer is = refl
behind_same s (Done die ending left) answer is = refl
behind_same s Turn answer is = refl
behind_same s Reply answer is = refl

same_settled : (u : State) → (lock_applied (fills u)).accepted ≡ u.accepted
same_settled u = if_both (λ (t : State). t.accepted ≡ u.accepted) (locked (fills u)) refl refl

call_same : (s : State) (call : Call) (answer : Answer) → IsQuiet call → (observe s call answer).accepted ≡ s.accepted
call_same s call answer is = same_settled (behind s call answer) ∙ behind_same s call answer is

finish_quiet : (s : State) (die : ℕ) (o : Option Flight) (call : Call) → IsFinish s die o call → IsQuiet call
finish_quiet s die None call is = absurd is
finish_quiet s die (Some flight) call is = subst IsQuiet (sym is) tt

event_quiet : (s : State) (e : Event) (call : Call) → IsNoMessage e → IsCall s e call → IsQuiet call
event_quiet s (event.Host bytes) call none is = absurd none
event_quiet s (event.Finish die) call none is = finish_quiet s die (s.translation.disk.flights die) call is
event_quiet s (event.Fail die l) call none is = subst IsQuiet (sym is.3) tt
event_quiet s (event.Stop lefts) call none is = absurd is
event_quiet s event.Reply call none is = subst IsQuiet (sym is) tt
event_quiet s (event.Take die) call none is = subst IsQuiet (sym is) tt
event_quiet s event.Turn call none is = subst IsQuiet (sym is) tt

pub messages_alone : (s t : State) (e : Event) (o : Output) → IsNoMessage e → Leads s e o t → t.accepted ≡ s.accepted
messages_alone s t e o none l =
    ap (λ (x : State). x.accepted) l.next ∙ call_same s l.call l.answer (event_quiet s e l.call none l.is_call)
