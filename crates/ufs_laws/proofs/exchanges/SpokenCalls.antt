-- What each call keeps of what a host says in bytes, a life keeps.
use Rattle.ufs_laws.proofs.Common.{Allowed, Answer, Call, Event, Flight, IsCall, IsFinish, IsSpoken, Life, List, None}
use Rattle.ufs_laws.proofs.Common.{Option, Output, Some, State, [], observe, subst, sym, ◌∷◌}
use Rattle.ufs_spec.specs.declared.events.Event.TheVariants as event

finish_spoken : (s : State) (die : _) (o : Option Flight) (call : Call) → IsFinish s die o call → IsSpoken call
finish_spoken s die None call h = absurd h
finish_spoken s die (Some flight) call h = subst IsSpoken (sym h) tt

pub spoken : (s : State) (e : Event) (call : Call) → IsCall s e call → IsSpoken call
spoken s (event.Host bytes) call h = subst IsSpoken (sym h.2) (bytes.items, h.1)
spoken s (event.Finish die) call h = finish_spoken s die (s.translation.disk.flights die) call h
spoken s (event.Fail die l) call h = subst IsSpoken (sym h.3) tt
spoken s (event.Stop lefts) call h = absurd h
spoken s other call h = subst IsSpoken (sym h) tt

pub life_keeps : (P : State → Type 0) →
    ((s : State) (call : Call) (answer : Answer) → IsSpoken call → Allowed s call answer → P s → P
    (observe s call answer)) →
    (s : State) (es : List Event) (os : List Output) (t : State) → P s → Life s es os t → P t
life_keeps P keeps s [] [] t h life = subst P (sym life) h
life_keeps P keeps s (e ∷ es) (o ∷ os) t h life =
    let l = life.1 in
    let next : P (observe s l.call l.answer) = keeps s l.call l.answer (spoken s e l.call l.is_call) l.right h in
    life_keeps P keeps life.0 es os t (subst P (sym l.next) next) life.2
life_keeps P keeps s es os t h life = absurd life
