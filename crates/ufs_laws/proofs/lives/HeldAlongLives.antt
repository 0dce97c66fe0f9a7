-- Along a life what is held stays held, and accepted commands keep their places; what waits for commands is held
-- once its answer was handed out.
use Rattle.ufs_laws.proofs.Common.{Awaiting, Command, Event, Life, List, Message, None, OfReply, Option, Output, Reply}
use Rattle.ufs_laws.proofs.Common.{Short, Some, State, Task, [], ap, append-nil, append_assoc, arith, fills, held}
use Rattle.ufs_laws.proofs.Common.{is_short_of, lock_applied, observe, replied_by, short_replied, sym, tag_in, task_of}
use Rattle.ufs_laws.proofs.Common.{with_moves, ℕ, ◌++◌, ◌∙◌, ◌∷◌, ◌≡◌, ◌≤◌}
use Rattle.std.proofs.Common.{max}
use Rattle.std.specs.Prelude.{find}
use Rattle.ufs_spec.specs.Exchanges.{without_short}
use Rattle.ufs_spec.specs.Machine.{acknowledges, task_replied}
use Rattle.ufs_laws.proofs.walk.SmallChanges.{settled_small}
use Rattle.ufs_laws.proofs.lives.HeldByAnswers.{handed}
use Rattle.ufs_laws.proofs.lives.AcceptedAndHeldGrow.{Grows, accepted_grows, held_stays, small_held}

-- Lives

pub life_held : (s t : State) (es : List Event) (os : List Output) → Life s es os t → held s ≤ held t
life_held s t [] [] life = let e = ap held life in omega arith
life_held s t (e ∷ es) (o ∷ os) life =
    let l = life.1 in
    let first = held_stays s l.call l.answer in
    let same = ap held l.next in
    let rest = life_held life.0 t es os life.2 in
    omega arith
life_held s t es os life = absurd life

pub life_grows : (s t : State) (es : List Event) (os : List Output) → Life s es os t → Grows s t
life_grows s t [] [] life = ([], ap (λ (x : State). x.accepted) life ∙ sym (append-nil s.accepted))
life_grows s t (e ∷ es) (o ∷ os) life =
    let l = life.1 in
    let h = accepted_grows s l.call l.answer in
    let k = life_grows life.0 t es os life.2 in (
      h.0 ++ k.0,
      k.1
          ∙ ap (λ (cs : List Command). cs ++ k.0) (ap (λ (x : State). x.accepted) l.next ∙ h.1)
          ∙ append_assoc s.accepted h.0 k.0,
    )
life_grows s t es os life = absurd life

-- Answers

at_least : (n a : ℕ) → n ≤ max a n
at_least n a = grind (arith)

settled_held : (s : State) → held s ≤ held (lock_applied (fills s))
settled_held s = small_held (settled_small s)

pub task_held : (s : State) (m : Message) (task : Task) (n : ℕ) → task_of (tag_in m) s.tasks ≡ Some task →
    task.deed ≡ Awaiting n →
    n ≤ held (observe s Reply (OfReply (Some m)))
task_held s m task n there waits =
    let e = ap (λ (x : Option Task). held (lock_applied (fills (replied_by s (tag_in m) x)))) there in
    let l = settled_held (task_replied s task) in
    let k = handed s task n waits in
    let g = at_least n (held s) in
    omega arith

told : (s : State) (short : Short) (n : ℕ) → short.awaits ≡ Some n →
    held (short_replied s (Some short)) ≡ max (held s) n
told s short n waits =
    ap (λ (x : Option ℕ). held (with_moves (record s { shorts = without_short short.tag s.shorts }) (acknowledges x)))
    waits

pub short_held : (s : State) (m : Message) (short : Short) (n : ℕ) → task_of (tag_in m) s.tasks ≡ None →
    find (is_short_of (tag_in m)) s.shorts ≡ Some short → short.awaits ≡ Some n →
    n ≤ held (observe s Reply (OfReply (Some m)))
short_held s m short n none there waits =
    let e = ap (λ (x : Option Task). held (lock_applied (fills (replied_by s (tag_in m) x)))) none in
    let d = ap (λ (x : Option Short). held (lock_applied (fills (short_replied s x)))) there in
    let l = settled_held (short_replied s (Some short)) in
    let k = told s short n waits in
    let g = at_least n (held s) in
    omega arith
